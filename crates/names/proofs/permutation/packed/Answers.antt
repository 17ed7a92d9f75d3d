use Rattle.names.proofs.Slotting.{packed_is}
use Rattle.names.proofs.permutation.packed.Goals as goal

pub returns-clause-is : goal.returns-clause-is
returns-clause-is c = rw c.copy_from_slice.ensures.after (packed_is c.args.slots.now c.requires)
