-- Which call may come when.
use Rattle.std.specs.Prelude.{ℕ, cond, Some, None, Ok, Err, Option, Result, ◌==◌}
use Rattle.planning.specs.declared.phase.Incoming.{Incoming}
use Rattle.planning.specs.declared.phase.Incoming.TheVariants.{Opening, Block, Closing}
use Rattle.planning.specs.declared.fault.StageFault.{StageFault}
use Rattle.planning.specs.declared.fault.StageFault.TheVariants as fault

-- a ticket is the open tensor's
abbrev pub matching : ℕ → ℕ → Result (Unit {0}) StageFault
matching ticket v = cond (ticket == v) (Ok tt) (Err fault.Phase)

-- an opening between tensors, a block or a closing inside the tensor of its ticket, by the variable of the open tensor
abbrev pub phased : Option ℕ → Incoming → Result (Unit {0}) StageFault
phased None Opening = Ok tt
phased None (Block ticket) = Err fault.Phase
phased None (Closing ticket) = Err fault.Phase
phased (Some v) Opening = Err fault.Phase
phased (Some v) (Block ticket) = matching ticket v
phased (Some v) (Closing ticket) = matching ticket v
