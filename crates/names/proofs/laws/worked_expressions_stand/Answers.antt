use Rattle.std.proofs.Common.{refl}
use lib.Ieee.{le, lt, eq}
use Rattle.names.proofs.laws.worked_expressions_stand.Goals as goal

pub returns : goal.returns
unfolding le lt eq
returns c = (refl, λ host read. refl)
