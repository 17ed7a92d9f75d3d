use Rattle.std.proofs.Common.{◌≡◌, Ok, take}
use Rattle.names.specs.Outcomes.{value_of, gathered}
use Rattle.names.proofs.places.write_values.Given as goal

abbrev pub invariant-loop-k : goal.invariant-loop-k
invariant-loop-k g l = gathered (value_of (g.H.Host.answers l.host) l.expression) l.k ≡ Ok (take l.k l.out)
