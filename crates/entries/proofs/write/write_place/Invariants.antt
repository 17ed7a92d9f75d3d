use Rattle.std.proofs.Common.{◌≡◌}
use lib.Seq.{paste}
use Rattle.entries.proofs.write.write_place.Given as goal

abbrev pub invariant-loop-i : goal.invariant-loop-i
invariant-loop-i g l = l.indices ≡ paste l.initial.indices l.at l.entry-items l.i
