use Rattle.overlap.proofs.Merging.{Met}
use Rattle.overlap.proofs.merge.merged.Given as goal

abbrev pub invariant-loop-k : goal.invariant-loop-k
invariant-loop-k g l = Met (g.A.Row.places l.a) (g.B.Row.places l.b) l.k l.j
