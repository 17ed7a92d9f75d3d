use Rattle.translation.proofs.Covering.{Reached}
use Rattle.translation.proofs.agree.covers.Given as goal

abbrev pub invariant-loop-i : goal.invariant-loop-i
invariant-loop-i g l = Reached l.m l.long l.short l.i l.j
