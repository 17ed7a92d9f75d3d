use Rattle.std.proofs.Common.{ap, rules}
use Rattle.translation.specs.Tos.{unless_nowhere}
use Rattle.translation.proofs.Going.{going_more, going_none}
use Rattle.translation.proofs.kinds.TranslationTo.new.Goals as goal

pub returns-in_err-next : goal.returns-in_err-next
returns-in_err-next g c = let n = ap unless_nowhere (going_none _ _ _ _ _ _ c.loop-k.invariant c.loop-k-test.true c.in_err-next.ensures.is.1) in search (rules, n)

pub loop-k-preserved : goal.loop-k-preserved
loop-k-preserved g c = going_more _ _ _ _ _ _ c.loop-k.invariant c.in_ok-next.next c.loop-k-test.true c.in_ok-next.ensures.is c.in_ok-next.ensures.within
