use Rattle.translation.specs.Tos.{destination}
use Rattle.translation.proofs.Going.{Going}
use Rattle.translation.proofs.kinds.TranslationTo.new.Given as goal

abbrev pub invariant-loop-k : goal.invariant-loop-k
invariant-loop-k g l = Going (destination l.block.via l.block.start l.block.target) l.count l.k l.first l.last l.together
