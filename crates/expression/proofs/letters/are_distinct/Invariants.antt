use Rattle.std.proofs.Common.{◌≡◌, length}
use Rattle.expression.specs.Letterings.{distinct}
use Rattle.expression.proofs.letters.are_distinct.Given as goal

abbrev pub invariant-loop-letter : goal.invariant-loop-letter
invariant-loop-letter l = distinct l.rest ≡ distinct l.letters

abbrev pub decreases-loop-letter : goal.decreases-loop-letter
decreases-loop-letter l = length l.rest
