use Rattle.std.proofs.Common.{◌≡◌, ◌≤◌, length}
use Rattle.expression.specs.Values as values
use Rattle.expression.proofs.functions.piecewise.Given as goal

abbrev pub invariant-loop-rest : goal.invariant-loop-rest
invariant-loop-rest l = (1 ≤ length l.rest) × (values.piecewise l.rest ≡ values.piecewise l.arguments)

abbrev pub decreases-loop-rest : goal.decreases-loop-rest
decreases-loop-rest l = length l.rest
