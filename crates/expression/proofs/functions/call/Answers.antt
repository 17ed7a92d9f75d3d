use Rattle.std.proofs.Common.{rules, arith}
use Rattle.std.proofs.lemmas.Bool.Decides.{nat_tests}
use Rattle.expression.specs.declared.function.Function.TheVariants.{Abs, Sigmoid, Heaviside, Piecewise}
use Rattle.expression.proofs.functions.call.Goals as goal
use Rattle.expression.proofs.functions.call.Goals.{in_default-via-in-Ok+in_default, in_default-via-in_default}

pub returns-in_default : goal.returns-in_default
returns-in_default g c = elim c.in_default.branch [ in_default-via-in-Ok+in_default w ↦ search rules | in_default-via-in_default w ↦ (let h = rw w.in_default.is at c.try_from.ensures in grind (arith, nat_tests, h.1 Abs, h.1 Sigmoid, h.1 Heaviside, h.1 Piecewise)) ]
