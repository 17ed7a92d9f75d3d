use Rattle.std.proofs.Common.{arith}
use Rattle.std.proofs.lemmas.Bool.Decides.{nat_tests}
use Rattle.expression.specs.declared.function.Function.TheVariants.{Sin, Cos, Tan, Sinh, Cosh, Tanh, Exp, Log, Log10, Sqrt, Abs, Sigmoid, Arcsinh, Arccosh, Heaviside, Pow, Piecewise}
use Rattle.expression.proofs.formed.call_sound.Goals as goal

pub returns-in-Err : goal.returns-in-Err
returns-in-Err c = let h = c.in-Err.ensures.1 in grind (arith, nat_tests, h Sin, h Cos, h Tan, h Sinh, h Cosh, h Tanh, h Exp, h Log, h Log10, h Sqrt, h Abs, h Sigmoid, h Arcsinh, h Arccosh, h Heaviside, h Pow, h Piecewise)
