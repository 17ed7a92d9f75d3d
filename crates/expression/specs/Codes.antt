-- Functions by name and operators by character.
use Rattle.std.specs.Prelude.{◌≡◌, ◌≢◌, ℕ, ◌+◌, cond, List, [], ◌∷◌, Ok, Err, MatchResult, codes, Result, ◌==◌}
use Rattle.std.specs.Str.{bytes_eq}
use Rattle.expression.specs.declared.fault.ExpressionFault.{ExpressionFault}
use Rattle.expression.specs.declared.fault.ExpressionFault.TheVariants.{Malformed}
use Rattle.expression.specs.declared.function.Function.{Function}
use Rattle.expression.specs.declared.function.Function.TheVariants.{Sin, Cos, Tan, Sinh, Cosh, Tanh, Exp, Log, Log10, Sqrt, Abs, Sigmoid, Arcsinh, Arccosh, Heaviside, Pow, Piecewise}
use Rattle.expression.specs.declared.node.BinaryOperator.{BinaryOperator}
use Rattle.expression.specs.declared.node.BinaryOperator.TheVariants.{Add, Subtract, Multiply, Divide}
use Rattle.expression.specs.declared.node.UnaryOperator.{UnaryOperator}
use Rattle.expression.specs.declared.node.UnaryOperator.TheVariants.{Plus, Minus}

-- the functions in the order of their codes, from 1
abbrev pub functions : List (List ℕ)
functions =
    codes "sin" ∷ codes "cos" ∷ codes "tan" ∷ codes "sinh" ∷ codes "cosh" ∷ codes "tanh" ∷ codes "exp" ∷ codes "log" ∷ codes "log10"
    ∷ codes "sqrt" ∷ codes "abs" ∷ codes "sigmoid" ∷ codes "arcsinh" ∷ codes "arccosh" ∷ codes "heaviside" ∷ codes "pow" ∷ codes "piecewise" ∷ []

-- the number of a name in a list that is numbered from n on; another name is malformed
abbrev pub numbered : ℕ → List (List ℕ) → List ℕ → Result ℕ ExpressionFault
numbered n [] s = Err Malformed
numbered n (x ∷ xs) s = cond (bytes_eq s x) (Ok n) (numbered (n + 1) xs s)

abbrev pub code_of : List ℕ → Result ℕ ExpressionFault
code_of s = numbered 1 functions s

-- the code of each function
abbrev pub function_code : Function → ℕ
function_code Sin = 1
function_code Cos = 2
function_code Tan = 3
function_code Sinh = 4
function_code Cosh = 5
function_code Tanh = 6
function_code Exp = 7
function_code Log = 8
function_code Log10 = 9
function_code Sqrt = 10
function_code Abs = 11
function_code Sigmoid = 12
function_code Arcsinh = 13
function_code Arccosh = 14
function_code Heaviside = 15
function_code Pow = 16
function_code Piecewise = 17

-- the function with code n, or malformed where no function has it
abbrev pub Decodes : ℕ → Result Function ExpressionFault → Type 0
Decodes n r = MatchResult r (λ f. function_code f ≡ n) (λ e. (e ≡ Malformed) × ((f : Function) → function_code f ≢ n))

-- the function with the code of a name, or why the name has none
abbrev pub Names : List ℕ → Result Function ExpressionFault → Type 0
Names s r = MatchResult r (λ f. code_of s ≡ Ok (function_code f)) (λ e. code_of s ≡ Err e)

-- the characters + - * / by their codes
abbrev pub binary_of : ℕ → Result BinaryOperator ExpressionFault
binary_of c = cond (c == 43) (Ok Add) (cond (c == 45) (Ok Subtract) (cond (c == 42) (Ok Multiply) (cond (c == 47) (Ok Divide) (Err Malformed))))

-- the characters + -
abbrev pub unary_of : ℕ → Result UnaryOperator ExpressionFault
unary_of c = cond (c == 43) (Ok Plus) (cond (c == 45) (Ok Minus) (Err Malformed))
