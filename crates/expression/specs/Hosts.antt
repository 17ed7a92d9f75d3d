-- What the two hosts answer.
use Rattle.std.specs.Prelude.{ℕ, Bool, true, false, cond, ◌&&◌, List, [], ◌∷◌, Some, None, Option, ◌==◌, Float}
use Rattle.std.specs.Float.Ieee.{eq}
use Rattle.std.specs.Float.{sqrt, binary64}
use Rattle.expression.specs.declared.table_host.Arguments.{Arguments}
use Rattle.expression.specs.declared.table_host.Arguments.TheVariants.{One, Two}
use Rattle.expression.specs.declared.table_host.HostEntry.{HostEntry}

-- code 10 at one argument, its square root; nothing else
abbrev pub root_answer : ℕ → List Float → Option Float
root_answer code [] = None
root_answer code (x ∷ []) = cond (code == 10) (Some (sqrt binary64 x)) None
root_answer code (x ∷ y ∷ ys) = None

abbrev pub arguments_of : Arguments → List Float
arguments_of (One x) = x ∷ []
arguments_of (Two x y) = x ∷ y ∷ []

-- as many arguments, each equal by ==
abbrev pub same_arguments : List Float → List Float → Bool
same_arguments [] [] = true
same_arguments [] (y ∷ ys) = false
same_arguments (x ∷ xs) [] = false
same_arguments (x ∷ xs) (y ∷ ys) = eq x y && same_arguments xs ys

abbrev pub matches : HostEntry → ℕ → List Float → Bool
matches e code xs = e.code == code && same_arguments (arguments_of e.arguments) xs

-- the value of the first entry with that code and those arguments
abbrev pub table_answer : List HostEntry → ℕ → List Float → Option Float
table_answer [] code xs = None
table_answer (e ∷ es) code xs = cond (matches e code xs) (Some e.value) (table_answer es code xs)
