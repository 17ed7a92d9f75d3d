-- The value of a node at the values that it takes, and of an expression.
use Rattle.std.specs.Prelude.{ℕ, ◌+◌, ◌-◌, false, cond, List, [], ◌∷◌, ◌++◌, length, take, drop, Some, None, Ok, Err, Option, Result, ◌==◌, slice_index_or, Float}
use Rattle.std.specs.Float.Ieee.{add, sub, mul, div, neg, le}
use Rattle.std.specs.Float.{float_zero, float_one, float_with_sign, nan, binary64}
use Rattle.std.specs.Option.{option_map}
use Rattle.expression.specs.declared.node.BinaryOperator.{BinaryOperator}
use Rattle.expression.specs.declared.node.BinaryOperator.TheVariants.{Add, Subtract, Multiply, Divide}
use Rattle.expression.specs.declared.node.UnaryOperator.{UnaryOperator}
use Rattle.expression.specs.declared.node.UnaryOperator.TheVariants.{Plus, Minus}
use Rattle.expression.specs.declared.node.Letters.{Letters}
use Rattle.expression.specs.declared.node.Node.{Node}
use Rattle.expression.specs.declared.node.Node.TheVariants.{Number, Name, Binary, Unary, Call}
use Rattle.expression.specs.Nodes.{takes}

abbrev pub binary : BinaryOperator → Float → Float → Float
binary Add x y = add binary64 x y
binary Subtract x y = sub binary64 x y
binary Multiply x y = mul binary64 x y
binary Divide x y = div binary64 x y

abbrev pub unary : UnaryOperator → Float → Float
unary Plus x = x
unary Minus x = neg x

-- 1.0 for x >= 0.0, else 0.0
abbrev pub heaviside : Float → Float
heaviside x = cond (le float_zero x) float_one float_zero

-- 1 / (1 + e), for e the exponential of -x
abbrev pub logistic : Float → Float
logistic e = div binary64 float_one (add binary64 float_one e)

-- a condition and the argument after it, as long as another argument follows; the last argument otherwise
abbrev pub piecewise : List Float → Float
piecewise [] = nan
piecewise (x ∷ []) = x
piecewise (x ∷ y ∷ []) = y
piecewise (c ∷ v ∷ x ∷ xs) = cond (le float_zero c) v (piecewise (x ∷ xs))

-- A function at its arguments. Code 11 is abs, 12 sigmoid, by the host's 7, exp, 15 heaviside, 17 piecewise; the host has the others.
abbrev pub called : (ℕ → List Float → Option Float) → ℕ → List Float → Option Float
called host code [] = None
called host code (x ∷ xs) =
    cond (code == 11) (Some (float_with_sign false x))
    (cond (code == 12) (option_map logistic (host 7 (neg x ∷ [])))
    (cond (code == 15) (Some (heaviside x))
    (cond (code == 17) (Some (piecewise (x ∷ xs))) (host code (x ∷ xs)))))

-- The value of a node at the values xs that it takes. `read` says what a variable with letters is.
abbrev pub node_value : (ℕ → List Float → Option Float) → (ℕ → Letters → Float) → Node → List Float → Option Float
node_value host read (Number x) xs = Some x
node_value host read (Name v l) xs = Some (read v l)
node_value host read (Binary o) xs = Some (binary o (slice_index_or xs 0 nan) (slice_index_or xs 1 nan))
node_value host read (Unary o) xs = Some (unary o (slice_index_or xs 0 nan))
node_value host read (Call c n) xs = called host c xs

-- a value found at node i goes on into k
abbrev pub found_at : ℕ → Option Float → (Float → Result Float ℕ) → Result Float ℕ
found_at i None k = Err i
found_at i (Some x) k = k x

-- Postfix order. s has the values so far, the latest last. Node i takes its values from the end of s and puts its own there; the first value left is the expression's. An error is the number of a node that has no value.
abbrev pub run : (Node → List Float → Option Float) → ℕ → List Node → List Float → Result Float ℕ
run f i [] s = Ok (slice_index_or s 0 nan)
run f i (n ∷ ns) s = found_at i (f n (drop (length s - takes n) s)) (λ x. run f (i + 1) ns (take (length s - takes n) s ++ x ∷ []))

abbrev pub evaluated : (Node → List Float → Option Float) → List Node → Result Float ℕ
evaluated f ns = run f 0 ns []
