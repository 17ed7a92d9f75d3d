-- What postfix order means: the value of a node over the values of the expressions before it.
use Rattle.std.specs.Prelude.{◌≡◌, ℕ, ◌+◌, ◌-◌, ◌*◌, ◌/◌, ◌<◌, ◌≤◌, true, List, [], ◌∷◌, ◌++◌, length, Some, Ok, Option, slice_index_or, Float}
use Rattle.std.specs.Float.Ieee.{le}
use Rattle.std.specs.Float.{float_zero, nan}
use Rattle.std.specs.List.{AllByRecursion}
use Rattle.expression.specs.declared.node.Letters.{Letters}
use Rattle.expression.specs.declared.node.Node.{Node}
use Rattle.expression.specs.declared.node.Node.TheVariants.{Number, Name, Binary, Unary, Call}
use Rattle.expression.specs.Nodes.{takes, sound_from}
use Rattle.expression.specs.Values.{node_value, evaluated, piecewise}

-- expressions one after another
abbrev pub all_nodes : List (List Node) → List Node
all_nodes [] = []
all_nodes (e ∷ es) = e ++ all_nodes es

-- each of es leaves one value by itself, and vs are these
abbrev pub Valued : (Node → List Float → Option Float) → List (List Node) → List Float → Type 0
Valued f [] [] = Unit {0}
Valued f [] (v ∷ vs) = ⊥
Valued f (e ∷ es) [] = ⊥
Valued f (e ∷ es) (v ∷ vs) = ((sound_from 0 e ≡ true) × (evaluated f e ≡ Ok v)) × Valued f es vs

-- A node that takes as many values as there are expressions before it has its value at their values.
abbrev pub Composes : Type 0
Composes =
    (f : Node → List Float → Option Float) (es : List (List Node)) (vs : List Float) (n : Node) (x : Float)
    → Valued f es vs → takes n ≡ length vs → f n vs ≡ Some x
    → evaluated f (all_nodes es ++ n ∷ []) ≡ Ok x

-- two readings agree on a node, if it is a name
abbrev pub Agrees : (ℕ → Letters → Float) → (ℕ → Letters → Float) → Node → Type 0
Agrees read read' (Number x) = Unit {0}
Agrees read read' (Name v l) = read v l ≡ read' v l
Agrees read read' (Binary o) = Unit {0}
Agrees read read' (Unary o) = Unit {0}
Agrees read read' (Call c n) = Unit {0}

-- Only what is read decides: under readings that agree on its names, an expression has the same outcome.
abbrev pub ReadsDecide : Type 0
ReadsDecide =
    (host : ℕ → List Float → Option Float) (read read' : ℕ → Letters → Float) (ns : List Node)
    → AllByRecursion (Agrees read read') ns
    → evaluated (node_value host read) ns ≡ evaluated (node_value host read') ns

-- condition i of a piecewise holds
abbrev pub Accepts : List Float → ℕ → Type 0
Accepts xs i = le float_zero (slice_index_or xs (2 * i) nan) ≡ true

-- Of (count - 1) / 2 conditions the first that is >= 0.0 gives the argument after it; where none is, the last argument counts.
abbrev pub FirstConditionGives : Type 0
FirstConditionGives =
    (xs : List Float) → 1 ≤ length xs
    → ((i : ℕ) → i < (length xs - 1) / 2 → Accepts xs i → ((j : ℕ) → j < i → Accepts xs j → ⊥) → piecewise xs ≡ slice_index_or xs (2 * i + 1) nan)
    × (((j : ℕ) → j < (length xs - 1) / 2 → Accepts xs j → ⊥) → piecewise xs ≡ slice_index_or xs (length xs - 1) nan)
