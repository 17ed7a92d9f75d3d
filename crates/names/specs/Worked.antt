-- Worked cases, as equations between definitions and values.
use Rattle.std.specs.Prelude.{◌≡◌, ℕ, true, false, List, [], ◌∷◌, pos, Ok, codes, Option, Float}
use Rattle.std.specs.Float.{fin}
use Rattle.layout.specs.declared.kind.LayoutKind.TheVariants.{Dense, Sparse}
use Rattle.layout.specs.Places.{place}
use Rattle.layout.specs.Layouts.{Layout}
use Rattle.layout.specs.Radix.{every}
use Rattle.expression.specs.declared.node.Letters.{Letters}
use Rattle.expression.specs.declared.node.Node.TheVariants.{Number, Call}
use Rattle.expression.specs.Values.{node_value, evaluated}
use Rattle.names.specs.Reading.{permutation}
use Rattle.names.specs.Tables.{absent, binary_table}

-- A: sparse 3 by 3 with (0,0), (0,2), (2,1)
abbrev case_a : Layout
case_a = record { kind = Sparse; shape = 3 ∷ 3 ∷ []; places = place 0 0 0 0 ∷ place 0 2 0 0 ∷ place 2 1 0 0 ∷ [] }

abbrev dense_three : Layout
dense_three = record { kind = Dense; shape = 3 ∷ 3 ∷ []; places = every (3 ∷ 3 ∷ []) }

-- A with letters ji, block ij, source dense (3,3)
abbrev TableOfA : Type 0
TableOfA =
    binary_table case_a dense_three (permutation 2 (codes "ij") (codes "ji"))
    ≡ pos 0 ∷ absent ∷ absent ∷ absent ∷ absent ∷ pos 2 ∷ pos 1 ∷ absent ∷ absent ∷ []

-- piecewise(-1, 5, 0, 6, 7) is 6 under any host and any variables; 6 is 3 times 2 to the 1
abbrev PiecewiseIsSix : Type 0
PiecewiseIsSix =
    (host : ℕ → List Float → Option Float) (read : ℕ → Letters → Float)
    → evaluated (node_value host read)
    (Number (fin true 1 (pos 0)) ∷ Number (fin false 5 (pos 0)) ∷ Number (fin false 0 (pos 0)) ∷ Number (fin false 3 (pos 1)) ∷ Number (fin false 7 (pos 0)) ∷ Call 17 5 ∷ [])
    ≡ Ok (fin false 3 (pos 1))

abbrev pub Worked : Type 0
Worked = TableOfA × PiecewiseIsSix
