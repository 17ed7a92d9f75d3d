-- The worked cases, as equations between definitions and values.
use Rattle.std.specs.Prelude.{◌≡◌, ℕ, List, [], ◌∷◌, ℤ, pos, Some, None, Ok, Err, Result}
use Rattle.std.specs.Int.Bits.{bit_or}
use Rattle.layout.specs.declared.kind.LayoutKind.TheVariants.{Dense, Diagonal, Sparse}
use Rattle.layout.specs.Places.{Place, place}
use Rattle.layout.specs.Layouts.{Layout, strict, wide}
use Rattle.layout.specs.Radix.{every, diagonal}
use Rattle.translation.specs.declared.kinds.TranslationFrom.{TranslationFrom}
use Rattle.translation.specs.declared.kinds.TranslationFrom.TheVariants.{DenseContraction, SparseContraction, ElementWise}
use Rattle.translation.specs.declared.kinds.TranslationTo.{TranslationTo}
use Rattle.translation.specs.declared.kinds.TranslationTo.TheVariants.{Contiguous, Listed}
use Rattle.translation.specs.declared.kinds.Translation.{Translation}
use Rattle.translation.specs.declared.kinds.TranslationFault.{TranslationFault}
use Rattle.translation.specs.declared.kinds.TranslationFault.TheVariants.{NoTranslation}
use Rattle.translation.specs.Entries.{entries_of}
use Rattle.translation.specs.Outcome.{translated}
use Rattle.reader.specs.Rules.{join_of, followed}
use Rattle.reader.specs.Recorded.{record_of}

abbrev dense : List ℕ → Layout
dense s = record { kind = Dense; shape = s; places = every s }

-- r axes of length n
abbrev diagonal_of : ℕ → ℕ → List ℕ → Layout
diagonal_of r n s = record { kind = Diagonal; shape = s; places = diagonal r n }

abbrev sparse : List ℕ → List Place → Layout
sparse s ps = record { kind = Sparse; shape = s; places = ps }

-- an index of rank 2
abbrev index : ℕ → ℕ → List ℤ
index i j = pos i ∷ pos j ∷ pos 0 ∷ pos 0 ∷ []

-- in dense (2,3), (1,2) is 5 and (2,0) is none; wide in dense (1,3), (4,1) is 1
abbrev Lookups : Type 0
Lookups =
    (strict (dense (2 ∷ 3 ∷ [])) (index 1 2) ≡ Some 5)
    × (strict (dense (2 ∷ 3 ∷ [])) (index 2 0) ≡ None)
    × (wide (dense (1 ∷ 3 ∷ [])) (index 4 1) ≡ Some 1)

-- sparse 3 by 3 with (0,0), (0,2), (2,1), and the sparse layout of its rows, (0), (2)
abbrev A : Layout
A = sparse (3 ∷ 3 ∷ []) (place 0 0 0 0 ∷ place 0 2 0 0 ∷ place 2 1 0 0 ∷ [])

abbrev rows : Layout
rows = sparse (3 ∷ []) (place 0 0 0 0 ∷ place 2 0 0 0 ∷ [])

-- sparse (2,2,3) with (0,1,0), (0,1,2), (1,1,1), and sparse (2,2) with (0,1), (1,1)
abbrev deep : Layout
deep = sparse (2 ∷ 2 ∷ 3 ∷ []) (place 0 1 0 0 ∷ place 0 1 2 0 ∷ place 1 1 1 0 ∷ [])

abbrev beginnings : Layout
beginnings = sparse (2 ∷ 2 ∷ []) (place 0 1 0 0 ∷ place 1 1 0 0 ∷ [])

abbrev accepted : TranslationFrom → TranslationTo → ℕ → Result Translation TranslationFault
accepted f t n = Ok record { from = f; to = t; elements = n }

-- the first layout is the source, the second the via and the third the target
abbrev from_to : Layout → Layout → List ℤ → Layout → Result Translation TranslationFault
from_to s v x t = translated (s ∷ v ∷ t ∷ []) 0 1 x 2

abbrev entries : Layout → Layout → List ℤ → Layout → TranslationFrom → TranslationTo → ℕ → List ℤ
entries s v x t from to n = entries_of (s ∷ v ∷ t ∷ []) (record { from = from; to = to; elements = n }) 0 1 x 2

abbrev Translations : Type 0
Translations =
    -- A to its rows: the entries are 0, 2, 2, 3
    (from_to A rows (index 0 0) rows ≡ accepted (SparseContraction 1) (Contiguous 0 2) 2)
    × (entries A rows (index 0 0) rows (SparseContraction 1) (Contiguous 0 2) 2 ≡ pos 0 ∷ pos 2 ∷ pos 2 ∷ pos 3 ∷ [])
    -- the deep layout to its places' beginnings: 0, 2, 2, 3
    × (from_to deep beginnings (index 0 0) beginnings ≡ accepted (SparseContraction 1) (Contiguous 0 2) 2)
    × (entries deep beginnings (index 0 0) beginnings (SparseContraction 1) (Contiguous 0 2) 2 ≡ pos 0 ∷ pos 2 ∷ pos 2 ∷ pos 3 ∷ [])
    -- a diagonal 3 by 3 to a scalar: length 3
    × (from_to (diagonal_of 2 3 (3 ∷ 3 ∷ [])) (dense []) (index 0 0) (dense []) ≡ accepted (DenseContraction 2 3) (Contiguous 0 1) 1)
    -- dense (3) to sparse rank 1: refusal 4
    × (from_to (dense (3 ∷ [])) rows (index 0 0) rows ≡ Err NoTranslation)
    -- dense (2,2) at (1,1) in dense (3,3): 4, 5, 7, 8
    × (from_to (dense (2 ∷ 2 ∷ [])) (dense (2 ∷ 2 ∷ [])) (index 1 1) (dense (3 ∷ 3 ∷ [])) ≡ accepted ElementWise Listed 4)
    × (entries (dense (2 ∷ 2 ∷ [])) (dense (2 ∷ 2 ∷ [])) (index 1 1) (dense (3 ∷ 3 ∷ [])) ElementWise Listed 4 ≡ pos 4 ∷ pos 5 ∷ pos 7 ∷ pos 8 ∷ [])

-- A to its rows by its record: the marks 1, 2, 4 give 3, 4
abbrev Readings : Type 0
Readings =
    followed (join_of bit_or) (record_of (record { from = SparseContraction 1; to = Contiguous 0 2; elements = 2 }) A rows rows 0) (pos 0 ∷ pos 2 ∷ pos 2 ∷ pos 3 ∷ []) (1 ∷ 2 ∷ 4 ∷ []) (0 ∷ 0 ∷ []) ≡ 3 ∷ 4 ∷ []

abbrev pub Worked : Type 0
Worked = Lookups × Translations × Readings
