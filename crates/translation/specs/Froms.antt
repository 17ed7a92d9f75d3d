-- What the shapes of a block's source and via make of it.
use Rattle.std.specs.Prelude.{ℕ, ◌-◌, ◌*◌, ◌/◌, ◌≤◌, cond, Some, None, Option, ◌==◌, nat_lt}
use Rattle.layout.specs.declared.kind.LayoutKind.{LayoutKind}
use Rattle.layout.specs.declared.kind.LayoutKind.TheVariants.{Dense, Diagonal, Sparse}
use Rattle.layout.specs.declared.shape.Shape.{Shape}
use Rattle.layout.specs.Places.{axis}
use Rattle.grouping.specs.Keys.{tail_size}
use Rattle.translation.specs.declared.kinds.TranslationFrom.{TranslationFrom}
use Rattle.translation.specs.declared.kinds.TranslationFrom.TheVariants.{DenseContraction, DiagonalContraction, SparseContraction, ElementWise, Broadcast}

-- The source's rank is above the via's rank v, by the source's kind. The length of a dense contraction is the product of the source's axes past the first v
abbrev pub contracted : LayoutKind → Shape → ℕ → TranslationFrom
contracted Dense s v = DenseContraction (s.rank - v) (tail_size v s.lengths)
contracted Diagonal s v = cond (v == 0) (DenseContraction (s.rank - v) (axis s.lengths 0)) (DiagonalContraction (s.rank - v))
contracted Sparse s v = SparseContraction (s.rank - v)

-- how many of the via's axes a source of rank s takes up, by the kinds of source and via
abbrev pub taken_up : LayoutKind → LayoutKind → ℕ → ℕ
taken_up Dense Dense s = s
taken_up Dense Diagonal s = 2 * s
taken_up Dense Sparse s = 2 * s
taken_up Diagonal v s = s
taken_up Sparse v s = s

-- b axes of the via are left to a source of rank s, by the via's kind
abbrev pub spread : LayoutKind → ℕ → ℕ → Shape → Option TranslationFrom
spread Dense b s v = Some (Broadcast b (tail_size s v.lengths))
spread Diagonal b s v = Some (Broadcast b (axis v.lengths 0))
spread Sparse b s v = None

-- the source's rank is at most the via's: t axes of the via are taken up
abbrev pub widening : ℕ → ℕ → Shape → Option TranslationFrom
widening t s v = cond (nat_lt v.rank t) None (cond (v.rank == t) (Some ElementWise) (spread v.kind (v.rank - t) s v))

-- none where the ranks and kinds have no translation
abbrev pub from_of : Shape → Shape → Option TranslationFrom
from_of s v = cond (nat_lt v.rank s.rank) (Some (contracted s.kind s v.rank)) (widening (taken_up s.kind v.kind s.rank) s.rank v)

-- how many elements are made of n, which are in so many ranges
abbrev pub elements_of : TranslationFrom → ℕ → ℕ → ℕ
elements_of (DenseContraction by long) n ranges = n / long
elements_of (DiagonalContraction by) n ranges = n
elements_of (SparseContraction by) n ranges = ranges
elements_of ElementWise n ranges = n
elements_of (Broadcast by long) n ranges = n * long

-- a dense contraction has a length
abbrev pub Long : TranslationFrom → Type 0
Long (DenseContraction by long) = 1 ≤ long
Long (DiagonalContraction by) = Unit {0}
Long (SparseContraction by) = Unit {0}
Long ElementWise = Unit {0}
Long (Broadcast by long) = Unit {0}
