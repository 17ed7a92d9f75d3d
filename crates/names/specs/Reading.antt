-- Which element of its layout a name reads at a place of the source.
use Rattle.std.specs.Prelude.{ℕ, ◌+◌, cond, List, [], ◌∷◌, ◌++◌, map, length, take, ℤ, pos, Some, None, Option, ◌==◌, nat_lt, slice_index, slice_index_or, slice_set, Float}
use Rattle.std.specs.Float.{float_zero}
use Rattle.layout.specs.declared.kind.LayoutKind.{LayoutKind}
use Rattle.layout.specs.declared.kind.LayoutKind.TheVariants.{Dense, Diagonal, Sparse}
use Rattle.layout.specs.Places.{axis}
use Rattle.layout.specs.Layouts.{Layout, rank, strict, wide}
use Rattle.expression.specs.Letterings.{position, among}
use Rattle.names.specs.declared.permutation.Permutation.{Permutation}

-- ---- a dense name: block has the block's letters, name the name's, and x is the source place as an index

-- A letter takes the entry at its position among the block's letters, a foreign one the entry just after those; a missing entry is 0, and so is that of an axis of length 1.
abbrev pub dense_entry : List ℕ → List ℤ → List ℕ → List ℕ → ℕ → ℤ
dense_entry block x shape name i = cond (axis shape i == 1) (pos 0) (slice_index_or x (position (slice_index name i) block) (pos 0))

abbrev pub dense_index : List ℕ → List ℤ → List ℕ → List ℕ → List ℤ
dense_index block x shape name = dense_entry block x shape name 0 ∷ dense_entry block x shape name 1 ∷ dense_entry block x shape name 2 ∷ dense_entry block x shape name 3 ∷ []

-- without letters, element 0
abbrev pub dense_element : Layout → List ℕ → List ℤ → List ℕ → Option ℕ
dense_element l block x name = cond (length name == 0) (Some 0) (strict l (dense_index block x l.shape name))

-- ---- another name

-- a block letter's position in the name, or the name's rank r if it is absent
abbrev pub slot : ℕ → List ℕ → ℕ → ℕ
slot r name c = cond (among c name) (position c name) r

-- the positions, from i on, of the letters that the block has not
abbrev pub foreign : ℕ → List ℕ → List ℕ → List ℕ
foreign i block [] = []
foreign i block (c ∷ cs) = cond (among c block) (foreign (i + 1) block cs) (i ∷ foreign (i + 1) block cs)

abbrev pub permutation : ℕ → List ℕ → List ℕ → List ℕ
permutation r block name = map (slot r name) block ++ foreign 0 block name

-- the slots that are meant
abbrev pub slots_of : Permutation → List ℕ
slots_of p = take p.count p.slots

-- up to eight slots, with 0 for each that is not meant
abbrev pub packed : List ℕ → Permutation
packed xs = record { count = length xs; slots = slice_index xs 0 ∷ slice_index xs 1 ∷ slice_index xs 2 ∷ slice_index xs 3 ∷ slice_index xs 4 ∷ slice_index xs 5 ∷ slice_index xs 6 ∷ slice_index xs 7 ∷ [] }

-- from entry i on, each entry of x goes to its slot in y, if that is below the rank r
abbrev pub scattered : ℕ → List ℤ → ℕ → List ℕ → List ℤ → List ℤ
scattered r x i [] y = y
scattered r x i (p ∷ ps) y = scattered r x (i + 1) ps (cond (nat_lt p r) (slice_set y p (slice_index_or x i (pos 0))) y)

abbrev pub permuted : ℕ → List ℕ → List ℤ → List ℤ
permuted r slots x = scattered r x 0 slots (pos 0 ∷ pos 0 ∷ pos 0 ∷ pos 0 ∷ [])

-- the number that the permuted place has in the name's layout, by wide lookup
abbrev pub table_element : Layout → List ℕ → List ℤ → Option ℕ
table_element l slots x = wide l (permuted (rank l) slots x)

abbrev pub element_by : LayoutKind → Layout → List ℕ → List ℤ → List ℕ → Option ℕ
element_by Dense l block x name = dense_element l block x name
element_by Diagonal l block x name = table_element l (permutation (rank l) block name) x
element_by Sparse l block x name = table_element l (permutation (rank l) block name) x

-- the element of its layout that a name reads, or none
abbrev pub element : Layout → List ℕ → List ℤ → List ℕ → Option ℕ
element l block x name = element_by l.kind l block x name

-- an element's value, 0.0 where there is none
abbrev pub picked : List Float → Option ℕ → Float
picked vs None = float_zero
picked vs (Some n) = slice_index_or vs n float_zero
