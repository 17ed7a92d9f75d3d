-- What a layout record means over a pool of entries, and the rules on it.
use Rattle.std.specs.Prelude.{◌≡◌, ℕ, zero, suc, ◌+◌, ◌-◌, ◌*◌, ◌<◌, ◌≤◌, Bool, true, cond, ◌&&◌, ◌||◌, List, [], ◌∷◌, map, length, take, Some, Option, ◌==◌, nat_le, nat_lt, slice_index, slice_index_or}
use Rattle.std.specs.List.{range_with_len}
use Rattle.layout.specs.declared.fault.LayoutFault.{LayoutFault}
use Rattle.layout.specs.declared.fault.LayoutFault.TheVariants.{Faulty}
use Rattle.layout.specs.declared.fault.Rule.{Rule}
use Rattle.layout.specs.declared.fault.Rule.TheVariants as rule
use Rattle.layout.specs.declared.kind.LayoutKind.{LayoutKind}
use Rattle.layout.specs.declared.kind.LayoutKind.TheVariants.{Dense, Diagonal, Sparse}
use Rattle.layout.specs.Places.{Place, place, Before, axis}
use Rattle.layout.specs.Layouts.{Layout}
use Rattle.layout.specs.Rules.{Test, first_broken, none, axes_in_range, count_in_range, some_axes}
use Rattle.grid.specs.declared.shapes.GridShape.{GridShape}
use Rattle.grid.specs.Grids.{grid_layout, broken}
use Rattle.table.specs.declared.record.LayoutRecord.{LayoutRecord}

abbrev pub record_shape : LayoutRecord → List ℕ
record_shape r = take r.rank r.lengths

-- entry i of place k of a sparse layout, 0 from the rank on
abbrev pub record_entry : List ℕ → LayoutRecord → ℕ → ℕ → ℕ
record_entry pool r k i = cond (nat_lt i r.rank) (slice_index pool (r.start + k * r.rank + i)) 0

abbrev pub record_place : List ℕ → LayoutRecord → ℕ → Place
record_place pool r k = place (record_entry pool r k 0) (record_entry pool r k 1) (record_entry pool r k 2) (record_entry pool r k 3)

abbrev pub sparse_layout : List ℕ → LayoutRecord → Layout
sparse_layout pool r = record { kind = Sparse; shape = record_shape r; places = map (record_place pool r) (range_with_len 0 r.count) }

-- a record of a dense or diagonal layout goes by its shape alone
abbrev pub grid_of : LayoutRecord → GridShape
grid_of r = record { kind = r.kind; rank = r.rank; lengths = r.lengths }

abbrev pub layout_by : LayoutKind → List ℕ → LayoutRecord → Layout
layout_by Dense pool r = grid_layout (grid_of r)
layout_by Diagonal pool r = grid_layout (grid_of r)
layout_by Sparse pool r = sparse_layout pool r

abbrev pub record_layout : List ℕ → LayoutRecord → Layout
record_layout pool r = layout_by r.kind pool r

-- The rules on a sparse layout's record, as tests

-- its entries are in the pool
abbrev pub Held : List ℕ → LayoutRecord → Type 0
Held pool r = r.start + r.count * r.rank ≤ length pool

abbrev pub held : List ℕ → LayoutRecord → Bool
held pool r = nat_le (r.start + r.count * r.rank) (length pool)

-- a test at each number below n
abbrev pub each_below : ℕ → (ℕ → Bool) → Bool
each_below zero test = true
each_below (suc n) test = each_below n test && test n

-- each place is inside the shape
abbrev pub inside_test : List ℕ → Place → Bool
inside_test s p = ((nat_lt p.a (axis s 0) && nat_lt p.b (axis s 1)) && nat_lt p.c (axis s 2)) && nat_lt p.d (axis s 3)

abbrev pub all_inside : List ℕ → LayoutRecord → Bool
all_inside pool r = each_below r.count (λ k. inside_test (record_shape r) (record_place pool r k))

-- each place comes before the next
abbrev pub before_test : Place → Place → Bool
before_test p q = nat_lt p.a q.a || (p.a == q.a && (nat_lt p.b q.b || (p.b == q.b && (nat_lt p.c q.c || (p.c == q.c && nat_lt p.d q.d)))))

abbrev pub all_before : List ℕ → LayoutRecord → Bool
all_before pool r = each_below (r.count - 1) (λ k. before_test (record_place pool r k) (record_place pool r (k + 1)))

-- the rules on the record of a sparse layout
abbrev pub sparse_tests : List ℕ → LayoutRecord → List Test
sparse_tests pool r =
    record { kept = some_axes r.rank (record_shape r); rule = rule.Rank }
    ∷ record { kept = axes_in_range (record_shape r); rule = rule.Length }
    ∷ record { kept = count_in_range r.count; rule = rule.Count }
    ∷ record { kept = held pool r; rule = rule.Pool }
    ∷ record { kept = all_inside pool r; rule = rule.Inside }
    ∷ record { kept = all_before pool r; rule = rule.Order }
    ∷ []

abbrev pub sparse_broken : List ℕ → LayoutRecord → Option Rule
sparse_broken pool r = first_broken (sparse_tests pool r)

-- the first rule that a record breaks
abbrev pub broken_as : LayoutKind → List ℕ → LayoutRecord → Option Rule
broken_as Dense pool r = broken (grid_of r)
broken_as Diagonal pool r = broken (grid_of r)
broken_as Sparse pool r = sparse_broken pool r

abbrev pub record_broken : List ℕ → LayoutRecord → Option Rule
record_broken pool r = broken_as r.kind pool r

-- no rule is broken
abbrev pub kept : List ℕ → LayoutRecord → Bool
kept pool r = none (record_broken pool r)

abbrev pub sparse_kept : List ℕ → LayoutRecord → Bool
sparse_kept pool r = none (sparse_broken pool r)

-- the places ascend, as they do where no rule is broken
abbrev pub Ascending : List ℕ → LayoutRecord → Type 0
Ascending pool r = (j k : ℕ) → j < k → k < r.count → Before (record_place pool r j) (record_place pool r k)

abbrev pub no_record : LayoutRecord
no_record = record { kind = Dense; rank = 0; lengths = []; start = 0; count = 0 }

-- every record keeps the rules
abbrev pub AllKept : List ℕ → List LayoutRecord → Type 0
AllKept pool rs = (n : ℕ) → n < length rs → kept pool (slice_index_or rs n no_record) ≡ true

-- the refusal of the first record that does not, with the first rule that it breaks
abbrev pub FirstFaulty : List ℕ → List LayoutRecord → LayoutFault → Type 0
FirstFaulty pool rs f =
    (n : ℕ) × (r : Rule) × (f ≡ Faulty n r) × (n < length rs) × (record_broken pool (slice_index_or rs n no_record) ≡ Some r)
    × ((j : ℕ) → j < n → kept pool (slice_index_or rs j no_record) ≡ true)

abbrev pub table_layouts : List ℕ → List LayoutRecord → List Layout
table_layouts pool rs = map (record_layout pool) rs

-- four entries of the code's as a place
abbrev pub place_of : List ℕ → Place
place_of e = place (slice_index e 0) (slice_index e 1) (slice_index e 2) (slice_index e 3)
