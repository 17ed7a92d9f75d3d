-- The first m entries of a place as one number, and the source places over a via place.
use Rattle.std.specs.Prelude.{◌≡◌, ℕ, zero, suc, ◌+◌, ◌*◌, ◌/◌, ◌<◌, ◌≤◌, Bool, true, ◌&&◌, List, [], ◌∷◌, filter, ◌==◌}
use Rattle.std.specs.List.{range_with_len}
use Rattle.layout.specs.Places.{Place, axis, Agree, same}
use Rattle.grouping.specs.Groups.{Range}
use Rattle.layout.specs.Layouts.{Layout, Valid, rank, count, at}
use Rattle.layout.specs.declared.kind.LayoutKind.TheVariants.{Dense}

-- only proofs go by it: entries are below 4096, so it orders places by their first m entries
abbrev pub key : ℕ → Place → ℕ
key zero p = 0
key (suc zero) p = p.a
key (suc (suc zero)) p = p.a * 4096 + p.b
key (suc (suc (suc zero))) p = (p.a * 4096 + p.b) * 4096 + p.c
key (suc (suc (suc (suc m)))) p = ((p.a * 4096 + p.b) * 4096 + p.c) * 4096 + p.d

-- how many indices of a shape share their first m entries: the product of the axes from m on
abbrev pub tail_size : ℕ → List ℕ → ℕ
tail_size zero s = axis s 1 * axis s 2 * axis s 3 * axis s 0
tail_size (suc zero) s = axis s 3 * axis s 2 * axis s 1
tail_size (suc (suc zero)) s = axis s 3 * axis s 2
tail_size (suc (suc (suc zero))) s = axis s 3
tail_size (suc (suc (suc (suc m)))) s = 1

-- every source place lies over a via place, and every via place under a source place
pub record Covered (m : ℕ) (l r : Layout) : Type 0 where
  pub over : (i : ℕ) → i < count l → (j : ℕ) × (j < count r) × Agree m (at l i) (at r j)
  pub under : (j : ℕ) → j < count r → (i : ℕ) × (i < count l) × Agree m (at l i) (at r j)

-- the test of `Agree`
abbrev pub agrees : ℕ → Place → Place → Bool
agrees zero p q = true
agrees (suc zero) p q = p.a == q.a
agrees (suc (suc zero)) p q = p.a == q.a && p.b == q.b
agrees (suc (suc (suc zero))) p q = p.a == q.a && (p.b == q.b && p.c == q.c)
agrees (suc (suc (suc (suc m)))) p q = same p q

-- the numbers of the places of l that agree with p on the first m entries, ascending
abbrev pub over_place : ℕ → Layout → Place → List ℕ
over_place m l p = filter (λ i. agrees m (at l i) p) (range_with_len 0 (count l))

-- The reader's rules. The longer row is in runs of w: dense, with w the size of what is left past the first m axes; or any where w is 1 or where m is 0; or any over one place
pub data InRuns (m : ℕ) (l r : Layout) (w : ℕ) : Type 0 where
  by_dense : l.kind ≡ Dense → w ≡ tail_size m l.shape → InRuns m l r w
  by_one : w ≡ 1 → InRuns m l r w
  by_none : m ≡ 0 → InRuns m l r w
  by_single : count r ≡ 1 → InRuns m l r w

-- dense contraction (w the length), diagonal contraction (w = 1): via place j has the run of w source elements from j × w on
abbrev pub Contraction : Type 0
Contraction = (m w : ℕ) (source via : Layout) → Valid source → Valid via → rank via ≤ m → Covered m source via → 1 ≤ w → count source ≡ count via * w → InRuns m source via w → (j : ℕ) → j < count via → over_place m source (at via j) ≡ range_with_len (j * w) w

-- element-wise (w = 1), broadcast (w the length): via place i has the one source element i div w
abbrev pub Spreading : Type 0
Spreading = (m w : ℕ) (source via : Layout) → Valid source → Valid via → rank source ≤ m → Covered m via source → 1 ≤ w → count via ≡ count source * w → InRuns m via source w → (i : ℕ) → i < count via → over_place m source (at via i) ≡ i / w ∷ []

-- sparse contraction: via place j has range j of the source, cut wherever the first m entries change
abbrev pub Ranging : Type 0
Ranging = (m : ℕ) (source via : Layout) → Valid source → Valid via → rank via ≤ m → Covered m source via → (j s d : ℕ) → j < count via → Range (λ i. key m (at source i)) (count source) j s (s + d) → over_place m source (at via j) ≡ range_with_len s d
