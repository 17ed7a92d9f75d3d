-- What an accepted translation is good for.
use Rattle.std.specs.Prelude.{◌≡◌, ℕ, ◌+◌, ◌-◌, ◌*◌, ◌/◌, ◌<◌, ◌≤◌, min, List, [], ◌∷◌, length, get_or, ℤ, Some, Ok, slice_index_or}
use Rattle.std.specs.List.{range_with_len, ContainsAt as Has}
use Rattle.layout.specs.Places.{Agree}
use Rattle.layout.specs.Layouts.{Layout, AllValid, blank, count, rank, at}
use Rattle.grouping.specs.Keys.{over_place, Covered}
use Rattle.translation.specs.declared.kinds.TranslationFrom.{TranslationFrom}
use Rattle.translation.specs.declared.kinds.TranslationFrom.TheVariants.{DenseContraction, DiagonalContraction, SparseContraction, ElementWise, Broadcast}
use Rattle.translation.specs.declared.kinds.TranslationTo.TheVariants.{Contiguous}
use Rattle.translation.specs.declared.kinds.Translation.{Translation}
use Rattle.translation.specs.Tos.{destination}
use Rattle.translation.specs.Cuts.{ranges}
use Rattle.translation.specs.Entries.{data_layout, data_count}
use Rattle.translation.specs.Outcome.{translated}

-- source place i lies over via place j: they agree on the first entries, as many as the lower rank
abbrev pub Over : Layout → ℕ → Layout → ℕ → Type 0
Over s i v j = Agree (min (rank s) (rank v)) (at s i) (at v j)

-- the numbers from the start of a range to its end
abbrev pub between : ℕ × ℕ → List ℕ
between r = range_with_len r.0 (r.1 - r.0)

-- The reader's rule: the source elements that it joins for via place k, in this order
abbrev pub taken : TranslationFrom → Layout → Layout → ℕ → List ℕ
taken (DenseContraction by long) s v k = range_with_len (k * long) long
taken (DiagonalContraction by) s v k = k ∷ []
taken (SparseContraction by) s v k = between (slice_index_or (ranges (rank v) s) k (0, 0))
taken ElementWise s v k = k ∷ []
taken (Broadcast by long) s v k = k / long ∷ []

-- how a source's elements are divided among the places of a via: in runs of a length, in ranges, one for each, or each for a run of places
abbrev pub Divided : TranslationFrom → Layout → Layout → Type 0
Divided (DenseContraction by long) s v = (1 ≤ long) × (count s ≡ count v * long)
Divided (DiagonalContraction by) s v = count s ≡ count v
Divided (SparseContraction by) s v =
    (length (ranges (rank v) s) ≡ count v)
    × ((k : ℕ) → k < count v → ((get_or (ranges (rank v) s) k (0, 0)).0 < (get_or (ranges (rank v) s) k (0, 0)).1) × ((get_or (ranges (rank v) s) k (0, 0)).1 ≤ count s))
Divided ElementWise s v = count s ≡ count v
Divided (Broadcast by long) s v = (1 ≤ long) × (count v ≡ count s * long)

-- A translation t of a source s by way of a via v that begins at x in a target g
pub record Lawful (s v : Layout) (x : List ℤ) (g : Layout) (t : Translation) : Type 0 where
  -- as many elements are made as the via has places
  pub as_many : t.elements ≡ count v
  -- the source's elements are divided among the via's places
  pub divided : Divided t.from s v
  -- every source place lies over a via place, and every via place under a source place
  pub covers : Covered (min (rank s) (rank v)) s v
  -- the reader takes for each via place exactly the source places that lie over it
  pub reads : (k : ℕ) → k < count v → taken t.from s v k ≡ over_place (min (rank s) (rank v)) s (at v k)
  -- each via place has a destination among the target's places
  pub lands : (k : ℕ) → k < count v → (n : ℕ) × (destination v x g k ≡ Some n) × (n < count g)
  -- a later via place has a later destination
  pub rises : (j k : ℕ) → j < k → k < count v → (a b : ℕ) → destination v x g j ≡ Some a → destination v x g k ≡ Some b → a < b
  -- contiguous destinations are those from the start up to the end
  pub together : (first end : ℕ) → t.to ≡ Contiguous first end → (end ≡ first + count v) × ((k : ℕ) → k < count v → destination v x g k ≡ Some (first + k))
  -- its entries in the index table are as many as it says
  pub long : length (data_layout t s v x g) ≡ data_count t

abbrev pub LawfulIn : List Layout → ℕ → ℕ → List ℤ → ℕ → Translation → Type 0
LawfulIn ls source via start target t = Lawful (slice_index_or ls source blank) (slice_index_or ls via blank) start (slice_index_or ls target blank) t

-- the list of the places over a via place has those that lie over it and no other
abbrev pub OverListed : Type 0
OverListed =
    (s v : Layout) (k i : ℕ)
    → (Has (over_place (min (rank s) (rank v)) s (at v k)) i → (i < count s) × Over s i v k)
    × (i < count s → Over s i v k → Has (over_place (min (rank s) (rank v)) s (at v k)) i)

abbrev pub Laws : Type 0
Laws = (ls : List Layout) (source via target : ℕ) (start : List ℤ) (t : Translation) → AllValid ls → translated ls source via start target ≡ Ok t → LawfulIn ls source via start target t
