-- The places of blocks, as rows that rise.
use Rattle.std.specs.Prelude.{◌≡◌, ℕ, ◌+◌, ◌<◌, ◌≤◌, min, List, ℤ, Some, None, Option, MatchOption}
use Rattle.std.specs.Option.{unwrap_or}
use Rattle.layout.specs.Layouts.{Layout}
use Rattle.translation.specs.declared.kinds.TranslationTo.{TranslationTo}
use Rattle.translation.specs.declared.kinds.TranslationTo.TheVariants.{Contiguous, Listed}
use Rattle.translation.specs.Tos.{destination}
use Rattle.reader.specs.Accepted.{Spanned}
use Rattle.reader.specs.Rules.{destination as destination_of}
use Rattle.overlap.specs.Clashes.{Rising, among, first_that}

-- where via place k of an accepted block goes
abbrev pub goes_by : TranslationTo → Layout → List ℤ → Layout → ℕ → ℕ
goes_by (Contiguous s e) v x g k = s + k
goes_by Listed v x g k = unwrap_or (destination v x g k) 0

-- a row of places, by number from 0
pub record Places : Type 0 where
  pub many : ℕ
  pub at : ℕ → ℕ

-- where a new block goes: by way of the count places of a via, from a start on in its target
pub record Going : Type 0 where
  pub to : TranslationTo
  pub count : ℕ
  pub via : Layout
  pub start : List ℤ
  pub target : Layout

-- the places of a new block, and those of an earlier one
abbrev pub new_row : Going → Places
new_row b = record { many = b.count; at = goes_by b.to b.via b.start b.target }

abbrev pub old_row : Spanned → Places
old_row b = record { many = b.block.via; at = destination_of b.block b.indices }

-- each place is above the one before it, and all are those of a layout
pub record Lined (p : Places) : Type 0 where
  pub rises : Rising p.at p.many
  pub low : (k : ℕ) → k < p.many → p.at k < 65536

-- the places are those from s on
pub record Running (p : Places) (s : ℕ) : Type 0 where
  pub follow : (k : ℕ) → k < p.many → p.at k ≡ s + k
  pub ends : s + p.many ≤ 65536

-- the first of the n places of f that is among the m places of g
abbrev pub first_shared : (ℕ → ℕ) → ℕ → (ℕ → ℕ) → ℕ → Option ℕ
first_shared f n g m = first_that (λ k. among g m (f k)) n

abbrev pub shared_by : Places → Places → Option ℕ
shared_by p q = first_shared p.at p.many q.at q.many

-- the same of intervals: k is the number of the first of the n places from a on that is one of the m places from b on
abbrev pub Common : (a n b m : ℕ) → Option ℕ → Type 0
Common a n b m o =
    MatchOption o ((k : ℕ) → k < n → b ≤ a + k → a + k < b + m → ⊥) (λ k. (k < n) × (b ≤ a + k) × (a + k < b + m) × ((j : ℕ) → j < k → a + j < b))

-- the earlier of two numbers, where there are any
abbrev pub earlier : Option ℕ → Option ℕ → Option ℕ
earlier None b = b
earlier (Some a) None = Some a
earlier (Some a) (Some b) = Some (min a b)

-- from number j on, i is the first of the n places of f that is not below p
pub record Skips (f : ℕ → ℕ) (n j p i : ℕ) : Type 0 where
  pub on : j ≤ i
  pub within : i ≤ n
  pub below : (k : ℕ) → j ≤ k → k < i → f k < p
  pub there : i < n → p ≤ f i
