-- Binary tables, and where none exists.
use Rattle.std.specs.Prelude.{◌≡◌, ℕ, ◌+◌, ◌<◌, Bool, true, cond, ◌&&◌, ◌≢◌, List, [], ◌∷◌, ◌++◌, map, length, take, drop, ℤ, pos, negsuc, Some, None, Ok, Err, Decides, Option, Result, MatchResult, ◌==◌, nat_le, nat_lt, slice_index_or}
use Rattle.layout.specs.declared.kind.LayoutKind.TheVariants.{Dense}
use Rattle.layout.specs.declared.fault.LayoutFault.{LayoutFault}
use Rattle.layout.specs.declared.fault.LayoutFault.TheVariants.{Unknown}
use Rattle.layout.specs.Layouts.{Layout, Valid, blank, count, rank, at}
use Rattle.layout.specs.Answers.{index_of}
use Rattle.names.specs.declared.fault.NamesFault.{NamesFault}
use Rattle.names.specs.declared.fault.NamesFault.TheVariants.{Layout as OfLayout, NoRoom}
use Rattle.names.specs.Reading.{permutation, table_element, element}
use Rattle.names.specs.Checks.{fitting}

-- the entry of a place that has no number in the name's layout: -1
abbrev pub absent : ℤ
absent = negsuc 0

abbrev pub entry_of : Option ℕ → ℤ
entry_of None = absent
entry_of (Some n) = pos n

-- for each place of the source s, the number that it has in the name's layout l
abbrev pub binary_table : Layout → Layout → List ℕ → List ℤ
binary_table l s slots = map (λ p. entry_of (table_element l slots (index_of p))) s.places

-- two layouts that there are, and room from `from` on in a list of length n; or what is refused
abbrev pub table_asked : List Layout → ℕ → ℕ → List ℕ → ℕ → ℕ → Result (List ℤ) NamesFault
table_asked ls l s slots from n =
    cond (nat_lt l (length ls) && nat_lt s (length ls))
    (cond (nat_le (from + count (slice_index_or ls s blank)) n) (Ok (binary_table (slice_index_or ls l blank) (slice_index_or ls s blank) slots)) (Err NoRoom))
    (Err (OfLayout Unknown))

-- The answer to a call that is to write xs from a position on: it is where they end, and they stand there, with the rest as it was; a refusal changes nothing.
abbrev pub PutFrom : {A E : Type 0} → ℕ → Result (List A) E → List A → List A → Result ℕ E → Type 0
PutFrom from (Ok xs) before after r = (r ≡ Ok (from + length xs)) × (after ≡ take from before ++ (xs ++ drop (from + length xs) before))
PutFrom from (Err e) before after r = (r ≡ Err e) × (after ≡ before)

-- ---- where no table exists

-- each entry stays where it is
abbrev pub identity_from : ℕ → List ℕ → Bool
identity_from i [] = true
identity_from i (p ∷ ps) = p == i && identity_from (i + 1) ps

-- no table exists for a name's layout l under a source s: kind, shape and places are equal, and the permutation is the identity
abbrev pub NoTable : Layout → Layout → List ℕ → Type 0
NoTable l s slots = (l ≡ s) × (identity_from 0 slots ≡ true)

-- whether a table exists for two layouts that there are
abbrev pub NoTableAsked : List Layout → ℕ → ℕ → List ℕ → Result Bool LayoutFault → Type 0
NoTableAsked ls l s slots r =
    MatchResult r
    (λ t. (l < length ls) × (s < length ls) × Decides t (NoTable (slice_index_or ls l blank) (slice_index_or ls s blank) slots))
    (λ f. (f ≡ Unknown) × (l < length ls → s < length ls → ⊥))

-- Where no table exists, a name that may stand reads the element with the source place's own number.
abbrev pub OwnNumberCounts : Type 0
OwnNumberCounts =
    (l s : Layout) (block name : List ℕ) (k : ℕ)
    → Valid l → l.kind ≢ Dense → fitting l (rank s) block name ≡ true → NoTable l s (permutation (rank l) block name) → k < count s
    → element l block (index_of (at s k)) name ≡ Some k
