-- What the words of a line say.
use Rattle.std.specs.Prelude.{◌≡◌, ℕ, ◌+◌, ◌≤◌, ◌⊎◌, List, [], ◌∷◌, ◌++◌, length, ℤ, pos, codes}
use Rattle.std.specs.List.{flat_map, AllByRecursion}
use Rattle.std.specs.Str.Parse.{IsNumeral, digits_value, without_leading_plus, without_leading_sign, signed_digits_value}
use Rattle.layout.specs.declared.kind.LayoutKind.{LayoutKind}
use Rattle.layout.specs.declared.kind.LayoutKind.TheVariants.{Dense, Diagonal, Sparse}
use Rattle.table.specs.declared.record.LayoutRecord.{LayoutRecord}
use Rattle.design.specs.declared.ask.Ask.{Ask}
use Rattle.design.specs.declared.ask.Ask.TheVariants as ask
use Rattle.design.specs.declared.ask.Entries.{Entries}
use Rattle.design.specs.declared.ask.Lookup.{Lookup}
use Rattle.design.specs.declared.words.Words.{Words}
use Rattle.layout.specs.Words.{kind_word}
use Rattle.design.specs.Numbers.{Says, four}
use Rattle.design.specs.Texts.{left}

-- the words of a line that are still to be read
abbrev pub unread : Words → List (List ℕ)
unread w = left w.rest

-- a word is a number in decimal, after a plus or a minus if any
abbrev pub natural : List ℕ → ℕ → Type 0
natural w n = IsNumeral 10 (without_leading_plus w) × (digits_value 10 (without_leading_plus w) ≡ n)

abbrev pub integer : List ℕ → ℤ → Type 0
integer w z = IsNumeral 10 (without_leading_sign w) × (signed_digits_value 10 w ≡ z)

-- the words of a place, and a comma
abbrev pub ended : List (List ℕ) → List (List ℕ)
ended ws = ws ++ (codes "," ∷ [])

-- the words ws give count places of rank entries each, with commas between them, and es are all their entries in order
pub record Listed (rank : ℕ) (ws : List (List ℕ)) (count : ℕ) (es : List ℕ) : Type 0 where
  pub places : List (List (List ℕ))
  pub last : List (List ℕ)
  pub split : ws ≡ flat_map ended places ++ last
  pub said : Says natural (flat_map (λ place. place) places ++ last) es
  pub even : AllByRecursion (λ place. length place ≡ rank) places
  pub whole : length last ≡ rank
  pub many : count ≡ length places + 1

-- the same, or no words and no places; the entries are added to the pool
abbrev pub Pooled : ℕ → List (List ℕ) → ℕ → List ℕ → List ℕ → Type 0
Pooled rank ws count before after = ((ws ≡ []) × (count ≡ 0) × (after ≡ before)) ⊎ ((es : List ℕ) × Listed rank ws count es × (after ≡ before ++ es))

-- the words after the axes of a layout of a kind and a rank: none, or a colon and count places
abbrev pub PlacesSaid : LayoutKind → List (List ℕ) → ℕ → ℕ → List ℕ → List ℕ → Type 0
PlacesSaid Dense ws rank count before after = (ws ≡ []) × (after ≡ before)
PlacesSaid Diagonal ws rank count before after = (ws ≡ []) × (after ≡ before)
PlacesSaid Sparse ws rank count before after = (ps : List (List ℕ)) × (ws ≡ codes ":" ∷ ps) × Pooled rank ps count before after

-- the words say the layout of a record: its kind, a length for each axis, and its places, whose entries are added to the pool
pub record LayoutSaid (ws : List (List ℕ)) (r : LayoutRecord) (before after : List ℕ) : Type 0 where
  pub axes : List (List ℕ)
  pub lengths : List ℕ
  pub rest : List (List ℕ)
  pub split : ws ≡ kind_word r.kind ∷ (axes ++ rest)
  pub said : Says natural axes lengths
  pub ranked : r.rank ≡ length lengths
  pub kept : r.lengths ≡ four 1 lengths
  pub begun : r.start ≡ length before
  pub places : PlacesSaid r.kind rest r.rank r.count before after

-- the words say the entries of an index, at most four, with 0 beyond them
pub record EntriesSaid (ws : List (List ℕ)) (e : Entries) : Type 0 where
  pub given : List ℤ
  pub said : Says integer ws given
  pub many : e.count ≡ length given
  pub few : length given ≤ 4
  pub kept : e.index ≡ four (pos 0) given

-- the words of a lookup say a layout and an index
abbrev pub LookupSaid : List (List ℕ) → ℕ → Entries → Type 0
LookupSaid ws layout e = (w : List ℕ) × (es : List (List ℕ)) × (ws ≡ w ∷ es) × natural w layout × EntriesSaid es e

-- and ask for it
abbrev pub LookupAsked : Lookup → List (List ℕ) → Ask → Type 0
LookupAsked how ws a = (n : ℕ) × (e : Entries) × (a ≡ ask.Lookup how n e) × LookupSaid ws n e

-- two words say two numbers
abbrev pub PairSaid : List (List ℕ) → ℕ → ℕ → Type 0
PairSaid ws m n = (w v : List ℕ) × (ws ≡ w ∷ v ∷ []) × natural w m × natural v n

-- the words of a translation say a source, a via, a target and a start
abbrev pub TranslationSaid : List (List ℕ) → ℕ → ℕ → ℕ → Entries → Type 0
TranslationSaid ws source via target e =
    (s v t : List ℕ) × (es : List (List ℕ)) × (ws ≡ s ∷ v ∷ t ∷ es) × natural s source × natural v via × natural t target × EntriesSaid es e

-- and ask for it
abbrev pub TranslationAsked : List (List ℕ) → Ask → Type 0
TranslationAsked ws a = (s v t : ℕ) × (e : Entries) × (a ≡ ask.Trans s v t e) × TranslationSaid ws s v t e
