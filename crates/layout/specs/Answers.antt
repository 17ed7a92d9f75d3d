-- What a catalogue that means a list of layouts answers.
use Rattle.std.specs.Prelude.{◌≡◌, ℕ, ◌<◌, Bool, cond, List, [], ◌∷◌, length, ℤ, pos, Some, None, Ok, Err, Decides, Option, Result, MatchResult, nat_lt, slice_index_or}
use Rattle.layout.specs.declared.shape.Shape.{Shape}
use Rattle.layout.specs.declared.fault.LayoutFault.{LayoutFault}
use Rattle.layout.specs.declared.fault.LayoutFault.TheVariants.{Unknown}
use Rattle.layout.specs.Places.{Place, axis}
use Rattle.layout.specs.Layouts.{Layout, blank, count, rank, at, strict, wide}

-- f of layout n, or the refusal where there is no such layout
abbrev pub asked : {A : Type 0} → (Layout → A) → List Layout → ℕ → Result A LayoutFault
asked f ls n = cond (nat_lt n (length ls)) (Ok (f (slice_index_or ls n blank))) (Err Unknown)

abbrev pub shape_of : Layout → Shape
shape_of l = record { kind = l.kind; rank = rank l; lengths = axis l.shape 0 ∷ axis l.shape 1 ∷ axis l.shape 2 ∷ axis l.shape 3 ∷ []; count = count l }

abbrev pub shape_asked : List Layout → ℕ → Result Shape LayoutFault
shape_asked = asked shape_of

-- a place as an index
abbrev pub index_of : Place → List ℤ
index_of p = pos p.a ∷ pos p.b ∷ pos p.c ∷ pos p.d ∷ []

-- the place with the number k, as an index
abbrev pub place_in : Layout → ℕ → Option (List ℤ)
place_in l k = cond (nat_lt k (count l)) (Some (index_of (at l k))) None

-- that of layout n; none where layout or place does not exist
abbrev pub place_asked : List Layout → ℕ → ℕ → Option (List ℤ)
place_asked ls n k = cond (nat_lt n (length ls)) (place_in (slice_index_or ls n blank) k) None

abbrev pub number_asked : List Layout → ℕ → List ℤ → Result (Option ℕ) LayoutFault
number_asked ls n x = asked (λ l. strict l x) ls n

abbrev pub wide_asked : List Layout → ℕ → List ℤ → Result (Option ℕ) LayoutFault
wide_asked ls n x = asked (λ l. wide l x) ls n

-- whether two layouts that there are have the same kind, shape and places
abbrev pub SameAsked : List Layout → ℕ → ℕ → Result Bool LayoutFault → Type 0
SameAsked ls a b r =
    MatchResult r
    (λ t. (a < length ls) × (b < length ls) × Decides t (slice_index_or ls a blank ≡ slice_index_or ls b blank))
    (λ f. (f ≡ Unknown) × (a < length ls → b < length ls → ⊥))
