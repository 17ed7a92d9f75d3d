-- Where the elements go.
use Rattle.std.specs.Prelude.{◌≡◌, ℕ, zero, suc, ◌+◌, ◌-◌, ◌≤◌, Bool, true, false, cond, not, ◌&&◌, ◌||◌, List, [], ◌∷◌, map, ℤ, pos, negsuc, ◌+ℤ◌, Some, None, Ok, Err, Option, Result, ◌==◌, nat_le, nat_lt, slice_index_or}
use Rattle.std.specs.List.{range_with_len}
use Rattle.std.specs.Option.{unwrap_or}
use Rattle.layout.specs.Places.{Place}
use Rattle.layout.specs.Layouts.{Layout, at, strict, below}
use Rattle.translation.specs.declared.kinds.TranslationTo.{TranslationTo}
use Rattle.translation.specs.declared.kinds.TranslationTo.TheVariants.{Contiguous, Listed}
use Rattle.translation.specs.declared.kinds.TranslationFault.{TranslationFault}
use Rattle.translation.specs.declared.kinds.TranslationFault.TheVariants.{NoDestination}

abbrev pub is_zero : ℤ → Bool
is_zero (pos n) = n == 0
is_zero (negsuc n) = false

-- entry i of a start is beyond the rank t, and not 0
abbrev pub strays_at : ℕ → List ℤ → ℕ → Bool
strays_at t x i = nat_le t i && not (is_zero (slice_index_or x i (pos 0)))

abbrev pub strays : ℕ → List ℤ → Bool
strays t x = ((strays_at t x 0 || strays_at t x 1) || strays_at t x 2) || strays_at t x 3

-- the via's rank v is above the target's rank t, or a start entry beyond that is not 0
abbrev pub start_refused : ℕ → List ℤ → ℕ → Bool
start_refused v x t = nat_lt t v || strays t x

-- start plus place
abbrev pub shift : List ℤ → Place → List ℤ
shift x p = (slice_index_or x 0 (pos 0) +ℤ pos p.a) ∷ (slice_index_or x 1 (pos 0) +ℤ pos p.b) ∷ (slice_index_or x 2 (pos 0) +ℤ pos p.c) ∷ (slice_index_or x 3 (pos 0) +ℤ pos p.d) ∷ []

-- the target's place for place k of the via
abbrev pub destination : Layout → List ℤ → Layout → ℕ → Option ℕ
destination v x t k = strict t (shift x (at v k))

-- the first of n places from k on that has no destination
abbrev pub missing_at : Option ℕ → ℕ → Option ℕ → Option ℕ
missing_at None k rest = Some k
missing_at (Some x) k rest = rest

abbrev pub missing : (ℕ → Option ℕ) → ℕ → ℕ → Option ℕ
missing d k zero = None
missing d k (suc n) = missing_at (d k) k (missing d (k + 1) n)

-- a destination is followed by the next one
abbrev pub follows : Option ℕ → Option ℕ → Bool
follows (Some a) (Some b) = b == a + 1
follows (Some a) None = false
follows None b = false

-- so are the n destinations from k on
abbrev pub consecutive : (ℕ → Option ℕ) → ℕ → ℕ → Bool
consecutive d k zero = true
consecutive d k (suc n) = follows (d k) (d (k + 1)) && consecutive d (k + 1) n

-- n destinations, by the first of them and whether each is followed by the next
abbrev pub placed : Bool → Option ℕ → ℕ → TranslationTo
placed together first n = cond together (Contiguous (unwrap_or first 0) (unwrap_or first 0 + n)) Listed

-- where the n places of a via go, or the first that goes nowhere
abbrev pub unless_missing : Option ℕ → TranslationTo → Result TranslationTo ℕ
unless_missing None to = Ok to
unless_missing (Some k) to = Err k

abbrev pub to_of : (ℕ → Option ℕ) → ℕ → Result TranslationTo ℕ
to_of d n = unless_missing (missing d 0 n) (placed (consecutive d 0 (n - 1)) (d 0) n)

-- entry i of r is found or not as that of start plus place is, on any axis
abbrev pub Told : List ℤ → List ℤ → List ℤ → ℕ → Type 0
Told r start place i = (n : ℕ) → n ≤ 4096 → below n (slice_index_or r i (pos 0)) ≡ below n (slice_index_or start i (pos 0) +ℤ slice_index_or place i (pos 0))

-- the entries of n destinations in the index table
abbrev pub destination_entries : (ℕ → Option ℕ) → ℕ → List ℤ
destination_entries d n = map (λ k. pos (unwrap_or (d k) 0)) (range_with_len 0 n)

-- a via place that goes nowhere is refused with its number
abbrev pub unless_nowhere : Result TranslationTo ℕ → Result TranslationTo TranslationFault
unless_nowhere (Ok to) = Ok to
unless_nowhere (Err k) = Err (NoDestination k)
