-- What a layout is, and the two lookups.
use Rattle.std.specs.Prelude.{◌≡◌, ℕ, suc, ◌<◌, ◌≤◌, cond, List, [], ◌∷◌, length, ℤ, pos, negsuc, Some, None, Option, ◌==◌, nat_lt, slice_index_or}
use Rattle.std.specs.Option.{option_map}
use Rattle.std.specs.List.{ContainsAt as Has, AllByRecursion}
use Rattle.layout.specs.declared.kind.LayoutKind.{LayoutKind}
use Rattle.layout.specs.declared.kind.LayoutKind.TheVariants.{Dense, Diagonal, Sparse}
use Rattle.layout.specs.Places.{Place, place, origin, Before, Inside, axis, same}

pub record Layout : Type 0 where
  pub kind : LayoutKind
  pub shape : List ℕ
  pub places : List Place

abbrev pub blank : Layout
blank = record { kind = Dense; shape = []; places = origin ∷ [] }

abbrev pub count : Layout → ℕ
count l = length l.places

abbrev pub rank : Layout → ℕ
rank l = length l.shape

-- the place with the number k
abbrev pub at : Layout → ℕ → Place
at l k = slice_index_or l.places k origin

-- the first r entries of p are equal
abbrev pub Level : ℕ → Place → Type 0
Level r p = (1 < r → p.b ≡ p.a) × (2 < r → p.c ≡ p.a) × (3 < r → p.d ≡ p.a)

-- dense: every index inside the shape. Diagonal: one or more axes, all of one length, and every index inside with equal entries. Sparse: one or more axes
abbrev pub OfKind : LayoutKind → Layout → Type 0
OfKind Dense l = (p : Place) → Inside l.shape p → Has l.places p
OfKind Diagonal l =
    (1 ≤ rank l) × ((i : ℕ) → i < rank l → axis l.shape i ≡ axis l.shape 0)
    × AllByRecursion (Level (rank l)) l.places
    × ((p : Place) → Inside l.shape p → Level (rank l) p → Has l.places p)
OfKind Sparse l = 1 ≤ rank l

pub record Valid (l : Layout) : Type 0 where
  pub ranked : rank l ≤ 4
  pub axes : AllByRecursion (λ n. (1 ≤ n) × (n ≤ 4096)) l.shape
  pub some : 1 ≤ count l
  pub many : count l ≤ 65536
  pub inside : AllByRecursion (Inside l.shape) l.places
  pub ascending : (j k : ℕ) → j < k → k < count l → Before (at l j) (at l k)
  pub of_kind : OfKind l.kind l

abbrev pub AllValid : List Layout → Type 0
AllValid ls = (n : ℕ) → n < length ls → Valid (slice_index_or ls n blank)

-- Lookup. An index is four integers as a caller gives them; entries past the rank count as 0, and with a negative one it names no place.

abbrev pub natural : ℤ → Option ℕ
natural (pos n) = Some n
natural (negsuc n) = None

-- entry i of an index at rank r
abbrev pub given : ℕ → List ℤ → ℕ → ℤ
given r x i = cond (nat_lt i r) (slice_index_or x i (pos 0)) (pos 0)

-- an entry of an index on an axis of length n, where it is inside
abbrev pub below : ℕ → ℤ → Option ℕ
below n (pos k) = cond (nat_lt k n) (Some k) None
below n (negsuc k) = None

abbrev pub four : Option ℕ → Option ℕ → Option ℕ → Option ℕ → Option Place
four (Some a) (Some b) (Some c) (Some d) = Some (place a b c d)
four (Some a) (Some b) (Some c) None = None
four (Some a) (Some b) None d = None
four (Some a) None c d = None
four None b c d = None

-- the place that an index names at rank r
abbrev pub named : ℕ → List ℤ → Option Place
named r x = four (natural (given r x 0)) (natural (given r x 1)) (natural (given r x 2)) (natural (given r x 3))

-- the place that an index names at rank r, where it is inside a shape
abbrev pub inside : ℕ → List ℕ → List ℤ → Option Place
inside r shape x = four (below (axis shape 0) (given r x 0)) (below (axis shape 1) (given r x 1)) (below (axis shape 2) (given r x 2)) (below (axis shape 3) (given r x 3))

-- the number of a place in a list of places
abbrev pub number : Place → List Place → Option ℕ
number p [] = None
number p (q ∷ qs) = cond (same p q) (Some 0) (option_map suc (number p qs))

abbrev pub number_of : Option Place → List Place → Option ℕ
number_of None ps = None
number_of (Some p) ps = number p ps

abbrev pub strict : Layout → List ℤ → Option ℕ
strict l x = number_of (named (rank l) x) l.places

-- an entry above 0 on an axis of length 1 counts as 0
abbrev pub widened : ℕ → ℤ → ℤ
widened n (pos k) = cond (n == 1) (pos 0) (pos k)
widened n (negsuc k) = negsuc k

abbrev pub widen : List ℕ → List ℤ → List ℤ
widen shape x = widened (axis shape 0) (slice_index_or x 0 (pos 0)) ∷ widened (axis shape 1) (slice_index_or x 1 (pos 0)) ∷ widened (axis shape 2) (slice_index_or x 2 (pos 0)) ∷ widened (axis shape 3) (slice_index_or x 3 (pos 0)) ∷ []

abbrev pub wide_index : LayoutKind → List ℕ → List ℤ → List ℤ
wide_index Dense shape x = widen shape x
wide_index Diagonal shape x = x
wide_index Sparse shape x = widen shape x

abbrev pub wide : Layout → List ℤ → Option ℕ
wide l x = strict l (wide_index l.kind l.shape x)
