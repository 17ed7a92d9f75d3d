-- Places and indices.
--
-- A place is four entries. One that belongs to a shape of lower rank has 0 beyond the rank, as if the shape had further axes of length 1.
use Rattle.std.specs.Prelude.{◌≡◌, ℕ, ◌<◌, Bool, ◌&&◌, ◌⊎◌, List, [], ◌∷◌, take, ◌==◌, slice_index, slice_index_or}

pub record Place : Type 0 where
  pub a : ℕ
  pub b : ℕ
  pub c : ℕ
  pub d : ℕ

abbrev pub place : ℕ → ℕ → ℕ → ℕ → Place
place a b c d = record { a = a; b = b; c = c; d = d }

abbrev pub origin : Place
origin = place 0 0 0 0

-- the entries as a list, and one of them by its number, 0 past the fourth
abbrev pub entries : Place → List ℕ
entries p = p.a ∷ p.b ∷ p.c ∷ p.d ∷ []

abbrev pub entry : Place → ℕ → ℕ
entry p i = slice_index (entries p) i

-- p comes before q: at the first entry in which they differ, p has the smaller
abbrev pub Before : Place → Place → Type 0
Before p q = (p.a < q.a) ⊎ ((p.a ≡ q.a) × ((p.b < q.b) ⊎ ((p.b ≡ q.b) × ((p.c < q.c) ⊎ ((p.c ≡ q.c) × (p.d < q.d))))))

-- p and q agree on their first m entries
abbrev pub Agree : ℕ → Place → Place → Type 0
Agree m p q = take m (entries p) ≡ take m (entries q)

abbrev pub same : Place → Place → Bool
same p q = p.a == q.a && (p.b == q.b && (p.c == q.c && p.d == q.d))

-- the length of axis i of a shape: 1 past its last axis
abbrev pub axis : List ℕ → ℕ → ℕ
axis shape i = slice_index_or shape i 1

abbrev pub Inside : List ℕ → Place → Type 0
Inside shape p = (p.a < axis shape 0) × (p.b < axis shape 1) × (p.c < axis shape 2) × (p.d < axis shape 3)
