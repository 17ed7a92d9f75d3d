-- Places that agree on their first entries.
use Rattle.std.specs.Prelude.{◌≡◌, ℕ, zero, suc, ◌+◌, ◌-◌, ◌<◌, ◌≤◌, Bool, true, false, cond, not, ◌&&◌, ◌||◌, List, [], ◌∷◌, take, ℤ, pos, Some, None, Option, MatchOption}
use Rattle.layout.specs.Layouts.{Layout, count, at}
use Rattle.grouping.specs.Keys.{agrees}

-- a test holds of some number below n, of each
abbrev pub any : (ℕ → Bool) → ℕ → Bool
any t zero = false
any t (suc n) = any t n || t n

abbrev pub all : (ℕ → Bool) → ℕ → Bool
all t zero = true
all t (suc n) = all t n && t n

-- each place of s lies over a place of v, and each of v under one of s: they agree on their first m entries
abbrev pub covered : ℕ → Layout → Layout → Bool
covered m s v =
    all (λ i. any (λ j. agrees m (at s i) (at v j)) (count v)) (count s)
    && all (λ j. any (λ i. agrees m (at s i) (at v j)) (count s)) (count v)

-- a range begins at a place p: there is none before it, or its first m entries differ from those of the last
abbrev pub Begins : ℕ → Option (List ℤ) → List ℤ → Type 0
Begins m None p = Unit {0}
Begins m (Some last) p = take m last ≡ take m p → ⊥

-- place i does not agree with the one before it on the first m entries
abbrev pub cut : ℕ → Layout → ℕ → Bool
cut m l i = not (agrees m (at l (i - 1)) (at l i))

-- the ranges of the n places from i on, cut at each number that passes the test; the first began at s
abbrev pub ranges_from : (ℕ → Bool) → ℕ → ℕ → ℕ → List (ℕ × ℕ)
ranges_from t s i zero = (s, i) ∷ []
ranges_from t s i (suc n) = cond (t i) ((s, i) ∷ ranges_from t i (i + 1) n) (ranges_from t s (i + 1) n)

-- the ranges of a layout's places, as start and end, cut wherever the first m entries change
abbrev pub ranges : ℕ → Layout → List (ℕ × ℕ)
ranges m l = ranges_from (cut m l) 0 1 (count l - 1)

-- the entries of ranges in the index table
abbrev pub range_entries : List (ℕ × ℕ) → List ℤ
range_entries [] = []
range_entries (r ∷ rs) = pos r.0 ∷ pos r.1 ∷ range_entries rs

-- which of the places j and j + 1 of r agrees with place i of l: neither, or one
abbrev pub Steps : ℕ → Layout → ℕ → Layout → ℕ → Option ℕ → Type 0
Steps m l i r j o =
    MatchOption o ((agrees m (at l i) (at r j) ≡ false) × (j + 1 < count r → agrees m (at l i) (at r (j + 1)) ≡ false))
    (λ k. (j ≤ k) × (k ≤ j + 1) × (k < count r) × (agrees m (at l i) (at r k) ≡ true))
