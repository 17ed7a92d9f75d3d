-- Two rows of keys: a long one of n that never falls, and a short one of k that rises, with the same keys in both.
-- The long row is the source's places and the short one the via's in a contraction, and the other way round in a broadcast; a key is the entries on which they are to agree.
use Rattle.std.specs.Prelude.{◌≡◌, ℕ, zero, suc, ◌+◌, ◌*◌, ◌/◌, ◌<◌, ◌≤◌, cond, List, [], ◌∷◌, filter, ◌==◌, nat_eq}
use Rattle.std.specs.List.{range_with_len}

pub record Grouped (a : ℕ → ℕ) (n : ℕ) (b : ℕ → ℕ) (k : ℕ) : Type 0 where
  pub some : 1 ≤ n
  pub level : (i j : ℕ) → i ≤ j → j < n → a i ≤ a j
  pub rises : (i j : ℕ) → i < j → j < k → b i < b j
  pub over : (i : ℕ) → i < n → (j : ℕ) × (j < k) × (a i ≡ b j)
  pub under : (j : ℕ) → j < k → (i : ℕ) × (i < n) × (a i ≡ b j)

-- how often the key changes on the way to place i
abbrev pub changes : (ℕ → ℕ) → ℕ → ℕ
changes a zero = 0
changes a (suc i) = changes a i + cond (a i == a (suc i)) 0 1

-- the numbers below n whose key is x, ascending
abbrev pub with_key : (ℕ → ℕ) → ℕ → ℕ → List ℕ
with_key a n x = filter (λ i. nat_eq (a i) x) (range_with_len 0 n)

-- the key is the same within each run of l
abbrev pub Runs : (ℕ → ℕ) → ℕ → ℕ → Type 0
Runs a n l = (i : ℕ) → suc i < n → i / l ≡ suc i / l → a i ≡ a (suc i)

-- [s, e) is range j of the long row, cut wherever the key changes
pub record Range (a : ℕ → ℕ) (n j s e : ℕ) : Type 0 where
  pub some : s < e
  pub ends : e ≤ n
  pub in' : (i : ℕ) → s ≤ i → i < e → changes a i ≡ j
  pub out : (i : ℕ) → i < n → changes a i ≡ j → (s ≤ i) × (i < e)

-- dense and diagonal contraction: the run of l elements from j × l on
abbrev pub OneRun : Type 0
OneRun = (a : ℕ → ℕ) (n : ℕ) (b : ℕ → ℕ) (k l : ℕ) → Grouped a n b k → 1 ≤ l → n ≡ k * l → Runs a n l → (j : ℕ) → j < k → with_key a n (b j) ≡ range_with_len (j * l) l

-- element-wise and broadcast: element i div l alone
abbrev pub OneEach : Type 0
OneEach = (a : ℕ → ℕ) (n : ℕ) (b : ℕ → ℕ) (k l : ℕ) → Grouped a n b k → 1 ≤ l → n ≡ k * l → Runs a n l → (i : ℕ) → i < n → with_key b k (a i) ≡ i / l ∷ []

-- sparse contraction: range j
abbrev pub RangesCut : Type 0
RangesCut = (a : ℕ → ℕ) (n : ℕ) (b : ℕ → ℕ) (k : ℕ) → Grouped a n b k → (j s d : ℕ) → j < k → Range a n j s (s + d) → with_key a n (b j) ≡ range_with_len s d
