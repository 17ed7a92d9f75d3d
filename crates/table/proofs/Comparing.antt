-- The order of places as the library compares their entries.
use Rattle.std.proofs.Common.{◌≡◌, ℕ, ◌<◌, List, [], ◌∷◌, ◌⊎◌, length, refl, sym, subst, inl, inr, arith}
use Rattle.std.specs.declared.cmp.Ordering.{Ordering}
use Rattle.std.specs.declared.cmp.Ordering.TheVariants.{Less, Equal, Greater}
use Rattle.std.specs.Ordering.{MatchOrdering, ordering_then, nat_cmp}
use Rattle.std.specs.Cmp.{ranks}
use Rattle.std.specs.Cmp.Lexicographic.{slice_cmp}
use Rattle.layout.specs.Places.{Place, place, Before, entries}
use Rattle.table.specs.Records.{place_of}

record Ordered (o : Ordering) (L E G : Type 0) : Type 0 where
  says : MatchOrdering o L E G

-- the first two entries decide, or else those after them
then_rest : {x y : ℕ} {L E G : Type 0} {o : Ordering} → Ordered o L E G → Ordered (ordering_then (nat_cmp x y) o) ((x < y) ⊎ ((x ≡ y) × L)) ((x ≡ y) × E) ((y < x) ⊎ ((y ≡ x) × G))
then_rest {x} {y} {L} {E} {G} {o} m = record { says = by (nat_cmp x y) o (ranks x y) m.says } where
  by : (r o : Ordering) → MatchOrdering r (x < y) (x ≡ y) (y < x) → MatchOrdering o L E G → MatchOrdering (ordering_then r o) ((x < y) ⊎ ((x ≡ y) × L)) ((x ≡ y) × E) ((y < x) ⊎ ((y ≡ x) × G))
  by Less o l m = inl l
  by Equal Less q m = inr (q, m)
  by Equal Equal q m = (q, m)
  by Equal Greater q m = inr (sym q, m)
  by Greater o g m = inl g

last : (x y : ℕ) → Ordered (ordering_then (nat_cmp x y) Equal) (x < y) (x ≡ y) (y < x)
last x y = record { says = by (nat_cmp x y) (ranks x y) } where
  by : (r : Ordering) → MatchOrdering r (x < y) (x ≡ y) (y < x) → MatchOrdering (ordering_then r Equal) (x < y) (x ≡ y) (y < x)
  by Less m = m
  by Equal m = m
  by Greater m = m

with_equal : {L E F G : Type 0} {o : Ordering} → (E → F) → Ordered o L E G → MatchOrdering o L F G
with_equal {L} {E} {F} {G} {o} f m = by o m.says where
  by : (r : Ordering) → MatchOrdering r L E G → MatchOrdering r L F G
  by Less m = m
  by Equal m = f m
  by Greater m = m

same_place : (p q : Place) → (p.a ≡ q.a) × ((p.b ≡ q.b) × ((p.c ≡ q.c) × (p.d ≡ q.d))) → p ≡ q
same_place p q e = let s : place p.a p.b p.c p.d ≡ place q.a q.b q.c q.d = cc (e.0, e.1.0, e.1.1.0, e.1.1.1) in s

of_places : (p q : Place) → MatchOrdering (slice_cmp nat_cmp (entries p) (entries q)) (Before p q) (p ≡ q) (Before q p)
of_places p q = with_equal (same_place p q) (then_rest {x = p.a} {y = q.a} (then_rest {x = p.b} {y = q.b} (then_rest {x = p.c} {y = q.c} (last p.d q.d))))

as_entries : (p : List ℕ) → length p ≡ 4 → p ≡ entries (place_of p)
as_entries [] h = absurd (omega arith)
as_entries (a ∷ []) h = absurd (omega arith)
as_entries (a ∷ b ∷ []) h = absurd (omega arith)
as_entries (a ∷ b ∷ c ∷ []) h = absurd (omega arith)
as_entries (a ∷ b ∷ c ∷ d ∷ []) h = refl
as_entries (a ∷ b ∷ c ∷ d ∷ e ∷ s) h = absurd (omega arith)

pub compared : (p q : List ℕ) → length p ≡ 4 → length q ≡ 4 → MatchOrdering (slice_cmp nat_cmp p q) (Before (place_of p) (place_of q)) (place_of p ≡ place_of q) (Before (place_of q) (place_of p))
compared p q m n =
    let is : slice_cmp nat_cmp (entries (place_of p)) (entries (place_of q)) ≡ slice_cmp nat_cmp p q = cc (as_entries p m, as_entries q n) in
    subst (λ r. MatchOrdering r (Before (place_of p) (place_of q)) (place_of p ≡ place_of q) (Before (place_of q) (place_of p))) is (of_places (place_of p) (place_of q))

-- what the library's comparison of four entries answers, of their places
pub compared_as : (p q : List ℕ) (r : Ordering) → r ≡ slice_cmp nat_cmp p q → length p ≡ 4 → length q ≡ 4 → MatchOrdering r (Before (place_of p) (place_of q)) (place_of p ≡ place_of q) (Before (place_of q) (place_of p))
compared_as p q r is m n = subst (λ r. MatchOrdering r (Before (place_of p) (place_of q)) (place_of p ≡ place_of q) (Before (place_of q) (place_of p))) (sym is) (compared p q m n)
