-- Lookups of a start plus a place.
use Rattle.std.proofs.Common.{◌≡◌, ℕ, zero, suc, ◌<◌, ◌≤◌, ltb, List, [], ◌∷◌, length, get_or, ℤ, pos, ◌<ℤ◌, IfSome, Some, None, Option, sym, refl, ap, ◌∙◌, subst, inl, inr, arith}
use Rattle.std.proofs.lemmas.Bool.{cases_Bool, cases_lt}
use Rattle.std.proofs.lemmas.List.{get_or_past}
use Rattle.std.proofs.lemmas.Int.{ints}
use Rattle.std.specs.Option.{option_map}
use Rattle.layout.specs.Places.{Place, origin, axis, same}
use Rattle.layout.specs.Layouts.{Layout, Valid, count, rank, at, below, given, inside, number, number_of, strict}
use Rattle.layout.specs.Answers.{index_of}
use Rattle.layout.proofs.Finding.{inside_says, strict_outside, same_true}
use Rattle.grouping.proofs.Keyed.{Small, axis_small, small_at}
use Rattle.translation.specs.Tos.{shift, Told}

-- in a valid layout a lookup goes by what is inside the shape
pub strict_by_inside : (l : Layout) (x : List ℤ) → Valid l → strict l x ≡ number_of (inside (rank l) l.shape x) l.places
strict_by_inside l x v = by (inside (rank l) l.shape x) refl where
  by : (o : Option Place) → inside (rank l) l.shape x ≡ o → strict l x ≡ number_of o l.places
  by None e = strict_outside l x v e
  by (Some p) e = ap (λ o. number_of o l.places) (inside_says (rank l) l.shape x p e).0

told_given : (r : ℕ) (x y : List ℤ) (i n : ℕ) → below n (get_or x i (pos 0)) ≡ below n (get_or y i (pos 0)) → below n (given r x i) ≡ below n (given r y i)
told_given r x y i n h = elim (cases_Bool (ltb i r)) [ inl e ↦ rw e h | inr e ↦ rw e refl ]

-- two indices that each axis tells alike are looked up alike
pub told_alike : (l : Layout) (x y : List ℤ) → Valid l → ((i n : ℕ) → i < 4 → n ≤ 4096 → below n (get_or x i (pos 0)) ≡ below n (get_or y i (pos 0))) → strict l x ≡ strict l y
told_alike l x y v h =
    let s = l.shape in
    let b = axis_small l v in
    let e = λ (i : ℕ) (k : i < 4). told_given (rank l) x y i (axis s i) (h i (axis s i) k (b i).1) in
    let e0 = e 0 (omega arith) in
    let e1 = e 1 (omega arith) in
    let e2 = e 2 (omega arith) in
    let e3 = e 3 (omega arith) in
    let f : inside (rank l) s x ≡ inside (rank l) s y = cc in
    strict_by_inside l x v ∙ ap (λ o. number_of o l.places) f ∙ sym (strict_by_inside l y v)

pub index_high : (p : Place) → Small p → (i : ℕ) → get_or (index_of p) i (pos 0) <ℤ pos 4096
index_high p s zero = let h = s.a< in omega (arith, ints)
index_high p s (suc zero) = let h = s.b< in omega (arith, ints)
index_high p s (suc (suc zero)) = let h = s.c< in omega (arith, ints)
index_high p s (suc (suc (suc zero))) = let h = s.d< in omega (arith, ints)
index_high p s (suc (suc (suc (suc i)))) = omega (arith, ints)

-- the entries of any place are small, those of the zeros past the last one too
pub small_any : (l : Layout) → Valid l → (k : ℕ) → Small (at l k)
small_any l v k =
    elim (cases_lt k (count l)) [
      | inl h ↦ small_at l v k h
      | inr h ↦ subst Small (sym (get_or_past l.places k origin h)) (record { a< = omega arith; b< = omega arith; c< = omega arith; d< = omega arith })
    ]

-- what is told of a start plus a place is told of the shift
pub lands : (t : Layout) (r start : List ℤ) (p : Place) → Valid t → Told r start (index_of p) 0 → Told r start (index_of p) 1 → Told r start (index_of p) 2 → Told r start (index_of p) 3 → strict t r ≡ strict t (shift start p)
lands t r start p v a b c d = told_alike t r (shift start p) v by where
  by : (i n : ℕ) → i < 4 → n ≤ 4096 → below n (get_or r i (pos 0)) ≡ below n (get_or (shift start p) i (pos 0))
  by zero n h k = a n k
  by (suc zero) n h k = b n k
  by (suc (suc zero)) n h k = c n k
  by (suc (suc (suc zero))) n h k = d n k
  by (suc (suc (suc (suc i)))) n h k = absurd (omega arith)

-- a number that is found is below the count, and names the place
pub number_says : (p : Place) (ps : List Place) (k : ℕ) → number p ps ≡ Some k → (k < length ps) × (get_or ps k origin ≡ p)
number_says p [] k e = absurd (let z : ◌≡◌ {A = ℕ} 0 1 = cc in omega arith)
number_says p (q ∷ qs) k e =
    elim (cases_Bool (same p q)) [
      | inl t ↦ (let f : ◌≡◌ {A = Option ℕ} (Some 0) (Some k) = rw t at e in let z : 0 ≡ k = cc in subst (λ j. (j < length (q ∷ qs)) × (get_or (q ∷ qs) j origin ≡ p)) z (omega arith, sym (same_true p q t)))
      | inr t ↦ by (number p qs) refl (rw t at e) (number_says p qs)
    ] where
      by : (o : Option ℕ) → number p qs ≡ o → option_map suc o ≡ Some k → ((j : ℕ) → number p qs ≡ Some j → (j < length qs) × (get_or qs j origin ≡ p)) → (k < length (q ∷ qs)) × (get_or (q ∷ qs) k origin ≡ p)
      by None f g rest = absurd (let z : ◌≡◌ {A = ℕ} 0 1 = cc in omega arith)
      by (Some j) f g rest = let z : suc j ≡ k = cc in let r = rest j f in subst (λ k. (k < length (q ∷ qs)) × (get_or (q ∷ qs) k origin ≡ p)) z (omega (arith, r.0), r.1)

pub strict_within : (l : Layout) (x : List ℤ) → Valid l → IfSome (strict l x) (λ n. n < 65536)
strict_within l x v = by (strict l x) refl where
  by' : (o : Option Place) (n : ℕ) → number_of o l.places ≡ Some n → n < 65536
  by' None n e = absurd (let z : ◌≡◌ {A = ℕ} 0 1 = cc in omega arith)
  by' (Some p) n e = let h = number_says p l.places n e in let m = v.many in omega (arith, h.0)

  by : (o : Option ℕ) → strict l x ≡ o → IfSome o (λ n. n < 65536)
  by None e = tt
  by (Some n) e = by' _ n e
