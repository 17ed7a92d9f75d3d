-- The lookups in a valid layout.
use Rattle.std.proofs.Common.{◌≡◌, ℕ, zero, suc, ◌<◌, true, false, eqb, ltb, List, [], ◌∷◌, length, get_or, ℤ, pos, negsuc, Some, None, Option, sym, refl, ap, ◌∙◌, inl, inr, le_of_suc-le-suc, not-suc-le-zero, arith}
use Rattle.std.proofs.lemmas.Bool.{eqb-true, and_parts, eq-eqb, cases_Bool, ltb-true, lt-ltb}
use Rattle.std.proofs.ByRecursion.{All-get_or}
use Rattle.std.specs.Option.{option_map}
use Rattle.layout.specs.Places.{Place, place, origin, Before, Inside, axis, same}
use Rattle.layout.specs.Layouts.{Layout, Valid, count, rank, at, natural, below, four, given, named, inside, number, number_of, strict}

pub same_true : (p q : Place) → same p q ≡ true → p ≡ q
same_true p q h =
    let s = and_parts (eqb p.a q.a) _ h in
    let t = and_parts (eqb p.b q.b) _ s.1 in
    let u = and_parts (eqb p.c q.c) _ t.1 in
    let a = eqb-true p.a q.a s.0 in
    let b = eqb-true p.b q.b t.0 in
    let c = eqb-true p.c q.c u.0 in
    let d = eqb-true p.d q.d u.1 in
    let e : place p.a p.b p.c p.d ≡ place q.a q.b q.c q.d = cc in
    e

pub same_self : (p : Place) → same p p ≡ true
same_self p = simp (eq-eqb p.a p.a refl, eq-eqb p.b p.b refl, eq-eqb p.c p.c refl, eq-eqb p.d p.d refl)

pub same_false : (p q : Place) → (q ≡ p → ⊥) → same p q ≡ false
same_false p q h = elim (cases_Bool (same p q)) [ inl t ↦ absurd (h (sym (same_true p q t))) | inr f ↦ f ]

pub before_other : (p q : Place) → Before p q → p ≡ q → ⊥
before_other p q h e =
    let a = ap (λ (p : Place). p.a) e in
    let b = ap (λ (p : Place). p.b) e in
    let c = ap (λ (p : Place). p.c) e in
    let d = ap (λ (p : Place). p.d) e in
    grind arith

pub number_first : (p : Place) (ps : List Place) (k : ℕ) → k < length ps → get_or ps k origin ≡ p → ((j : ℕ) → j < k → get_or ps j origin ≡ p → ⊥) → number p ps ≡ Some k
number_first p [] k h e f = absurd (not-suc-le-zero h)
number_first p (q ∷ qs) zero h e f = simp (e, same_self p)
number_first p (q ∷ qs) (suc k) h e f =
    rw (same_false p q (f 0 (omega arith))) (ap (option_map suc) (number_first p qs k (le_of_suc-le-suc h) e (λ j g. f (suc j) (omega arith))))

pub number_none : (p : Place) (ps : List Place) → ((k : ℕ) → k < length ps → get_or ps k origin ≡ p → ⊥) → number p ps ≡ None
number_none p [] f = refl
number_none p (q ∷ qs) f = rw (same_false p q (f 0 (omega arith))) (ap (option_map suc) (number_none p qs (λ k h. f (suc k) (omega arith))))

none_some : {X : Type 0} (x : X) → None ≡ Some x → ⊥
none_some x e = let z : ◌≡◌ {A = ℕ} 0 1 = cc in omega arith

some_same : {X : Type 0} (x y : X) → Some x ≡ Some y → x ≡ y
some_same x y e = cc

-- one entry: inside the axis is what it names, and below the length
below_says : (n : ℕ) (x : ℤ) (k : ℕ) → below n x ≡ Some k → (natural x ≡ Some k) × (k < n)
below_says n (pos m) k e =
    elim (cases_Bool (ltb m n)) [
      | inl t ↦ (let f : ◌≡◌ {A = Option ℕ} (Some m) (Some k) = rw t at e in let g = some_same m k f in (f, omega (arith, ltb-true m n t)))
      | inr t ↦ absurd (none_some k (rw t at e))
    ]
below_says n (negsuc m) k e = absurd (none_some k e)

below_is : (n : ℕ) (x : ℤ) (k : ℕ) → natural x ≡ Some k → k < n → below n x ≡ Some k
below_is n (pos m) k e h = let g = some_same m k e in let l : ltb m n ≡ true = lt-ltb m n (omega arith) in rw l e
below_is n (negsuc m) k e h = absurd (none_some k e)

four_parts : (a b c d : Option ℕ) (p : Place) → four a b c d ≡ Some p → (a ≡ Some p.a) × (b ≡ Some p.b) × (c ≡ Some p.c) × (d ≡ Some p.d)
four_parts (Some a) (Some b) (Some c) (Some d) p e =
    let f = some_same (place a b c d) p e in
    (ap (λ (q : Place). Some q.a) f, ap (λ (q : Place). Some q.b) f, ap (λ (q : Place). Some q.c) f, ap (λ (q : Place). Some q.d) f)
four_parts (Some a) (Some b) (Some c) None p e = absurd (none_some p e)
four_parts (Some a) (Some b) None d p e = absurd (none_some p e)
four_parts (Some a) None c d p e = absurd (none_some p e)
four_parts None b c d p e = absurd (none_some p e)

four_is : (a b c d : Option ℕ) (p : Place) → a ≡ Some p.a → b ≡ Some p.b → c ≡ Some p.c → d ≡ Some p.d → four a b c d ≡ Some p
four_is a b c d p e f g h = simp (e, f, g, h)

pub inside_says : (r : ℕ) (shape : List ℕ) (x : List ℤ) (p : Place) → inside r shape x ≡ Some p → (named r x ≡ Some p) × Inside shape p
inside_says r shape x p e =
    let f = four_parts _ _ _ _ p e in
    let a = below_says (axis shape 0) (given r x 0) p.a f.0 in
    let b = below_says (axis shape 1) (given r x 1) p.b f.1 in
    let c = below_says (axis shape 2) (given r x 2) p.c f.2 in
    let d = below_says (axis shape 3) (given r x 3) p.d f.3 in
    (four_is _ _ _ _ p a.0 b.0 c.0 d.0, (a.1, b.1, c.1, d.1))

pub inside_is : (r : ℕ) (shape : List ℕ) (x : List ℤ) (p : Place) → named r x ≡ Some p → Inside shape p → inside r shape x ≡ Some p
inside_is r shape x p e i =
    let f = four_parts _ _ _ _ p e in
    four_is _ _ _ _ p
    (below_is (axis shape 0) (given r x 0) p.a f.0 i.0) (below_is (axis shape 1) (given r x 1) p.b f.1 i.1)
    (below_is (axis shape 2) (given r x 2) p.c f.2 i.2) (below_is (axis shape 3) (given r x 3) p.d f.3 i.3)

pub found : (l : Layout) (p : Place) (k : ℕ) → Valid l → k < count l → at l k ≡ p → number p l.places ≡ Some k
found l p k v h e = number_first p l.places k h e (λ j g f. before_other (at l j) (at l k) (v.ascending j k g h) (f ∙ sym e))

pub strict_found : (l : Layout) (x : List ℤ) (p : Place) (k : ℕ) → Valid l → named (rank l) x ≡ Some p → k < count l → at l k ≡ p → strict l x ≡ Some k
strict_found l x p k v n h e = ap (λ o. number_of o l.places) n ∙ found l p k v h e

-- no place has p, so p has no number
pub strict_absent : (l : Layout) (x : List ℤ) → ((p : Place) → named (rank l) x ≡ Some p → (k : ℕ) → k < count l → at l k ≡ p → ⊥) → strict l x ≡ None
strict_absent l x f = by (named (rank l) x) refl where
  by : (o : Option Place) → named (rank l) x ≡ o → number_of o l.places ≡ None
  by None e = refl
  by (Some p) e = number_none p l.places (f p e)

pub strict_outside : (l : Layout) (x : List ℤ) → Valid l → inside (rank l) l.shape x ≡ None → strict l x ≡ None
strict_outside l x v n = strict_absent l x (λ p e k h g. let i : Inside l.shape p = rw g at (All-get_or (Inside l.shape) l.places k origin h v.inside) in none_some p (sym n ∙ inside_is (rank l) l.shape x p e i))

pub strict_inside : (l : Layout) (x : List ℤ) (p : Place) (k : ℕ) → Valid l → inside (rank l) l.shape x ≡ Some p → k < count l → at l k ≡ p → strict l x ≡ Some k
strict_inside l x p k v n h e = strict_found l x p k v (inside_says (rank l) l.shape x p n).0 h e
