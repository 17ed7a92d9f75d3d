-- One pass over two rows of places that ascend.
use Rattle.std.proofs.Common.{◌≡◌, ℕ, zero, suc, ◌+◌, ◌-◌, ◌<◌, ◌≤◌, Bool, true, false, cond, eqb, take, Decides, sym, refl, ap, ◌∙◌, subst, inl, inr, arith}
use Rattle.std.proofs.lemmas.Bool.{cases_Bool, cases_lt, eqb-true, eq-eqb, and_parts, and_from, or_cases, or_left, or_right, true≢false, false≢true}
use Rattle.std.proofs.lemmas.Bool.Decides.{same_from_decides}
use Rattle.layout.specs.Places.{Place, Agree, entries}
use Rattle.layout.specs.Layouts.{Layout, Valid, count, rank, at}
use Rattle.layout.proofs.Finding.{same_true}
use Rattle.grouping.specs.Groups.{Grouped, changes}
use Rattle.grouping.specs.Keys.{key, agrees, Covered}
use Rattle.grouping.proofs.Grouping.{at_changes, key_at, changes_rise}
use Rattle.grouping.proofs.Keyed.{grouped, agree_key, key_agree, small_at}
use Rattle.translation.specs.Cuts.{any, all, covered}

pub agrees_true : (m : ℕ) (p q : Place) → agrees m p q ≡ true → Agree m p q
agrees_true zero p q h = refl
agrees_true (suc zero) p q h = let a = eqb-true p.a q.a h in cc
agrees_true (suc (suc zero)) p q h =
    let s = and_parts (eqb p.a q.a) _ h in
    let a = eqb-true p.a q.a s.0 in
    let b = eqb-true p.b q.b s.1 in
    cc
agrees_true (suc (suc (suc zero))) p q h =
    let s = and_parts (eqb p.a q.a) _ h in
    let t = and_parts (eqb p.b q.b) _ s.1 in
    let a = eqb-true p.a q.a s.0 in
    let b = eqb-true p.b q.b t.0 in
    let c = eqb-true p.c q.c t.1 in
    cc
agrees_true (suc (suc (suc (suc m)))) p q h = ap (λ (x : Place). take (suc (suc (suc (suc m)))) (entries x)) (same_true p q h)

pub true_agrees : (m : ℕ) (p q : Place) → Agree m p q → agrees m p q ≡ true
true_agrees zero p q e = refl
true_agrees (suc zero) p q e = let a : p.a ≡ q.a = cc in eq-eqb p.a q.a a
true_agrees (suc (suc zero)) p q e =
    let a : p.a ≡ q.a = cc in let b : p.b ≡ q.b = cc in
    simp (eq-eqb p.a q.a a, eq-eqb p.b q.b b)
true_agrees (suc (suc (suc zero))) p q e =
    let a : p.a ≡ q.a = cc in let b : p.b ≡ q.b = cc in let c : p.c ≡ q.c = cc in
    simp (eq-eqb p.a q.a a, eq-eqb p.b q.b b, eq-eqb p.c q.c c)
true_agrees (suc (suc (suc (suc m)))) p q e =
    let a : p.a ≡ q.a = cc in let b : p.b ≡ q.b = cc in let c : p.c ≡ q.c = cc in let d : p.d ≡ q.d = cc in
    simp (eq-eqb p.a q.a a, eq-eqb p.b q.b b, eq-eqb p.c q.c c, eq-eqb p.d q.d d)

pub agrees_false : (m : ℕ) (p q : Place) → agrees m p q ≡ false → Agree m p q → ⊥
agrees_false m p q h e = true≢false (sym (true_agrees m p q e) ∙ h)

-- The pass has come to place i of l, the longer row, and its last place agrees with place j of r
pub record Reached (m : ℕ) (l r : Layout) (i j : ℕ) : Type 0 where
  pub some : 1 ≤ i
  pub there : j < count r
  pub last : Agree m (at l (i - 1)) (at r j)
  pub over : (x : ℕ) → x < i → (y : ℕ) × (y < count r) × Agree m (at l x) (at r y)
  pub under : (y : ℕ) → y ≤ j → (x : ℕ) × (x < i) × Agree m (at l x) (at r y)

module _ (m : ℕ) (l r : Layout) where
  pub reached_more : (i j k : ℕ) → Reached m l r i j → j ≤ k → k ≤ j + 1 → k < count r → Agree m (at l i) (at r k) → Reached m l r (i + 1) k
  reached_more i j k h low high there e = record {
    some = omega arith;
    there = there;
    last = let z : i + 1 - 1 ≡ i = omega arith in rw z e;
    over = λ x g. elim (cases_lt x i) [ inl a ↦ h.over x a | inr a ↦ (k, there, let z : x ≡ i = omega arith in rw z e) ];
    under = λ y g. elim (cases_lt j y) [
      | inl a ↦ (i, omega arith, let z : y ≡ k = omega arith in rw z e)
      | inr a ↦ (let u = h.under y a in (u.0, omega (arith, u.1), u.2))
    ];
  }

  pub reached_all : (i j : ℕ) → Reached m l r i j → i ≡ count l → j + 1 ≡ count r → Covered m l r
  reached_all i j h e f = record { over = λ x g. h.over x (omega arith); under = λ y g. (let u = h.under y (omega arith) in (u.0, omega (arith, u.1), u.2)) }

  module _ (v : Valid l) (w : Valid r) (ranked : rank r ≤ m) (c : Covered m l r) where
    group : Grouped (λ i. key m (at l i)) (count l) (λ j. key m (at r j)) (count r)
    group = grouped m l r v w ranked c

    come_to : (i j : ℕ) → i < count l → j < count r → Agree m (at l i) (at r j) → changes (λ i. key m (at l i)) i ≡ j
    come_to i j h g e = key_at (λ i. key m (at l i)) (count l) (λ j. key m (at r j)) (count r) group i j h g (agree_key m (at l i) (at r j) e)

    meets : (i : ℕ) → i < count l → (changes (λ i. key m (at l i)) i < count r) × Agree m (at l i) (at r (changes (λ i. key m (at l i)) i))
    meets i h =
        let a = at_changes (λ i. key m (at l i)) (count l) (λ j. key m (at r j)) (count r) group i h in
        (a.0, key_agree m (at l i) (at r (changes (λ i. key m (at l i)) i)) (small_at l v i h) (small_at r w _ a.0) a.1)

    -- where both rows begin, they agree
    pub begin : Agree m (at l 0) (at r 0)
    begin = (meets 0 v.some).1

    -- the next place of the longer row agrees with place j or the one after it
    pub goes_on : (i j : ℕ) → Reached m l r i j → i < count l → (Agree m (at l i) (at r j) → ⊥) → (j + 1 < count r → Agree m (at l i) (at r (j + 1)) → ⊥) → ⊥
    goes_on i j h n no_j no_next =
        let a = λ (i : ℕ). key m (at l i) in
        let e = come_to (i - 1) j (omega (arith, h.some)) h.there h.last in
        let z : suc (i - 1) ≡ i = omega (arith, h.some) in
        let x = meets i n in
        let step : changes (λ i. key m (at l i)) (suc (i - 1)) ≡ changes (λ i. key m (at l i)) (i - 1) + cond (eqb (key m (at l (i - 1))) (key m (at l (suc (i - 1))))) 0 1 = refl in
        let at_i = ap (changes (λ i. key m (at l i))) z in
        elim (cases_Bool (eqb (key m (at l (i - 1))) (key m (at l (suc (i - 1)))))) [
          | inl t ↦ (let f : changes (λ i. key m (at l i)) i ≡ j = sym at_i ∙ step ∙ rw t (omega arith) in no_j (subst (λ k. Agree m (at l i) (at r k)) f x.1))
          | inr t ↦ (let f : changes (λ i. key m (at l i)) i ≡ j + 1 = sym at_i ∙ step ∙ rw t (omega arith) in no_next (omega (arith, x.0)) (subst (λ k. Agree m (at l i) (at r k)) f x.1))
        ]

    -- at the end of the longer row the shorter is at its end too
    pub ends : (i j : ℕ) → Reached m l r i j → i ≡ count l → j + 1 ≡ count r
    ends i j h n =
        let e = come_to (i - 1) j (omega (arith, h.some)) h.there h.last in
        let u = c.under (count r - 1) (omega (arith, h.there)) in
        let f = come_to u.0 (count r - 1) u.1 (omega (arith, h.there)) u.2 in
        let g = changes_rise (λ i. key m (at l i)) (count l) (λ j. key m (at r j)) (count r) group u.0 (i - 1) (omega (arith, u.1)) in
        omega (arith, h.there)

-- the tests of `any`, `all` and `covered`
pub any_says : (t : ℕ → Bool) (n : ℕ) → any t n ≡ true → (k : ℕ) × (k < n) × (t k ≡ true)
any_says t zero h = absurd (false≢true h)
any_says t (suc n) h = elim (or_cases (any t n) (t n) h) [ inl a ↦ (let r = any_says t n a in (r.0, omega (arith, r.1), r.2)) | inr a ↦ (n, omega arith, a) ]

pub any_is : (t : ℕ → Bool) (n k : ℕ) → k < n → t k ≡ true → any t n ≡ true
any_is t zero k h e = absurd (omega arith)
any_is t (suc n) k h e = elim (cases_lt k n) [ inl a ↦ or_left (any t n) (t n) (any_is t n k a e) | inr a ↦ (let z : k ≡ n = omega arith in or_right (any t n) (t n) (sym (ap t z) ∙ e)) ]

pub all_says : (t : ℕ → Bool) (n : ℕ) → all t n ≡ true → (k : ℕ) → k < n → t k ≡ true
all_says t zero h k l = absurd (omega arith)
all_says t (suc n) h k l = let p = and_parts (all t n) (t n) h in elim (cases_lt k n) [ inl a ↦ all_says t n p.0 k a | inr a ↦ (let z : k ≡ n = omega arith in ap t z ∙ p.1) ]

pub all_is : (t : ℕ → Bool) (n : ℕ) → ((k : ℕ) → k < n → t k ≡ true) → all t n ≡ true
all_is t zero h = refl
all_is t (suc n) h = and_from (all t n) (t n) (all_is t n (λ k l. h k (omega arith))) (h n (omega arith))

pub covered_says : (m : ℕ) (s v : Layout) → covered m s v ≡ true → Covered m s v
covered_says m s v h =
    let p = and_parts (all (λ i. any (λ j. agrees m (at s i) (at v j)) (count v)) (count s)) _ h in
    record {
      over = λ i l. (let a = any_says (λ j. agrees m (at s i) (at v j)) (count v) (all_says (λ i. any (λ j. agrees m (at s i) (at v j)) (count v)) (count s) p.0 i l) in (a.0, a.1, agrees_true m (at s i) (at v a.0) a.2));
      under = λ j l. (let a = any_says (λ i. agrees m (at s i) (at v j)) (count s) (all_says (λ j. any (λ i. agrees m (at s i) (at v j)) (count s)) (count v) p.1 j l) in (a.0, a.1, agrees_true m (at s a.0) (at v j) a.2));
    }

pub covered_is : (m : ℕ) (s v : Layout) → Covered m s v → covered m s v ≡ true
covered_is m s v c =
    and_from _ _
    (all_is (λ i. any (λ j. agrees m (at s i) (at v j)) (count v)) (count s) (λ i l. let o = c.over i l in any_is (λ j. agrees m (at s i) (at v j)) (count v) o.0 o.1 (true_agrees m (at s i) (at v o.0) o.2)))
    (all_is (λ j. any (λ i. agrees m (at s i) (at v j)) (count s)) (count v) (λ j l. let u = c.under j l in any_is (λ i. agrees m (at s i) (at v j)) (count s) u.0 u.1 (true_agrees m (at s u.0) (at v j) u.2)))

pub covered_decides : (m : ℕ) (s v : Layout) → Decides (covered m s v) (Covered m s v)
covered_decides m s v = (covered_says m s v, covered_is m s v)

pub other_way : (m : ℕ) (s v : Layout) → Covered m s v → Covered m v s
other_way m s v c = record {
  over = λ j l. (let u = c.under j l in (u.0, u.1, sym u.2));
  under = λ i l. (let o = c.over i l in (o.0, o.1, sym o.2));
}

pub covered_by : (m n : ℕ) (s v : Layout) (r : Bool) → m ≡ n → Decides r (Covered m s v) → r ≡ covered n s v
covered_by m n s v r e d = same_from_decides r (covered m s v) d (covered_decides m s v) ∙ ap (λ k. covered k s v) e

pub covered_by_other : (m n : ℕ) (s v : Layout) (r : Bool) → m ≡ n → Decides r (Covered m v s) → r ≡ covered n s v
covered_by_other m n s v r e d = covered_by m n s v r e (λ h. other_way m v s (d.0 h), λ c. d.1 (other_way m s v c))
