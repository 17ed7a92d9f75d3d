-- The long row read by the changes of its key.
use Rattle.std.proofs.Common.{◌≡◌, ℕ, zero, suc, ◌+◌, ◌-◌, ◌*◌, ◌/◌, ◌<◌, ◌≤◌, Bool, true, false, cond, eqb, ◌⊎◌, [], ◌∷◌, ◌++◌, filter, sym, refl, ap, ◌∙◌, inl, inr, add-zero, mul-le-mul_right, add-mul, zero-add, div-mul-le_self, arith}
use native.Mathlib.Nat.{zero-div}
use lib.Arith.{digits_div}
use Rattle.std.proofs.lemmas.List.{append-nil}
use Rattle.std.proofs.lemmas.List.Elements.{filter-append}
use Rattle.std.proofs.lemmas.Nat.{div-add-mod', mod_below, div_below, le-div}
use Rattle.std.proofs.lemmas.Bool.{cases_Bool, cases_order, cases_lt, eqb-true, eqb-false, eq-eqb, ne_eqb}
use Rattle.std.specs.List.{range_with_len}
use Rattle.grouping.specs.Groups.{Grouped, changes, Runs, OneRun, OneEach, RangesCut}

cond_most : (t : Bool) → cond t 0 1 ≤ 1
cond_most true = omega arith
cond_most false = omega arith

module _ (a : ℕ → ℕ) (n : ℕ) (b : ℕ → ℕ) (k : ℕ) (g : Grouped a n b k) where
  -- the short row's places go by their keys
  rises_le : (i j : ℕ) → i ≤ j → j < k → b i ≤ b j
  rises_le i j h l = elim (cases_order i j) [ inl e ↦ (let f = ap b e in omega arith) | inr o ↦ elim o [ inl m ↦ (let f = g.rises i j m l in omega arith) | inr m ↦ absurd (omega arith) ] ]

  pub same_place : (i j : ℕ) → i < k → j < k → b i ≡ b j → i ≡ j
  same_place i j h l e = elim (cases_order i j) [ inl f ↦ f | inr o ↦ elim o [ inl m ↦ absurd (let f = g.rises i j m l in omega arith) | inr m ↦ absurd (let f = g.rises j i m h in omega arith) ] ]

  -- where the key changes, it changes to the next of the short row
  step : (i c : ℕ) → suc i < n → c < k → a i ≡ b c → (a i ≡ a (suc i) → ⊥) → (c + 1 < k) × (a (suc i) ≡ b (c + 1))
  step i c h l e ne =
      let up = g.level i (suc i) (omega arith) h in
      let o = g.over (suc i) h in
      let far : c < o.0 = elim (cases_lt c o.0) [ inl m ↦ m | inr m ↦ absurd (let r = rises_le o.0 c m l in omega (arith, o.2)) ] in
      let in_k : c + 1 < k = omega (arith, o.1) in
      let u = g.under (c + 1) in_k in
      let r = g.rises c (c + 1) (omega arith) in_k in
      let later : suc i ≤ u.0 = elim (cases_lt i u.0) [ inl m ↦ m | inr m ↦ absurd (let f = g.level u.0 i m (omega arith) in omega (arith, u.2)) ] in
      let f = g.level (suc i) u.0 later u.1 in
      let q = rises_le (c + 1) o.0 (omega arith) o.1 in
      (in_k, omega (arith, o.2, u.2))

  -- place i of the long row has the key of the place of the short one that the changes count up to
  pub at_changes : (i : ℕ) → i < n → (changes a i < k) × (a i ≡ b (changes a i))
  at_changes zero h =
      let o = g.over 0 h in
      let u = g.under 0 (omega (arith, o.1)) in
      let f = g.level 0 u.0 (omega arith) u.1 in
      elim (cases_order 0 o.0) [
        | inl e ↦ (omega (arith, o.1), o.2 ∙ ap b (sym e))
        | inr q ↦ elim q [ inl m ↦ absurd (let r = g.rises 0 o.0 m o.1 in omega (arith, o.2, u.2)) | inr m ↦ absurd (omega arith) ]
      ]
  at_changes (suc i) h =
      let p = at_changes i (omega arith) in
      let c = changes a i in
      elim (cases_Bool (eqb (a i) (a (suc i)))) [
        | inl t ↦ rw t (let z : changes a i + 0 ≡ changes a i = omega arith in rw z (p.0, sym (eqb-true (a i) (a (suc i)) t) ∙ p.1))
        | inr t ↦ rw t (step i (changes a i) h p.0 p.1 (eqb-false (a i) (a (suc i)) t))
      ]

  pub changes_rise : (i j : ℕ) → i ≤ j → changes a i ≤ changes a j
  changes_rise i zero h = let e : i ≡ 0 = omega arith in rw e (omega arith)
  changes_rise i (suc j) h = elim (cases_lt j i) [ inl m ↦ (let e : i ≡ suc j = omega arith in omega (arith, ap (changes a) e)) | inr m ↦ (let f = changes_rise i j m in omega arith) ]

  -- a place of the long row has key j exactly if the changes count up to j
  pub key_at : (i j : ℕ) → i < n → j < k → a i ≡ b j → changes a i ≡ j
  key_at i j h l e = let p = at_changes i h in same_place (changes a i) j p.0 l (sym p.1 ∙ e)

  pub at_key : (i j : ℕ) → i < n → changes a i ≡ j → a i ≡ b j
  at_key i j h e = (at_changes i h).1 ∙ ap b e

  module _ (l : ℕ) (pos : 1 ≤ l) (size : n ≡ k * l) (runs : Runs a n l) where
    quotient_step : (i : ℕ) → (suc i / l ≡ i / l) ⊎ (i / l + 1 ≤ suc i / l)
    quotient_step i = elim (cases_order (i / l) (suc i / l)) [ inl e ↦ inl (sym e) | inr o ↦ elim o [ inl m ↦ inr (omega arith) | inr m ↦ absurd (omega (arith, le-div (i / l) (suc i) l pos (omega (arith, div-mul-le_self i l)))) ] ]

    -- the changes rise no faster than the quotient
    slow : (i : ℕ) → suc i < n → changes a (suc i) + i / l ≤ changes a i + suc i / l
    slow i h =
        elim (quotient_step i) [
          | inl e ↦ (let f = eq-eqb (a i) (a (suc i)) (runs i h (sym e)) in rw f (omega arith))
          | inr m ↦ (let f = cond_most (eqb (a i) (a (suc i))) in omega arith)
        ]

    slower : (i j : ℕ) → i ≤ j → j < n → changes a j + i / l ≤ changes a i + j / l
    slower i zero h m = let e : i ≡ 0 = omega arith in rw e (omega arith)
    slower i (suc j) h m = elim (cases_lt j i) [ inl q ↦ (let e : i ≡ suc j = omega arith in rw e (omega arith)) | inr q ↦ (let f = slower i j q (omega arith) in let r = slow j m in omega arith) ]

    pub changes_are : (i : ℕ) → i < n → changes a i ≡ i / l
    changes_are i h =
        let some_k : 1 ≤ k = omega (arith, (g.over i h).1) in
        let u = g.under (k - 1) (omega arith) in
        let last = key_at u.0 (k - 1) u.1 (omega arith) u.2 in
        let up = changes_rise u.0 (n - 1) (omega (arith, u.1)) in
        let all = slower i (n - 1) (omega arith) (omega arith) in
        let most = div_below (n - 1) l k pos (omega arith) in
        let low = slower 0 i (omega arith) h in
        let z = zero-div l in
        omega arith

-- what a test that holds of the numbers from s to s + d keeps of a counting
kept_none : (t : ℕ → Bool) (a n : ℕ) → ((i : ℕ) → a ≤ i → i < a + n → t i ≡ false) → filter t (range_with_len a n) ≡ []
kept_none t a zero h = refl
kept_none t a (suc n) h = rw (h a (omega arith) (omega arith)) (kept_none t (a + 1) n (λ i p q. h i (omega arith) (omega arith)))

kept_all : (t : ℕ → Bool) (a n : ℕ) → ((i : ℕ) → a ≤ i → i < a + n → t i ≡ true) → filter t (range_with_len a n) ≡ range_with_len a n
kept_all t a zero h = refl
kept_all t a (suc n) h = rw (h a (omega arith) (omega arith)) (ap (λ xs. a ∷ xs) (kept_all t (a + 1) n (λ i p q. h i (omega arith) (omega arith))))

counting_parts : (a m n : ℕ) → range_with_len a (m + n) ≡ range_with_len a m ++ range_with_len (a + m) n
counting_parts a zero n = rw (zero-add n, add-zero a)
counting_parts a (suc m) n =
    let e : suc m + n ≡ suc (m + n) = omega arith in
    let f : a + suc m ≡ a + 1 + m = omega arith in
    rw (e, f) (ap (λ xs. a ∷ xs) (counting_parts (a + 1) m n))

pub kept_between : (t : ℕ → Bool) (n s d : ℕ) → s + d ≤ n → ((i : ℕ) → s ≤ i → i < s + d → t i ≡ true) → ((i : ℕ) → i < n → (s ≤ i → i < s + d → ⊥) → t i ≡ false) → filter t (range_with_len 0 n) ≡ range_with_len s d
kept_between t n s d h y not_there =
    let e : n ≡ s + (d + (n - (s + d))) = omega arith in
    let z : 0 + s ≡ s = omega arith in
    let r = n - (s + d) in
    let front = kept_none t 0 s (λ i p q. not_there i (omega arith) (λ u v. omega arith)) in
    let mid = kept_all t s d y in
    let back = kept_none t (s + d) r (λ i p q. not_there i (omega arith) (λ u v. omega arith)) in
    ap (λ m. filter t (range_with_len 0 m)) e
    ∙ ap (filter t) (counting_parts 0 s (d + r) ∙ ap (λ m. range_with_len 0 s ++ range_with_len m (d + r)) z ∙ ap (λ xs. range_with_len 0 s ++ xs) (counting_parts s d r))
    ∙ filter-append t (range_with_len 0 s) (range_with_len s d ++ range_with_len (s + d) r)
    ∙ ap (λ xs. filter t (range_with_len 0 s) ++ xs) (filter-append t (range_with_len s d) (range_with_len (s + d) r))
    ∙ rw (front, mid, back) (append-nil (range_with_len s d))

pub ranges_cut : RangesCut
ranges_cut a n b k g j s d l r =
    kept_between (λ i. eqb (a i) (b j)) n s d r.ends
    (λ i p q. eq-eqb (a i) (b j) (at_key a n b k g i j (omega (arith, r.ends)) (r.in' i p q)))
    (λ i p q. ne_eqb (a i) (b j) (λ e. let o = r.out i p (key_at a n b k g i j p l e) in q o.0 o.1))

pub one_run : OneRun
one_run a n b k l g p size runs j h =
    ranges_cut a n b k g j (j * l) l h record {
      some = omega arith;
      ends = omega (arith, mul-le-mul_right l h, add-mul j 1 l);
      in' = λ i u v. changes_are a n b k g l p size runs i (omega (arith, mul-le-mul_right l h, add-mul j 1 l)) ∙ between i u v;
      out = λ i u e. let f : i / l ≡ j = sym (changes_are a n b k g l p size runs i u) ∙ e in let q = div-add-mod' i l in let m = mod_below i l p in let x = ap (λ y. y * l) f in (omega arith, omega arith);
    }
  where
    between : (i : ℕ) → j * l ≤ i → i < j * l + l → i / l ≡ j
    between i u v = let e : i ≡ j * l + (i - j * l) = omega arith in ap (λ y. y / l) e ∙ digits_div j (omega arith)

pub one_each : OneEach
one_each a n b k l g p size runs i h =
    let c = at_changes a n b k g i h in
    let e = changes_are a n b k g l p size runs i h in
    kept_between (λ j. eqb (b j) (a i)) k (i / l) 1 (omega (arith, c.0))
    (λ j u v. let f : j ≡ i / l = omega arith in eq-eqb (b j) (a i) (ap b (f ∙ sym e) ∙ sym c.1))
    (λ j u v. ne_eqb (b j) (a i) (λ q. let f : j ≡ changes a i = same_place a n b k g j (changes a i) u c.0 (q ∙ c.1) in v (omega arith) (omega arith)))
