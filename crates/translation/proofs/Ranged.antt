-- The ranges of a layout are those of its key.
use Rattle.std.proofs.Common.{◌≡◌, ℕ, zero, suc, ◌+◌, ◌-◌, ◌<◌, ◌≤◌, Bool, true, false, cond, eqb, List, ◌∷◌, length, get_or, sym, refl, ap, ◌∙◌, subst, inl, inr, le_of_suc-le-suc, arith}
use Rattle.std.proofs.lemmas.Bool.{cases_Bool, cases_lt, eq-eqb, ne_eqb, not-true, not-false}
use Rattle.layout.specs.Layouts.{Layout, Valid, count, at}
use Rattle.grouping.specs.Groups.{changes, Range}
use Rattle.grouping.specs.Keys.{key}
use Rattle.grouping.proofs.Keyed.{agree_key, key_agree, small_at}
use Rattle.translation.specs.Cuts.{cut, ranges_from, ranges}
use Rattle.translation.proofs.Covering.{agrees_true, agrees_false}

mono : (a : ℕ → ℕ) (i j : ℕ) → i ≤ j → changes a i ≤ changes a j
mono a i zero h = let e : i ≡ 0 = omega arith in rw e (omega arith)
mono a i (suc j) h = elim (cases_lt j i) [ inl m ↦ (let e : i ≡ suc j = omega arith in omega (arith, ap (changes a) e)) | inr m ↦ (let f = mono a i j m in omega arith) ]

-- t tells where the key changes, among the first n
record Tells (t : ℕ → Bool) (a : ℕ → ℕ) (n : ℕ) : Type 0 where
  where_cut : (i : ℕ) → 1 ≤ i → i < n → t i ≡ true → changes a i ≡ changes a (i - 1) + 1
  elsewhere : (i : ℕ) → 1 ≤ i → i < n → t i ≡ false → changes a i ≡ changes a (i - 1)

-- the open range began at s, and place i is the next; its places have c changes before them
record Open (a : ℕ → ℕ) (n s i c : ℕ) : Type 0 where
  begun : s < i
  same : (x : ℕ) → s ≤ x → x < i → changes a x ≡ c
  first : (x : ℕ) → x < n → changes a x ≡ c → s ≤ x

module _ (t : ℕ → Bool) (a : ℕ → ℕ) (n : ℕ) (tells : Tells t a n) where
  last_of : (s i c : ℕ) → Open a n s i c → changes a (i - 1) ≡ c
  last_of s i c o = let b = o.begun in o.same (i - 1) (omega arith) (omega arith)

  goes : (s i c : ℕ) → Open a n s i c → i < n → t i ≡ false → Open a n s (i + 1) c
  goes s i c o h e =
      let b = o.begun in
      let f = tells.elsewhere i (omega arith) h e in
      let g = last_of s i c o in
      record {
        begun = omega arith;
        same = λ x p q. elim (cases_lt x i) [ inl m ↦ o.same x p m | inr m ↦ (let z : x ≡ i = omega arith in ap (changes a) z ∙ f ∙ g) ];
        first = o.first;
      }

  opens : (s i c : ℕ) → Open a n s i c → i < n → t i ≡ true → Open a n i (i + 1) (c + 1)
  opens s i c o h e =
      let b = o.begun in
      let f = tells.where_cut i (omega arith) h e in
      let g = last_of s i c o in
      record {
        begun = omega arith;
        same = λ x p q. (let z : x ≡ i = omega arith in ap (changes a) z ∙ f ∙ ap (λ y. y + 1) g);
        first = λ x p q. elim (cases_lt x i) [ inl m ↦ absurd (let k = mono a x (i - 1) (omega arith) in omega arith) | inr m ↦ m ];
      }

  closed : (s i c : ℕ) → Open a n s i c → i < n → t i ≡ true → Range a n c s i
  closed s i c o h e =
      let b = o.begun in
      let f = tells.where_cut i (omega arith) h e in
      let g = last_of s i c o in
      record {
        some = b;
        ends = omega arith;
        in' = o.same;
        out = λ x p q. (o.first x p q, elim (cases_lt x i) [ inl m ↦ m | inr m ↦ absurd (let k = mono a i x m in omega arith) ]);
      }

  -- each range of those from place i on
  range_at : (m s i c : ℕ) → i + m ≡ n → Open a n s i c → (j : ℕ) → j < length (ranges_from t s i m) → Range a n (c + j) (get_or (ranges_from t s i m) j (0, 0)).0 (get_or (ranges_from t s i m) j (0, 0)).1
  range_at zero s i c e o zero h =
      let z : c + 0 ≡ c = omega arith in
      rw z record { some = o.begun; ends = omega arith; in' = o.same; out = λ x p q. (o.first x p q, omega arith) }
  range_at zero s i c e o (suc j) h = absurd (omega arith)
  range_at (suc m) s i c e o j h =
      elim (cases_Bool (t i)) [
        | inl y ↦ (
            let g : ranges_from t s i (suc m) ≡ (s, i) ∷ ranges_from t i (i + 1) m = rw y refl in
            let rest = λ (j : ℕ) (h : j < length (ranges_from t i (i + 1) m)). range_at m i (i + 1) (c + 1) (omega arith) (opens s i c o (omega arith) y) j h in
            let P : List (ℕ × ℕ) → Type 0 = λ rs. Range a n (c + j) (get_or rs j (0, 0)).0 (get_or rs j (0, 0)).1 in
            subst P (sym g) (both m s i c j y (closed s i c o (omega arith) y) rest (subst (λ rs. j < length rs) g h)))
        | inr y ↦ (
            let g : ranges_from t s i (suc m) ≡ ranges_from t s (i + 1) m = rw y refl in
            let P : List (ℕ × ℕ) → Type 0 = λ rs. Range a n (c + j) (get_or rs j (0, 0)).0 (get_or rs j (0, 0)).1 in
            subst P (sym g) (range_at m s (i + 1) c (omega arith) (goes s i c o (omega arith) y) j (subst (λ rs. j < length rs) g h)))
      ]
    where
      both : (m s i c j : ℕ) → t i ≡ true → Range a n c s i → ((j : ℕ) → j < length (ranges_from t i (i + 1) m) → Range a n (c + 1 + j) (get_or (ranges_from t i (i + 1) m) j (0, 0)).0 (get_or (ranges_from t i (i + 1) m) j (0, 0)).1) → j < length ((s, i) ∷ ranges_from t i (i + 1) m) → Range a n (c + j) (get_or ((s, i) ∷ ranges_from t i (i + 1) m) j (0, 0)).0 (get_or ((s, i) ∷ ranges_from t i (i + 1) m) j (0, 0)).1
      both m s i c zero y here rest h = let z : c + 0 ≡ c = omega arith in rw z here
      both m s i c (suc j) y here rest h =
          let z : c + suc j ≡ c + 1 + j = omega arith in
          let P : ℕ → Type 0 = λ k. Range a n k (get_or (ranges_from t i (i + 1) m) j (0, 0)).0 (get_or (ranges_from t i (i + 1) m) j (0, 0)).1 in
          subst P (sym z) (rest j (le_of_suc-le-suc h))

module _ (m : ℕ) (l : Layout) (v : Valid l) where
  cut_tells : Tells (cut m l) (λ i. key m (at l i)) (count l)
  cut_tells = record {
    where_cut = λ i h k e. (
        let z : suc (i - 1) ≡ i = omega arith in
        let ne : key m (at l (i - 1)) ≡ key m (at l i) → ⊥ = λ q. agrees_false m (at l (i - 1)) (at l i) (not-true _ e) (key_agree m (at l (i - 1)) (at l i) (small_at l v (i - 1) (omega arith)) (small_at l v i k) q) in
        let f = ne_eqb (key m (at l (i - 1))) (key m (at l i)) ne in
        ap (changes (λ i. key m (at l i))) (sym z) ∙ ap (λ x. changes (λ i. key m (at l i)) (i - 1) + cond (eqb (key m (at l (i - 1))) (key m (at l x))) 0 1) z ∙ ap (λ x. changes (λ i. key m (at l i)) (i - 1) + cond x 0 1) f);
    elsewhere = λ i h k e. (
        let z : suc (i - 1) ≡ i = omega arith in
        let q = agree_key m (at l (i - 1)) (at l i) (agrees_true m (at l (i - 1)) (at l i) (not-false _ e)) in
        let f = eq-eqb (key m (at l (i - 1))) (key m (at l i)) q in
        let u : changes (λ i. key m (at l i)) (i - 1) + 0 ≡ changes (λ i. key m (at l i)) (i - 1) = omega arith in
        ap (changes (λ i. key m (at l i))) (sym z) ∙ ap (λ x. changes (λ i. key m (at l i)) (i - 1) + cond (eqb (key m (at l (i - 1))) (key m (at l x))) 0 1) z ∙ ap (λ x. changes (λ i. key m (at l i)) (i - 1) + cond x 0 1) f ∙ u);
  }

  pub range_of : (j : ℕ) → j < length (ranges m l) → Range (λ i. key m (at l i)) (count l) j (get_or (ranges m l) j (0, 0)).0 (get_or (ranges m l) j (0, 0)).1
  range_of j h =
      let some = v.some in
      let z : 0 + j ≡ j = omega arith in
      let P : ℕ → Type 0 = λ k. Range (λ i. key m (at l i)) (count l) k (get_or (ranges m l) j (0, 0)).0 (get_or (ranges m l) j (0, 0)).1 in
      subst P z (range_at (cut m l) (λ i. key m (at l i)) (count l) cut_tells (count l - 1) 0 1 0 (omega arith)
      record { begun = omega arith; same = λ x p q. (let e : x ≡ 0 = omega arith in rw e refl); first = λ x p q. omega arith } j h)
