-- The reader's rules for layouts.
use Rattle.std.proofs.Common.{◌≡◌, ℕ, zero, suc, ◌+◌, ◌/◌, ◌<◌, ◌≤◌, Bool, eqb, filter, sym, refl, ap, ◌∙◌, subst, div-one, arith}
use Rattle.std.proofs.lemmas.Bool.Decides.{nat_tests}
use Rattle.std.proofs.lemmas.Bool.{ne_eqb}
use Rattle.std.specs.List.{range_with_len, ContainsAt as Has}
use Rattle.layout.specs.declared.kind.LayoutKind.TheVariants.{Dense}
use Rattle.layout.specs.Places.{Place, origin, Inside}
use Rattle.layout.specs.Layouts.{Layout, Valid, OfKind, count, at}
use Rattle.layout.specs.Radix.{size, ravel, unravel}
use Rattle.layout.proofs.Radix.{unravel_inside, unravel_before, ravel_below, unravel_ravel}
use Rattle.grouping.specs.Groups.{Grouped, Runs, changes, with_key}
use Rattle.grouping.specs.Keys.{key, agrees, over_place, InRuns, by_dense, by_one, by_none, by_single, Contraction, Spreading, Ranging}
use Rattle.grouping.proofs.Grouping.{at_changes, one_run, one_each, ranges_cut}
use Rattle.grouping.proofs.Keyed.{Small, grouped, made, axis_small, keys_level, key_before, small_at, small_inside, inside_at, keys_rise, dense_runs}

-- two rows that both rise, with the same keys, are the same row
strictly : (a : ℕ → ℕ) (n : ℕ) → ((i j : ℕ) → i < j → j < n → a i < a j) → (i : ℕ) → i < n → changes a i ≡ i
strictly a n h zero l = refl
strictly a n h (suc i) l = let e = ne_eqb (a i) (a (suc i)) (λ q. (let r = h i (suc i) (omega arith) l in omega arith)) in rw e (let f = strictly a n h i (omega arith) in omega arith)

-- the places of a dense layout are those that its shape's numbers unravel to
module _ (l : Layout) (v : Valid l) (d : l.kind ≡ Dense) where
  every_in : (p : Place) → Inside l.shape p → Has l.places p
  every_in = subst (λ k. OfKind k l) d v.of_kind

  dense_grouped : Grouped (λ i. key 4 (at l i)) (count l) (λ j. key 4 (unravel l.shape j)) (size l.shape)
  dense_grouped =
      let s = l.shape in
      let x = axis_small l v in
      let here : (j : ℕ) → j < size s → Inside s (unravel s j) = unravel_inside s (x 1).0 (x 2).0 (x 3).0 in
      record {
        some = v.some;
        level = keys_level l v 4;
        rises = λ i j h k. key_before (unravel s i) (unravel s j) (small_inside l v (unravel s i) (here i (omega arith))) (small_inside l v (unravel s j) (here j k)) (unravel_before s (x 1).0 (x 2).0 (x 3).0 i j h);
        over = λ i h. (let n = inside_at l v i h in (ravel s (at l i), ravel_below s (at l i) n, ap (key 4) (sym (unravel_ravel s (at l i) n))));
        under = λ j h. (let e = every_in (unravel s j) (here j h) in (e.0, e.1, ap (key 4) (e.2 origin)));
      }

  pub dense_at : (i : ℕ) → i < count l → at l i ≡ unravel l.shape i
  dense_at i h =
      let s = l.shape in
      let x = axis_small l v in
      let c = at_changes (λ i. key 4 (at l i)) (count l) (λ j. key 4 (unravel s j)) (size s) dense_grouped i h in
      let e = strictly (λ i. key 4 (at l i)) (count l) (keys_rise l v 4 v.ranked) i h in
      let k : i < size s = omega arith in
      let p = small_at l v i h in
      let q = small_inside l v (unravel s i) (unravel_inside s (x 1).0 (x 2).0 (x 3).0 i k) in
      let f : key 4 (at l i) ≡ key 4 (unravel s i) = c.1 ∙ ap (λ j. key 4 (unravel s j)) e in
      made (at l i) (unravel s i) (omega arith) (omega arith) (omega arith) (omega arith)

runs_of : (m w : ℕ) (l r : Layout) → Valid l → Grouped (λ i. key m (at l i)) (count l) (λ j. key m (at r j)) (count r) → InRuns m l r w → Runs (λ i. key m (at l i)) (count l) w
runs_of m w l r v g (by_dense d e) i h q =
    ap (key m) (dense_at l v d i (omega arith)) ∙ dense_runs m l.shape (count l) i h (ap (λ x. i / x) (sym e) ∙ q ∙ ap (λ x. suc i / x) e) ∙ ap (key m) (sym (dense_at l v d (suc i) h))
runs_of m w l r v g (by_one e) i h q = absurd (let f = ap (λ x. i / x) (sym e) ∙ q ∙ ap (λ x. suc i / x) e in omega (arith, div-one i, div-one (suc i), f))
runs_of m w l r v g (by_none e) i h q = ap (λ x. key x (at l i)) e ∙ ap (λ x. key x (at l (suc i))) (sym e)
runs_of m w l r v g (by_single e) i h q =
    let x = g.over i (omega arith) in
    let y = g.over (suc i) h in
    x.2 ∙ ap (λ j. key m (at r j)) (let z : x.0 ≡ y.0 = omega (arith, x.1, y.1) in z) ∙ sym y.2

agrees_key : (m : ℕ) (p q : Place) → Small p → Small q → agrees m p q ≡ eqb (key m p) (key m q)
agrees_key zero p q s t = refl
agrees_key (suc zero) p q s t = refl
agrees_key (suc (suc zero)) p q s t = grind (arith, nat_tests)
agrees_key (suc (suc (suc zero))) p q s t = grind (arith, nat_tests)
agrees_key (suc (suc (suc (suc m)))) p q s t = grind (arith, nat_tests)

kept_same : (t u : ℕ → Bool) (a n : ℕ) → ((i : ℕ) → a ≤ i → i < a + n → t i ≡ u i) → filter t (range_with_len a n) ≡ filter u (range_with_len a n)
kept_same t u a zero h = refl
kept_same t u a (suc n) h = let e = h a (omega arith) (omega arith) in let f = kept_same t u (a + 1) n (λ i p q. h i (omega arith) (omega arith)) in cc

over_is : (m : ℕ) (l : Layout) (p : Place) → Valid l → Small p → over_place m l p ≡ with_key (λ i. key m (at l i)) (count l) (key m p)
over_is m l p v s = kept_same (λ i. agrees m (at l i) p) (λ i. eqb (key m (at l i)) (key m p)) 0 (count l) (λ i h k. agrees_key m (at l i) p (small_at l v i (omega arith)) s)

pub contraction : Contraction
contraction m w l r v u h c p size runs j k =
    let g = grouped m l r v u h c in
    over_is m l (at r j) v (small_at r u j k)
    ∙ one_run (λ i. key m (at l i)) (count l) (λ j. key m (at r j)) (count r) w g p size (runs_of m w l r v g runs) j k

pub spreading : Spreading
spreading m w r l u v h c p size runs i k =
    let g = grouped m l r v u h c in
    over_is m r (at l i) u (small_at l v i k)
    ∙ one_each (λ i. key m (at l i)) (count l) (λ j. key m (at r j)) (count r) w g p size (runs_of m w l r v g runs) i k

pub ranging : Ranging
ranging m l r v u h c j s d k range =
    over_is m l (at r j) v (small_at r u j k)
    ∙ ranges_cut (λ i. key m (at l i)) (count l) (λ j. key m (at r j)) (count r) (grouped m l r v u h c) j s d k range
