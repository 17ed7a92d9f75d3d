-- Places by their keys.
use Rattle.std.proofs.Common.{◌≡◌, ℕ, zero, suc, ◌+◌, ◌*◌, ◌/◌, ◌%◌, ◌<◌, ◌≤◌, List, length, sym, refl, ap, ◌∙◌, inl, inr, div-one, arith}
use native.Mathlib.Nat.{div-div-eq-div-mul}
use Rattle.std.proofs.lemmas.List.{get_or_past}
use Rattle.std.proofs.ByRecursion.{All-get_or}
use Rattle.std.proofs.lemmas.Bool.{cases_order, cases_lt}
use Rattle.layout.specs.Places.{Place, place, origin, Before, Inside, Agree, axis}
use Rattle.layout.specs.Layouts.{Layout, Valid, count, rank, at}
use Rattle.layout.specs.Radix.{unravel}
use Rattle.layout.proofs.Finding.{before_other}
use Rattle.grouping.specs.Groups.{Grouped, Runs}
use Rattle.grouping.specs.Keys.{key, tail_size, Covered}

pub record Small (p : Place) : Type 0 where
  pub a< : p.a < 4096
  pub b< : p.b < 4096
  pub c< : p.c < 4096
  pub d< : p.d < 4096

pub key_level : (m : ℕ) (p q : Place) → Small p → Small q → Before p q → key m p ≤ key m q
key_level zero p q s t h = omega arith
key_level (suc zero) p q s t h = elim h [ inl u ↦ omega arith | inr v ↦ omega (arith, v.0) ]
key_level (suc (suc zero)) p q s t h = elim h [ inl u ↦ omega arith | inr v ↦ elim v.1 [ inl u ↦ omega (arith, v.0) | inr w ↦ omega (arith, v.0, w.0) ] ]
key_level (suc (suc (suc zero))) p q s t h =
    elim h [ inl u ↦ omega arith | inr v ↦ elim v.1 [ inl u ↦ omega (arith, v.0) | inr w ↦ elim w.1 [ inl u ↦ omega (arith, v.0, w.0) | inr x ↦ omega (arith, v.0, w.0, x.0) ] ] ]
key_level (suc (suc (suc (suc m)))) p q s t h =
    elim h [ inl u ↦ omega arith | inr v ↦ elim v.1 [ inl u ↦ omega (arith, v.0) | inr w ↦ elim w.1 [ inl u ↦ omega (arith, v.0, w.0) | inr x ↦ omega (arith, v.0, w.0, x.0, x.1) ] ] ]

pub key_before : (p q : Place) → Small p → Small q → Before p q → key 4 p < key 4 q
key_before p q s t h =
    elim h [ inl u ↦ omega arith | inr v ↦ elim v.1 [ inl u ↦ omega (arith, v.0) | inr w ↦ elim w.1 [ inl u ↦ omega (arith, v.0, w.0) | inr x ↦ omega (arith, v.0, w.0, x.0, x.1) ] ] ]

pub agree_key : (m : ℕ) (p q : Place) → Agree m p q → key m p ≡ key m q
agree_key zero p q e = refl
agree_key (suc zero) p q e = let a : p.a ≡ q.a = cc in a
agree_key (suc (suc zero)) p q e = let a : p.a ≡ q.a = cc in let b : p.b ≡ q.b = cc in omega arith
agree_key (suc (suc (suc zero))) p q e = let a : p.a ≡ q.a = cc in let b : p.b ≡ q.b = cc in let c : p.c ≡ q.c = cc in omega arith
agree_key (suc (suc (suc (suc m)))) p q e = let a : p.a ≡ q.a = cc in let b : p.b ≡ q.b = cc in let c : p.c ≡ q.c = cc in let d : p.d ≡ q.d = cc in omega arith

pub key_agree : (m : ℕ) (p q : Place) → Small p → Small q → key m p ≡ key m q → Agree m p q
key_agree zero p q s t e = refl
key_agree (suc zero) p q s t e = cc
key_agree (suc (suc zero)) p q s t e = let a : p.a ≡ q.a = omega arith in let b : p.b ≡ q.b = omega arith in cc
key_agree (suc (suc (suc zero))) p q s t e = let a : p.a ≡ q.a = omega arith in let b : p.b ≡ q.b = omega arith in let c : p.c ≡ q.c = omega arith in cc
key_agree (suc (suc (suc (suc m)))) p q s t e = let a : p.a ≡ q.a = omega arith in let b : p.b ≡ q.b = omega arith in let c : p.c ≡ q.c = omega arith in let d : p.d ≡ q.d = omega arith in cc

-- the axes and places of a valid layout
pub axis_small : (l : Layout) → Valid l → (i : ℕ) → (1 ≤ axis l.shape i) × (axis l.shape i ≤ 4096)
axis_small l v i =
    elim (cases_lt i (length l.shape)) [
      | inl h ↦ All-get_or (λ n. (1 ≤ n) × (n ≤ 4096)) l.shape i 1 h v.axes
      | inr h ↦ (let e = get_or_past l.shape i 1 h in omega arith)
    ]

pub inside_at : (l : Layout) → Valid l → (i : ℕ) → i < count l → Inside l.shape (at l i)
inside_at l v i h = All-get_or (Inside l.shape) l.places i origin h v.inside

pub small_inside : (l : Layout) → Valid l → (p : Place) → Inside l.shape p → Small p
small_inside l v p n =
    let x = axis_small l v in
    record { a< = omega (arith, n.0, (x 0).1); b< = omega (arith, n.1, (x 1).1); c< = omega (arith, n.2, (x 2).1); d< = omega (arith, n.3, (x 3).1) }

pub small_at : (l : Layout) → Valid l → (i : ℕ) → i < count l → Small (at l i)
small_at l v i h = small_inside l v (at l i) (inside_at l v i h)

-- past the rank the entries are 0
record ZeroFrom (m : ℕ) (p : Place) : Type 0 where
  at_a : m ≤ 0 → p.a ≡ 0
  at_b : m ≤ 1 → p.b ≡ 0
  at_c : m ≤ 2 → p.c ≡ 0
  at_d : m ≤ 3 → p.d ≡ 0

zero_inside : (l : Layout) (m : ℕ) → rank l ≤ m → (p : Place) → Inside l.shape p → ZeroFrom m p
zero_inside l m r p n = record {
  at_a = λ h. (let e = get_or_past l.shape 0 1 (omega arith) in omega (arith, n.0));
  at_b = λ h. (let e = get_or_past l.shape 1 1 (omega arith) in omega (arith, n.1));
  at_c = λ h. (let e = get_or_past l.shape 2 1 (omega arith) in omega (arith, n.2));
  at_d = λ h. (let e = get_or_past l.shape 3 1 (omega arith) in omega (arith, n.3));
}

pub made : (p q : Place) → p.a ≡ q.a → p.b ≡ q.b → p.c ≡ q.c → p.d ≡ q.d → p ≡ q
made p q a b c d = let e : place p.a p.b p.c p.d ≡ place q.a q.b q.c q.d = cc in e

same_from_agree : (m : ℕ) (p q : Place) → ZeroFrom m p → ZeroFrom m q → Agree m p q → p ≡ q
same_from_agree zero p q y z e = made p q (y.at_a (omega arith) ∙ sym (z.at_a (omega arith))) (y.at_b (omega arith) ∙ sym (z.at_b (omega arith))) (y.at_c (omega arith) ∙ sym (z.at_c (omega arith))) (y.at_d (omega arith) ∙ sym (z.at_d (omega arith)))
same_from_agree (suc zero) p q y z e = made p q (cc) (y.at_b (omega arith) ∙ sym (z.at_b (omega arith))) (y.at_c (omega arith) ∙ sym (z.at_c (omega arith))) (y.at_d (omega arith) ∙ sym (z.at_d (omega arith)))
same_from_agree (suc (suc zero)) p q y z e = made p q (cc) (cc) (y.at_c (omega arith) ∙ sym (z.at_c (omega arith))) (y.at_d (omega arith) ∙ sym (z.at_d (omega arith)))
same_from_agree (suc (suc (suc zero))) p q y z e = made p q (cc) (cc) (cc) (y.at_d (omega arith) ∙ sym (z.at_d (omega arith)))
same_from_agree (suc (suc (suc (suc m)))) p q y z e = made p q (cc) (cc) (cc) (cc)

module _ (l : Layout) (v : Valid l) (m : ℕ) where
  pub keys_level : (i j : ℕ) → i ≤ j → j < count l → key m (at l i) ≤ key m (at l j)
  keys_level i j h n =
      elim (cases_order i j) [
        | inl e ↦ (let f = ap (λ i. key m (at l i)) e in omega arith)
        | inr o ↦ elim o [ inl k ↦ key_level m (at l i) (at l j) (small_at l v i (omega arith)) (small_at l v j n) (v.ascending i j k n) | inr k ↦ absurd (omega arith) ]
      ]

  pub keys_rise : rank l ≤ m → (i j : ℕ) → i < j → j < count l → key m (at l i) < key m (at l j)
  keys_rise r i j h n =
      let k = keys_level i j (omega arith) n in
      let p = inside_at l v i (omega arith) in
      let q = inside_at l v j n in
      elim (cases_order (key m (at l i)) (key m (at l j))) [
        | inl e ↦ absurd (before_other (at l i) (at l j) (v.ascending i j h n) (same_from_agree m (at l i) (at l j) (zero_inside l m r (at l i) p) (zero_inside l m r (at l j) q) (key_agree m (at l i) (at l j) (small_at l v i (omega arith)) (small_at l v j n) e)))
        | inr o ↦ elim o [ inl x ↦ x | inr x ↦ absurd (omega arith) ]
      ]

-- l is the layout with the longer row, r the other, which has no entries past m
pub grouped : (m : ℕ) (l r : Layout) → Valid l → Valid r → rank r ≤ m → Covered m l r → Grouped (λ i. key m (at l i)) (count l) (λ j. key m (at r j)) (count r)
grouped m l r v w h c = record {
  some = v.some;
  level = keys_level l v m;
  rises = keys_rise r w m h;
  over = λ i n. (let o = c.over i n in (o.0, o.1, agree_key m (at l i) (at r o.0) o.2));
  under = λ j n. (let u = c.under j n in (u.0, u.1, agree_key m (at l u.0) (at r j) u.2));
}

-- the first m digits of a number go by its quotient by the size of what is left
pub dense_runs : (m : ℕ) (s : List ℕ) (n : ℕ) → Runs (λ i. key m (unravel s i)) n (tail_size m s)
dense_runs zero s n i h e = refl
dense_runs (suc zero) s n i h e = quotients i ∙ e ∙ sym (quotients (suc i)) where
  quotients : (i : ℕ) → i / axis s 3 / axis s 2 / axis s 1 ≡ i / (axis s 3 * axis s 2 * axis s 1)
  quotients i = ap (λ q. q / axis s 1) (div-div-eq-div-mul i (axis s 3) (axis s 2)) ∙ div-div-eq-div-mul i (axis s 3 * axis s 2) (axis s 1)
dense_runs (suc (suc zero)) s n i h e =
    let f : i / axis s 3 / axis s 2 ≡ suc i / axis s 3 / axis s 2 = div-div-eq-div-mul i (axis s 3) (axis s 2) ∙ e ∙ sym (div-div-eq-div-mul (suc i) (axis s 3) (axis s 2)) in
    ap (λ q. q / axis s 1 * 4096 + q % axis s 1) f
dense_runs (suc (suc (suc zero))) s n i h e = ap (λ q. (q / axis s 2 / axis s 1 * 4096 + q / axis s 2 % axis s 1) * 4096 + q % axis s 2) e
dense_runs (suc (suc (suc (suc m)))) s n i h e = absurd (omega (arith, div-one i, div-one (suc i), e))
