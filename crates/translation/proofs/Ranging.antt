-- Ranges, one after another.
use Rattle.std.proofs.Common.{◌≡◌, ℕ, zero, suc, ◌+◌, ◌-◌, ◌<◌, ◌≤◌, Bool, true, false, List, [], ◌∷◌, length, get_or, drop, set, ℤ, pos, sym, refl, ap, ◌∙◌, inl, inr, arith}
use Rattle.std.proofs.lemmas.Bool.{cases_Bool}
use Rattle.std.proofs.lemmas.List.Edits.{paste_more}
use Rattle.std.proofs.lemmas.List.{get_or-drop, drop-drop, length-drop}
use lib.Seq.{paste}
use Rattle.translation.specs.Cuts.{ranges_from, range_entries}

-- one place more of ranges-from
pub from_cut : (t : ℕ → Bool) (s i n : ℕ) → i < n → t i ≡ true → ranges_from t s i (n - i) ≡ (s, i) ∷ ranges_from t i (i + 1) (n - (i + 1))
from_cut t s i n h e = let z : n - i ≡ suc (n - (i + 1)) = omega arith in rw z (rw e refl)

pub from_on : (t : ℕ → Bool) (s i n : ℕ) → i < n → t i ≡ false → ranges_from t s i (n - i) ≡ ranges_from t s (i + 1) (n - (i + 1))
from_on t s i n h e = let z : n - i ≡ suc (n - (i + 1)) = omega arith in rw z (rw e refl)

pub from_end : (t : ℕ → Bool) (s i n : ℕ) → i ≡ n → ranges_from t s i (n - i) ≡ (s, n) ∷ []
from_end t s i n e = let z : n - i ≡ 0 = omega arith in rw z (ap (λ j. (s, j) ∷ []) e)

-- the start does not count
pub from_length : (t : ℕ → Bool) (s u i n : ℕ) → length (ranges_from t s i n) ≡ length (ranges_from t u i n)
from_length t s u i zero = refl
from_length t s u i (suc n) = elim (cases_Bool (t i)) [ inl e ↦ rw e refl | inr e ↦ rw e (from_length t s u (i + 1) n) ]

-- a pair is written
module _ (d : List ℤ) (at : ℕ) (all : List ℤ) (w : ℕ) (x y : ℤ) (rest : List ℤ) (left : drop w all ≡ x ∷ y ∷ rest) where
  long : w + (2 + length rest) ≡ length all
  long = let e = ap length left in let f = length-drop w all in omega arith

  pub pair_left : drop (w + 2) all ≡ rest
  pair_left = sym (drop-drop 2 w all) ∙ ap (drop 2) left

  pub pair_written : at + length all ≤ length d → set (set (paste d at all w) (at + w) x) (at + w + 1) y ≡ paste d at all (w + 2)
  pair_written h =
      let a : get_or all w (pos 0) ≡ x = ap (λ k. get_or all k (pos 0)) (let z : w ≡ w + 0 = omega arith in z) ∙ sym (get_or-drop w all 0 (pos 0)) ∙ ap (λ xs. get_or xs 0 (pos 0)) left in
      let b : get_or all (w + 1) (pos 0) ≡ y = sym (get_or-drop w all 1 (pos 0)) ∙ ap (λ xs. get_or xs 1 (pos 0)) left in
      let f = paste_more d at all w (pos 0) (omega (arith, long)) (omega (arith, long)) in
      let g = paste_more d at all (w + 1) (pos 0) (omega (arith, long)) (omega (arith, long)) in
      let z : at + w + 1 ≡ at + (w + 1) = omega arith in
      let u : w + 1 + 1 ≡ w + 2 = omega arith in
      let k : paste d at all (w + 1 + 1) ≡ paste d at all (w + 2) = ap (paste d at all) u in
      cc

-- counting the ranges
module _ (t : ℕ → Bool) (k i n full : ℕ) (h : i < n) (inv : k + length (ranges_from t 0 i (n - i)) ≡ full) where
  pub count_cut : t i ≡ true → k + 1 + length (ranges_from t 0 (i + 1) (n - (i + 1))) ≡ full
  count_cut e =
      let f = ap length (from_cut t 0 i n h e) in
      let g = from_length t i 0 (i + 1) (n - (i + 1)) in
      omega arith

  pub count_on : t i ≡ false → k + length (ranges_from t 0 (i + 1) (n - (i + 1))) ≡ full
  count_on e = let f = ap length (from_on t 0 i n h e) in omega arith

-- writing them: d is the table as it was, and all the entries to be written at `at`
pub record Writing (t : ℕ → Bool) (n : ℕ) (d : List ℤ) (at : ℕ) (all table : List ℤ) (start written i : ℕ) : Type 0 where
  pub below : start < i
  pub is : table ≡ paste d at all written
  pub left : drop written all ≡ range_entries (ranges_from t start i (n - i))

from_some : (t : ℕ → Bool) (s i n : ℕ) → 2 ≤ length (range_entries (ranges_from t s i n))
from_some t s i zero = omega arith
from_some t s i (suc n) = elim (cases_Bool (t i)) [ inl e ↦ rw e (omega arith) | inr e ↦ rw e (from_some t s (i + 1) n) ]

module _ (t : ℕ → Bool) (n : ℕ) (d : List ℤ) (at : ℕ) (all table : List ℤ) (start written i : ℕ) (inv : Writing t n d at all table start written i) where
  pub writing_room : written + 2 ≤ length all
  writing_room = let a = from_some t start i (n - i) in let e = ap length inv.left in let f = length-drop written all in omega arith

  pub writing_cut : (new : List ℤ) → at + length all ≤ length d → i < n → t i ≡ true → new ≡ set (set table (at + written) (pos start)) (at + written + 1) (pos i) → Writing t n d at all new i (written + 2) (i + 1)
  writing_cut new room h e is =
      let left : drop written all ≡ pos start ∷ pos i ∷ range_entries (ranges_from t i (i + 1) (n - (i + 1))) = inv.left ∙ ap range_entries (from_cut t start i n h e) in
      record {
        below = omega arith;
        is = is ∙ ap (λ xs. set (set xs (at + written) (pos start)) (at + written + 1) (pos i)) inv.is ∙ pair_written d at all written (pos start) (pos i) _ left room;
        left = pair_left d at all written (pos start) (pos i) _ left;
      }

  pub writing_on : i < n → t i ≡ false → Writing t n d at all table start written (i + 1)
  writing_on h e = (let b = inv.below in record { below = omega arith; is = inv.is; left = inv.left ∙ ap range_entries (from_on t start i n h e) })

  pub writing_end : (new : List ℤ) → at + length all ≤ length d → i ≡ n → new ≡ set (set table (at + written) (pos start)) (at + written + 1) (pos n) → (written + 2 ≡ length all) × (new ≡ paste d at all (length all))
  writing_end new room e is =
      let left : drop written all ≡ pos start ∷ pos n ∷ [] = inv.left ∙ ap range_entries (from_end t start i n e) in
      let long : written + 2 ≡ length all = (let a = ap length left in let f = length-drop written all in omega arith) in (
        long,
        is ∙ ap (λ xs. set (set xs (at + written) (pos start)) (at + written + 1) (pos n)) inv.is ∙ pair_written d at all written (pos start) (pos n) [] left room ∙ ap (paste d at all) long,
      )

pub writing_at : (t : ℕ → Bool) (n : ℕ) (d : List ℤ) (at : ℕ) (all table table' : List ℤ) (start start' written written' i : ℕ) → Writing t n d at all table start written i → table' ≡ table → start' ≡ start → written' ≡ written → Writing t n d at all table' start' written' i
writing_at t n d at all table table' start start' written written' i h e f g = rw (e, f, g) h
