-- Destinations, one after another.
use Rattle.std.proofs.Common.{◌≡◌, ℕ, suc, ◌+◌, ◌-◌, ◌<◌, ◌≤◌, Bool, true, false, ◌&&◌, eqb, List, length, get_or, take, set, ℤ, pos, Some, None, Err, Option, unwrap_or, sym, refl, ap, ◌∙◌, arith}
use Rattle.std.proofs.lemmas.List.{take_more, take_more_set}
use Rattle.std.proofs.lemmas.List.FromFn.{length-map-range_with_len, get_or-map-range_with_len}
use Rattle.translation.specs.Tos.{missing, follows, consecutive, placed, missing_at, unless_missing, to_of, destination_entries}

pub missing_more : (d : ℕ → Option ℕ) (k n x : ℕ) → k < n → d k ≡ Some x → missing d k (n - k) ≡ missing d (k + 1) (n - (k + 1))
missing_more d k n x h e = let z : n - k ≡ suc (n - (k + 1)) = omega arith in ap (missing d k) z ∙ ap (λ o. missing_at o k (missing d (k + 1) (n - (k + 1)))) e

pub missing_here : (d : ℕ → Option ℕ) (k n : ℕ) → k < n → d k ≡ None → missing d k (n - k) ≡ Some k
missing_here d k n h e = let z : n - k ≡ suc (n - (k + 1)) = omega arith in ap (missing d k) z ∙ ap (λ o. missing_at o k (missing d (k + 1) (n - (k + 1)))) e

and_assoc : (x y z : Bool) → (x && (y && z)) ≡ ((x && y) && z)
and_assoc true y z = refl
and_assoc false y z = refl

-- the first k of n destinations are found, from `first` to `last`, one after the other or not
pub record Going (d : ℕ → Option ℕ) (n k first last : ℕ) (together : Bool) : Type 0 where
  pub some : 1 ≤ k
  pub low : first < 65536
  pub high : last < 65536
  pub begun : d 0 ≡ Some first
  pub last_is : d (k - 1) ≡ Some last
  pub none_yet : missing d 0 n ≡ missing d k (n - k)
  pub so_far : consecutive d 0 (n - 1) ≡ (together && consecutive d (k - 1) (n - k))

module _ (d : ℕ → Option ℕ) (n : ℕ) where
  module _ (k first last : ℕ) (together : Bool) (g : Going d n k first last together) where
    pub going_more : (x : ℕ) → k < n → d k ≡ Some x → x < 65536 → Going d n (k + 1) first x (together && eqb x (last + 1))
    going_more x h e l =
        let some = g.some in
        let z : n - k ≡ suc (n - (k + 1)) = omega arith in
        let y : k - 1 + 1 ≡ k = omega arith in
        let u : k + 1 - 1 ≡ k = omega arith in
        let one : consecutive d (k - 1) (n - k) ≡ (eqb x (last + 1) && consecutive d k (n - (k + 1))) =
        ap (consecutive d (k - 1)) z ∙ ap (λ j. follows (d (k - 1)) (d j) && consecutive d j (n - (k + 1))) y ∙ ap (λ o. follows o (d k) && consecutive d k (n - (k + 1))) g.last_is ∙ ap (λ o. follows (Some last) o && consecutive d k (n - (k + 1))) e in
        record {
          some = omega arith;
          low = g.low;
          high = l;
          begun = g.begun;
          last_is = ap d u ∙ e;
          none_yet = g.none_yet ∙ missing_more d k n x h e;
          so_far = g.so_far ∙ ap (λ b. together && b) one ∙ and_assoc together (eqb x (last + 1)) _ ∙ ap (λ j. (together && eqb x (last + 1)) && consecutive d j (n - (k + 1))) (sym u);
        }

    pub going_none : k < n → d k ≡ None → Err k ≡ to_of d n
    going_none h e = let f = g.none_yet ∙ missing_here d k n h e in ap (λ o. unless_missing o (placed (consecutive d 0 (n - 1)) (d 0) n)) (sym f)

-- one more destination is written
pub destination_more : (d : ℕ → Option ℕ) (n : ℕ) (t : List ℤ) (k : ℕ) (v : ℤ) → k < length t → k < n → v ≡ pos (unwrap_or (d k) 0) → take k t ≡ take k (destination_entries d n) → take (k + 1) (set t k v) ≡ take (k + 1) (destination_entries d n)
destination_more d n t k v h m e so_far =
    let f = λ (k : ℕ). pos (unwrap_or (d k) 0) in
    let l = length-map-range_with_len f 0 n in
    let w : get_or (destination_entries d n) k (pos 0) ≡ f k = get_or-map-range_with_len f 0 n k k (pos 0) m (omega arith) in
    let a = take_more_set t k v h in
    let b = take_more (destination_entries d n) k (pos 0) (omega arith) in
    cc
