-- What an `all` over the numbers below n decides.
use Rattle.std.proofs.Common.{◌≡◌, ℕ, ◌<◌, Bool, true, false, length, get_or, Decides, refl, sym, subst, arith}
use Rattle.std.specs.Prelude.{MatchBool}
use Rattle.std.specs.List.{AllWithin, HoldsAt, range_with_len}
use Rattle.std.proofs.lemmas.Bool.{false≢true}
use Rattle.std.proofs.lemmas.List.FromFn.{get_or-range_with_len, length-range_with_len}

module _ (n : ℕ) (P : ℕ → Type 0) where
  number_at : (k d : ℕ) → k < n → get_or (range_with_len 0 n) k d ≡ k
  number_at k d h = omega (arith, get_or-range_with_len 0 n k d h)

  pub all_numbers : (r : Bool) → MatchBool r (AllWithin P (range_with_len 0 n) 0 (length (range_with_len 0 n))) ((k : ℕ) × (k < length (range_with_len 0 n)) × HoldsAt (λ j. P j → ⊥) (range_with_len 0 n) k) → Decides r ((k : ℕ) → k < n → P k)
  all_numbers true h = (λ e k l. subst P (number_at k 0 l) (h k 0 (omega arith) (omega (arith, length-range_with_len 0 n))), λ f. refl)
  all_numbers false h =
      let l : h.0 < n = omega (arith, h.1, length-range_with_len 0 n) in
      (λ e. absurd (false≢true e), λ f. absurd (h.2 0 (subst P (sym (number_at h.0 0 l)) (f h.0 l))))
