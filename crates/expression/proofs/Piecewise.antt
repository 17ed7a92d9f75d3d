-- One condition of a piecewise passed, and the last argument.
use Rattle.std.proofs.Common.{◌≡◌, ℕ, zero, suc, ◌+◌, ◌-◌, ◌*◌, ◌/◌, ◌<◌, ◌≤◌, false, cond, List, [], ◌∷◌, length, get_or, drop, sym, refl, ap, ◌∙◌, inl, inr, le_of_suc-le-suc, arith}
use lib.Ieee.{Float, nan, le}
use Rattle.std.specs.Float as Floats
use Rattle.expression.specs.Values.{piecewise}
use Rattle.std.proofs.lemmas.Bool.{cases_Bool}
use Rattle.expression.specs.Laws.{Accepts, FirstConditionGives}

piece_step : (xs : List Float) (k : ℕ) → suc (suc k) < length xs → piecewise (drop k xs) ≡ cond (le Floats.float_zero (get_or xs k nan)) (get_or xs (suc k) nan) (piecewise (drop (suc (suc k)) xs))
piece_step [] k h = absurd (omega arith)
piece_step (c ∷ []) zero h = absurd (omega arith)
piece_step (c ∷ v ∷ []) zero h = absurd (omega arith)
piece_step (c ∷ v ∷ x ∷ xs) zero h = refl
piece_step (x ∷ xs) (suc k) h = piece_step xs k (le_of_suc-le-suc h)

piece_last : (xs : List Float) (k : ℕ) → k < length xs → length xs ≤ suc (suc k) → piecewise (drop k xs) ≡ get_or xs (length xs - 1) nan
piece_last [] k h g = absurd (omega arith)
piece_last (x ∷ []) zero h g = refl
piece_last (x ∷ y ∷ []) zero h g = refl
piece_last (x ∷ y ∷ z ∷ xs) zero h g = absurd (omega arith)
piece_last (x ∷ xs) (suc k) h g =
    let e : suc (length xs) - 1 ≡ suc (length xs - 1) = omega arith in
    rw e (piece_last xs k (le_of_suc-le-suc h) (le_of_suc-le-suc g))

-- ---- the first condition that holds

not_accepted : (xs : List Float) (i : ℕ) → (Accepts xs i → ⊥) → le Floats.float_zero (get_or xs (2 * i) nan) ≡ false
not_accepted xs i h = elim (cases_Bool (le Floats.float_zero (get_or xs (2 * i) nan))) [ inl t ↦ absurd (h t) | inr f ↦ f ]

passes : (xs : List Float) (i : ℕ) → i ≤ (length xs - 1) / 2 → ((j : ℕ) → j < i → Accepts xs j → ⊥) → piecewise (drop (2 * i) xs) ≡ piecewise xs
passes xs zero l h = refl
passes xs (suc i) l h =
    let e : 2 * suc i ≡ suc (suc (2 * i)) = omega arith in
    let s = piece_step xs (2 * i) (omega arith) in
    let f = not_accepted xs i (h i (omega arith)) in
    ap (λ k. piecewise (drop k xs)) e ∙ sym (s ∙ ap (λ b. cond b (get_or xs (suc (2 * i)) nan) (piecewise (drop (suc (suc (2 * i))) xs))) f) ∙ passes xs i (omega arith) (λ j g. h j (omega arith))

pub first_condition : FirstConditionGives
first_condition xs n = (
  (λ i l a h.
      let e : suc (2 * i) ≡ 2 * i + 1 = omega arith in
      let s = piece_step xs (2 * i) (omega arith) in
      sym (passes xs i (omega arith) h) ∙ s ∙ ap (λ b. cond b (get_or xs (suc (2 * i)) nan) (piecewise (drop (suc (suc (2 * i))) xs))) a ∙ ap (λ k. get_or xs k nan) e),
  (λ h. sym (passes xs ((length xs - 1) / 2) (omega arith) h) ∙ piece_last xs (2 * ((length xs - 1) / 2)) (omega arith) (omega arith)),
)
