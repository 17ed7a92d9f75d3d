-- Start entries beyond a rank.
use Rattle.std.proofs.Common.{◌≡◌, ℕ, zero, suc, Bool, true, false, not, ◌||◌, List, [], ◌∷◌, drop, length, ℤ, ◌≤◌, sym, refl, ◌∙◌, arith}
use Rattle.std.proofs.lemmas.Bool.{lt-leb}
use Rattle.std.specs.List.{list_any}
use Rattle.translation.specs.Tos.{is_zero, strays}

or_four : (a b c d : Bool) → (a || (b || (c || (d || false)))) ≡ (((a || b) || c) || d)
or_four true b c d = refl
or_four false true c d = refl
or_four false false true d = refl
or_four false false false true = refl
or_four false false false false = refl

none_past : {X : Type 0} (t : X → Bool) (r : ℕ) → list_any t (drop r []) ≡ false
none_past t zero = refl
none_past t (suc r) = refl

strays_none : (r : ℕ) (x : List ℤ) → 4 ≤ r → strays r x ≡ false
strays_none r x h = simp (lt-leb r 0 (omega arith), lt-leb r 1 (omega arith), lt-leb r 2 (omega arith), lt-leb r 3 (omega arith)) refl

abbrev pub is_set : ℤ → Bool
is_set z = not (is_zero z)

pub strays_drop : (r : ℕ) (x : List ℤ) → length x ≡ 4 → list_any is_set (drop r x) ≡ strays r x
strays_drop zero (a ∷ b ∷ c ∷ d ∷ []) h = or_four (is_set a) (is_set b) (is_set c) (is_set d)
strays_drop (suc zero) (a ∷ b ∷ c ∷ d ∷ []) h = or_four false (is_set b) (is_set c) (is_set d)
strays_drop (suc (suc zero)) (a ∷ b ∷ c ∷ d ∷ []) h = or_four false false (is_set c) (is_set d)
strays_drop (suc (suc (suc zero))) (a ∷ b ∷ c ∷ d ∷ []) h = or_four false false false (is_set d)
strays_drop (suc (suc (suc (suc r)))) (a ∷ b ∷ c ∷ d ∷ []) h = none_past is_set r ∙ sym (strays_none (suc (suc (suc (suc r)))) (a ∷ b ∷ c ∷ d ∷ []) (omega arith))
strays_drop r [] h = absurd (omega arith)
strays_drop r (a ∷ []) h = absurd (omega arith)
strays_drop r (a ∷ b ∷ []) h = absurd (omega arith)
strays_drop r (a ∷ b ∷ c ∷ []) h = absurd (omega arith)
strays_drop r (a ∷ b ∷ c ∷ d ∷ e ∷ x) h = absurd (omega arith)
