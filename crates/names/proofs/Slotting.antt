-- Slots packed into a permutation.
use Rattle.std.proofs.Common.{◌≡◌, ℕ, ◌≤◌, List, [], ◌∷◌, ◌++◌, length, drop, refl, arith}
use Rattle.names.specs.declared.permutation.Permutation.{Permutation}
use Rattle.names.specs.Reading.{packed}

-- up to eight slots before zeros
pub packed_is : (xs : List ℕ) → length xs ≤ 8 → ◌≡◌ {A = Permutation} (record { count = length xs; slots = xs ++ drop (length xs) (0 ∷ 0 ∷ 0 ∷ 0 ∷ 0 ∷ 0 ∷ 0 ∷ 0 ∷ []) }) (packed xs)
packed_is [] h = refl
packed_is (a ∷ []) h = refl
packed_is (a ∷ b ∷ []) h = refl
packed_is (a ∷ b ∷ c ∷ []) h = refl
packed_is (a ∷ b ∷ c ∷ d ∷ []) h = refl
packed_is (a ∷ b ∷ c ∷ d ∷ e ∷ []) h = refl
packed_is (a ∷ b ∷ c ∷ d ∷ e ∷ f ∷ []) h = refl
packed_is (a ∷ b ∷ c ∷ d ∷ e ∷ f ∷ g ∷ []) h = refl
packed_is (a ∷ b ∷ c ∷ d ∷ e ∷ f ∷ g ∷ i ∷ []) h = refl
packed_is (a ∷ b ∷ c ∷ d ∷ e ∷ f ∷ g ∷ i ∷ j ∷ xs) h = absurd (omega arith)
