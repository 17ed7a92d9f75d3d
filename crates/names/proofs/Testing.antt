-- A test of each slot beside its number.
use Rattle.std.proofs.Common.{◌≡◌, ℕ, ◌+◌, ◌&&◌, ◌||◌, eqb, leb, ltb, List, [], ◌∷◌, refl, ap}
use Rattle.std.specs.List.{enumerate_from, list_all}
use Rattle.names.specs.Checks.{supplied}
use Rattle.names.specs.Tables.{identity_from}

pub identity_test : (i : ℕ) (slots : List ℕ) → list_all (λ (p : ℕ × ℕ). eqb p.1 p.0) (enumerate_from i slots) ≡ identity_from i slots
identity_test i [] = refl
identity_test i (p ∷ ps) = ap (λ b. eqb p i && b) (identity_test (i + 1) ps)

pub supplied_test : (s r i : ℕ) (slots : List ℕ) → list_all (λ (p : ℕ × ℕ). leb r p.1 || ltb p.0 s) (enumerate_from i slots) ≡ supplied s r i slots
supplied_test s r i [] = refl
supplied_test s r i (p ∷ ps) = ap (λ b. (leb r p || ltb i s) && b) (supplied_test s r (i + 1) ps)
