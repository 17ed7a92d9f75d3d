-- Letters, looked for one by one.
use Rattle.std.proofs.Common.{◌≡◌, ℕ, suc, ◌+◌, ◌≤◌, cond, eqb, List, [], ◌∷◌, length, refl, ap, arith}
use Rattle.std.specs.List.{list_any, position_or_len}
use Rattle.std.specs.List as lists
use Rattle.std.specs.Option.{unwrap_or}
use Rattle.std.proofs.lemmas.Bool.Decides.{nat_tests}
use Rattle.std.proofs.lemmas.List.Recursion.{is_position_or_len}
use Rattle.expression.specs.Letterings.{position, among}

position_is : (c : ℕ) (xs : List ℕ) → position c xs ≡ position_or_len (λ x. eqb x c) xs
position_is c xs = is_position_or_len (position c) (λ x. eqb x c) refl (λ x ys. let e : suc (position c ys) ≡ 1 + position c ys = omega arith in ap (cond (eqb x c) 0) e) xs

position_within : (c : ℕ) (xs : List ℕ) → position c xs ≤ length xs
position_within c [] = omega arith
position_within c (x ∷ xs) = let e = position_within c xs in grind (arith, nat_tests)

-- `position`, or the length
pub position_found : (c : ℕ) (xs : List ℕ) → unwrap_or (lists.position (λ x. eqb x c) xs) (length xs) ≡ position c xs
position_found c xs = let w = position_within c xs in rw (← position_is c xs) (grind (arith, nat_tests))

-- `contains`
pub any_among : (c : ℕ) (xs : List ℕ) → list_any (λ x. eqb x c) xs ≡ among c xs
any_among c [] = refl
any_among c (x ∷ xs) = let e = any_among c xs in grind (arith, nat_tests)
