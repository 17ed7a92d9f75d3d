-- A line up to its comment.
use Rattle.std.proofs.Common.{◌≡◌, ℕ, suc, ◌<◌, List, [], ◌∷◌, ◌++◌, length, get_or, refl, ap, arith}
use Rattle.std.proofs.lemmas.Bool.{ne_eqb}
use Rattle.design.specs.Designs.{uncommented}

abbrev Free : List ℕ → Type 0
Free bs = (i : ℕ) → i < length bs → get_or bs i 0 ≡ 35 → ⊥

later : (b : ℕ) (bs : List ℕ) → Free (b ∷ bs) → Free bs
later b bs free i h e = free (suc i) (omega arith) e

pub no_comment : (bs : List ℕ) → Free bs → bs ≡ uncommented bs
no_comment [] free = refl
no_comment (b ∷ bs) free = let f = ne_eqb b 35 (free 0 (omega arith)) in rw f (ap (λ l. b ∷ l) (no_comment bs (later b bs free)))

pub a_comment : (xs ys : List ℕ) → Free xs → xs ≡ uncommented (xs ++ (35 ∷ ys))
a_comment [] ys free = refl
a_comment (x ∷ xs) ys free = let f = ne_eqb x 35 (free 0 (omega arith)) in rw f (ap (λ l. x ∷ l) (a_comment xs ys (later x xs free)))
