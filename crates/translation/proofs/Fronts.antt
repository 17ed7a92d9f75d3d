-- Lists of four elements that agree on the first m.
use Rattle.std.proofs.Common.{◌≡◌, ℕ, ◌<◌, min, List, length, get_or, take, sym, ap, ◌∙◌, arith}
use Rattle.std.proofs.lemmas.List.{same_lists, length-take, get_or-take, get_or_default}

-- two lists of four that agree at each place below m have the same first m elements
pub take_same : {X : Type 0} (z : X) (m : ℕ) (p q : List X) → length p ≡ 4 → length q ≡ 4 → ((k : ℕ) → k < 4 → k < m → get_or p k z ≡ get_or q k z) → take m p ≡ take m q
take_same z m p q n n' h =
    same_lists (take m p) (take m q) (simp length-take (omega arith))
    (λ k d l. let l' : k < min m (length p) = simp length-take at l in let a : k < m = omega arith in let b : k < length p = omega arith in let b' : k < length q = omega arith in rw (get_or-take, get_or-take) (get_or_default p k d z b ∙ h k (omega arith) a ∙ get_or_default q k z d b'))

pub take_at_same : {X : Type 0} (m : ℕ) (p q : List X) (k : ℕ) (z : X) → k < m → take m p ≡ take m q → get_or p k z ≡ get_or q k z
take_at_same m p q k z h e = sym (get_or-take m p k z h) ∙ ap (λ xs. get_or xs k z) e ∙ get_or-take m q k z h
