-- Texts that are written item by item.
use Rattle.std.proofs.Common.{◌≡◌, ℕ, ◌+◌, ◌<◌, List, [], ◌∷◌, ◌++◌, map, length, get_or, take, IfSome, OnOk, Some, Option, Result, sym, ap, ◌∙◌, append_assoc, append-nil, arith}
use Rattle.std.specs.List.{range_with_len, flat_map}
use Rattle.std.proofs.lemmas.List.FromFn.{map-range_with_len_more}
use Rattle.std.proofs.lemmas.List.{flat_map_more, take_more}
use Rattle.std.proofs.lemmas.Option.{MatchOption-at_some}
use Rattle.std.proofs.lemmas.Result.{on_ok_weaker}
use Rattle.report.specs.Facts.{separated}

-- what a write of a known text leaves
pub written : {o : Option (List ℕ)} (a c bs : List ℕ) → IfSome o (λ t. c ≡ a ++ t) → o ≡ Some bs → c ≡ a ++ bs
written a c bs w e = MatchOption-at_some (Unit {0}) (λ t. c ≡ a ++ t) bs e w

pub more_joined : {X : Type 0} (f : X → List ℕ) (xs : List X) (i : ℕ) (d : X) (a b c : List ℕ) → i < length xs → b ≡ a ++ flat_map f (take i xs) → c ≡ b ++ f (get_or xs i d) → c ≡ a ++ flat_map f (take (i + 1) xs)
more_joined f xs i d a b c lt old new =
    new ∙ ap (λ l. l ++ f (get_or xs i d)) old ∙ flat_map_more f a (take i xs) (get_or xs i d) ∙ ap (λ l. a ++ flat_map f l) (sym (take_more xs i d lt))

pub joined : {X : Type 0} (f : X → List ℕ) (g : List ℕ) (x : X) (xs : List X) → separated g (map f (x ∷ xs)) ≡ f x ++ flat_map (λ y. g ++ f y) xs
joined f g x [] = sym (append-nil (f x))
joined f g x (y ∷ ys) = ap (λ l. f x ++ l) (ap (λ l. g ++ l) (joined f g y ys) ∙ sym (append_assoc g (f y) _))

pub more_counted : (f : ℕ → List ℕ) (i : ℕ) (a b c : List ℕ) → b ≡ a ++ flat_map (λ t. t) (map f (range_with_len 0 i)) → c ≡ b ++ f i → c ≡ a ++ flat_map (λ t. t) (map f (range_with_len 0 (i + 1)))
more_counted f i a b c old new =
    new ∙ ap (λ l. l ++ f i) old ∙ flat_map_more (λ t. t) a (map f (range_with_len 0 i)) (f i) ∙ ap (λ l. a ++ flat_map (λ t. t) l) (sym (map-range_with_len_more f 0 i i (omega arith)))

-- what a write that may fail leaves, after one that did not
pub then_written : {T E : Type 0} (r : Result T E) (a b c x y : List ℕ) → b ≡ a ++ x → OnOk r (c ≡ b ++ y) → OnOk r (c ≡ a ++ (x ++ y))
then_written r a b c x y old new = on_ok_weaker r (λ w. w ∙ ap (λ l. l ++ y) old ∙ append_assoc a x y) new
