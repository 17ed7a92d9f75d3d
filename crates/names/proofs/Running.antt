-- One step of an expression's run.
use Rattle.std.proofs.Common.{◌≡◌, ℕ, ◌+◌, ◌-◌, ◌<◌, true, List, [], ◌∷◌, ◌++◌, length, get_or, take, drop, Some, Option, Result, sym, ap, ◌∙◌, arith, length-append}
use lib.Ieee.{Float}
use Rattle.std.proofs.lemmas.List.{at_drop_more, take_all, length-drop, length-take-le}
use Rattle.std.proofs.lemmas.Bool.{and_parts}
use Rattle.expression.specs.declared.node.Node.{Node}
use Rattle.expression.specs.Nodes.{takes, sound_from}
use Rattle.expression.specs.Values.{found_at, run}

pub end_of : (s : List Float) (k : ℕ) → take (length s - k) (drop k s) ≡ drop k s
end_of s k = take_all (length s - k) (drop k s) (omega (arith, length-drop k s))

-- node i takes t of the values s, and puts its own, v, in their place
module _ (ns : List Node) (i t : ℕ) (e : Node) (h : i < length ns) (w : t ≡ takes (get_or ns i e)) (s new : List Float) (v : Float) (is : new ≡ take (length s - t) s ++ v ∷ []) where
  pub sound_more : sound_from (length s) (drop i ns) ≡ true → sound_from (length new) (drop (i + 1) ns) ≡ true
  sound_more o =
      let n : length new ≡ length s - takes (get_or ns i e) + 1 = omega (arith, ap length is, length-append (take (length s - t) s) (v ∷ []), length-take-le (length s - t) s) in
      ap (λ k. sound_from k (drop (i + 1) ns)) n ∙ (and_parts _ _ (sym (at_drop_more (sound_from (length s)) ns i e h) ∙ o)).1

  pub value_more : (f : Node → List Float → Option Float) (q : Result Float ℕ) (taken : List Float) → Some v ≡ f (get_or ns i e) taken → taken ≡ drop (length s - t) s → run f i (drop i ns) s ≡ q → run f (i + 1) (drop (i + 1) ns) new ≡ q
  value_more f q taken k p o =
      let a = at_drop_more (λ l. run f i l s) ns i e h in
      let g = λ (d : ℕ). found_at i (f (get_or ns i e) (drop d s)) (λ x. run f (i + 1) (drop (i + 1) ns) (take d s ++ x ∷ [])) in
      ap (run f (i + 1) (drop (i + 1) ns)) is ∙ ap (λ r. found_at i r (λ x. run f (i + 1) (drop (i + 1) ns) (take (length s - t) s ++ x ∷ []))) (k ∙ ap (f (get_or ns i e)) p) ∙ ap (λ m. g (length s - m)) w ∙ sym a ∙ o
