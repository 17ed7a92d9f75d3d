-- An expression inside another acts as one value.
use Rattle.std.proofs.Common.{◌≡◌, ℕ, suc, ◌+◌, ◌-◌, ◌≤◌, true, List, [], ◌∷◌, ◌++◌, length, get_or, take, drop, Some, None, Ok, Err, Option, Result, sym, refl, ap, ◌∙◌, append_assoc, append-nil, arith}
use lib.Ieee.{Float, nan}
use Rattle.std.proofs.lemmas.List.{length-append, length-take, drop_at, take_at, take-append-drop, drop-drop}
use Rattle.std.proofs.lemmas.Bool.{and_parts, eqb-true}
use Rattle.std.specs.List.{AllByRecursion}
use Rattle.expression.specs.declared.node.Letters.{Letters}
use Rattle.expression.specs.declared.node.Node.{Node}
use Rattle.expression.specs.declared.node.Node.TheVariants.{Number, Name, Binary, Unary, Call}
use Rattle.expression.specs.Nodes.{takes, may_follow, sound_from}
use Rattle.expression.specs.Values.{node_value, found_at, run}
use Rattle.expression.specs.Laws.{all_nodes, Valued, Composes, Agrees, ReadsDecide}
use Rattle.expression.proofs.Forming.{follows}

-- ---- what lies below does not matter

-- cutting the last t values off s, with t at most their number, does not touch b below
under_drop : (b s : List Float) (t : ℕ) → t ≤ length s → drop (length (b ++ s) - t) (b ++ s) ≡ drop (length s - t) s
under_drop b s t h =
    let n = length-append b s in
    let e : length (b ++ s) - t ≡ length b + (length s - t) = omega arith in
    ap (λ k. drop k (b ++ s)) e ∙ sym (drop-drop (length s - t) (length b) (b ++ s)) ∙ ap (drop (length s - t)) (drop_at b s (length b) refl)

under_take : (b s : List Float) (t : ℕ) → t ≤ length s → take (length (b ++ s) - t) (b ++ s) ≡ b ++ take (length s - t) s
under_take b s t h =
    let n = length-append b s in
    let m = length-take (length s - t) s in
    let p = length-append b (take (length s - t) s) in
    let q : length (b ++ take (length s - t) s) ≡ length (b ++ s) - t = omega arith in
    ap (λ l. take (length (b ++ s) - t) l) (ap (λ l. b ++ l) (sym (take-append-drop (length s - t) s)) ∙ sym (append_assoc b (take (length s - t) s) (drop (length s - t) s)))
    ∙ take_at (b ++ take (length s - t) s) (drop (length s - t) s) (length (b ++ s) - t) q

left_length : (s : List Float) (t : ℕ) (x : Float) → t ≤ length s → length (take (length s - t) s ++ x ∷ []) ≡ length s - t + 1
left_length s t x h = let m = length-take (length s - t) s in let n = length-append (take (length s - t) s) (x ∷ []) in omega arith

one_value : (s : List Float) (v : Float) → length s ≡ 1 → get_or s 0 nan ≡ v → s ≡ v ∷ []
one_value [] v n e = absurd (omega arith)
one_value (x ∷ []) v n e = ap (λ y. y ∷ []) e
one_value (x ∷ y ∷ ys) v n e = absurd (omega arith)

-- if e, from values s, comes to v, then over b it puts v there and goes on with ns
inside : (f : Node → List Float → Option Float) (e ns : List Node) (i j : ℕ) (b s : List Float) (v : Float) → sound_from (length s) e ≡ true → run f i e s ≡ Ok v → run f j (e ++ ns) (b ++ s) ≡ run f (j + length e) ns (b ++ v ∷ [])
inside f [] ns i j b s v d h =
    let n : j ≡ j + 0 = omega arith in
    ap (λ l. run f j ns (b ++ l)) (one_value s v (eqb-true (length s) 1 d) (cc)) ∙ ap (λ k. run f k ns (b ++ v ∷ [])) n
inside f (n ∷ e) ns i j b s v d h = by (f n (drop (length s - takes n) s)) refl (λ s' d' h'. inside f e ns (i + 1) (j + 1) b s' v d' h')
  where
    by : (o : Option Float) → f n (drop (length s - takes n) s) ≡ o → ((s' : List Float) → sound_from (length s') e ≡ true → run f (i + 1) e s' ≡ Ok v → run f (j + 1) (e ++ ns) (b ++ s') ≡ run f (j + 1 + length e) ns (b ++ v ∷ [])) → run f j (n ∷ (e ++ ns)) (b ++ s) ≡ run f (j + suc (length e)) ns (b ++ v ∷ [])
    by None z ih = (let r : run f i (n ∷ e) s ≡ Err i = ap (λ o. found_at i o (λ x. run f (i + 1) e (take (length s - takes n) s ++ x ∷ []))) z in absurd (cc))
    by (Some x) z ih =
        let p = and_parts (may_follow (length s) n) (sound_from (length s - takes n + 1) e) d in
        let m : takes n ≤ length s = (follows (length s) n p.0).1 in
        let r = take (length s - takes n) s in
        let g : run f (i + 1) e (r ++ x ∷ []) ≡ Ok v = ap (λ o. found_at i o (λ x. run f (i + 1) e (r ++ x ∷ []))) (sym z) ∙ h in
        let d' : sound_from (length (r ++ x ∷ [])) e ≡ true = ap (λ k. sound_from k e) (left_length s (takes n) x m) ∙ p.1 in
        let k : j + 1 + length e ≡ j + suc (length e) = omega arith in
        ap (λ l. found_at j (f n l) (λ x. run f (j + 1) (e ++ ns) (take (length (b ++ s) - takes n) (b ++ s) ++ x ∷ []))) (under_drop b s (takes n) m)
        ∙ ap (λ o. found_at j o (λ x. run f (j + 1) (e ++ ns) (take (length (b ++ s) - takes n) (b ++ s) ++ x ∷ []))) z
        ∙ ap (λ l. run f (j + 1) (e ++ ns) (l ++ x ∷ [])) (under_take b s (takes n) m)
        ∙ ap (run f (j + 1) (e ++ ns)) (append_assoc b r (x ∷ []))
        ∙ ih (r ++ x ∷ []) d' g ∙ ap (λ q. run f q ns (b ++ v ∷ [])) k

sequence : (f : Node → List Float → Option Float) (es : List (List Node)) (vs : List Float) (ns : List Node) (j : ℕ) (b : List Float) → Valued f es vs → run f j (all_nodes es ++ ns) b ≡ run f (j + length (all_nodes es)) ns (b ++ vs)
sequence f [] [] ns j b w = let n : j ≡ j + 0 = omega arith in ap (run f j ns) (sym (append-nil b)) ∙ ap (λ k. run f k ns (b ++ [])) n
sequence f [] (v ∷ vs) ns j b w = absurd w
sequence f (e ∷ es) [] ns j b w = absurd w
sequence f (e ∷ es) (v ∷ vs) ns j b w =
    let n : j + length e + length (all_nodes es) ≡ j + length (e ++ all_nodes es) = omega (arith, length-append e (all_nodes es)) in
    ap (λ l. run f j l b) (append_assoc e (all_nodes es) ns) ∙ ap (run f j (e ++ (all_nodes es ++ ns))) (sym (append-nil b))
    ∙ inside f e (all_nodes es ++ ns) 0 j b [] v w.0.0 w.0.1
    ∙ sequence f es vs ns (j + length e) (b ++ v ∷ []) w.1
    ∙ ap (run f (j + length e + length (all_nodes es)) ns) (append_assoc b (v ∷ []) vs) ∙ ap (λ k. run f k ns (b ++ v ∷ vs)) n

pub composes : Composes
composes f es vs n x w t h =
    let j = 0 + length (all_nodes es) in
    let z : length vs - takes n ≡ 0 = omega arith in
    sequence f es vs (n ∷ []) 0 [] w
    ∙ ap (λ k. found_at j (f n (drop k vs)) (λ y. run f (j + 1) [] (take k vs ++ y ∷ []))) z
    ∙ ap (λ o. found_at j o (λ y. run f (j + 1) [] (take 0 vs ++ y ∷ []))) h

-- ---- what is read decides

found_ext : (i : ℕ) (o : Option Float) (k j : Float → Result Float ℕ) → ((x : Float) → k x ≡ j x) → found_at i o k ≡ found_at i o j
found_ext i None k j h = refl
found_ext i (Some x) k j h = h x

module _ (host : ℕ → List Float → Option Float) (read read' : ℕ → Letters → Float) where
  node_same : (n : Node) (xs : List Float) → Agrees read read' n → node_value host read n xs ≡ node_value host read' n xs
  node_same (Number x) xs h = refl
  node_same (Name v l) xs h = ap (λ y. Some y) h
  node_same (Binary o) xs h = refl
  node_same (Unary o) xs h = refl
  node_same (Call c n) xs h = refl

  run_same : (i : ℕ) (ns : List Node) (s : List Float) → AllByRecursion (Agrees read read') ns → run (node_value host read) i ns s ≡ run (node_value host read') i ns s
  run_same i [] s h = refl
  run_same i (n ∷ ns) s h =
      ap (λ o. found_at i o (λ x. run (node_value host read) (i + 1) ns (take (length s - takes n) s ++ x ∷ []))) (node_same n (drop (length s - takes n) s) h.0)
      ∙ found_ext i (node_value host read' n (drop (length s - takes n) s)) _ _ (λ x. run_same (i + 1) ns (take (length s - takes n) s ++ x ∷ []) h.1)

pub reads_decide : ReadsDecide
reads_decide host read read' ns h = run_same host read read' 0 ns [] h
