-- The check of letters, and of an expression, node by node.
use Rattle.std.proofs.Common.{◌≡◌, ℕ, zero, suc, refl, [], ◌∷◌, take, ◌+◌, ◌-◌, ◌<◌, ◌≤◌, true, ◌&&◌, eqb, leb, List, length, get_or, drop, Some, Option, arith}
use Rattle.std.specs.List.{list_all}
use Rattle.std.proofs.lemmas.List.{at_drop_more}
use Rattle.std.proofs.lemmas.Bool.{and_parts, leb-true}
use Rattle.std.specs.Bool.{then_some}
use Rattle.std.specs.Option.{option_eq}
use Rattle.expression.proofs.Trying.{tried}
use Rattle.expression.specs.declared.node.Node.{Node}
use Rattle.expression.specs.Nodes.{small_letter, sound_letters, known, takes, may_follow, sound_from}

pub sound_step : (ns : List Node) (d i : ℕ) (e : Node) → i < length ns → sound_from d (drop i ns) ≡ (may_follow d (get_or ns i e) && sound_from (d - takes (get_or ns i e) + 1) (drop (i + 1) ns))
sound_step ns d i e h = at_drop_more (sound_from d) ns i e h

-- what a node that may follow tells
pub follows : (d : ℕ) (n : Node) → may_follow d n ≡ true → (known n ≡ true) × (takes n ≤ d) × (d - takes n + 1 ≤ 32)
follows d n h =
    let p = and_parts (known n && leb (takes n) d) _ h in
    let q = and_parts (known n) _ p.0 in
    (q.0, leb-true _ _ q.1, leb-true _ _ p.1)

-- how many values lie after a node that may follow
abbrev pub follow : ℕ → Node → Option ℕ
follow d n = then_some (may_follow d n) (d - takes n + 1)

pub leaves_one : (d : ℕ) (ns : List Node) → option_eq eqb (tried follow d ns) (Some 1) ≡ sound_from d ns
leaves_one d [] = refl
leaves_one d (n ∷ ns) = let h = leaves_one (d - takes n + 1) ns in grind arith

-- small letters alone, of at most four
pub all_small : (n : ℕ) (xs : List ℕ) → n ≤ 4 → length xs ≡ 4 → list_all small_letter (take n xs) ≡ sound_letters (record { count = n; codes = xs })
all_small n [] l h = absurd (omega arith)
all_small n (a ∷ []) l h = absurd (omega arith)
all_small n (a ∷ b ∷ []) l h = absurd (omega arith)
all_small n (a ∷ b ∷ c ∷ []) l h = absurd (omega arith)
all_small zero (a ∷ b ∷ c ∷ d ∷ []) l h = refl
all_small (suc zero) (a ∷ b ∷ c ∷ d ∷ []) l h = grind arith
all_small (suc (suc zero)) (a ∷ b ∷ c ∷ d ∷ []) l h = grind arith
all_small (suc (suc (suc zero))) (a ∷ b ∷ c ∷ d ∷ []) l h = grind arith
all_small (suc (suc (suc (suc zero)))) (a ∷ b ∷ c ∷ d ∷ []) l h = grind arith
all_small (suc (suc (suc (suc (suc n))))) (a ∷ b ∷ c ∷ d ∷ []) l h = absurd (omega arith)
all_small n (a ∷ b ∷ c ∷ d ∷ e ∷ xs) l h = absurd (omega arith)
