use Rattle.std.proofs.Common.{◌≡◌, ℕ, List, ◌++◌, length, Ok, vec_items}
use Rattle.design.specs.Numbers.{Says}
use Rattle.design.specs.Texts.{left}
use Rattle.design.proofs.words.Words.numbers.Given as goal

abbrev pub invariant-loop-word : goal.invariant-loop-word
invariant-loop-word g l =
    (l.self.line ≡ l.initial.self.line)
    × ((done : List (List ℕ)) × Says (λ w n. g.N.FromStr.from_str_gives w (Ok n)) done (vec_items l.values) × (left l.initial.self.rest ≡ done ++ left l.self.rest))

abbrev pub decreases-loop-word : goal.decreases-loop-word
decreases-loop-word g l = length (left l.self.rest)
