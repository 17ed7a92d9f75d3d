use Rattle.std.proofs.Common.{◌≡◌, ℕ, List, ◌++◌, length, string_bytes}
use Rattle.std.specs.List.{flat_map}
use Rattle.design.specs.Lines.{unread}
use Rattle.report.specs.Facts.{before_blank}
use Rattle.report.proofs.facts.put_words.Given as goal

abbrev pub invariant-loop-word : goal.invariant-loop-word
invariant-loop-word l =
    (done : List (List ℕ)) × (unread l.initial.words ≡ done ++ unread l.words) × (string_bytes l.out ≡ string_bytes l.initial.out ++ flat_map before_blank done)

abbrev pub decreases-loop-word : goal.decreases-loop-word
decreases-loop-word l = length (unread l.words)
