use Rattle.std.proofs.Common.{◌≡◌, ◌+◌, length, take}
use Rattle.std.specs.List.{flat_map}
use Rattle.layout.specs.Answers.{index_of}
use Rattle.layout.specs.Layouts.{rank}
use Rattle.records.specs.Written.{written}
use Rattle.entries.proofs.write.write_places.Given as goal

abbrev pub invariant-loop-k : goal.invariant-loop-k
invariant-loop-k g l =
    let s = l.layout in
    let front = flat_map (λ p. take (rank s) (index_of p)) (take l.k s.places) in
    (l.end ≡ l.at + length front) × (l.indices ≡ written l.initial.indices l.at front)
