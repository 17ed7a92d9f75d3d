use Rattle.std.proofs.Common.{◌≡◌, ◌+◌, ◌-◌, ◌≤◌, length, Some}
use Rattle.layout.specs.Layouts.{at}
use Rattle.layout.specs.Answers.{index_of}
use Rattle.translation.specs.Cuts.{ranges, ranges_from, cut}
use Rattle.translation.proofs.ranges.count_ranges.Given as goal

abbrev pub invariant-loop-i : goal.invariant-loop-i
invariant-loop-i g l =
    (l.n ≤ l.i) × (l.cutting.axes ≡ l.m) × (l.cutting.last ≡ Some (index_of (at l.layout (l.i - 1))))
    × (l.n + length (ranges_from (cut l.m l.layout) 0 l.i (l.count - l.i)) ≡ 1 + length (ranges l.m l.layout))
