use Rattle.std.proofs.Common.{◌≡◌, ◌-◌, Some}
use Rattle.layout.specs.Layouts.{at}
use Rattle.layout.specs.Answers.{index_of}
use Rattle.translation.specs.Cuts.{ranges, range_entries, cut}
use Rattle.translation.proofs.Ranging.{Writing}
use Rattle.translation.proofs.ranges.write_ranges.Given as goal

abbrev pub invariant-loop-i : goal.invariant-loop-i
invariant-loop-i g l =
    (l.cutting.axes ≡ l.m) × (l.cutting.last ≡ Some (index_of (at l.layout (l.i - 1))))
    × Writing (cut l.m l.layout) l.count l.initial.table l.at (range_entries (ranges l.m l.layout)) l.table l.start l.written l.i
