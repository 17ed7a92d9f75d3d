use Rattle.std.proofs.Common.{◌≡◌, ◌++◌, take, string_bytes}
use Rattle.std.specs.List.{flat_map}
use Rattle.report.specs.Facts.{after_blank}
use Rattle.report.proofs.facts.put_lengths.Given as goal

abbrev pub invariant-loop-length : goal.invariant-loop-length
invariant-loop-length l = string_bytes l.out ≡ string_bytes l.initial.out ++ flat_map after_blank (take l.length-index l.lengths)
