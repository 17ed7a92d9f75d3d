use Rattle.std.proofs.Common.{◌≡◌, ◌++◌, string_bytes}
use Rattle.report.specs.Pictures.{each_below, cell_at}
use Rattle.report.proofs.picture.put_row.Given as goal

abbrev pub invariant-loop-column : goal.invariant-loop-column
invariant-loop-column g l = string_bytes l.out ≡ string_bytes l.initial.out ++ each_below l.column (cell_at l.layout l.row)
