use Rattle.std.proofs.Common.{◌≡◌, take}
use Rattle.names.specs.Tables.{binary_table}
use Rattle.names.proofs.binary_table.write_table.Given as goal

abbrev pub invariant-loop-k : goal.invariant-loop-k
invariant-loop-k g l = take l.k l.table ≡ take l.k (binary_table l.layout l.source l.slots)
