use Rattle.std.proofs.Common.{◌≡◌, ◌+◌, length, take}
use Rattle.records.specs.Written.{written}
use Rattle.entries.specs.Fresh.{tables, records_from}
use Rattle.entries.proofs.write.write_tables.Given as goal

abbrev pub invariant-loop-i : goal.invariant-loop-i
invariant-loop-i g l =
    let ls = g.C.Catalogue.layouts l.c in
    (l.end ≡ l.at + length (tables ls (take l.i l.keys)))
    × (l.indices ≡ written l.initial.indices l.at (tables ls (take l.i l.keys)))
    × (l.binaries ≡ written l.initial.binaries l.number (records_from ls l.at (take l.i l.keys)))
