use Rattle.std.proofs.Common.{◌≡◌, length, drop}
use Rattle.names.specs.Reading as reading
use Rattle.names.proofs.element.permuted.Given as goal

abbrev pub invariant-loop-i : goal.invariant-loop-i
invariant-loop-i l = (reading.scattered l.rank l.x l.i (drop l.i l.slots) l.y ≡ reading.permuted l.rank l.slots l.x) × (length l.y ≡ 4)
