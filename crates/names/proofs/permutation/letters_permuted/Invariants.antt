use Rattle.std.proofs.Common.{◌≡◌, ◌+◌, ◌≤◌, ◌++◌, map, length, take, drop}
use Rattle.arrayvec.specs.ArrayVec.{array_vec_len}
use Rattle.names.specs.Reading as reading
use Rattle.names.proofs.permutation.letters_permuted.Given as goal

abbrev pub invariant-loop-letter : goal.invariant-loop-letter
invariant-loop-letter l = record { slots : l.slots.items ≡ map (reading.slot l.rank l.name) (take l.letter-index l.block); count : array_vec_len l.slots ≡ l.letter-index }

abbrev pub invariant-loop-i : goal.invariant-loop-i
invariant-loop-i l = record { slots : l.slots.items ++ reading.foreign l.i l.block (drop l.i l.name) ≡ reading.permutation l.rank l.block l.name; count : array_vec_len l.slots ≤ length l.block + l.i }
