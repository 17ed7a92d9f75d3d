use Rattle.std.proofs.Common.{◌≡◌, ◌+◌, ◌≤◌, [], ◌∷◌, ◌++◌, take}
use Rattle.arrayvec.specs.ArrayVec.{array_vec_len}
use Rattle.names.proofs.evaluate.put_from.Given as goal

abbrev pub invariant-loop-stack : goal.invariant-loop-stack
invariant-loop-stack l = record { within : l.low + 1 ≤ array_vec_len l.stack; front : take (l.low + 1) l.stack.items ≡ take l.low l.initial.stack.items ++ l.value ∷ [] }

abbrev pub decreases-loop-stack : goal.decreases-loop-stack
decreases-loop-stack l = array_vec_len l.stack
