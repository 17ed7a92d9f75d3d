use Rattle.std.proofs.Common.{◌≡◌, take}
use Rattle.layout.specs.Layouts.{count}
use Rattle.translation.specs.Tos.{destination, destination_entries}
use Rattle.translation.proofs.target.write_destinations.Given as goal

abbrev pub invariant-loop-k : goal.invariant-loop-k
invariant-loop-k g l = take l.k l.table ≡ take l.k (destination_entries (destination l.block.via l.block.start l.block.target) (count l.block.via))
