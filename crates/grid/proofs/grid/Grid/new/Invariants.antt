use Rattle.std.proofs.Common.{◌≡◌, ℕ, ◌<◌, true, get_or, take}
use Rattle.grid.specs.Grids.{sound, no_shape}
use Rattle.grid.specs.Shapes.{shapes_of}
use Rattle.grid.proofs.grid.Grid.new.Given as goal

abbrev pub invariant-loop-k : goal.invariant-loop-k
invariant-loop-k l = (shapes_of l.kept.items ≡ take l.k l.shapes) × ((j : ℕ) → j < l.k → sound (get_or l.shapes j no_shape) ≡ true)
