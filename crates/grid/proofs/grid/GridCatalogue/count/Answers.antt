use Rattle.std.proofs.Common.{subst}
use Rattle.layout.specs.Layouts.{AllValid}
use Rattle.grid.specs.Grids.{grid_layouts}
use Rattle.grid.proofs.Kept.{kept_valid}
use Rattle.grid.proofs.grid.GridCatalogue.count.Goals as goal

pub returns-clause-valid : goal.returns-clause-valid
returns-clause-valid c = subst (λ gs. AllValid (grid_layouts gs)) c.self.view_is (kept_valid c.self.inside.shapes.items)
