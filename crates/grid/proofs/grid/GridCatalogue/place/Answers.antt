use Rattle.std.proofs.Common.{◌∙◌}
use Rattle.layout.proofs.Asking.{place_there}
use Rattle.grid.specs.Grids.{grid_layout, grid_layouts}
use Rattle.grid.proofs.Kept.{there, here}
use Rattle.grid.proofs.grid.GridCatalogue.place.Goals as goal

pub returns : goal.returns
returns c =
    let gs = c.args.self.now in
    let k = c.args.layout in
    let s = c.in_ok-get.field-0.now in
    let f = c.in_ok-get.ensures.lookup.3 in
    c.place.ensures ∙ place_there (grid_layouts gs) k c.args.number (grid_layout s.shape) (there gs c.self.inside.shapes.items c.deref.result.now c.self.view_is c.deref.ensures.0 k s f) (here gs c.self.inside.shapes.items c.deref.result.now c.self.view_is c.deref.ensures.0 k s f)
