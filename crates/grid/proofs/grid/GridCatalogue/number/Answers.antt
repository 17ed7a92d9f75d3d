use Rattle.std.proofs.Common.{◌≡◌, ◌<◌, ◌≤◌, length, Ok, ap, ◌∙◌, subst, MatchOption}
use Rattle.std.specs.List.{HoldsAt}
use Rattle.layout.specs.Layouts.{strict}
use Rattle.layout.proofs.Asking.{asked_there}
use Rattle.grid.specs.Grids.{grid_layout, grid_layouts}
use Rattle.grid.proofs.Kept.{there, here}
use Rattle.grid.proofs.grid.GridCatalogue.number.Goals as goal

pub returns : goal.returns
returns c =
    let gs = c.args.self.now in
    let k = c.args.layout in
    let s = c.in_ok-shape.shape.now in
    let f = subst (λ o. MatchOption o (length c.deref.result.now ≤ k) (λ x. (k < length c.deref.result.now) × HoldsAt (λ y. x.now ≡ y) c.deref.result.now k)) c.in_ok-shape.ensures.ok_part c.get.ensures.lookup.3 in
    ap Ok c.number.ensures ∙ asked_there (grid_layouts gs) k (λ l. strict l c.args.index) (grid_layout s.shape) (there gs c.self.inside.shapes.items c.deref.result.now c.self.view_is c.deref.ensures.0 k s f) (here gs c.self.inside.shapes.items c.deref.result.now c.self.view_is c.deref.ensures.0 k s f)
