-- The layouts that a route names.
use Rattle.std.specs.Prelude.{◌≡◌, ◌<◌, List, length, ℤ, slice_index_or}
use Rattle.layout.specs.Layouts.{Layout, blank}
use Rattle.translation.specs.declared.route.Route.{Route}

-- the catalogue has them all
abbrev pub AllKnown : List Layout → Route → Type 0
AllKnown ls r = (r.source < length ls) × (r.via < length ls) × (r.target < length ls)

-- source s, via v, start x and target g are those of the route
pub record Leads (ls : List Layout) (r : Route) (s v : Layout) (x : List ℤ) (g : Layout) : Type 0 where
  pub known : AllKnown ls r
  pub source : s ≡ slice_index_or ls r.source blank
  pub via : v ≡ slice_index_or ls r.via blank
  pub start : x ≡ r.start
  pub target : g ≡ slice_index_or ls r.target blank
