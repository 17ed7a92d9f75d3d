use Rattle.std.proofs.Common.{rules}
use Rattle.layout.proofs.Sameness.{places_decide}
use Rattle.layout.proofs.layout_ref.LayoutRef.eq_nonzeros.Goals as goal

pub returns-then-eq : goal.returns-then-eq
returns-then-eq g c = places_decide _ _ c.shape.ensures.valid _ (search (rules, c.if-eq.ensures)) c.same_places.ensures
