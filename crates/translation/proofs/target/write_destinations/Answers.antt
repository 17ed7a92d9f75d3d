use Rattle.std.proofs.Common.{◌≡◌, pos, unwrap_or, sym, ap, ◌∙◌, arith, w32, to_z, of_z}
use Rattle.std.proofs.lemmas.Int.{ints}
use Rattle.std.proofs.lemmas.List.{take_all}
use Rattle.layout.specs.Layouts.{count}
use Rattle.translation.specs.Tos.{destination, destination_entries}
use Rattle.translation.proofs.Entering.{destinations_long}
use Rattle.translation.proofs.Going.{destination_more}
use Rattle.translation.proofs.target.write_destinations.Goals as goal

pub loop-k-preserved : goal.loop-k-preserved
loop-k-preserved g c =
    let b = c.args.block.now in
    let v = to_z w32 (of_z w32 c.entry.result) in
    let same : v ≡ c.entry.result = omega (arith, ints) in
    destination_more (destination b.via b.start b.target) (count b.via) c.loop-k.table c.loop-k.k v (omega arith) (omega arith) (same ∙ c.entry.ensures ∙ ap (λ o. pos (unwrap_or o 0)) c.destination.ensures.is) c.loop-k.invariant

pub returns : goal.returns
returns g c =
    let b = c.args.block.now in
    let d = destination b.via b.start b.target in
    let n = destinations_long d (count b.via) in
    sym (take_all c.loop-k.k c.loop-k.table (omega arith)) ∙ c.loop-k.invariant ∙ take_all c.loop-k.k (destination_entries d (count b.via)) (omega arith)
