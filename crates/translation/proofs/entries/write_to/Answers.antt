use Rattle.std.proofs.Common.{length, ap, ◌∙◌, arith}
use Rattle.layout.specs.Layouts.{count}
use Rattle.translation.specs.Tos.{destination}
use Rattle.translation.specs.Entries.{to_entries}
use Rattle.translation.proofs.Entering.{destinations_long}
use Rattle.translation.proofs.entries.write_to.Goals as goal

pub slice_bounds-write_destinations-end : goal.slice_bounds-write_destinations-end
slice_bounds-write_destinations-end g c =
    let b = c.args.block.now in
    let d = destination b.via b.start b.target in
    let e = ap (λ t. length (to_entries t d (count b.via))) c.in-Listed.is ∙ destinations_long d (count b.via) in
    omega (arith, c.requires, e)
