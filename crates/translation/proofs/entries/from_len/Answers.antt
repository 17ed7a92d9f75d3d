use Rattle.std.proofs.Common.{◌*◌, length, sym, ap, ◌∙◌}
use Rattle.layout.specs.Layouts.{rank}
use Rattle.translation.specs.Cuts.{ranges}
use Rattle.translation.specs.Entries.{from_entries}
use Rattle.translation.proofs.Entering.{ranges_long}
use Rattle.translation.proofs.entries.from_len.Goals as goal

pub returns-in-SparseContraction-clause-is : goal.returns-in-SparseContraction-clause-is
returns-in-SparseContraction-clause-is g c =
    let b = c.args.block.now in
    ap (λ n. 2 * n) c.count_ranges.ensures.is ∙ ap (λ m. 2 * length (ranges m b.source)) c.rank.ensures.is ∙ sym (ranges_long (ranges (rank b.via) b.source)) ∙ ap (λ f. length (from_entries f b.source (rank b.via))) (sym c.in-SparseContraction.is)
