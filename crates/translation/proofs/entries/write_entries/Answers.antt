use Rattle.layout.specs.Layouts.{rank, count}
use Rattle.translation.specs.Tos.{destination}
use Rattle.translation.specs.Entries.{from_entries, to_entries}
use Rattle.translation.proofs.Entering.{both_parts}
use Rattle.translation.proofs.entries.write_entries.Goals as goal

pub returns : goal.returns
returns g c =
    let b = c.args.block.now in
    let t = c.args.translation in
    let h = both_parts c.args.table.now c.write_from-listed.new.table c.write_to.new.table (from_entries t.from b.source (rank b.via)) (to_entries t.to (destination b.via b.start b.target) (count b.via)) c.args.at c.write_from-listed.result c.write_to.result c.requires
    c.write_from-listed.ensures.end c.write_from-listed.ensures.written c.write_to.ensures.end c.write_to.ensures.written in
    record { end = h.0; written = h.1 }
