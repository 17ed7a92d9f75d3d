use Rattle.std.proofs.Common.{◌∙◌}
use Rattle.overlap.proofs.Gathering.{clash_none, clash_more}
use Rattle.overlap.proofs.clash.clash_among.Goals as goal

pub loop-entry-init : goal.loop-entry-init
loop-entry-init g c = clash_none c.earlier_blocks.inside.blocks.now c.earlier_blocks.inside.indices.now c.args.tensor (g.R.Row.places c.args.row.now)

pub loop-entry-preserved : goal.loop-entry-preserved
loop-entry-preserved g c =
    c.earlier-first.ensures
    ∙ clash_more c.earlier_blocks.inside.blocks.now c.earlier_blocks.inside.indices.now c.args.tensor (g.R.Row.places c.args.row.now) c.loop-entry.entry-index _ c.loop-entry.first _ c.loop-entry-test.true c.loop-entry.invariant c.entry_clash.ensures
