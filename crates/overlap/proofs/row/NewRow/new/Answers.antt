use Rattle.overlap.proofs.Fittings.{row_lined, row_some}
use Rattle.overlap.proofs.row.NewRow.new.Goals as goal

pub invariant_of-result : goal.invariant_of-result
invariant_of-result g c = (row_some _ _ _ _ _ c.requires.1 c.count.ensures.valid, row_lined _ _ _ _ _ c.requires.1 c.count-2.ensures.valid)
