use Rattle.std.proofs.Common.{◌∙◌, ap}
use Rattle.overlap.specs.Clashes.{first_that, stored_at}
use Rattle.overlap.specs.Rows.{new_row}
use Rattle.overlap.proofs.Fittings.{clash_is}
use Rattle.overlap.proofs.clash.first_clash.Goals as goal

pub returns : goal.returns
returns g c =
    clash_is _ _ _ _ c.args.translation c.requires.1 c.args.earlier_blocks.now.blocks c.args.earlier_blocks.now.indices c.args.tensor _
    (c.clash_among.ensures ∙ ap (λ r. first_that (λ k. stored_at c.args.earlier_blocks.now.blocks c.args.earlier_blocks.now.indices c.args.tensor ((new_row r).at k)) (new_row r).many) c.new.ensures)
