use Rattle.std.proofs.Common.{◌≡◌, take}
use Rattle.overlap.specs.Clashes.{first_that, stored_at}
use Rattle.overlap.proofs.clash.clash_among.Given as goal

abbrev pub invariant-loop-entry : goal.invariant-loop-entry
invariant-loop-entry g l = l.first ≡ first_that (λ k. stored_at (take l.entry-index l.entry-items) l.earlier_blocks-inside.indices.now l.tensor ((g.R.Row.places l.row).at k)) (g.R.Row.places l.row).many
