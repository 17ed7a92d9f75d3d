use Rattle.std.proofs.Common.{◌≡◌, ◌<◌, length, sym, ap, ◌∙◌, arith, rules}
use Rattle.layout.specs.Places.{axis}
use Rattle.layout.specs.Answers.{index_of}
use Rattle.layout.specs.Radix.{size, unravel, along}
use Rattle.grid.specs.Grids.{grid_shape}
use Rattle.grid.proofs.Validity.{grid_valid}
use Rattle.grid.proofs.Answering.{count_dense, count_diagonal, at_dense, at_diagonal, rank_is}
use Rattle.grid.proofs.sound_shape.SoundShape.place_of.Goals as goal

pub unravelled-requires-clause-small : goal.unravelled-requires-clause-small
unravelled-requires-clause-small c = omega (arith, c.requires, (grid_valid c.args.self.now.shape c.args.self.now.sound).many)

pub diagonal_place-requires : goal.diagonal_place-requires
diagonal_place-requires c = omega (arith, c.requires, (grid_valid c.args.self.now.shape c.args.self.now.sound).many)

pub returns-in-Dense : goal.returns-in-Dense
returns-in-Dense c =
    let l : c.args.number < size (grid_shape c.args.self.now.shape) = rw (count_dense c.args.self.now.shape c.in-Dense.is) at c.requires in
    c.unravelled.ensures ∙ ap (λ m. index_of (unravel m c.args.number)) c.padded.ensures ∙ ap index_of (sym (at_dense c.args.self.now.shape c.args.number c.in-Dense.is l))

pub returns-in-Diagonal : goal.returns-in-Diagonal
returns-in-Diagonal c =
    let n : length c.args.self.now.shape.lengths ≡ 4 = search rules in
    let l : c.args.number < axis (grid_shape c.args.self.now.shape) 0 = rw (count_diagonal c.args.self.now.shape c.in-Diagonal.is) at c.requires in
    c.diagonal_place.ensures ∙ ap (λ r. index_of (along r c.args.number)) (sym (rank_is c.args.self.now.shape c.args.self.now.sound n)) ∙ ap index_of (sym (at_diagonal c.args.self.now.shape c.args.number c.in-Diagonal.is l))
