use Rattle.std.proofs.Common.{◌≡◌, length, Some, ap, ◌∙◌, rules}
use Rattle.grid.proofs.Answering.{number_none, number_dense, number_diagonal, got_small}
use Rattle.grid.proofs.sound_shape.SoundShape.number.Goals as goal

pub ravelled-requires-clause-entries : goal.ravelled-requires-clause-entries
ravelled-requires-clause-entries c =
    let n : length c.args.self.now.shape.lengths ≡ 4 = search rules in
    got_small c.args.self.now.shape c.args.self.now.sound n c.padded-n.result c.padded-n.ensures c.args.index c.in_ok-e.e c.in_ok-e.ensures

pub returns-in_err-e : goal.returns-in_err-e
returns-in_err-e c =
    let n : length c.args.self.now.shape.lengths ≡ 4 = search rules in
    c.from_residual.ensures ∙ number_none c.args.self.now.shape c.args.self.now.sound n c.padded-n.result c.padded-n.ensures c.args.index c.in_err-e.ensures

pub returns-in-Dense : goal.returns-in-Dense
returns-in-Dense c =
    let n : length c.args.self.now.shape.lengths ≡ 4 = search rules in
    ap Some c.ravelled.ensures ∙ number_dense c.args.self.now.shape c.args.self.now.sound n c.padded-n.result c.padded-n.ensures c.args.index c.in_ok-e.e c.in-Dense.is c.in_ok-e.ensures

pub returns-in-Diagonal : goal.returns-in-Diagonal
returns-in-Diagonal c =
    let n : length c.args.self.now.shape.lengths ≡ 4 = search rules in
    number_diagonal c.args.self.now.shape c.args.self.now.sound n c.padded-n.result c.padded-n.ensures c.args.index c.diagonal_number.result c.in_ok-e.e c.in-Diagonal.is c.in_ok-e.ensures c.diagonal_number.ensures
