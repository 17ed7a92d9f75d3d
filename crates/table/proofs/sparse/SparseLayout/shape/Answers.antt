use Rattle.std.proofs.Common.{◌≡◌, length, take, arith, rules}
use Rattle.std.proofs.lemmas.List.{length-take}
use Rattle.table.proofs.Truths.{sparse_count, sparsely}
use Rattle.table.proofs.sparse.SparseLayout.shape.Goals as goal

pub returns : goal.returns
returns c =
    let pool = c.args.self.now.places.pool.now in
    let r = c.args.self.now.places.layout in
    let n : length r.lengths ≡ 4 = search rules in
    let h = (sparsely pool r c.args.self.now.kept).high in
    let k = sparse_count pool r in
    let m : length (take r.rank r.lengths) ≡ r.rank = simp length-take (omega arith) in
    cc
