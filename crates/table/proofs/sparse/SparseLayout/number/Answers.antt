use Rattle.std.proofs.Common.{◌≡◌, length, ◌∙◌, rules}
use Rattle.table.proofs.Truths.{ascends}
use Rattle.table.proofs.Lookups.{search_none, search_some}
use Rattle.table.proofs.sparse.SparseLayout.number.Goals as goal

pub returns-in_err-e : goal.returns-in_err-e
returns-in_err-e c =
    let n : length c.args.self.now.places.layout.lengths ≡ 4 = search rules in
    c.from_residual.ensures ∙ search_none c.args.self.now.places.pool.now c.args.self.now.places.layout c.args.self.now.kept n c.lengths.result c.lengths.ensures c.args.index c.in_err-e.ensures

pub search-requires : goal.search-requires
search-requires c = ascends c.args.self.now.places.pool.now c.args.self.now.places.layout c.args.self.now.kept

pub returns : goal.returns
returns c =
    let n : length c.args.self.now.places.layout.lengths ≡ 4 = search rules in
    search_some c.args.self.now.places.pool.now c.args.self.now.places.layout c.args.self.now.kept n c.lengths.result c.lengths.ensures c.args.index c.in_ok-e.e c.search.result c.in_ok-e.ensures c.search.ensures
