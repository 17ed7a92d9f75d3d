use Rattle.std.proofs.Common.{◌<◌, get_or, sym, subst, rules}
use Rattle.table.proofs.Truths.{entry_small}
use Rattle.table.proofs.sparse.SparseLayout.place.Goals as goal

pub as_index-requires : goal.as_index-requires
as_index-requires c i = subst (λ t. get_or t i 0 < 65536) (sym c.get.ensures) (entry_small c.args.self.now.places.pool.now c.args.self.now.places.layout c.args.self.now.kept c.args.number (search rules) i)
