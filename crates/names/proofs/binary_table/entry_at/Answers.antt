use Rattle.names.proofs.Tabling.{small_number}
use Rattle.names.proofs.binary_table.entry_at.Goals as goal

pub table_entry-requires : goal.table_entry-requires
table_entry-requires g c = rw c.find_nnz_index.ensures (small_number c.args.layout.now c.permuted.result c.shape-rank.ensures.valid)
