use Rattle.table.proofs.Kept.{kept_valid}
use Rattle.table.proofs.table.TableCatalogue.count.Goals as goal

pub returns-clause-valid : goal.returns-clause-valid
returns-clause-valid c = kept_valid c.args.self.now.pool.now c.args.self.now.records.now c.args.self.now.kept
