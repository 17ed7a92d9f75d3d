use Rattle.std.proofs.Common.{◌≡◌, true, get_or, below_more}
use Rattle.table.specs.Records.{kept, no_record}
use Rattle.table.proofs.rules.check_records.Goals as goal

pub loop-n-preserved : goal.loop-n-preserved
loop-n-preserved c = below_more (λ j. kept c.args.pool.now (get_or c.args.records.now j no_record) ≡ true) _ c.loop-n.invariant c.in_ok-check_record.ensures
