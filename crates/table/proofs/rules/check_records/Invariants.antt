use Rattle.std.proofs.Common.{◌≡◌, ℕ, ◌<◌, true, get_or}
use Rattle.table.specs.Records.{kept, no_record}
use Rattle.table.proofs.rules.check_records.Given as goal

abbrev pub invariant-loop-n : goal.invariant-loop-n
invariant-loop-n l = (j : ℕ) → j < l.n → kept l.pool (get_or l.records j no_record) ≡ true
