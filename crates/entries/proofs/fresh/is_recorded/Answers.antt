use Rattle.std.proofs.Common.{◌∙◌, rules}
use Rattle.std.proofs.lemmas.Iterator.{YieldsList-from_slice}
use Rattle.std.proofs.lemmas.Iterator.Search.{any_from_yields_List}
use borrow.Author.Tests.{tests}
use Rattle.records.specs.declared.record.BinaryRecord.{BinaryRecord}
use Rattle.entries.specs.Fresh.{same_key}
use Rattle.entries.proofs.Freshness.{has_key_of}
use Rattle.entries.proofs.fresh.is_recorded.Goals as goal

pub returns : goal.returns
returns c = any_from_yields_List (λ (r : BinaryRecord). same_key r.key c.args.key.now) _ _ _ c.any.ensures.ran (YieldsList-from_slice c.args.binaries.now (search rules)) (λ x b q k. search (rules, tests)) ∙ has_key_of c.args.key.now c.args.binaries.now
