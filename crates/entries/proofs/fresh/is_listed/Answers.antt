use Rattle.std.proofs.Common.{rules}
use Rattle.std.proofs.lemmas.Iterator.{YieldsList-from_slice}
use Rattle.std.proofs.lemmas.Iterator.Search.{any_from_yields_List}
use borrow.Author.Tests.{tests}
use Rattle.names.specs.declared.binary_table.TableKey.{TableKey}
use Rattle.entries.specs.Fresh.{same_key}
use Rattle.entries.proofs.fresh.is_listed.Goals as goal

pub returns : goal.returns
returns c = any_from_yields_List (λ (l : TableKey). same_key l c.args.key.now) _ _ _ c.any.ensures.ran (YieldsList-from_slice c.args.listed.now (search rules)) (λ x b q k. search (rules, tests))
