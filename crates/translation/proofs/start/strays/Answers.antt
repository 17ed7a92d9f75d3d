use Rattle.std.proofs.Common.{◌∙◌, rules}
use Rattle.std.proofs.lemmas.Iterator.{YieldsList-from_slice}
use Rattle.std.proofs.lemmas.Iterator.Adapters.{YieldsList-from_skip}
use Rattle.std.proofs.lemmas.Iterator.Search.{any_from_yields_List}
use borrow.Author.Tests.{tests}
use Rattle.translation.proofs.Straying.{is_set, strays_drop}
use Rattle.translation.proofs.start.strays.Goals as goal

pub returns : goal.returns
returns c = any_from_yields_List is_set _ _ _ c.any.ensures.ran (YieldsList-from_skip c.args.rank (YieldsList-from_slice c.args.start (search rules)) (search rules)) (λ x b q k. search (rules, tests)) ∙ strays_drop c.args.rank c.args.start (search rules)
