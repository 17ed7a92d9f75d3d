use Rattle.std.proofs.Common.{ℕ, leb, ltb, ◌||◌, ◌∙◌, rules}
use Rattle.std.proofs.lemmas.Iterator.{YieldsList-from_slice}
use Rattle.std.proofs.lemmas.Iterator.Consumers.{YieldsList-from_enumerate}
use Rattle.std.proofs.lemmas.Iterator.Search.{all_from_yields_List}
use borrow.Author.Tests.{tests}
use Rattle.names.proofs.Testing.{supplied_test}
use Rattle.names.proofs.check.are_supplied.Goals as goal

pub returns : goal.returns
returns c = all_from_yields_List (λ (p : ℕ × ℕ). leb c.args.rank p.1 || ltb p.0 c.args.source_rank) _ _ _ c.all.ensures.ran (YieldsList-from_enumerate (YieldsList-from_slice c.args.slots.now cc) cc) (λ x b q k. search (rules, tests)) ∙ supplied_test c.args.source_rank c.args.rank 0 c.args.slots.now
