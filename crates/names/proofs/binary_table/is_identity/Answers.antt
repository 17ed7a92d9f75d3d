use Rattle.std.proofs.Common.{ℕ, eqb, ◌∙◌, rules}
use Rattle.std.proofs.lemmas.Iterator.{YieldsList-from_slice}
use Rattle.std.proofs.lemmas.Iterator.Consumers.{YieldsList-from_enumerate}
use Rattle.std.proofs.lemmas.Iterator.Search.{all_from_yields_List}
use borrow.Author.Tests.{tests}
use Rattle.names.proofs.Testing.{identity_test}
use Rattle.names.proofs.binary_table.is_identity.Goals as goal

pub returns : goal.returns
returns c = all_from_yields_List (λ (p : ℕ × ℕ). eqb p.1 p.0) _ _ _ c.all.ensures.ran (YieldsList-from_enumerate (YieldsList-from_slice c.args.slots.now cc) cc) (λ x b q k. search (rules, tests)) ∙ identity_test 0 c.args.slots.now
