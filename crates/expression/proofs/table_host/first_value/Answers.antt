use Rattle.std.proofs.Common.{◌≡◌, ap, ◌∙◌, rules}
use borrow.Author.Tests.{tests}
use Rattle.std.specs.Option.{option_map}
use Rattle.std.proofs.lemmas.Iterator.{YieldsList-from_slice}
use Rattle.std.proofs.lemmas.Iterator.Search.{find_from_yields_List}
use Rattle.expression.specs.Hosts.{matches}
use Rattle.expression.proofs.Matching.{first_match}
use Rattle.expression.proofs.table_host.first_value.Goals as goal

pub returns : goal.returns
returns c =
    let found = find_from_yields_List (λ e. matches e c.args.code c.args.arguments.now) _ _ c.find.result c.find.ensures.ran (YieldsList-from_slice c.args.entries.now cc) (λ x b q k. search (rules, tests)) in
    let given : c.map.result ≡ option_map (λ e. e.value) (option_map (λ x. x.now) c.find.result) = search rules in
    given ∙ ap (option_map (λ e. e.value)) found ∙ first_match c.args.entries.now c.args.code c.args.arguments.now
