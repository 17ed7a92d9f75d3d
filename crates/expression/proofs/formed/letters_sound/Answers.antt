use Rattle.std.proofs.Common.{◌≡◌, length, take, ◌∙◌, rules}
use borrow.Author.Tests.{tests}
use Rattle.std.proofs.lemmas.Iterator.{YieldsList-from_slice}
use Rattle.std.proofs.lemmas.Iterator.Search.{all_from_yields_List}
use Rattle.expression.specs.Nodes.{small_letter}
use Rattle.expression.proofs.Forming.{all_small}
use Rattle.expression.proofs.formed.letters_sound.Goals as goal

pub returns-then-l-le4 : goal.returns-then-l-le4
returns-then-l-le4 c =
    let n : length c.args.l.codes ≡ 4 = search rules in
    all_from_yields_List small_letter _ _ c.all.result c.all.ensures.ran (YieldsList-from_slice (take c.args.l.count c.args.l.codes) cc) (λ x b q k. search (rules, tests)) ∙ all_small c.args.l.count c.args.l.codes c.if-l-le4.true n
