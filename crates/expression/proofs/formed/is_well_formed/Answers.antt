use Rattle.std.proofs.Common.{Some, eqb, ap, ◌∙◌, ◌&&◌, rules}
use borrow.Author.Tests.{tests}
use Rattle.std.specs.Option.{option_eq}
use Rattle.std.proofs.lemmas.Iterator.{YieldsList-from_slice}
use Rattle.expression.specs.Nodes.{sound_from}
use Rattle.expression.proofs.Forming.{follow, leaves_one}
use Rattle.expression.proofs.Trying.{try_fold_from_yields_List}
use Rattle.expression.proofs.formed.is_well_formed.Goals as goal

pub returns-then-count_sound : goal.returns-then-count_sound
returns-then-count_sound c =
    let left = try_fold_from_yields_List _ _ _ follow _ (λ b x r q k. search (rules, tests)) _ 0 c.try_fold.result c.try_fold.ensures.ran (YieldsList-from_slice c.args.nodes.now cc) in
    c.eq.ensures ∙ ap (λ r. option_eq eqb r (Some 1)) left ∙ leaves_one 0 c.args.nodes.now ∙ ap (λ b. b && sound_from 0 c.args.nodes.now) c.if-count_sound.ensures
