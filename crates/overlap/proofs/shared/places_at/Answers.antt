use Rattle.std.proofs.Common.{◌∙◌, eqb, rules}
use borrow.Author.Tests.{tests}
use Rattle.std.proofs.lemmas.Iterator.{YieldsList-from_slice}
use Rattle.std.proofs.lemmas.Iterator.Search.{find_from_yields_List}
use Rattle.overlap.proofs.Finds.{found_none, found_some}
use Rattle.overlap.proofs.shared.places_at.Goals as goal

pub returns-in_err-entry : goal.returns-in_err-entry
returns-in_err-entry c =
    c.from_residual.ensures
    ∙ found_none (λ e. eqb e.route.source c.args.source) (λ e. e.places) c.args.blocks.now c.find.result
    (find_from_yields_List _ _ _ c.find.result c.find.ensures.ran (YieldsList-from_slice _ c.iter.ensures.rest) (λ x b q k. search (rules, tests))) c.in_err-entry.was

pub returns : goal.returns
returns c =
    found_some (λ e. eqb e.route.source c.args.source) (λ e. e.places) c.args.blocks.now c.find.result c.in_ok-entry.entry
    (find_from_yields_List _ _ _ c.find.result c.find.ensures.ran (YieldsList-from_slice _ c.iter.ensures.rest) (λ x b q k. search (rules, tests))) c.in_ok-entry.was
