use Rattle.std.proofs.Common.{◌∙◌}
use Rattle.translation.proofs.Lawfulness.{laws_of, over_listed}
use Rattle.translation.proofs.Meeting.{translates}
use Rattle.translation.proofs.kinds.Translation.new.Goals as goal

pub returns-in_err-in_catalogue-clause-over : goal.returns-in_err-in_catalogue-clause-over
returns-in_err-in_catalogue-clause-over g c = over_listed

pub returns : goal.returns
returns g c =
    let ls = g.C.Catalogue.layouts c.args.catalogue.now in
    let r = c.args.route in
    let valid = c.in_ok-in_catalogue.ensures.valid in
    let is = c.translate.ensures ∙ translates ls r _ _ _ _ c.in_ok-in_catalogue.ensures.is in
    record { is = is; lawful = laws_of ls r.source r.via r.target r.start c.translate.result valid is; over = over_listed; valid = valid }
