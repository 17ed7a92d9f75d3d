use Rattle.std.proofs.Common.{◌<◌, ◌≤◌, sym, subst, rules}
use borrow.Author.Tests.{tests}
use Rattle.std.proofs.lemmas.Iterator.{first_from_Range}
use Rattle.overlap.specs.Rows.{Skips}
use Rattle.overlap.proofs.Merging.{skips}
use Rattle.overlap.proofs.merge.skip_before.Goals as goal

pub returns : goal.returns
returns g c =
    let p = g.R.Row.places c.args.row.now in
    subst (Skips p.at p.many c.args.from c.args.place) (sym c.unwrap_or.ensures)
    (skips p.at p.many c.args.from c.args.place c.len-count.result c.find.result c.len-count.ensures.is c.requires
    (first_from_Range _ _ _ c.find.result (λ k. c.args.place ≤ p.at k) (λ k. p.at k < c.args.place) c.find.ensures.ran (λ x q k. search (rules, tests)) (λ x q k. search (rules, tests))))
