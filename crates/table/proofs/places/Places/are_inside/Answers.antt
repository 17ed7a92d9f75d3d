use Rattle.std.proofs.Common.{◌≡◌, ℕ, Bool, true, ap, ◌∙◌, arith, rules}
use Rattle.std.proofs.lemmas.Iterator.{YieldsList-from_range, cases_from_all}
use borrow.Author.Tests.{tests}
use Rattle.layout.proofs.Ranges.{all_numbers}
use Rattle.grid.specs.Grids.{grid_shape}
use Rattle.grid.proofs.Answering.{fours}
use Rattle.table.specs.Records.{each_below, inside_test, record_place}
use Rattle.table.proofs.Below.{each_decided}
use Rattle.table.proofs.places.Places.are_inside.Goals as goal

pub returns : goal.returns
returns c =
    let r = c.args.self.now.layout in
    let n = r.count in
    let place = record_place c.args.self.now.pool.now r in
    let test : ℕ → Bool = λ k. inside_test c.padded-n.result (place k) in
    let decided = all_numbers n (λ k. test k ≡ true) _ (cases_from_all _ _ _ (λ k. test k ≡ true) (λ k. test k ≡ true → ⊥) c.all.ensures.ran (YieldsList-from_range 0 n n (search rules) (omega arith)) (λ x q k. search (rules, tests)) (λ x q k. search (rules, tests))) in
    each_decided test n _ decided ∙ ap (λ m. each_below n (λ k. inside_test m (place k))) (c.padded-n.ensures ∙ ap (λ g. fours (grid_shape g)) c.from.ensures)
