use Rattle.std.proofs.Common.{◌≡◌, ℕ, ◌+◌, ◌-◌, Bool, true, arith, rules}
use Rattle.std.proofs.lemmas.Iterator.{YieldsList-from_range, cases_from_all}
use borrow.Author.Tests.{tests}
use Rattle.layout.proofs.Ranges.{all_numbers}
use Rattle.table.specs.Records.{before_test, record_place}
use Rattle.table.proofs.Below.{each_decided}
use Rattle.table.proofs.places.Places.ascend.Goals as goal

pub returns : goal.returns
returns c =
    let n = c.args.self.now.layout.count - 1 in
    let place = record_place c.args.self.now.pool.now c.args.self.now.layout in
    let test : ℕ → Bool = λ k. before_test (place k) (place (k + 1)) in
    each_decided test n _ (all_numbers n (λ k. test k ≡ true) _ (cases_from_all _ _ _ (λ k. test k ≡ true) (λ k. test k ≡ true → ⊥) c.all.ensures.ran (YieldsList-from_range 0 n n (search rules) (omega arith)) (λ x q k. search (rules, tests)) (λ x q k. search (rules, tests))))
