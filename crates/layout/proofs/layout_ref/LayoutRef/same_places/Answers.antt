use Rattle.std.proofs.Common.{◌≡◌, arith, rules}
use Rattle.std.proofs.lemmas.Iterator.{YieldsList-from_range, cases_from_all}
use borrow.Author.Tests.{tests}
use Rattle.layout.specs.Layouts.{count}
use Rattle.layout.specs.Answers.{place_in}
use Rattle.layout.proofs.Ranges.{all_numbers}
use Rattle.layout.proofs.layout_ref.LayoutRef.same_places.Goals as goal

pub returns : goal.returns
returns g c =
    let l = c.args.self.now in
    let m = c.args.other.now in
    all_numbers (count l) (λ k. place_in l k ≡ place_in m k) _ (cases_from_all _ _ _ (λ k. place_in l k ≡ place_in m k) (λ k. place_in l k ≡ place_in m k → ⊥) c.all.ensures.ran (YieldsList-from_range 0 (count l) (count l) (search rules) (omega arith)) (λ x q k. search (rules, tests)) (λ x q k. search (rules, tests)))
