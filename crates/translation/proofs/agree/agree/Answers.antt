use Rattle.std.proofs.Common.{◌≡◌, ◌<◌, length, get_or, pos, arith, rules}
use Rattle.std.proofs.lemmas.Iterator.{YieldsList-from_range, cases_from_all}
use borrow.Author.Tests.{tests}
use Rattle.layout.proofs.Ranges.{all_numbers}
use Rattle.translation.proofs.Fronts.{take_same, take_at_same}
use Rattle.translation.proofs.agree.agree.Goals as goal

pub returns : goal.returns
returns c =
    let p = c.args.p in
    let q = c.args.q in
    let m = c.args.m in
    let n : length p ≡ 4 = search rules in
    let n' : length q ≡ 4 = search rules in
    let d = all_numbers 4 (λ k. k < m → get_or p k (pos 0) ≡ get_or q k (pos 0)) _ (cases_from_all _ _ _ (λ k. k < m → get_or p k (pos 0) ≡ get_or q k (pos 0)) (λ k. (k < m → get_or p k (pos 0) ≡ get_or q k (pos 0)) → ⊥) c.all.ensures.ran (YieldsList-from_range 0 4 4 (search rules) (omega arith)) (λ x q k. search (rules, tests)) (λ x q k. search (rules, tests))) in
    (λ t. take_same (pos 0) m p q n n' (d.0 t), λ e. d.1 (λ k h l. take_at_same m p q k (pos 0) l e))
