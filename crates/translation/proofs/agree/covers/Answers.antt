use Rattle.std.proofs.Common.{◌≡◌, ◌<◌, sym, ◌∙◌, arith}
use Rattle.std.proofs.lemmas.Bool.{false≢true, eqb-true, eq-eqb}
use Rattle.layout.specs.Layouts.{count}
use Rattle.translation.proofs.Covering.{agrees_true, agrees_false, reached_more, reached_all, begin, goes_on, ends}
use Rattle.translation.proofs.agree.covers.Goals as goal

pub returns-then-not-places_agree : goal.returns-then-not-places_agree
returns-then-not-places_agree g c =
    (λ e. absurd (false≢true e), λ d. absurd (agrees_false c.args.m _ _ (sym c.places_agree.ensures ∙ c.if-not-places_agree.true) (begin c.args.m _ _ c.count-long_count.ensures.valid c.count-short_count.ensures.valid c.requires d)))

pub returns-in_default : goal.returns-in_default
returns-in_default g c =
    let no = c.in_default.ensures in
    let n : c.loop-i.i < count c.args.long.now = omega (arith, c.loop-i-test.true) in
    (λ e. absurd (false≢true e), λ d. absurd (goes_on c.args.m _ _ c.count-long_count.ensures.valid c.count-short_count.ensures.valid c.requires d c.loop-i.i c.loop-i.j c.loop-i.invariant n (agrees_false _ _ _ no.0) (λ h. agrees_false _ _ _ (no.1 h))))

pub loop-i-preserved : goal.loop-i-preserved
loop-i-preserved g c =
    let yes' = c.in-Some.ensures in
    reached_more c.args.m _ _ c.loop-i.i c.loop-i.j c.in-Some.next c.loop-i.invariant yes'.0 yes'.1 yes'.2 (agrees_true c.args.m _ _ yes'.3)

pub returns : goal.returns
returns g c =
    let l = c.args.long.now in
    let r = c.args.short.now in
    let vl = c.count-long_count.ensures.valid in
    let vr = c.count-short_count.ensures.valid in
    let some = vl.some in
    let n : c.loop-i.i ≡ count l = omega arith in
    (λ e. reached_all c.args.m l r c.loop-i.i c.loop-i.j c.loop-i.invariant n (eqb-true _ _ e ∙ c.count-short_count.ensures.is), λ d. eq-eqb _ _ (ends c.args.m l r vl vr c.requires d c.loop-i.i c.loop-i.j c.loop-i.invariant n ∙ sym c.count-short_count.ensures.is))
