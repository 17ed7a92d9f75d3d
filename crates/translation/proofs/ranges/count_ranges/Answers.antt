use Rattle.std.proofs.Common.{◌≡◌, ◌+◌, ◌-◌, Some, sym, ap, ◌∙◌, arith}
use Rattle.layout.specs.Layouts.{at}
use Rattle.layout.specs.Answers.{index_of}
use Rattle.translation.specs.Cuts.{cut}
use Rattle.translation.proofs.Ranging.{count_cut, count_on}
use Rattle.translation.proofs.ranges.count_ranges.Goals as goal
use Rattle.translation.proofs.ranges.count_ranges.Goals.{then-feed, else-feed}

pub loop-i-preserved : goal.loop-i-preserved
loop-i-preserved g c =
    let l = c.args.layout.now in
    let i = c.loop-i.i in
    let is : c.feed.result ≡ cut c.args.m l i = c.feed.ensures.is ∙ ap (λ a. cut a l i) c.loop-i.invariant.1 in
    let axes = c.feed.ensures.axes ∙ c.loop-i.invariant.1 in
    let z : i ≡ i + 1 - 1 = omega arith in
    let last = c.feed.ensures.last ∙ ap (λ j. Some (index_of (at l j))) z in
    elim c.if-feed.branch [
      | then-feed w ↦ (let f = count_cut (cut c.args.m l) c.loop-i.n i c.count-count.result _ c.loop-i-test.true c.loop-i.invariant.3 (sym is ∙ w.if-feed.true) in
          (omega (arith, w.n-is, c.loop-i.invariant.0), axes, last, omega (arith, w.n-is)))
      | else-feed w ↦ (let f = count_on (cut c.args.m l) c.loop-i.n i c.count-count.result _ c.loop-i-test.true c.loop-i.invariant.3 (sym is ∙ w.if-feed.false) in
          (omega (arith, w.n-is, c.loop-i.invariant.0), axes, last, omega (arith, w.n-is)))
    ]
