use Rattle.std.proofs.Common.{◌≡◌, sym, ap, ◌∙◌, subst}
use Rattle.std.specs.Str.Iter.{lines_rest}
use Rattle.std.specs.Iterator.Adapters.{enumerate_source, enumerate_count}
use Rattle.design.specs.Designs.{contents}
use Rattle.design.proofs.Adding.{Sofar, none_yet, one_more, no_more}
use Rattle.design.proofs.read.read_design.Goals as goal

pub loop-n-init : goal.loop-n-init
loop-n-init c =
    let text = c.args.text.now in
    let it = c.into_iter-n-iterator.result in
    let d = contents c.new-design.result in
    let rest : lines_rest (enumerate_source it) ≡ text = ap (λ x. lines_rest (enumerate_source x)) c.into_iter-n-iterator.ensures.into_iter_gives ∙ ap lines_rest c.enumerate-n-items.ensures.source ∙ c.lines.ensures.rest in
    let none : enumerate_count it ≡ 0 = ap enumerate_count c.into_iter-n-iterator.ensures.into_iter_gives ∙ c.enumerate-n-items.ensures.count in
    subst (λ k. Sofar text (lines_rest (enumerate_source it)) k d) (sym none) (subst (λ r. Sofar text r 0 d) (sym rest) (none_yet text d c.new-design.ensures))

pub loop-n-preserved : goal.loop-n-preserved
loop-n-preserved c =
    let s = c.in-Some.ensures.steps in
    one_more c.loop-n.invariant c.in-Some.line.now c.uncommented.result.now (lines_rest (enumerate_source c.next.new.self)) c.in-Some.n (enumerate_count c.next.new.self) (contents c.add_line.new.self)
    s.0.0.2 s.1 s.2 c.uncommented.ensures c.in_ok-add_line.ensures

pub returns : goal.returns
returns c = no_more c.loop-n.invariant c.in-None.ensures.steps.0.0.0
