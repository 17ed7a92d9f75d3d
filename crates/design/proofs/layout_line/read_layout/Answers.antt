use Rattle.std.proofs.Common.{ap, ◌∙◌}
use Rattle.design.specs.Numbers.{four}
use Rattle.design.proofs.Said.{natural_read, layout_said}
use Rattle.design.proofs.layout_line.read_layout.Goals as goal

pub returns : goal.returns
returns c =
    let v = c.in_ok-numbers.numbers.values in
    layout_said _ (λ w n h. natural_read 64 w n h.0) _ _ _ _ _ _ _ _ c.in_ok-kind.ensures c.in_ok-numbers.ensures.takes
    (c.len-rank.ensures ∙ v.ok.0)
    (c.first_four-lengths.ensures ∙ ap (four 1) c.as_slice.ensures.value)
    (c.len-start.ensures ∙ c.args.pool.now.ok.0)
    c.in_ok-count.ensures
