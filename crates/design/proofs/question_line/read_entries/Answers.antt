use Rattle.std.proofs.Common.{pos, ap, ◌∙◌, arith}
use Rattle.design.specs.Numbers.{four}
use Rattle.design.proofs.Said.{integer_read, entries_said}
use Rattle.design.proofs.question_line.read_entries.Goals as goal

pub returns : goal.returns
returns c =
    let v = c.in_ok-numbers.numbers.values in
    let long = c.len-count.ensures ∙ v.ok.0 in
    entries_said _ (λ w z h. integer_read w z h.0) _ _ _ _ _ c.in_ok-numbers.ensures.takes c.if-numbers.false long (omega (arith, long))
    (c.first_four-index.ensures ∙ ap (four (pos 0)) c.as_slice.ensures.value)
