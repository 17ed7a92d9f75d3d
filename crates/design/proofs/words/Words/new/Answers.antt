use Rattle.std.proofs.Common.{IsUtf8, sym, subst, rules}
use Rattle.design.proofs.Runs.{Whole, whole}
use Rattle.design.proofs.words.Words.new.Goals as goal

pub invariant_of-result : goal.invariant_of-result
invariant_of-result c =
    let u : IsUtf8 c.args.text.now = search rules in
    let w = subst Whole (sym c.split_whitespace-rest.ensures.rest) (whole _ u) in
    record { spelled = w.spelled; valid = w.valid }
