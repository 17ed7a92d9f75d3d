use Rattle.std.proofs.Common.{refl}
use Rattle.design.proofs.Runs.{stepped}
use Rattle.design.proofs.words.Words.next_word.Goals as goal

pub invariant_of-self : goal.invariant_of-self
invariant_of-self c =
    let me = c.args.self.now in
    let s = (stepped _ _ _ (record { spelled = me.spelled; valid = me.valid }) c.next.ensures.steps).0 in
    record { spelled = s.spelled; valid = s.valid }

pub returns : goal.returns
returns c =
    let me = c.args.self.now in
    record { takes = (stepped _ _ _ (record { spelled = me.spelled; valid = me.valid }) c.next.ensures.steps).1; line = refl }
