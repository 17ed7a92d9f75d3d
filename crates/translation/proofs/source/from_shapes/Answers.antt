use Rattle.std.proofs.Common.{sym, subst}
use Rattle.layout.specs.Answers.{shape_of}
use Rattle.translation.specs.Froms.{Long}
use Rattle.translation.proofs.Meeting.{lengths_low, contracted_long}
use Rattle.translation.proofs.source.from_shapes.Goals as goal

pub returns-then-v-s-clause-long : goal.returns-then-v-s-clause-long
returns-then-v-s-clause-long g c =
    let l = c.args.source.now in
    subst Long (sym c.contraction.ensures) (contracted_long l.kind (shape_of l) _ (lengths_low l c.shape-s.ensures.valid))
