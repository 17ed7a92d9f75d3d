use Rattle.std.proofs.Common.{min, arith}
use Rattle.layout.specs.Layouts.{rank}
use Rattle.translation.proofs.Covering.{covered_by, covered_by_other}
use Rattle.translation.proofs.translate.is_covered.Goals as goal

pub returns-then-v-s : goal.returns-then-v-s
returns-then-v-s g c =
    let l = c.args.source.now in
    let r = c.args.via.now in
    covered_by _ (min (rank l) (rank r)) l r c.covers.result (omega (arith, c.if-v-s.true)) c.covers.ensures

pub returns-else-v-s : goal.returns-else-v-s
returns-else-v-s g c =
    let l = c.args.source.now in
    let r = c.args.via.now in
    covered_by_other _ (min (rank l) (rank r)) l r c.covers-else-v-s.result (omega (arith, c.if-v-s.false)) c.covers-else-v-s.ensures
