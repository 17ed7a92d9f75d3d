use Rattle.std.proofs.Common.{arith}
use Rattle.overlap.proofs.Merging.{empty_none, ends_apart}
use Rattle.overlap.proofs.merge.listed_clash.Goals as goal
use Rattle.overlap.proofs.merge.listed_clash.Goals.{then-len-eq0-via-then-len-eq0, then-len-eq0-via-else-len-eq0+then-len-eq0-2, then-len-eq0-via-else-len-eq0+else-len-eq0-2+then-ends_apart}

pub returns-then-len-eq0 : goal.returns-then-len-eq0
returns-then-len-eq0 g c =
    let p = g.A.Row.places c.args.a.now in
    let q = g.B.Row.places c.args.b.now in
    elim c.then-len-eq0.branch [
      | then-len-eq0-via-then-len-eq0 w ↦ empty_none p q (omega (arith, w.if-len-eq0.true))
      | then-len-eq0-via-else-len-eq0+then-len-eq0-2 w ↦ empty_none p q (omega (arith, w.if-len-eq0-2.true))
      | then-len-eq0-via-else-len-eq0+else-len-eq0-2+then-ends_apart w ↦ ends_apart p q c.len.ensures.lined w.len-else-len-eq0.ensures.lined (w.ends_apart.ensures.0 w.if-ends_apart.true)
    ]
