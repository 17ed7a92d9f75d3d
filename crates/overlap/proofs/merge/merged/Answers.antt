use Rattle.std.proofs.Common.{sym, ◌∙◌, arith}
use Rattle.overlap.proofs.Merging.{met_more, met_found, met_past, met_all}
use Rattle.overlap.proofs.merge.merged.Goals as goal

pub returns-then-j-count : goal.returns-then-j-count
returns-then-j-count g c =
    met_past (g.A.Row.places c.args.a.now) (g.B.Row.places c.args.b.now) c.len-k-end.ensures.lined c.len-count.ensures.lined c.loop-k.k c.loop-k.j _ _
    c.loop-k.invariant (omega arith) c.place-place.ensures c.skip_before-j.ensures (omega arith)

pub returns-then-place : goal.returns-then-place
returns-then-place g c =
    met_found (g.A.Row.places c.args.a.now) (g.B.Row.places c.args.b.now) c.len-k-end.ensures.lined c.len-count.ensures.lined c.loop-k.k c.loop-k.j _ _
    c.loop-k.invariant (omega arith) c.place-place.ensures c.skip_before-j.ensures (omega arith) (sym c.place.ensures ∙ c.if-place.true)

pub loop-k-preserved : goal.loop-k-preserved
loop-k-preserved g c =
    met_more (g.A.Row.places c.args.a.now) (g.B.Row.places c.args.b.now) c.len-k-end.ensures.lined c.len-count.ensures.lined c.loop-k.k c.loop-k.j _ _
    c.loop-k.invariant (omega arith) c.place-place.ensures c.skip_before-j.ensures (λ _ e. c.if-place.false (c.place.ensures ∙ e))

pub returns : goal.returns
returns g c = met_all (g.A.Row.places c.args.a.now) (g.B.Row.places c.args.b.now) c.loop-k.k c.loop-k.j (omega arith) c.loop-k.invariant
