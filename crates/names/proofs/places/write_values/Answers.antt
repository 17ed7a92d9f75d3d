use Rattle.std.proofs.Common.{length, arith, ap, ◌∙◌, Err}
use Rattle.std.proofs.lemmas.Result.{err_from_is_err_and}
use Rattle.names.specs.Outcomes.{value_of}
use Rattle.names.proofs.Gathering.{gathered_more, gathered_stops}
use Rattle.names.proofs.places.write_values.Goals as goal

pub returns-in_err-value : goal.returns-in_err-value
returns-in_err-value g c =
    let f = value_of (g.H.Host.answers c.args.host.now) c.args.expression.now in
    let p = err_from_is_err_and c.from_residual.result c.from_residual.ensures.1 in
    rw (gathered_stops f c.loop-k.out c.loop-k.k c.loop-k.invariant (length c.args.out.now) c.in_err-value.field-0.0 (omega arith) c.in_err-value.ensures) (p.1 ∙ ap (λ y. Err y) p.2)

pub loop-k-preserved : goal.loop-k-preserved
loop-k-preserved g c =
    let f = value_of (g.H.Host.answers c.args.host.now) c.args.expression.now in
    gathered_more f c.loop-k.out c.loop-k.k c.loop-k.invariant c.in_ok-value.field-0 (omega arith) c.in_ok-value.ensures
