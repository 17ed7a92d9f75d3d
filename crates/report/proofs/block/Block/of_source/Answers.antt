use Rattle.std.proofs.Common.{◌≡◌, length, get_or, refl, ap, ◌∙◌, append-nil, arith}
use Rattle.layout.specs.Layouts.{blank}
use Rattle.layout.proofs.Asking.{asked_there}
use Rattle.report.proofs.Sourced.{known_kind}
use Rattle.report.proofs.block.Block.of_source.Goals as goal

pub invariant_of-result : goal.invariant_of-result
invariant_of-result g c =
    let ls = g.C.Catalogue.layouts c.args.catalogue.now in
    let via = get_or ls c.args.via blank in
    let k = known_kind ls c.args.source c.args.via c.in_ok-from.from c.in_ok-from.ensures in
    let there = asked_there ls c.args.via (λ l. l) via k.via_known refl in
    let asked = c.in_ok-new.ensures.is in
    let same : c.in_ok-new.field-0 ≡ via = cc in
    let many : c.count-elements.result ≡ _ = c.count-elements.ensures.is in
    let l = k.long c.count-elements.result (cc) in
    record { source = k.source_known; via = k.via_known; target = k.via_known; long = ap length (append-nil _) ∙ l ∙ omega arith }
