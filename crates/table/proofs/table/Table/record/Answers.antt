use Rattle.std.proofs.Common.{◌≡◌, true, sym, subst, ap, ◌∙◌}
use Rattle.std.proofs.lemmas.List.{get_or-map}
use Rattle.layout.specs.Layouts.{blank}
use Rattle.table.specs.Records.{kept, no_record, record_layout}
use Rattle.table.proofs.table.Table.record.Goals as goal

pub returns : goal.returns
returns c =
    let pool = c.args.self.now.pool.now in
    let f = c.in_ok-record.ensures.lookup.3 in (
      f.0,
      subst (λ r. kept pool r ≡ true) (sym (f.1 no_record)) (c.args.self.now.kept c.args.number f.0),
      get_or-map (record_layout pool) c.args.self.now.records.now c.args.number no_record blank f.0 ∙ ap (record_layout pool) (sym (f.1 no_record)),
    )
