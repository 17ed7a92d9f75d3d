use Rattle.std.proofs.Common.{◌≡◌, ℕ, ◌+◌, min, Bool, true, false, leb, length, get_or, Ok, ap, ◌∙◌}
use Rattle.layout.specs.Layouts.{blank}
use Rattle.reader.specs.Recorded.{record_of}
use Rattle.reader.proofs.Recording.{answers, leaves, fills, follows_in}
use Rattle.reader.proofs.record.BlockRecord.new.Goals as goal

-- whether there is room, as the code asks it
asked : (p n limit goal full : ℕ) (b r : Bool) → limit ≡ min n 4194304 → goal ≡ full → r ≡ leb (p + goal) limit → r ≡ b → leb (p + full) (min n 4194304) ≡ b
asked p n limit goal full b r el en er eb = cc

pub returns-then-not-has_room : goal.returns-then-not-has_room
returns-then-not-has_room g c =
    let ls = g.C.Catalogue.layouts c.args.catalogue.now in
    let r = c.args.route in
    let e = c.in_ok-t.ensures.is in
    let h = asked c.args.at (length c.args.table.now) _ _ _ false c.has_room.result c.min.ensures c.data_len.ensures c.has_room.ensures c.if-not-has_room.true in
    record {
      answer = answers ls r.source r.via r.target r.start c.args.table.now c.args.at c.in_ok-t.t e false h;
      table = leaves ls r.source r.via r.target r.start c.args.table.now c.args.at c.in_ok-t.t e;
      follows = tt;
    }

pub returns : goal.returns
returns g c =
    let ls = g.C.Catalogue.layouts c.args.catalogue.now in
    let r = c.args.route in
    let t = c.in_ok-t.t in
    let e = c.in_ok-t.ensures.is in
    let law = c.in_ok-t.ensures.lawful in
    let leads = c.in_ok-block.ensures.is in
    let h = asked c.args.at (length c.args.table.now) _ _ _ true c.has_room.result c.min.ensures c.data_len.ensures c.has_room.ensures c.if-not-has_room.false in
    let eb : c.record_of.result ≡ record_of t (get_or ls r.source blank) (get_or ls r.via blank) (get_or ls r.target blank) c.args.at =
    c.record_of.ensures ∙ ap (λ s. record_of t s c.in_ok-block.block.via c.in_ok-block.block.target c.args.at) leads.source ∙ ap (λ v. record_of t (get_or ls r.source blank) v c.in_ok-block.block.target c.args.at) leads.via ∙ ap (λ g. record_of t (get_or ls r.source blank) (get_or ls r.via blank) g c.args.at) leads.target in
    let w = fills ls r.source r.via r.target r.start c.args.table.now c.args.at t e c.record_of.result _ _ law h c.to_data_layout.ensures.answer c.to_data_layout.ensures.written in
    record {
      answer = ap Ok eb ∙ answers ls r.source r.via r.target r.start c.args.table.now c.args.at t e true h;
      table = w;
      follows = follows_in ls r.source r.via r.target r.start c.args.table.now c.args.at t e c.record_of.result _ c.in_ok-t.ensures.valid law h eb w;
    }
