use Rattle.std.proofs.Common.{◌≡◌, ℕ, ◌+◌, List, length, ℤ, Ok, sym, ap, ◌∙◌, arith, length-append}
use lib.Seq.{paste}
use Rattle.std.proofs.lemmas.Bool.{leb-true}
use Rattle.layout.specs.Layouts.{Layout, rank, count}
use Rattle.translation.specs.declared.kinds.Translation.{Translation}
use Rattle.translation.specs.Tos.{destination}
use Rattle.translation.specs.Entries.{from_entries, to_entries, to_count, data_layout}
use Rattle.translation.proofs.Meeting.{entries_in, appends}
use Rattle.translation.proofs.Entering.{to_long}
use Rattle.translation.proofs.entries.to_data_layout.Goals as goal

-- the entries are as many as were counted
long : (t : Translation) (s v : Layout) (x : List ℤ) (g : Layout) (n f to : ℕ) → n ≡ count v → f ≡ length (from_entries t.from s (rank v)) → to ≡ to_count t.to n → f + to ≡ length (data_layout t s v x g)
long t s v x g n f to en ef et =
    let a = length-append (from_entries t.from s (rank v)) (to_entries t.to (destination v x g) (count v)) in
    let d = to_long t.to (destination v x g) (count v) in
    let e = ap (to_count t.to) en in
    omega arith

pub returns-then-not-has_room-clause-answer : goal.returns-then-not-has_room-clause-answer
returns-then-not-has_room-clause-answer g c =
    let b = c.in_ok-block.block in
    let n = long c.args.translation b.source b.via b.start b.target _ _ _ c.count.ensures.is c.from_len.ensures.is c.to_len.ensures.is in
    appends _ c.args.route _ _ _ _ c.in_ok-block.ensures.is c.args.translation _ c.args.at _ _ n (sym c.if-not-has_room.true ∙ c.has_room.ensures)

pub write_entries-requires : goal.write_entries-requires
write_entries-requires g c =
    let b = c.in_ok-block.block in
    let n = long c.args.translation b.source b.via b.start b.target _ _ _ c.count.ensures.is c.from_len.ensures.is c.to_len.ensures.is in
    let h = leb-true _ _ (sym c.has_room.ensures ∙ c.if-not-has_room.false) in
    omega arith

pub returns : goal.returns
returns g c =
    let b = c.in_ok-block.block in
    let n = long c.args.translation b.source b.via b.start b.target _ _ _ c.count.ensures.is c.from_len.ensures.is c.to_len.ensures.is in
    let e = entries_in _ c.args.route _ _ _ _ c.in_ok-block.ensures.is c.args.translation in
    record {
      answer = ap Ok c.write_entries.ensures.end ∙ ap (λ k. Ok (c.args.at + k)) (sym n) ∙ appends _ c.args.route _ _ _ _ c.in_ok-block.ensures.is c.args.translation _ c.args.at _ _ n (sym c.if-not-has_room.false ∙ c.has_room.ensures);
      written = c.write_entries.ensures.written ∙ ap (λ xs. paste c.args.table.now c.args.at xs (length xs)) e;
    }
