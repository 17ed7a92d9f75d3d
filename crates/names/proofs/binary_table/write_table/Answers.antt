use Rattle.std.proofs.Common.{◌≡◌, ap, ◌∙◌, arith, w32, to_z, of_z}
use Rattle.std.proofs.lemmas.Int.{ints}
use Rattle.names.specs.Reading.{table_element}
use Rattle.names.specs.Tables.{entry_of}
use Rattle.names.proofs.Tabling.{table_more}
use Rattle.names.proofs.binary_table.write_table.Goals as goal

pub loop-k-preserved : goal.loop-k-preserved
loop-k-preserved g c =
    let v = to_z w32 (of_z w32 c.entry_at.result) in
    let b : v ≡ c.entry_at.result = omega (arith, ints) in
    table_more c.args.layout.now c.args.source.now c.args.slots.now c.loop-k.table c.loop-k.k v c.entry_at.result (omega arith) (omega arith) b (c.entry_at.ensures ∙ ap (λ x. entry_of (table_element c.args.layout.now c.args.slots.now x)) c.place_or_zeros.ensures.is) c.loop-k.invariant
