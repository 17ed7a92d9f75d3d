use Rattle.std.proofs.Common.{arith}
use Rattle.std.proofs.lemmas.List.Folds.{length-flat_map-take}
use Rattle.entries.specs.Fresh.{no_key, table_of}
use Rattle.entries.proofs.Writing.{end_more, entries_more, records_more}
use Rattle.entries.proofs.write.write_tables.Goals as goal

pub write_table-end-requires-clause-room : goal.write_table-end-requires-clause-room
write_table-end-requires-clause-room g c = omega (arith, c.requires.room, length-flat_map-take (table_of (g.C.Catalogue.layouts c.args.c.now)) c.args.keys.now c.loop-i.i no_key c.loop-i-test.true)

pub loop-i-preserved : goal.loop-i-preserved
loop-i-preserved g c =
    let ls = g.C.Catalogue.layouts c.args.c.now in
    let h = c.loop-i-test.true in
    let ks = c.args.keys.now in (
      end_more (table_of ls) ks no_key c.args.at c.loop-i.i h c.loop-i.end _ c.loop-i.invariant.0 c.write_table-end.ensures.end,
      entries_more (table_of ls) ks no_key c.args.at c.loop-i.i h c.args.indices.now c.loop-i.indices _ c.loop-i.end (omega (arith, c.requires.room)) c.loop-i.invariant.0 c.loop-i.invariant.1 c.write_table-end.ensures.entries,
      records_more ls ks c.args.at c.loop-i.i h c.args.binaries.now c.loop-i.binaries _ c.args.number c.loop-i.end c.requires.records c.loop-i.invariant.0 c.loop-i.invariant.2 c.put_record.ensures,
    )
