use Rattle.std.proofs.Common.{◌≡◌, ◌<◌, length, arith}
use Rattle.std.proofs.lemmas.List.{length-take-le}
use Rattle.std.proofs.lemmas.List.Folds.{length-flat_map-take}
use Rattle.layout.specs.Places.{origin}
use Rattle.layout.specs.Answers.{index_of}
use Rattle.layout.specs.Layouts.{rank, at}
use Rattle.entries.specs.Places.{entries_at}
use Rattle.entries.proofs.Writing.{end_more, entries_more}
use Rattle.entries.proofs.write.write_places.Goals as goal

pub write_place-end-requires-clause-room : goal.write_place-end-requires-clause-room
write_place-end-requires-clause-room g c =
    let s = c.args.layout.now in
    let n : length (entries_at s (at s c.loop-k.k)) ≡ rank s = length-take-le (rank s) (index_of (at s c.loop-k.k)) c.count-k-end.ensures.valid.ranked in
    omega (arith, length-flat_map-take (entries_at s) s.places c.loop-k.k origin (omega arith))

pub loop-k-preserved : goal.loop-k-preserved
loop-k-preserved g c =
    let s = c.args.layout.now in
    let k = c.loop-k.k in
    let n : length (entries_at s (at s k)) ≡ rank s = length-take-le (rank s) (index_of (at s k)) c.count-k-end.ensures.valid.ranked in
    let below : k < length s.places = omega arith in (
      end_more (entries_at s) s.places origin c.args.at k below c.loop-k.end _ c.loop-k.invariant.0 (omega (arith, c.write_place-end.ensures.end)),
      entries_more (entries_at s) s.places origin c.args.at k below c.args.indices.now c.loop-k.indices _ c.loop-k.end (omega arith) c.loop-k.invariant.0 c.loop-k.invariant.1 c.write_place-end.ensures.entries,
    )
