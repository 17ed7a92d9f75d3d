use Rattle.std.proofs.Common.{◌≡◌, ◌+◌, length, get_or, set, take, pos, ap, ◌∙◌, arith, w32, to_z, of_z}
use Rattle.std.proofs.lemmas.Int.{ints}
use Rattle.std.proofs.lemmas.List.{length-take-le}
use Rattle.std.proofs.lemmas.List.Edits.{paste_more}
use Rattle.entries.proofs.write.write_place.Goals as goal

pub loop-i-preserved : goal.loop-i-preserved
loop-i-preserved g c =
    let at = c.args.at in
    let i = c.loop-i.i in
    let place = take c.rank-rank.result c.place_or_zeros-place.result in
    let n : length place ≡ c.rank-rank.result = length-take-le c.rank-rank.result c.place_or_zeros-place.result (omega (arith, ap length c.place_or_zeros-place.ensures.is)) in
    let x = get_or place i (pos 0) in
    let b : to_z w32 (of_z w32 c.entry_of.result) ≡ x = omega (arith, ints, c.entry_of.ensures) in
    ap (set c.loop-i.indices (at + i)) b ∙ ap (λ l. set l (at + i) x) c.loop-i.invariant
    ∙ paste_more c.args.indices.now at place i (pos 0) (omega arith) (omega arith)
