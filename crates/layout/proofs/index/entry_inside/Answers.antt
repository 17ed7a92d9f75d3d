use Rattle.std.proofs.Common.{◌≡◌, length, arith, w64, SFits, rules}
use Rattle.std.proofs.lemmas.List.{get_or_default}
use Rattle.std.proofs.lemmas.Int.{to_z-of_z}
use Rattle.layout.proofs.index.entry_inside.Goals as goal

pub returns : goal.returns
returns c =
    let n : length c.args.lengths ≡ 4 = search rules in
    let d = get_or_default c.args.lengths c.args.i 0 1 (omega arith) in
    let f : SFits w64 c.entry_given.result = search rules in
    let a = to_z-of_z w64 c.entry_given.result f in
    cc
