use Rattle.std.proofs.Common.{◌≡◌, ℕ, ◌<◌, List, length, get_or, ℤ, pos, arith, w64, SFits, to_z, of_z, rules}
use Rattle.std.proofs.lemmas.List.{get_or_default}
use Rattle.std.proofs.lemmas.Int.{to_z-of_z}
use Rattle.layout.specs.Layouts.{widened}
use Rattle.layout.proofs.layout_ref.widened_index.Goals as goal

one : (ns : List ℕ) (xs : List ℤ) (i : ℕ) (r : ℤ) → length ns ≡ 4 → i < 4 → SFits w64 (get_or xs i (pos 0)) → SFits w64 r → r ≡ widened (get_or ns i 0) (to_z w64 (of_z w64 (get_or xs i (pos 0)))) → to_z w64 (of_z w64 r) ≡ widened (get_or ns i 1) (get_or xs i (pos 0))
one ns xs i r n h f g e =
    let d = get_or_default ns i 0 1 (omega arith) in
    let a = to_z-of_z w64 (get_or xs i (pos 0)) f in
    let b = to_z-of_z w64 r g in
    cc

pub returns : goal.returns
returns c =
    let n : length c.args.lengths ≡ 4 = search rules in
    let ns = c.args.lengths in
    let xs = c.args.index in
    let e0 = one ns xs 0 _ n (omega arith) (search rules) (search rules) c.widened_entry.ensures in
    let e1 = one ns xs 1 _ n (omega arith) (search rules) (search rules) c.widened_entry-2.ensures in
    let e2 = one ns xs 2 _ n (omega arith) (search rules) (search rules) c.widened_entry-3.ensures in
    let e3 = one ns xs 3 _ n (omega arith) (search rules) (search rules) c.widened_entry-4.ensures in
    cc
