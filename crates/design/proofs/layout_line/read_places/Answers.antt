use Rattle.std.proofs.Common.{◌≡◌, ◌∷◌, [], codes, refl, subst, arith, rules}
use Rattle.std.specs.Str.Parse.{ParsesUnsigned}
use Rattle.std.proofs.lemmas.Slice.{pushed}
use Rattle.std.proofs.lemmas.Slice.Eq.{slice_eq-Decides}
use Rattle.std.proofs.lemmas.Bool.Decides.{Decides-eqb}
use Rattle.design.proofs.Listing.{none_yet, few, one_entry, one_comma}
use Rattle.design.proofs.Said.{natural_read}
use Rattle.design.proofs.layout_line.read_places.Goals as goal

pub loop-word-init : goal.loop-word-init
loop-word-init c = (omega arith, omega arith, none_yet _ _ _)

pub overflow_add-place : goal.overflow_add-place
overflow_add-place c = let f = few c.loop-word.invariant.2 c.loop-word.invariant.0 c.in_ok-check_place.ensures in search rules

pub loop-word-preserved-then-eq : goal.loop-word-preserved-then-eq
loop-word-preserved-then-eq c =
    let took = c.in-Some.ensures.takes in
    let comma : c.in-Some.word.now ≡ codes "," = (slice_eq-Decides Decides-eqb _ _ _ c.if-eq.ensures).0 refl in
    let long = c.in_ok-check_place.ensures in
    (c.loop-word.invariant.0, omega arith, one_comma c.loop-word.invariant.2 _ (rw comma at took) (omega (arith, long, c.loop-word.invariant.1)))

pub loop-word-preserved : goal.loop-word-preserved
loop-word-preserved c =
    let took = c.in-Some.ensures.takes in
    let got = c.in_ok-entry.ensures in
    let e = c.in_ok-entry.entry in
    let w = c.in-Some.word.now in
    let is = natural_read 16 w e (subst (ParsesUnsigned 16 10 w) got.2 got.1.0) in (
      c.loop-word.invariant.0,
      omega arith,
      one_entry c.loop-word.invariant.2 w e _ _ took is (pushed (e ∷ []) refl c.in_ok-push.was c.push.ensures.items),
    )

pub overflow_add-result : goal.overflow_add-result
overflow_add-result c = let f = few c.loop-word.invariant.2 c.loop-word.invariant.0 c.in_ok-check_place-2.ensures in search rules
