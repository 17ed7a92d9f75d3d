use Rattle.std.proofs.Common.{ℕ, pos, ◌<ℤ◌, get_or, sym, ◌∙◌, subst}
use Rattle.layout.specs.Layouts.{at}
use Rattle.layout.specs.Answers.{index_of}
use Rattle.translation.specs.Tos.{Told}
use Rattle.translation.proofs.Landing.{index_high, small_any, lands}
use Rattle.translation.proofs.target.destination.Goals as goal

pub shifted-requires-clause-high : goal.shifted-requires-clause-high
shifted-requires-clause-high g c =
    let v = c.args.via.now in
    subst (λ x. (i : ℕ) → get_or x i (pos 0) <ℤ pos 4096) (sym c.place_or_zeros-place.ensures.is) (index_high (at v c.args.k) (small_any v c.place_or_zeros-place.ensures.valid c.args.k))

pub returns : goal.returns
returns g c =
    let p = at c.args.via.now c.args.k in
    let told : (i : ℕ) → Told c.shifted.result c.args.start c.place_or_zeros-place.result i → Told c.shifted.result c.args.start (index_of p) i = λ i h. subst (λ x. Told c.shifted.result c.args.start x i) c.place_or_zeros-place.ensures.is h in
    let f = c.number_in.ensures.is ∙ lands c.args.target.now c.shifted.result c.args.start p c.number_in.ensures.valid (told 0 c.shifted.ensures.a) (told 1 c.shifted.ensures.b) (told 2 c.shifted.ensures.c) (told 3 c.shifted.ensures.d) in
    record { is = f; within = c.number_in.ensures.within }
