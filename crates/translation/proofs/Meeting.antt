-- The shapes of valid layouts, and what is made of them.
use Rattle.std.proofs.Common.{◌≡◌, ℕ, zero, suc, ◌+◌, ◌-◌, ◌*◌, ◌≤◌, Bool, true, cond, ◌&&◌, eqb, leb, List, length, get_or, ℤ, Ok, Err, sym, ap, ◌∙◌, mul-le-mul, arith}
use Rattle.std.proofs.lemmas.Bool.{lt-ltb, cond_both, cond-true}
use Rattle.layout.specs.declared.kind.LayoutKind.{LayoutKind}
use Rattle.layout.specs.declared.kind.LayoutKind.TheVariants.{Dense, Diagonal, Sparse}
use Rattle.layout.specs.declared.shape.Shape.{Shape}
use Rattle.layout.specs.Places.{axis}
use Rattle.layout.specs.Layouts.{Layout, Valid, blank}
use Rattle.layout.specs.Answers.{shape_of}
use Rattle.grouping.specs.Keys.{tail_size}
use Rattle.grouping.proofs.Keyed.{axis_small}
use Rattle.translation.specs.declared.kinds.TranslationFrom.TheVariants.{DenseContraction, DiagonalContraction}
use Rattle.translation.specs.declared.kinds.Translation.{Translation}
use Rattle.translation.specs.declared.kinds.TranslationFault.TheVariants.{Unknown, Short}
use Rattle.translation.specs.Froms.{contracted, Long}
use Rattle.translation.specs.Outcome.{translating, known, translated}
use Rattle.translation.specs.Entries.{data_layout, entries_of, appending}
use Rattle.translation.specs.declared.route.Route.{Route}
use Rattle.translation.specs.Routes.{Leads}

-- the lengths of a shape that is a valid layout's
module _ (l : Layout) (v : Valid l) where
  pub lengths_high : (i : ℕ) → get_or (shape_of l).lengths i 0 ≤ 4096
  lengths_high zero = (axis_small l v 0).1
  lengths_high (suc zero) = (axis_small l v 1).1
  lengths_high (suc (suc zero)) = (axis_small l v 2).1
  lengths_high (suc (suc (suc zero))) = (axis_small l v 3).1
  lengths_high (suc (suc (suc (suc i)))) = omega arith

  pub lengths_low : (i : ℕ) → 1 ≤ axis (shape_of l).lengths i
  lengths_low zero = (axis_small l v 0).0
  lengths_low (suc zero) = (axis_small l v 1).0
  lengths_low (suc (suc zero)) = (axis_small l v 2).0
  lengths_low (suc (suc (suc zero))) = (axis_small l v 3).0
  lengths_low (suc (suc (suc (suc i)))) = omega arith

pub two_some : (a b : ℕ) → 1 ≤ a → 1 ≤ b → 1 ≤ a * b
two_some a b h i = mul-le-mul {n₁ = 1} {m₁ = 1} h i

pub tail_some : (m : ℕ) (s : List ℕ) → ((i : ℕ) → 1 ≤ axis s i) → 1 ≤ tail_size m s
tail_some zero s h = two_some _ _ (two_some _ _ (two_some _ _ (h 1) (h 2)) (h 3)) (h 0)
tail_some (suc zero) s h = two_some _ _ (two_some _ _ (h 3) (h 2)) (h 1)
tail_some (suc (suc zero)) s h = two_some _ _ (h 3) (h 2)
tail_some (suc (suc (suc zero))) s h = h 3
tail_some (suc (suc (suc (suc m)))) s h = omega arith

pub contracted_long : (k : LayoutKind) (s : Shape) (v : ℕ) → ((i : ℕ) → 1 ≤ axis s.lengths i) → Long (contracted k s v)
contracted_long Dense s v h = tail_some v s.lengths h
contracted_long Diagonal s v h = cond_both (eqb v 0) (DenseContraction (s.rank - v) (axis s.lengths 0)) (DiagonalContraction (s.rank - v)) Long (λ _. h 0) (λ _. tt)
contracted_long Sparse s v h = tt

-- a route that the catalogue has
module _ (ls : List Layout) (r : Route) (s v : Layout) (x : List ℤ) (g : Layout) (is : Leads ls r s v x g) where
  all_known : (known ls r.source && (known ls r.via && known ls r.target)) ≡ true
  all_known = ap (λ y. y && (known ls r.via && known ls r.target)) (lt-ltb r.source (length ls) is.known.0) ∙ ap (λ y. y && known ls r.target) (lt-ltb r.via (length ls) is.known.1) ∙ lt-ltb r.target (length ls) is.known.2

  pub translates : translating s v x g ≡ translated ls r.source r.via r.start r.target
  translates =
      ap (λ y. translating y v x g) is.source ∙ ap (λ y. translating (get_or ls r.source blank) y x g) is.via
      ∙ ap (λ y. translating (get_or ls r.source blank) (get_or ls r.via blank) y g) is.start
      ∙ ap (translating (get_or ls r.source blank) (get_or ls r.via blank) r.start) is.target
      ∙ sym (cond-true _ (translating (get_or ls r.source blank) (get_or ls r.via blank) r.start (get_or ls r.target blank)) (Err Unknown) all_known)

  module _ (t : Translation) where
    pub entries_in : data_layout t s v x g ≡ entries_of ls t r.source r.via r.start r.target
    entries_in =
        ap (λ y. data_layout t y v x g) is.source ∙ ap (λ y. data_layout t (get_or ls r.source blank) y x g) is.via
        ∙ ap (λ y. data_layout t (get_or ls r.source blank) (get_or ls r.via blank) y g) is.start
        ∙ ap (data_layout t (get_or ls r.source blank) (get_or ls r.via blank) r.start) is.target

    -- by whether there is room for them
    pub appends : (n at m : ℕ) (b : Bool) → m ≡ length (data_layout t s v x g) → b ≡ leb (at + m) n → cond b (Ok (at + m)) (Err Short) ≡ appending ls t r.source r.via r.start r.target n at
    appends n at m b em eb =
        let z = em ∙ ap length entries_in in
        ap (λ y. cond y (Ok (at + m)) (Err Short)) eb ∙ ap (λ k. cond (leb (at + k) n) (Ok (at + k)) (Err Short)) z
        ∙ sym (cond-true _ (cond (leb (at + length (entries_of ls t r.source r.via r.start r.target)) n) (Ok (at + length (entries_of ls t r.source r.via r.start r.target))) (Err Short)) (Err Unknown) all_known)
