-- What the functions of `works` answer is what the layout means.
use Rattle.std.proofs.Common.{◌≡◌, ℕ, zero, suc, ◌<◌, ◌≤◌, true, List, [], ◌∷◌, length, get_or, ℤ, Some, None, Option, MatchOption, sym, refl, ap, ◌∙◌, subst, arith}
use Rattle.std.proofs.lemmas.List.{length-take}
use Rattle.std.proofs.ByRecursion.{All-get_or}
use Rattle.std.proofs.lemmas.List.FromFn.{length-map-range_with_len, get_or-map-range_with_len}
use Rattle.std.specs.Option.{option_map}
use Rattle.layout.specs.declared.kind.LayoutKind.TheVariants.{Dense, Diagonal}
use Rattle.layout.specs.Places.{Place, place, origin, entries, Inside, axis}
use Rattle.layout.specs.Layouts.{Level, OfKind, count, rank, at, inside, strict}
use Rattle.layout.specs.Radix.{size, ravel, unravel, along}
use Rattle.layout.proofs.Radix.{every_length, every_at, ravel_below, unravel_ravel}
use Rattle.layout.proofs.Finding.{inside_says, strict_absent, strict_outside, strict_inside}
use Rattle.grid.specs.declared.shapes.GridShape.{GridShape}
use Rattle.grid.specs.Grids.{grid_shape, grid_places, grid_layout, sound}
use Rattle.grid.proofs.Validity.{axes_say, grid_valid, sound_says, along_is}

abbrev pub fours : List ℕ → List ℕ
fours s = axis s 0 ∷ axis s 1 ∷ axis s 2 ∷ axis s 3 ∷ []

pub got_some : (o : Option Place) (e : List ℕ) → Some e ≡ option_map entries o → (p : Place) × (o ≡ Some p) × (e ≡ entries p)
got_some (Some p) e h = (p, refl, cc)
got_some None e h = absurd (let z : ◌≡◌ {A = ℕ} 0 1 = cc in omega arith)

pub got_none : (o : Option Place) → None ≡ option_map entries o → o ≡ None
got_none (Some p) h = absurd (let z : ◌≡◌ {A = ℕ} 0 1 = cc in omega arith)
got_none None h = refl

pub axes_sound : (g : GridShape) → sound g ≡ true → (i : ℕ) → i < 4 → (1 ≤ axis (grid_shape g) i) × (axis (grid_shape g) i ≤ 4096)
axes_sound g h = axes_say (grid_shape g) (sound_says g h).axes

pub rank_is : (g : GridShape) → sound g ≡ true → length g.lengths ≡ 4 → rank (grid_layout g) ≡ g.rank
rank_is g h n = let r = (sound_says g h).ranked in simp length-take (omega arith)

pub count_dense : (g : GridShape) → g.kind ≡ Dense → count (grid_layout g) ≡ size (grid_shape g)
count_dense g e = ap (λ k. length (grid_places k (grid_shape g))) e ∙ every_length (grid_shape g)

pub count_diagonal : (g : GridShape) → g.kind ≡ Diagonal → count (grid_layout g) ≡ axis (grid_shape g) 0
count_diagonal g e = ap (λ k. length (grid_places k (grid_shape g))) e ∙ length-map-range_with_len (along (length (grid_shape g))) 0 (axis (grid_shape g) 0)

pub at_dense : (g : GridShape) (k : ℕ) → g.kind ≡ Dense → k < size (grid_shape g) → at (grid_layout g) k ≡ unravel (grid_shape g) k
at_dense g k e h = ap (λ t. get_or (grid_places t (grid_shape g)) k origin) e ∙ every_at (grid_shape g) k h

pub at_diagonal : (g : GridShape) (k : ℕ) → g.kind ≡ Diagonal → k < axis (grid_shape g) 0 → at (grid_layout g) k ≡ along (length (grid_shape g)) k
at_diagonal g k e h = ap (λ t. get_or (grid_places t (grid_shape g)) k origin) e ∙ get_or-map-range_with_len (along (length (grid_shape g))) 0 (axis (grid_shape g) 0) k k origin h (omega arith)

-- n is the lengths as the code has them, and r the rank; x is the index asked for
pub some_same : (p q : Place) → Some p ≡ Some q → p ≡ q
some_same p q e = cc

pub small : (p : Place) → p.a < 4096 → p.b < 4096 → p.c < 4096 → p.d < 4096 → (i : ℕ) → get_or (entries p) i 0 < 4096
small p a b c d zero = a
small p a b c d (suc zero) = b
small p a b c d (suc (suc zero)) = c
small p a b c d (suc (suc (suc zero))) = d
small p a b c d (suc (suc (suc (suc i)))) = omega arith

module _ (g : GridShape) (ok : sound g ≡ true) (four : length g.lengths ≡ 4) (n : List ℕ) (is : n ≡ fours (grid_shape g)) (x : List ℤ) where
  here : inside g.rank n x ≡ inside (rank (grid_layout g)) (grid_shape g) x
  here = ap (λ m. inside g.rank m x) is ∙ ap (λ r. inside r (grid_shape g) x) (sym (rank_is g ok four))

  pub number_none : None ≡ option_map entries (inside g.rank n x) → None ≡ strict (grid_layout g) x
  number_none h = sym (strict_outside (grid_layout g) x (grid_valid g ok) (sym here ∙ got_none (inside g.rank n x) h))

  -- the place that the entries e make, inside the shape
  pub got : (e : List ℕ) → Some e ≡ option_map entries (inside g.rank n x) → (p : Place) × (e ≡ entries p) × Inside (grid_shape g) p × (inside (rank (grid_layout g)) (grid_shape g) x ≡ Some p)
  got e h =
      let q = got_some (inside g.rank n x) e h in
      let i = sym here ∙ q.1 in
      (q.0, q.2, (inside_says (rank (grid_layout g)) (grid_shape g) x q.0 i).1, i)

  pub number_dense : (e : List ℕ) → g.kind ≡ Dense → Some e ≡ option_map entries (inside g.rank n x) → Some (ravel n (place (get_or e 0 0) (get_or e 1 0) (get_or e 2 0) (get_or e 3 0))) ≡ strict (grid_layout g) x
  number_dense e d h =
      let q = got e h in
      let s = grid_shape g in
      let k = ravel s q.0 in
      let l = ravel_below s q.0 q.2 in
      let f = strict_inside (grid_layout g) x q.0 k (grid_valid g ok) q.3 (rw (count_dense g d) l) (at_dense g k d l ∙ unravel_ravel s q.0 q.2) in
      ap (λ m. Some (ravel m (place (get_or e 0 0) (get_or e 1 0) (get_or e 2 0) (get_or e 3 0)))) is ∙ ap (λ t. Some (ravel s (place (get_or t 0 0) (get_or t 1 0) (get_or t 2 0) (get_or t 3 0)))) q.1 ∙ sym f

  abbrev entries_place : List ℕ → Place
  entries_place e = place (get_or e 0 0) (get_or e 1 0) (get_or e 2 0) (get_or e 3 0)

  number_on : (e : List ℕ) → g.kind ≡ Diagonal → Some e ≡ option_map entries (inside g.rank n x) → Level g.rank (entries_place e) → Some (get_or e 0 0) ≡ strict (grid_layout g) x
  number_on e d h v =
      let q = got e h in
      let s = grid_shape g in
      let v' : Level g.rank q.0 = subst (λ t. Level g.rank (entries_place t)) q.1 v in
      let v'' : Level (length s) q.0 = subst (λ r. Level r q.0) (sym (rank_is g ok four)) v' in
      let m = along_is s q.0 q.2 v'' in
      let f = strict_inside (grid_layout g) x q.0 q.0.a (grid_valid g ok) q.3 (rw (count_diagonal g d) q.2.0) (at_diagonal g q.0.a d q.2.0 ∙ m) in
      ap (λ t. Some (get_or t 0 0)) q.1 ∙ sym f

  number_off : (e : List ℕ) → g.kind ≡ Diagonal → Some e ≡ option_map entries (inside g.rank n x) → (Level g.rank (entries_place e) → ⊥) → None ≡ strict (grid_layout g) x
  number_off e d h v =
      let q = got e h in
      let l = grid_layout g in
      let levels = (subst (λ k. OfKind k l) d (grid_valid g ok).of_kind).2 in
      let same = (inside_says (rank l) (grid_shape g) x q.0 q.3).0 in
      sym (strict_absent l x (λ p e' k k< a.
      let pq : q.0 ≡ p = some_same q.0 p (sym same ∙ e') in
      let lv : Level (rank l) q.0 = rw (a ∙ sym pq) at (All-get_or (Level (rank l)) l.places k origin k< levels) in
      let lw : Level g.rank q.0 = subst (λ r. Level r q.0) (rank_is g ok four) lv in
      v (subst (λ t. Level g.rank (entries_place t)) (sym q.1) lw)))

  pub number_diagonal : (o : Option ℕ) (e : List ℕ) → g.kind ≡ Diagonal → Some e ≡ option_map entries (inside g.rank n x) → MatchOption o (Level g.rank (entries_place e) → ⊥) (λ k. Level g.rank (entries_place e) × (k ≡ get_or e 0 0)) → o ≡ strict (grid_layout g) x
  number_diagonal (Some k) e d h t = ap Some t.1 ∙ number_on e d h t.0
  number_diagonal None e d h t = number_off e d h t

  -- the entries are small
  pub got_small : (e : List ℕ) → Some e ≡ option_map entries (inside g.rank n x) → (i : ℕ) → get_or e i 0 < 4096
  got_small e h i =
      let q = got e h in
      let b = axes_sound g ok in
      subst (λ t. get_or t i 0 < 4096) (sym q.1) (small q.0 (omega (arith, q.2.0, (b 0 (omega arith)).1)) (omega (arith, q.2.1, (b 1 (omega arith)).1)) (omega (arith, q.2.2, (b 2 (omega arith)).1)) (omega (arith, q.2.3, (b 3 (omega arith)).1)) i)
