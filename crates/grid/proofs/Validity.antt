-- A sound shape means a valid layout.
use Rattle.std.proofs.Common.{◌≡◌, ℕ, zero, suc, ◌<◌, ◌≤◌, true, cond, ◌&&◌, ◌||◌, eqb, ltb, leb, List, length, get_or, sym, refl, ◌∙◌, inl, mul-le-mul, arith}
use Rattle.std.proofs.lemmas.Bool.{and_parts, leb-true, false≢true, cond_both, cond-true, ltb-true, ltb-false, lt-ltb}
use Rattle.std.proofs.lemmas.Bool.Decides.{nat_tests}
use Rattle.std.proofs.lemmas.List.{length-take, get_or_past}
use Rattle.std.proofs.ByRecursion.{All-from_get_or}
use Rattle.std.proofs.lemmas.List.FromFn.{length-map-range_with_len, get_or-map-range_with_len}
use Rattle.std.specs.List.{AllByRecursion}
use Rattle.layout.specs.declared.kind.LayoutKind.{LayoutKind}
use Rattle.layout.specs.declared.kind.LayoutKind.TheVariants.{Dense, Diagonal, Sparse}
use Rattle.layout.specs.Places.{Place, place, origin, Inside, axis}
use Rattle.layout.specs.Layouts.{Valid, Level}
use Rattle.layout.specs.Radix.{size, every, diagonal, along}
use Rattle.layout.proofs.Radix.{unravel_inside, unravel_before, every_length, every_at, every_has}
use Rattle.grid.specs.declared.shapes.GridShape.{GridShape}
use Rattle.layout.specs.Rules.{first_broken, none, in_range, axes_in_range, equal_axes}
use Rattle.layout.proofs.Rules.{all_kept}
use Rattle.grid.specs.Grids.{grid_shape, grid_places, grid_layout, sound, tests}

range_says : (n : ℕ) → in_range n ≡ true → (1 ≤ n) × (n ≤ 4096)
range_says n h = let p = and_parts (leb 1 n) (leb n 4096) h in (leb-true 1 n p.0, leb-true n 4096 p.1)

axes_parts : (s : List ℕ) → axes_in_range s ≡ true → (in_range (axis s 0) ≡ true) × (in_range (axis s 1) ≡ true) × (in_range (axis s 2) ≡ true) × (in_range (axis s 3) ≡ true)
axes_parts s h =
    let p = and_parts ((in_range (axis s 0) && in_range (axis s 1)) && in_range (axis s 2)) (in_range (axis s 3)) h in
    let q = and_parts (in_range (axis s 0) && in_range (axis s 1)) (in_range (axis s 2)) p.0 in
    let t = and_parts (in_range (axis s 0)) (in_range (axis s 1)) q.0 in
    (t.0, t.1, q.1, p.1)

pub axes_say : (s : List ℕ) → axes_in_range s ≡ true → (i : ℕ) → i < 4 → (1 ≤ axis s i) × (axis s i ≤ 4096)
axes_say s h zero l = range_says (axis s 0) (axes_parts s h).0
axes_say s h (suc zero) l = range_says (axis s 1) (axes_parts s h).1
axes_say s h (suc (suc zero)) l = range_says (axis s 2) (axes_parts s h).2
axes_say s h (suc (suc (suc zero))) l = range_says (axis s 3) (axes_parts s h).3
axes_say s h (suc (suc (suc (suc i)))) l = absurd (omega arith)

module _ (s : List ℕ) (few : length s ≤ 4) (h : axes_in_range s ≡ true) where
  axes_all : AllByRecursion (λ n. (1 ≤ n) × (n ≤ 4096)) s
  axes_all = All-from_get_or (λ n. (1 ≤ n) × (n ≤ 4096)) s 1 (λ i l. axes_say s h i (omega arith))

  pos_at : (i : ℕ) → i < 4 → 1 ≤ axis s i
  pos_at i l = (axes_say s h i l).0

  size_some : 1 ≤ size s
  size_some = mul-le-mul {n₁ = 1} {m₁ = 1} (mul-le-mul {n₁ = 1} {m₁ = 1} (mul-le-mul {n₁ = 1} {m₁ = 1} (pos_at 0 (omega arith)) (pos_at 1 (omega arith))) (pos_at 2 (omega arith))) (pos_at 3 (omega arith))

  dense_valid : size s ≤ 65536 → Valid record { kind = Dense; shape = s; places = every s }
  dense_valid m =
      let n = every_length s in
      record {
        ranked = few;
        axes = axes_all;
        some = rw n size_some;
        many = rw n m;
        inside = All-from_get_or (Inside s) (every s) origin (λ k l. let l' : k < size s = rw n at l in rw (every_at s k l') (unravel_inside s (pos_at 1 (omega arith)) (pos_at 2 (omega arith)) (pos_at 3 (omega arith)) k l'));
        ascending = λ j k l l'. let b : k < size s = rw n at l' in rw (every_at s j (omega arith), every_at s k b) (unravel_before s (pos_at 1 (omega arith)) (pos_at 2 (omega arith)) (pos_at 3 (omega arith)) j k l);
        of_kind = every_has s;
      }

-- the axes of a diagonal shape, as far as there are four
pub level_says : (r : ℕ) (s : List ℕ) → equal_axes r s ≡ true → (1 < r → axis s 1 ≡ axis s 0) × (2 < r → axis s 2 ≡ axis s 0) × (3 < r → axis s 3 ≡ axis s 0)
level_says n s h =
    let p = and_parts ((leb n 1 || eqb (axis s 1) (axis s 0)) && (leb n 2 || eqb (axis s 2) (axis s 0))) (leb n 3 || eqb (axis s 3) (axis s 0)) h in
    let q = and_parts (leb n 1 || eqb (axis s 1) (axis s 0)) (leb n 2 || eqb (axis s 2) (axis s 0)) p.0 in
    (either n 1 (axis s 1) (axis s 0) q.0, either n 2 (axis s 2) (axis s 0) q.1, either n 3 (axis s 3) (axis s 0) p.1)
  where
    either : (n m x y : ℕ) → (leb n m || eqb x y) ≡ true → m < n → x ≡ y
    either n m x y h l = grind (arith, nat_tests, h)

level_at : (s : List ℕ) → length s ≤ 4 → equal_axes (length s) s ≡ true → (i : ℕ) → i < length s → axis s i ≡ axis s 0
level_at s f h zero l = refl
level_at s f h (suc zero) l = (level_says (length s) s h).0 l
level_at s f h (suc (suc zero)) l = (level_says (length s) s h).1 l
level_at s f h (suc (suc (suc zero))) l = (level_says (length s) s h).2 l
level_at s f h (suc (suc (suc (suc i)))) l = absurd (omega arith)

-- one entry of a place of the diagonal
here_below : (r m k n n0 : ℕ) → k < n0 → 1 ≤ n → (m < r → n ≡ n0) → cond (ltb m r) k 0 < n
here_below r m k n n0 l p e = cond_both (ltb m r) k 0 (λ x. x < n) (λ t. omega (arith, e (ltb-true m r t))) (λ t. p)

here_level : (r m k : ℕ) → m < r → cond (ltb m r) k 0 ≡ k
here_level r m k l = cond-true (ltb m r) k 0 (lt-ltb m r l)

here_is : (r m k x n : ℕ) → x < n → (r ≤ m → n ≡ 1) → (m < r → x ≡ k) → cond (ltb m r) k 0 ≡ x
here_is r m k x n l p e = cond_both (ltb m r) k 0 (λ y. y ≡ x) (λ t. sym (e (ltb-true m r t))) (λ t. omega (arith, p (ltb-false m r t)))

pub along_is : (s : List ℕ) (p : Place) → Inside s p → Level (length s) p → along (length s) p.a ≡ p
along_is s p i v =
    let r = length s in
    let b = here_is r 1 p.a p.b (axis s 1) i.1 (get_or_past s 1 1) v.0 in
    let c = here_is r 2 p.a p.c (axis s 2) i.2 (get_or_past s 2 1) v.1 in
    let d = here_is r 3 p.a p.d (axis s 3) i.3 (get_or_past s 3 1) v.2 in
    let e : place p.a (cond (ltb 1 r) p.a 0) (cond (ltb 2 r) p.a 0) (cond (ltb 3 r) p.a 0) ≡ place p.a p.b p.c p.d = cc in
    e

module _ (s : List ℕ) (few : length s ≤ 4) (h : axes_in_range s ≡ true) (some : 1 ≤ length s) (q : equal_axes (length s) s ≡ true) where
  pos_on : (i : ℕ) → i < 4 → 1 ≤ axis s i
  pos_on i l = (axes_say s h i l).0

  along_inside : (k : ℕ) → k < axis s 0 → Inside s (along (length s) k)
  along_inside k l =
      let e = level_says (length s) s q in (
        l,
        here_below (length s) 1 k (axis s 1) (axis s 0) l (pos_on 1 (omega arith)) e.0,
        here_below (length s) 2 k (axis s 2) (axis s 0) l (pos_on 2 (omega arith)) e.1,
        here_below (length s) 3 k (axis s 3) (axis s 0) l (pos_on 3 (omega arith)) e.2,
      )

  diagonal_at : (k : ℕ) → k < axis s 0 → get_or (diagonal (length s) (axis s 0)) k origin ≡ along (length s) k
  diagonal_at k l = get_or-map-range_with_len (along (length s)) 0 (axis s 0) k k origin l (omega arith)

  diagonal_length : length (diagonal (length s) (axis s 0)) ≡ axis s 0
  diagonal_length = length-map-range_with_len (along (length s)) 0 (axis s 0)

  diagonal_valid : Valid record { kind = Diagonal; shape = s; places = diagonal (length s) (axis s 0) }
  diagonal_valid =
      let n = diagonal_length in
      let r = axes_say s h 0 (omega arith) in
      record {
        ranked = few;
        axes = All-from_get_or (λ n. (1 ≤ n) × (n ≤ 4096)) s 1 (λ i l. axes_say s h i (omega arith));
        some = rw n r.0;
        many = rw n (omega arith);
        inside = All-from_get_or (Inside s) (diagonal (length s) (axis s 0)) origin (λ k l. let l' : k < axis s 0 = rw n at l in rw (diagonal_at k l') (along_inside k l'));
        ascending = λ j k l l'. let b : k < axis s 0 = rw n at l' in rw (diagonal_at j (omega arith), diagonal_at k b) (inl l);
        of_kind = (
          some,
          level_at s few q,
          All-from_get_or (Level (length s)) (diagonal (length s) (axis s 0)) origin (λ k l. let l' : k < axis s 0 = rw n at l in rw (diagonal_at k l') (here_level (length s) 1 k, here_level (length s) 2 k, here_level (length s) 3 k)),
          λ p i v. (p.a, rw n i.0, λ d. get_or-map-range_with_len (along (length s)) 0 (axis s 0) p.a p.a d i.0 (omega arith) ∙ along_is s p i v),
        );
      }

few_axes : (g : GridShape) → g.rank ≤ 4 → length (grid_shape g) ≤ 4
few_axes g h = simp length-take (omega arith)

-- what a sound shape has
pub record Sound (g : GridShape) (k : LayoutKind) : Type 0 where
  pub ranked : g.rank ≤ 4
  pub axes : axes_in_range (grid_shape g) ≡ true
  pub valid : Valid record { kind = k; shape = grid_shape g; places = grid_places k (grid_shape g) }

sound_by : (g : GridShape) (k : LayoutKind) → none (first_broken (tests k g)) ≡ true → Sound g k
sound_by g Dense h =
    let p = all_kept (tests Dense g) h in
    let r = leb-true g.rank 4 p.0 in
    record { ranked = r; axes = p.1.0; valid = dense_valid (grid_shape g) (few_axes g r) p.1.0 (leb-true (size (grid_shape g)) 65536 p.1.1.0) }
sound_by g Diagonal h =
    let p = all_kept (tests Diagonal g) h in
    let u = and_parts (leb 1 (length (grid_shape g))) (leb g.rank 4) p.0 in
    let r = leb-true g.rank 4 u.1 in
    record { ranked = r; axes = p.1.0; valid = diagonal_valid (grid_shape g) (few_axes g r) p.1.0 (leb-true 1 (length (grid_shape g)) u.0) p.1.1.0 }
sound_by g Sparse h = absurd (false≢true h)

pub sound_says : (g : GridShape) → sound g ≡ true → Sound g g.kind
sound_says g h = sound_by g g.kind h

pub grid_valid : (g : GridShape) → sound g ≡ true → Valid (grid_layout g)
grid_valid g h = (sound_says g h).valid
