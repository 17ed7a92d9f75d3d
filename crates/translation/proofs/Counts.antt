-- How many places a dense and a diagonal layout have.
use Rattle.std.proofs.Common.{◌≡◌, ℕ, zero, suc, ◌-◌, ◌*◌, ◌<◌, ◌≤◌, cond, ltb, List, sym, refl, ap, ◌∙◌, subst, inl, inr, arith}
use Rattle.std.proofs.lemmas.Bool.{cases_lt, cases_order, lt-ltb, ltb-true, cond_both, cond-true}
use Rattle.std.proofs.lemmas.List.{get_or_past}
use Rattle.std.proofs.ByRecursion.{All-get_or}
use Rattle.std.specs.List.{ContainsAt as Has}
use Rattle.layout.specs.declared.kind.LayoutKind.TheVariants.{Dense, Diagonal}
use Rattle.layout.specs.Places.{Place, place, origin, Inside, axis}
use Rattle.layout.specs.Layouts.{Layout, Valid, OfKind, Level, count, rank, at}
use Rattle.layout.specs.Radix.{size, ravel, unravel, along}
use Rattle.layout.proofs.Radix.{unravel_inside, unravel_before, ravel_below, unravel_ravel}
use Rattle.layout.proofs.Finding.{before_other}
use Rattle.grouping.specs.Keys.{tail_size}
use Rattle.grouping.proofs.Keyed.{axis_small, inside_at}
use Rattle.grouping.proofs.Rules.{dense_at}

module _ (l : Layout) (v : Valid l) (d : l.kind ≡ Dense) where
  has_every : (p : Place) → Inside l.shape p → Has l.places p
  has_every = subst (λ k. OfKind k l) d v.of_kind

  pub dense_count : count l ≡ size l.shape
  dense_count =
      let s = l.shape in
      let x = axis_small l v in
      elim (cases_order (count l) (size s)) [
        | inl e ↦ e
        | inr o ↦ elim o [
          | inl h ↦ absurd (
              let i = unravel_inside s (x 1).0 (x 2).0 (x 3).0 (count l) h in
              let e = has_every (unravel s (count l)) i in
              before_other (unravel s e.0) (unravel s (count l)) (unravel_before s (x 1).0 (x 2).0 (x 3).0 e.0 (count l) e.1) (sym (dense_at l v d e.0 e.1) ∙ e.2 origin))
          | inr h ↦ absurd (
              let p = at l (size s) in
              let i = inside_at l v (size s) h in
              let j = ravel s p in
              let b = ravel_below s p i in
              before_other (at l j) p (v.ascending j (size s) b h) (dense_at l v d j (omega arith) ∙ unravel_ravel s p i))
        ]
      ]

-- a function that rises stays at or above its argument
rising : (f : ℕ → ℕ) (n : ℕ) → ((i j : ℕ) → i < j → j < n → f i < f j) → (i : ℕ) → i < n → i ≤ f i
rising f n h zero l = omega arith
rising f n h (suc i) l = let a = rising f n h i (omega arith) in let b = h i (suc i) (omega arith) l in omega arith

module _ (l : Layout) (v : Valid l) (d : l.kind ≡ Diagonal) where
  kind_of : OfKind Diagonal l
  kind_of = subst (λ k. OfKind k l) d v.of_kind

  level_at : (i : ℕ) → i < count l → Level (rank l) (at l i)
  level_at i h = All-get_or (Level (rank l)) l.places i origin h kind_of.2

  -- a later place has a larger first entry
  firsts_rise : (i j : ℕ) → i < j → j < count l → (at l i).a < (at l j).a
  firsts_rise i j h k =
      let p = at l i in
      let q = at l j in
      let b = v.ascending i j h k in
      let s = level_at i (omega arith) in
      let t = level_at j k in
      let m = inside_at l v i (omega arith) in
      let n = inside_at l v j k in
      elim b [
        | inl a ↦ a
        | inr e ↦ absurd (
            let ea = e.0 in
            let eb : p.b ≡ q.b = elim (cases_lt 1 (rank l)) [ inl r ↦ s.0 r ∙ ea ∙ sym (t.0 r) | inr r ↦ (let z = get_or_past l.shape 1 1 r in omega (arith, m.1, n.1)) ] in
            let ec : p.c ≡ q.c = elim (cases_lt 2 (rank l)) [ inl r ↦ s.1 r ∙ ea ∙ sym (t.1 r) | inr r ↦ (let z = get_or_past l.shape 2 1 r in omega (arith, m.2, n.2)) ] in
            let ed : p.d ≡ q.d = elim (cases_lt 3 (rank l)) [ inl r ↦ s.2 r ∙ ea ∙ sym (t.2 r) | inr r ↦ (let z = get_or_past l.shape 3 1 r in omega (arith, m.3, n.3)) ] in
            let e4 : place p.a p.b p.c p.d ≡ place q.a q.b q.c q.d = cc in
            before_other p q (inr e) e4)
      ]

  entry_inside : (i k : ℕ) → k < axis l.shape 0 → cond (ltb i (rank l)) k 0 < axis l.shape i
  entry_inside i k h =
      cond_both (ltb i (rank l)) k 0 (λ y. y < axis l.shape i)
      (λ t. let e = kind_of.1 i (ltb-true i (rank l) t) in omega arith)
      (λ _. (axis_small l v i).0)

  along_level : (k : ℕ) → Level (rank l) (along (rank l) k)
  along_level k = (λ h. cond-true (ltb 1 (rank l)) k 0 (lt-ltb 1 (rank l) h), λ h. cond-true (ltb 2 (rank l)) k 0 (lt-ltb 2 (rank l) h), λ h. cond-true (ltb 3 (rank l)) k 0 (lt-ltb 3 (rank l) h))

  place_of : (k : ℕ) → k < axis l.shape 0 → (i : ℕ) × (i < count l) × ((at l i).a ≡ k)
  place_of k h =
      let e = kind_of.3 (along (rank l) k) (h, entry_inside 1 k h, entry_inside 2 k h, entry_inside 3 k h) (along_level k) in
      (e.0, e.1, ap (λ (p : Place). p.a) (e.2 origin))

  firsts_back : (i j : ℕ) → i < count l → j < count l → (at l i).a < (at l j).a → i < j
  firsts_back i j m n h =
      elim (cases_order i j) [
        | inl e ↦ absurd (let f = ap (λ k. (at l k).a) e in omega arith)
        | inr o ↦ elim o [ inl a ↦ a | inr a ↦ absurd (let f = firsts_rise j i a m in omega arith) ]
      ]

  enough : (k : ℕ) (h : k < axis l.shape 0) → k ≤ (place_of k h).0
  enough zero h = omega arith
  enough (suc k) h =
      let h' : k < axis l.shape 0 = omega arith in
      let a = enough k h' in
      let p = place_of k h' in
      let q = place_of (suc k) h in
      let b = firsts_back p.0 q.0 p.1 q.1 (omega (arith, p.2, q.2)) in
      omega arith

  pub diagonal_count : count l ≡ axis l.shape 0
  diagonal_count =
      let n = axis l.shape 0 in
      let some = v.some in
      let pos = (axis_small l v 0).0 in
      let a = rising (λ i. (at l i).a) (count l) firsts_rise (count l - 1) (omega arith) in
      let b = (inside_at l v (count l - 1) (omega arith)).0 in
      let h : n - 1 < n = omega arith in
      let c = enough (n - 1) h in
      let d = (place_of (n - 1) h).1 in
      omega arith

-- a shape's size is a number of whole tails
pub tails : (m : ℕ) (s : List ℕ) → (q : ℕ) × (size s ≡ q * tail_size m s)
tails zero s = (1, grind arith)
tails (suc zero) s = (axis s 0, grind arith)
tails (suc (suc zero)) s = (axis s 0 * axis s 1, grind arith)
tails (suc (suc (suc zero))) s = (axis s 0 * axis s 1 * axis s 2, refl)
tails (suc (suc (suc (suc m)))) s = (size s, grind arith)
