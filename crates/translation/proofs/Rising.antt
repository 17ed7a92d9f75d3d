-- Destinations rise with the via's places.
use Rattle.std.proofs.Common.{◌≡◌, ℕ, ◌<◌, ◌≤◌, cond, ltb, List, get_or, ℤ, pos, negsuc, ◌+ℤ◌, Some, None, Option, sym, refl, ap, ◌∙◌, inl, inr, arith}
use Rattle.std.proofs.lemmas.Int.{ints}
use Rattle.std.proofs.lemmas.List.{get_or_past}
use Rattle.std.proofs.lemmas.Bool.{cases_lt, cases_order, lt-ltb, le-ltb}
use Rattle.layout.specs.Places.{Place, place, Before, Inside}
use Rattle.layout.specs.Layouts.{Layout, Valid, count, rank, at, natural, four, named, number_of, strict}
use Rattle.layout.proofs.Finding.{before_other}
use Rattle.grouping.proofs.Keyed.{inside_at}
use Rattle.translation.specs.Tos.{shift, destination}
use Rattle.translation.proofs.Landing.{number_says}

none_some : {X : Type 0} (x : X) → None ≡ Some x → ⊥
none_some x e = let z : ◌≡◌ {A = ℕ} 0 1 = cc in omega arith

-- a lookup that finds n has found the place that the index names
pub strict_says : (l : Layout) (x : List ℤ) (n : ℕ) → strict l x ≡ Some n → (named (rank l) x ≡ Some (at l n)) × (n < count l)
strict_says l x n e = by (named (rank l) x) refl e where
  by : (o : Option Place) → named (rank l) x ≡ o → number_of o l.places ≡ Some n → (named (rank l) x ≡ Some (at l n)) × (n < count l)
  by None f g = absurd (none_some n g)
  by (Some p) f g = let r = number_says p l.places n g in (f ∙ ap Some (sym r.1), r.0)

four_says : (a b c d : Option ℕ) (p : Place) → four a b c d ≡ Some p → (a ≡ Some p.a) × (b ≡ Some p.b) × (c ≡ Some p.c) × (d ≡ Some p.d)
four_says (Some a) (Some b) (Some c) (Some d) p e =
    let f : place a b c d ≡ p = cc in
    (ap (λ (q : Place). Some q.a) f, ap (λ (q : Place). Some q.b) f, ap (λ (q : Place). Some q.c) f, ap (λ (q : Place). Some q.d) f)
four_says (Some a) (Some b) (Some c) None p e = absurd (none_some p e)
four_says (Some a) (Some b) None d p e = absurd (none_some p e)
four_says (Some a) None c d p e = absurd (none_some p e)
four_says None b c d p e = absurd (none_some p e)

natural_says : (z : ℤ) (n : ℕ) → natural z ≡ Some n → z ≡ pos n
natural_says (pos m) n e = let f : m ≡ n = cc in ap pos f
natural_says (negsuc m) n e = absurd (none_some n e)

-- one axis: e and f are the entries that a start's entry z plus x and plus y name at rank r
record Along (r i : ℕ) (x y e f : ℕ) : Type 0 where
  less : x < y → e < f
  same : x ≡ y → e ≡ f

along_axis : (r i : ℕ) (z : ℤ) (x y e f : ℕ) → natural (cond (ltb i r) (z +ℤ pos x) (pos 0)) ≡ Some e → natural (cond (ltb i r) (z +ℤ pos y) (pos 0)) ≡ Some f → (r ≤ i → (x ≡ 0) × (y ≡ 0)) → Along r i x y e f
along_axis r i z x y e f p q zero' =
    elim (cases_lt i r) [
      | inl h ↦ (
          let t = lt-ltb i r h in
          let a = natural_says (z +ℤ pos x) e (rw t at p) in
          let b = natural_says (z +ℤ pos y) f (rw t at q) in
          record { less = λ l. omega (arith, ints); same = λ l. omega (arith, ints) })
      | inr h ↦ (
          let t = le-ltb i r h in
          let a : ◌≡◌ {A = Option ℕ} (Some 0) (Some e) = rw t at p in
          let b : ◌≡◌ {A = Option ℕ} (Some 0) (Some f) = rw t at q in
          let a' : 0 ≡ e = cc in
          let b' : 0 ≡ f = cc in
          let o = zero' h in
          record { less = λ l. omega (arith, o.0, o.1); same = λ l. omega arith })
    ]

-- past its rank a layout's place has zeros
past_zero : (l : Layout) → Valid l → (p : Place) → Inside l.shape p → (r : ℕ) → rank l ≤ r → (r ≤ 0 → p.a ≡ 0) × (r ≤ 1 → p.b ≡ 0) × (r ≤ 2 → p.c ≡ 0) × (r ≤ 3 → p.d ≡ 0)
past_zero l v p i r h = (
  λ k. (let e = get_or_past l.shape 0 1 (omega arith) in omega (arith, i.0)),
  λ k. (let e = get_or_past l.shape 1 1 (omega arith) in omega (arith, i.1)),
  λ k. (let e = get_or_past l.shape 2 1 (omega arith) in omega (arith, i.2)),
  λ k. (let e = get_or_past l.shape 3 1 (omega arith) in omega (arith, i.3)),
)

module _ (v : Layout) (x : List ℤ) (g : Layout) (ok : Valid v) (okg : Valid g) (low : rank v ≤ rank g) where
  -- two places of the via in order, and the places that they go to
  before_shifted : (p q e f : Place) → Inside v.shape p → Inside v.shape q → named (rank g) (shift x p) ≡ Some e → named (rank g) (shift x q) ≡ Some f → Before p q → Before e f
  before_shifted p q e f i j a b h =
      let m = four_says _ _ _ _ e a in
      let n = four_says _ _ _ _ f b in
      let y = past_zero v ok p i (rank g) low in
      let z = past_zero v ok q j (rank g) low in
      let c0 = along_axis (rank g) 0 (get_or x 0 (pos 0)) p.a q.a e.a f.a m.0 n.0 (λ k. (y.0 k, z.0 k)) in
      let c1 = along_axis (rank g) 1 (get_or x 1 (pos 0)) p.b q.b e.b f.b m.1 n.1 (λ k. (y.1 k, z.1 k)) in
      let c2 = along_axis (rank g) 2 (get_or x 2 (pos 0)) p.c q.c e.c f.c m.2 n.2 (λ k. (y.2 k, z.2 k)) in
      let c3 = along_axis (rank g) 3 (get_or x 3 (pos 0)) p.d q.d e.d f.d m.3 n.3 (λ k. (y.3 k, z.3 k)) in
      elim h [
        | inl u ↦ inl (c0.less u)
        | inr u ↦ inr (
          c0.same u.0,
          elim u.1 [
            | inl w ↦ inl (c1.less w)
            | inr w ↦ inr (
              c1.same w.0,
              elim w.1 [
                | inl o ↦ inl (c2.less o)
                | inr o ↦ inr (c2.same o.0, c3.less o.1)
              ],
            )
          ],
        )
      ]

  not_after : (p q : Place) → Before p q → Before q p → ⊥
  not_after p q h k = grind arith

  pub rise : (j k : ℕ) → j < k → k < count v → (a b : ℕ) → destination v x g j ≡ Some a → destination v x g k ≡ Some b → a < b
  rise j k h n a b da db =
      let sa = strict_says g (shift x (at v j)) a da in
      let sb = strict_says g (shift x (at v k)) b db in
      let o = before_shifted (at v j) (at v k) (at g a) (at g b) (inside_at v ok j (omega arith)) (inside_at v ok k n) sa.0 sb.0 (ok.ascending j k h n) in
      elim (cases_order a b) [
        | inl e ↦ absurd (before_other (at g a) (at g b) o (ap (at g) e))
        | inr w ↦ elim w [ inl l ↦ l | inr l ↦ absurd (not_after (at g a) (at g b) o (okg.ascending b a l sa.1)) ]
      ]
