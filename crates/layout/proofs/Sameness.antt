-- Two valid layouts that answer alike are the same.
use Rattle.std.proofs.Common.{◌≡◌, ℕ, zero, suc, ◌<◌, Bool, ltb, List, length, get_or, ℤ, Some, None, Decides, sym, ap, ◌∙◌, arith}
use Rattle.std.proofs.lemmas.List.{same_lists, get_or_default}
use Rattle.std.proofs.lemmas.Bool.{cond-true, lt-ltb}
use Rattle.layout.specs.declared.shape.Shape.{Shape}
use Rattle.layout.specs.Places.{Place, place, origin, axis}
use Rattle.layout.specs.Layouts.{Layout, Valid, count, at}
use Rattle.layout.specs.Answers.{shape_of, index_of, place_in}

same_index : (p q : Place) → index_of p ≡ index_of q → p ≡ q
same_index p q e =
    let a : p.a ≡ q.a = cc in
    let b : p.b ≡ q.b = cc in
    let c : p.c ≡ q.c = cc in
    let d : p.d ≡ q.d = cc in
    let w : place p.a p.b p.c p.d ≡ place q.a q.b q.c q.d = cc in
    w

axis_same : (l m : Layout) → shape_of l ≡ shape_of m → (i : ℕ) → i < 4 → axis l.shape i ≡ axis m.shape i
axis_same l m e zero h = ap (λ (s : Shape). get_or s.lengths 0 0) e
axis_same l m e (suc zero) h = ap (λ (s : Shape). get_or s.lengths 1 0) e
axis_same l m e (suc (suc zero)) h = ap (λ (s : Shape). get_or s.lengths 2 0) e
axis_same l m e (suc (suc (suc zero))) h = ap (λ (s : Shape). get_or s.lengths 3 0) e
axis_same l m e (suc (suc (suc (suc i)))) h = absurd (omega arith)

pub same_layout : (l m : Layout) → Valid l → shape_of l ≡ shape_of m → ((k : ℕ) → k < count l → index_of (at l k) ≡ index_of (at m k)) → l ≡ m
same_layout l m v e f =
    let kinds : l.kind ≡ m.kind = ap (λ (s : Shape). s.kind) e in
    let ranks : length l.shape ≡ length m.shape = ap (λ (s : Shape). s.rank) e in
    let counts : length l.places ≡ length m.places = ap (λ (s : Shape). s.count) e in
    let shapes = same_lists l.shape m.shape ranks (λ k d h. get_or_default l.shape k d 1 h ∙ axis_same l m e k (omega (arith, v.ranked)) ∙ get_or_default m.shape k 1 d (omega arith)) in
    let places = same_lists l.places m.places counts (λ k d h. get_or_default l.places k d origin h ∙ same_index (at l k) (at m k) (f k h) ∙ get_or_default m.places k origin d (omega arith)) in
    let w : ◌≡◌ {A = Layout} (record { kind = l.kind; shape = l.shape; places = l.places }) (record { kind = m.kind; shape = m.shape; places = m.places }) = cc in
    w

-- a place that there is
pub place_there : (l : Layout) (k : ℕ) → k < count l → place_in l k ≡ Some (index_of (at l k))
place_there l k h = cond-true (ltb k (count l)) _ None (lt-ltb k (count l) h)

some_index : (x y : List ℤ) → Some x ≡ Some y → x ≡ y
some_index x y e = cc

module _ (l m : Layout) (valid : Valid l) where
  same_parts : shape_of l ≡ shape_of m → ((k : ℕ) → k < count l → place_in l k ≡ place_in m k) → l ≡ m
  same_parts e f =
      let counts : count l ≡ count m = ap (λ (s : Shape). s.count) e in
      same_layout l m valid e (λ k h. some_index _ _ (sym (place_there l k h) ∙ f k h ∙ place_there m k (omega arith)))

  pub places_decide : (r : Bool) → shape_of l ≡ shape_of m → Decides r ((k : ℕ) → k < count l → place_in l k ≡ place_in m k) → Decides r (l ≡ m)
  places_decide r e d = (λ h. same_parts e (d.0 h), λ h. d.1 (λ k j. ap (λ x. place_in x k) h))
