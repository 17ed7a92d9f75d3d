-- What the first block that passes a test has, and when two starts are one.
use Rattle.std.proofs.Common.{◌≡◌, Bool, true, false, cond, ◌&&◌, List, [], ◌∷◌, length, ℤ, pos, negsuc, Some, None, Option, Decides, sym, refl, ap, ◌∙◌, arith}
use Rattle.std.proofs.lemmas.Bool.Decides.{same_from_decides, Decides-eqb, Decides-int_eq}
use Rattle.std.specs.List.{find}
use Rattle.std.specs.Ordering.{int_eq}
use Rattle.std.specs.Option.{option_map}
use denote.Ref.{Bor}
use lib.Pointwise.{pointwise}
use Rattle.records.specs.declared.record.BlockEntry.{BlockEntry}
use Rattle.overlap.specs.Sharing.{of_first, same_entry, same_start}

module _ {A : Type 0} (t : BlockEntry → Bool) (f : BlockEntry → Option A) where
  none_by : (x : Bool) (b : BlockEntry) (o : Option BlockEntry) (p : Option A) → (o ≡ None → None ≡ p) → cond x (Some b) o ≡ None → None ≡ cond x (f b) p
  none_by true b o p h e = absurd cc
  none_by false b o p h e = h e

  none : (bs : List BlockEntry) → find t bs ≡ None → None ≡ of_first t f bs
  none [] e = refl
  none (b ∷ bs) e = none_by (t b) b (find t bs) (of_first t f bs) (none bs) e

  some_by : (x : Bool) (b y : BlockEntry) (o : Option BlockEntry) (p : Option A) → (o ≡ Some y → f y ≡ p) → cond x (Some b) o ≡ Some y → f y ≡ cond x (f b) p
  some_by true b y o p h e = let z : y ≡ b = cc in ap f z
  some_by false b y o p h e = h e

  some : (bs : List BlockEntry) (y : BlockEntry) → find t bs ≡ Some y → f y ≡ of_first t f bs
  some [] y e = absurd cc
  some (b ∷ bs) y e = some_by (t b) b y (find t bs) (of_first t f bs) (some bs y) e

  -- what `find` answers is none, or the block that is then asked
  pub found_none : (bs : List BlockEntry) (r : Option (Bor BlockEntry)) → option_map (λ x. x.now) r ≡ find t bs → r ≡ None → None ≡ of_first t f bs
  found_none bs r h e = none bs (sym h ∙ ap (option_map (λ x. x.now)) e)

  pub found_some : (bs : List BlockEntry) (r : Option (Bor BlockEntry)) (x : Bor BlockEntry) → option_map (λ x. x.now) r ≡ find t bs → r ≡ Some x → f x.now ≡ of_first t f bs
  found_some bs r x h e = some bs x.now (sym h ∙ ap (option_map (λ x. x.now)) e)

entry_decides : (a b : ℤ) → Decides (same_entry a b) (a ≡ b)
entry_decides (pos m) (pos n) = let d = Decides-eqb m n in (λ e. ap pos (d.0 e), λ e. d.1 cc)
entry_decides (pos m) (negsuc n) = (λ e. absurd cc, λ e. absurd cc)
entry_decides (negsuc m) (pos n) = (λ e. absurd cc, λ e. absurd cc)
entry_decides (negsuc m) (negsuc n) = let d = Decides-eqb m n in (λ e. ap negsuc (d.0 e), λ e. d.1 cc)

entries_alike : (a b : ℤ) → int_eq a b ≡ same_entry a b
entries_alike a b = same_from_decides (int_eq a b) (same_entry a b) (Decides-int_eq a b) (entry_decides a b)

-- a list of four entries
record Four (x : List ℤ) : Type 0 where
  a : ℤ
  b : ℤ
  c : ℤ
  d : ℤ
  is : x ≡ a ∷ b ∷ c ∷ d ∷ []

four : (x : List ℤ) → length x ≡ 4 → Four x
four [] e = absurd (omega arith)
four (a ∷ []) e = absurd (omega arith)
four (a ∷ b ∷ []) e = absurd (omega arith)
four (a ∷ b ∷ c ∷ []) e = absurd (omega arith)
four (a ∷ b ∷ c ∷ d ∷ []) e = record { a = a; b = b; c = c; d = d; is = refl }
four (a ∷ b ∷ c ∷ d ∷ f ∷ x) e = absurd (omega arith)

grouped : (p q r s : Bool) → (p && (q && (r && (s && true)))) ≡ ((p && q) && (r && s))
grouped true true true true = refl
grouped true true true false = refl
grouped true true false s = refl
grouped true false r s = refl
grouped false q r s = refl

pub starts_alike : (x y : List ℤ) → length x ≡ 4 → length y ≡ 4 → pointwise int_eq x y ≡ same_start x y
starts_alike x y m n =
    let p = four x m in
    let q = four y n in
    let e = grouped (int_eq p.a q.a) (int_eq p.b q.b) (int_eq p.c q.c) (int_eq p.d q.d) in
    ap (λ u. pointwise int_eq u y) p.is ∙ ap (pointwise int_eq (p.a ∷ p.b ∷ p.c ∷ p.d ∷ [])) q.is ∙ e
    ∙ cc (entries_alike p.a q.a, entries_alike p.b q.b, entries_alike p.c q.c, entries_alike p.d q.d)

pub routes_alike : (p q s : Bool) (x y : List ℤ) → length x ≡ 4 → length y ≡ 4 → (p && (q && (pointwise int_eq x y && s))) ≡ ((p && q) && (s && same_start x y))
routes_alike p q s x y m n = ap (λ t. p && (q && (t && s))) (starts_alike x y m n) ∙ turned p q (same_start x y) s where
  turned : (p q r s : Bool) → (p && (q && (r && s))) ≡ ((p && q) && (s && r))
  turned true true true true = refl
  turned true true true false = refl
  turned true true false true = refl
  turned true true false false = refl
  turned true false r s = refl
  turned false q r s = refl
