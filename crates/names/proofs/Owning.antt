-- Where no table exists, the place's own number counts.
use Rattle.std.proofs.Common.{◌≡◌, ℕ, zero, suc, ◌+◌, ◌<◌, ◌≤◌, Bool, true, false, cond, not, ◌&&◌, eqb, ltb, List, [], ◌∷◌, map, length, get_or, set, ℤ, pos, Some, sym, refl, ap, ◌∙◌, inl, inr, le_of_suc-le-suc, arith}
use Rattle.std.proofs.lemmas.List.{get_or-set_same, get_or-set_other, get_or-map, get_or_append_left, get_or-append-add, length-map, length-append, get_or_past, length-set}
use Rattle.std.proofs.ByRecursion.{All-get_or}
use Rattle.std.proofs.lemmas.Bool.{and_parts, eqb-true, eq-eqb, ne_eqb, lt-ltb, le-ltb, ltb-true, cases_Bool, cases_lt, cases_eq, not-true, both_ways}
use Rattle.layout.specs.declared.kind.LayoutKind.{LayoutKind}
use Rattle.layout.specs.declared.kind.LayoutKind.TheVariants.{Dense, Diagonal, Sparse}
use Rattle.layout.specs.Places.{Place, origin, Inside, axis}
use Rattle.layout.specs.Layouts.{Layout, Valid, count, rank, at, natural, given, named, widened, widen, wide_index}
use Rattle.layout.specs.Answers.{index_of}
use Rattle.layout.proofs.Finding.{strict_found}
use Rattle.expression.specs.Letterings.{position, among, distinct}
use Rattle.names.specs.Reading.{slot, foreign, permutation, scattered, permuted, table_element, element, element_by}
use Rattle.names.specs.Checks.{fitting, fitting_by, fitting_slots}
use Rattle.names.specs.Tables.{identity_from, OwnNumberCounts}

-- ---- every position of a name is a slot

position_here : (c : ℕ) (xs : List ℕ) (q : ℕ) → q < length xs → get_or xs q 0 ≡ c → position c xs ≤ q
position_here c [] q h e = absurd (omega arith)
position_here c (x ∷ xs) zero h e = let b = eq-eqb x c e in rw b (omega arith)
position_here c (x ∷ xs) (suc q) h e =
    elim (cases_Bool (eqb x c)) [
      | inl t ↦ rw t (omega arith)
      | inr t ↦ (let i = position_here c xs q (le_of_suc-le-suc h) e in rw t (omega arith))
    ]

position_own : (xs : List ℕ) (q : ℕ) → distinct xs ≡ true → q < length xs → position (get_or xs q 0) xs ≡ q
position_own [] q d h = absurd (omega arith)
position_own (x ∷ xs) zero d h = let b = eq-eqb x x refl in rw b refl
position_own (x ∷ xs) (suc q) d h =
    let p = and_parts (not (among x xs)) (distinct xs) d in
    let l = le_of_suc-le-suc h in
    let b : eqb x (get_or xs q 0) ≡ false = ne_eqb x (get_or xs q 0) (λ e. let i = position_here x xs q l (sym e) in both_ways (among x xs) (not-true (among x xs) p.0) (lt-ltb (position x xs) (length xs) (omega arith))) in
    rw b (ap suc (position_own xs q p.1 l))

position_read : (c : ℕ) (xs : List ℕ) → position c xs < length xs → get_or xs (position c xs) 0 ≡ c
position_read c [] h = absurd (omega arith)
position_read c (x ∷ xs) h =
    elim (cases_Bool (eqb x c)) [
      | inl t ↦ rw t (eqb-true x c t)
      | inr t ↦ (let g : suc (position c xs) < suc (length xs) = rw t at h in rw t (position_read c xs (le_of_suc-le-suc g)))
    ]

-- slots has q
abbrev Holds : List ℕ → ℕ → Type 0
Holds slots q = (j : ℕ) × (j < length slots) × (get_or slots j 0 ≡ q)

foreign_holds : (i : ℕ) (block name : List ℕ) (q : ℕ) → q < length name → among (get_or name q 0) block ≡ false → Holds (foreign i block name) (i + q)
foreign_holds i block [] q h f = absurd (omega arith)
foreign_holds i block (c ∷ cs) zero h f = rw f (0, omega arith, omega arith)
foreign_holds i block (c ∷ cs) (suc q) h f =
    let t = foreign_holds (i + 1) block cs q (le_of_suc-le-suc h) f in
    let e : i + 1 + q ≡ i + suc q = omega arith in
    elim (cases_Bool (among c block)) [
      | inl b ↦ rw b (t.0, t.1, t.2 ∙ e)
      | inr b ↦ rw b (suc t.0, omega (arith, t.1), t.2 ∙ e)
    ]

slots_hold : (r : ℕ) (block name : List ℕ) (q : ℕ) → distinct name ≡ true → q < length name → Holds (permutation r block name) q
slots_hold r block name q d h =
    let c = get_or name q 0 in
    elim (cases_Bool (among c block)) [
      | inl b ↦
          (let j = position c block in
          let l : j < length block = ltb-true j (length block) b in
          let m : j < length (map (slot r name) block) = omega (arith, length-map block (slot r name)) in
          let own = position_own name q d h in
          let there : among c name ≡ true = lt-ltb (position c name) (length name) (omega arith) in
          let e : get_or (permutation r block name) j 0 ≡ q =
          get_or_append_left (map (slot r name) block) (foreign 0 block name) 0 j m ∙ get_or-map (slot r name) block j 0 0 l ∙ ap (slot r name) (position_read c block l)
          ∙ ap (λ t. cond t (position c name) r) there ∙ own in
          (j, omega (arith, length-append (map (slot r name) block) (foreign 0 block name)), e))
      | inr b ↦
          (let t = foreign_holds 0 block name q h b in
          let n = length (map (slot r name) block) in
          let e : get_or (permutation r block name) (n + t.0) 0 ≡ q = get_or-append-add (map (slot r name) block) (foreign 0 block name) t.0 0 ∙ t.2 ∙ (let z : 0 + q ≡ q = omega arith in z) in
          (n + t.0, omega (arith, t.1, length-append (map (slot r name) block) (foreign 0 block name)), e))
    ]

identity_at : (i : ℕ) (ps : List ℕ) (k : ℕ) → identity_from i ps ≡ true → k < length ps → get_or ps k 0 ≡ i + k
identity_at i [] k d h = absurd (omega arith)
identity_at i (p ∷ ps) zero d h = let e = eqb-true p i (and_parts (eqb p i) (identity_from (i + 1) ps) d).0 in omega arith
identity_at i (p ∷ ps) (suc k) d h = let t = identity_at (i + 1) ps k (and_parts (eqb p i) (identity_from (i + 1) ps) d).1 (le_of_suc-le-suc h) in omega arith

-- under the identity there are as many slots as letters
identity_covers : (r : ℕ) (block name : List ℕ) (q : ℕ) → distinct name ≡ true → identity_from 0 (permutation r block name) ≡ true → q < length name → q < length (permutation r block name)
identity_covers r block name q d i h =
    let t = slots_hold r block name q d h in
    let e = identity_at 0 (permutation r block name) t.0 i t.1 in
    omega (arith, t.1, t.2, e)

-- ---- under the identity an entry stays

put_length : (b : Bool) (y : List ℤ) (p : ℕ) (v : ℤ) → length (cond b (set y p v) y) ≡ length y
put_length true y p v = length-set y p v
put_length false y p v = refl

put_other : (b : Bool) (y : List ℤ) (p j : ℕ) (v : ℤ) → (j ≡ p → ⊥) → get_or (cond b (set y p v) y) j (pos 0) ≡ get_or y j (pos 0)
put_other true y p j v h = get_or-set_other y p j v (pos 0) h
put_other false y p j v h = refl

scatter_before : (r : ℕ) (x : List ℤ) (i : ℕ) (ps : List ℕ) (y : List ℤ) (j : ℕ) → identity_from i ps ≡ true → j < i → get_or (scattered r x i ps y) j (pos 0) ≡ get_or y j (pos 0)
scatter_before r x i [] y j d h = refl
scatter_before r x i (p ∷ ps) y j d h =
    let a = and_parts (eqb p i) (identity_from (i + 1) ps) d in
    let e = eqb-true p i a.0 in
    scatter_before r x (i + 1) ps (cond (ltb p r) (set y p (get_or x i (pos 0))) y) j a.1 (omega arith)
    ∙ put_other (ltb p r) y p j (get_or x i (pos 0)) (λ g. omega arith)

scatter_at : (r : ℕ) (x : List ℤ) (i : ℕ) (ps : List ℕ) (y : List ℤ) (j : ℕ) → identity_from i ps ≡ true → length y ≡ 4 → r ≤ 4 → i ≤ j → j < i + length ps → j < r → get_or (scattered r x i ps y) j (pos 0) ≡ get_or x j (pos 0)
scatter_at r x i [] y j d n f h l m = absurd (omega arith)
scatter_at r x i (p ∷ ps) y j d n f h l m =
    let a = and_parts (eqb p i) (identity_from (i + 1) ps) d in
    let e = eqb-true p i a.0 in
    let y' = cond (ltb p r) (set y p (get_or x i (pos 0))) y in
    elim (cases_eq j i) [
      | inl g ↦
          (let b : ltb p r ≡ true = lt-ltb p r (omega arith) in
          let s : get_or (set y p (get_or x i (pos 0))) j (pos 0) ≡ get_or x j (pos 0) = ap (λ k. get_or (set y p (get_or x i (pos 0))) k (pos 0)) (g ∙ sym e) ∙ get_or-set_same y p (get_or x i (pos 0)) (pos 0) (omega arith) ∙ ap (λ k. get_or x k (pos 0)) (sym g) in
          scatter_before r x (i + 1) ps y' j a.1 (omega arith) ∙ ap (λ t. get_or (cond t (set y p (get_or x i (pos 0))) y) j (pos 0)) b ∙ s)
      | inr g ↦ scatter_at r x (i + 1) ps y' j a.1 (put_length (ltb p r) y p (get_or x i (pos 0)) ∙ n) f (omega arith) (omega arith) m
    ]

-- ---- the index that is looked up names the place

each : (r i e : ℕ) (x : List ℤ) → (i < r → get_or x i (pos 0) ≡ pos e) → (r ≤ i → e ≡ 0) → natural (given r x i) ≡ Some e
each r i e x f g =
    elim (cases_lt i r) [
      | inl h ↦ (let b = lt-ltb i r h in rw (b, f h) refl)
      | inr h ↦ (let b = le-ltb i r h in rw (b, g h) refl)
    ]

-- an entry inside its axis is not changed by widening
widened_same : (n e : ℕ) → e < n → widened n (pos e) ≡ pos e
widened_same n e h =
    elim (cases_eq n 1) [
      | inl g ↦ (let b = eq-eqb n 1 g in let z : e ≡ 0 = omega arith in rw (b, z) refl)
      | inr g ↦ (let b = ne_eqb n 1 g in rw b refl)
    ]

module _ (l : Layout) (p : Place) (inside : Inside l.shape p) (x : List ℤ) where
  past : (i e : ℕ) → e < axis l.shape i → rank l ≤ i → e ≡ 0
  past i e h g = let a = get_or_past l.shape i 1 g in omega arith

  -- entries below the rank are the place's, so it is named
  names : (y : List ℤ) → (0 < rank l → get_or y 0 (pos 0) ≡ pos p.a) → (1 < rank l → get_or y 1 (pos 0) ≡ pos p.b) → (2 < rank l → get_or y 2 (pos 0) ≡ pos p.c) → (3 < rank l → get_or y 3 (pos 0) ≡ pos p.d) → named (rank l) y ≡ Some p
  names y a b c d =
      simp (
        each (rank l) 0 p.a y a (past 0 p.a inside.0),
        each (rank l) 1 p.b y b (past 1 p.b inside.1),
        each (rank l) 2 p.c y c (past 2 p.c inside.2),
        each (rank l) 3 p.d y d (past 3 p.d inside.3),
      )

  module _ (a : 0 < rank l → get_or x 0 (pos 0) ≡ pos p.a) (b : 1 < rank l → get_or x 1 (pos 0) ≡ pos p.b) (c : 2 < rank l → get_or x 2 (pos 0) ≡ pos p.c) (d : 3 < rank l → get_or x 3 (pos 0) ≡ pos p.d) where
    names_widened : named (rank l) (widen l.shape x) ≡ Some p
    names_widened =
        names (widen l.shape x)
        (λ h. ap (widened (axis l.shape 0)) (a h) ∙ widened_same (axis l.shape 0) p.a inside.0)
        (λ h. ap (widened (axis l.shape 1)) (b h) ∙ widened_same (axis l.shape 1) p.b inside.1)
        (λ h. ap (widened (axis l.shape 2)) (c h) ∙ widened_same (axis l.shape 2) p.c inside.2)
        (λ h. ap (widened (axis l.shape 3)) (d h) ∙ widened_same (axis l.shape 3) p.d inside.3)

    names_wide : (k : LayoutKind) → named (rank l) (wide_index k l.shape x) ≡ Some p
    names_wide Dense = names_widened
    names_wide Diagonal = names x a b c d
    names_wide Sparse = names_widened

-- ---- the theorem

stays : (l : Layout) (block name : List ℕ) (y : List ℤ) (j : ℕ) → Valid l → length name ≡ rank l → distinct name ≡ true → identity_from 0 (permutation (rank l) block name) ≡ true → j < rank l → get_or (permuted (rank l) (permutation (rank l) block name) y) j (pos 0) ≡ get_or y j (pos 0)
stays l block name y j v n d i h =
    let c = identity_covers (rank l) block name j d i (omega arith) in
    scatter_at (rank l) y 0 (permutation (rank l) block name) (pos 0 ∷ pos 0 ∷ pos 0 ∷ pos 0 ∷ []) j i refl v.ranked (omega arith) (omega arith) h

own_table : (l : Layout) (block name : List ℕ) (k : ℕ) → Valid l → k < count l → length name ≡ rank l → distinct name ≡ true → identity_from 0 (permutation (rank l) block name) ≡ true → table_element l (permutation (rank l) block name) (index_of (at l k)) ≡ Some k
own_table l block name k v h n d i =
    let p = at l k in
    let z = permuted (rank l) (permutation (rank l) block name) (index_of p) in
    let inside : Inside l.shape p = All-get_or (Inside l.shape) l.places k origin h v.inside in
    strict_found l (wide_index l.kind l.shape z) p k v
    (names_wide l p inside z (stays l block name (index_of p) 0 v n d i) (stays l block name (index_of p) 1 v n d i) (stays l block name (index_of p) 2 v n d i) (stays l block name (index_of p) 3 v n d i) l.kind)
    h refl

fit : (r s : ℕ) (block name : List ℕ) → ((eqb (length name) r && distinct name) && fitting_slots s r (permutation r block name)) ≡ true → (length name ≡ r) × (distinct name ≡ true)
fit r s block name f =
    let a = and_parts (eqb (length name) r && distinct name) (fitting_slots s r (permutation r block name)) f in
    let b = and_parts (eqb (length name) r) (distinct name) a.0 in
    (eqb-true (length name) r b.0, b.1)

by_kind : (kind : LayoutKind) (l : Layout) (s : ℕ) (block name : List ℕ) (k : ℕ) → l.kind ≡ kind → Valid l → k < count l → (kind ≡ Dense → ⊥) → fitting l s block name ≡ true → identity_from 0 (permutation (rank l) block name) ≡ true → element l block (index_of (at l k)) name ≡ Some k
by_kind Dense l s block name k e v h o f i = absurd (o refl)
by_kind Diagonal l s block name k e v h o f i =
    let t = fit (rank l) s block name (sym (ap (λ t. fitting_by t s (rank l) block name) e) ∙ f) in
    ap (λ t. element_by t l block (index_of (at l k)) name) e ∙ own_table l block name k v h t.0 t.1 i
by_kind Sparse l s block name k e v h o f i =
    let t = fit (rank l) s block name (sym (ap (λ t. fitting_by t s (rank l) block name) e) ∙ f) in
    ap (λ t. element_by t l block (index_of (at l k)) name) e ∙ own_table l block name k v h t.0 t.1 i

pub own_number : OwnNumberCounts
own_number l s block name k v o f t h =
    let e : s.places ≡ l.places = ap (λ (z : Layout). z.places) (sym t.0) in
    let m : count s ≡ count l = ap length e in
    ap (λ ps. element l block (index_of (get_or ps k origin)) name) e ∙ by_kind l.kind l (rank s) block name k refl v (omega arith) o f t.1
