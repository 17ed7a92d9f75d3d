-- An accepted translation is lawful.
use Rattle.std.proofs.Common.{◌≡◌, ℕ, zero, suc, ◌+◌, ◌-◌, ◌*◌, ◌/◌, ◌<◌, ◌≤◌, min, Bool, true, cond, eqb, ltb, List, [], ◌∷◌, length, get_or, ℤ, IfOk, Some, None, Ok, Err, filter, Option, Result, sym, refl, ap, ◌∙◌, subst, inl, inr, one-mul, mul-one, div-one, mul-div_cancel, arith, length-append}
use native.Mathlib.Nat.{div_self}
use Rattle.std.proofs.lemmas.Bool.{cases_Bool, cases_lt, ltb-true, ltb-false, eqb-true, cond_both}
use Rattle.std.specs.List.{range_with_len, ContainsAt as Has, AllByRecursion}
use Rattle.layout.specs.declared.kind.LayoutKind.{LayoutKind}
use Rattle.layout.specs.declared.kind.LayoutKind.TheVariants.{Dense, Diagonal, Sparse}
use Rattle.layout.specs.Places.{axis}
use Rattle.layout.specs.Layouts.{Layout, Valid, AllValid, count, rank, at}
use Rattle.layout.specs.Answers.{shape_of}
use Rattle.grouping.specs.Keys.{key, agrees, tail_size, over_place, Covered, by_dense, by_one, by_none, by_single}
use Rattle.grouping.specs.Groups.{Range}
use Rattle.grouping.proofs.Keyed.{axis_small}
use Rattle.grouping.proofs.Rules.{contraction, spreading, ranging}
use Rattle.translation.specs.declared.kinds.TranslationFrom.{TranslationFrom}
use Rattle.translation.specs.declared.kinds.TranslationFrom.TheVariants.{DenseContraction, DiagonalContraction, ElementWise}
use Rattle.translation.specs.declared.kinds.Translation.{Translation}
use Rattle.translation.specs.Froms.{contracted, taken_up, spread, widening, from_of}
use Rattle.translation.specs.Tos.{shift, destination}
use Rattle.translation.specs.Cuts.{ranges}
use Rattle.translation.specs.Outcome.{elements_made, translated}
use Rattle.translation.specs.Laws.{between, taken, Divided, Lawful, LawfulIn, OverListed, Laws}
use Rattle.translation.specs.declared.kinds.TranslationFault.{TranslationFault}
use Rattle.std.proofs.ByRecursion.{All-weaker, all-has, all_kept_by, kept_by_passes}
use Rattle.translation.proofs.Covering.{covered_says, other_way, agrees_true, true_agrees}
use Rattle.translation.proofs.Counts.{dense_count, diagonal_count, tails}
use Rattle.translation.proofs.Ranged.{range_of}
use Rattle.translation.proofs.Meeting.{tail_some}
use Rattle.translation.proofs.Rising.{strict_says, rise}
use Rattle.translation.specs.Entries.{from_entries, to_entries, from_count, to_count}
use Rattle.translation.proofs.Entering.{from_long, to_long}
use Rattle.translation.proofs.Accepting.{ToldBy, told, known_in, all_found, in_a_row}

-- the tail of the padded lengths is that of the shape
tail_padded : (m : ℕ) (l : Layout) → tail_size m (shape_of l).lengths ≡ tail_size m l.shape
tail_padded zero l = refl
tail_padded (suc zero) l = refl
tail_padded (suc (suc zero)) l = refl
tail_padded (suc (suc (suc zero))) l = refl
tail_padded (suc (suc (suc (suc m)))) l = refl

-- n is whole tails w, and n div w of them are c
whole : (n q w c : ℕ) → 1 ≤ w → n ≡ q * w → n / w ≡ c → n ≡ c * w
whole n q w c h e f = let g : n / w ≡ q = ap (λ y. y / w) e ∙ mul-div_cancel q {n = w} h in e ∙ ap (λ y. y * w) (sym g ∙ f)

-- what the reader takes is what lies over
abbrev ReadsBy : Layout → Layout → TranslationFrom → Type 0
ReadsBy s v f = elements_made f s v ≡ count v → Divided f s v × ((k : ℕ) → k < count v → taken f s v k ≡ over_place (min (rank s) (rank v)) s (at v k))

abbrev ReadsIn : Layout → Layout → Option TranslationFrom → Type 0
ReadsIn s v None = Unit {0}
ReadsIn s v (Some f) = ReadsBy s v f

module _ (s v : Layout) (vs : Valid s) (vv : Valid v) (cov : Covered (min (rank s) (rank v)) s v) where
  -- the source has the higher rank
  module _ (higher : rank v < rank s) where
    least : rank v ≡ min (rank s) (rank v)
    least = omega arith

    cov_v : Covered (rank v) s v
    cov_v = subst (λ m. Covered m s v) (sym least) cov

    at_least : (k : ℕ) (xs : List ℕ) → over_place (rank v) s (at v k) ≡ xs → xs ≡ over_place (min (rank s) (rank v)) s (at v k)
    at_least k xs e = sym e ∙ ap (λ m. over_place m s (at v k)) least

    reads_dense : s.kind ≡ Dense → ReadsBy s v (contracted Dense (shape_of s) (rank v))
    reads_dense d many =
        let w = tail_size (rank v) (shape_of s).lengths in
        let p = tail_padded (rank v) s in
        let some : 1 ≤ w = subst (λ y. 1 ≤ y) (sym p) (tail_some (rank v) s.shape (λ i. (axis_small s vs i).0)) in
        let t = tails (rank v) s.shape in
        let n : count s ≡ count v * w = whole (count s) t.0 w (count v) some (dense_count s vs d ∙ t.1 ∙ ap (λ y. t.0 * y) (sym p)) many in
        ((some, n), λ k h. at_least k (range_with_len (k * w) w) (contraction (rank v) w s v vs vv (omega arith) cov_v some n (by_dense d p) k h))

    reads_one : count s ≡ count v → (k : ℕ) → k < count v → k ∷ [] ≡ over_place (min (rank s) (rank v)) s (at v k)
    reads_one many k h =
        let one : k * 1 ≡ k = mul-one k in
        let n : count s ≡ count v * 1 = many ∙ sym (mul-one (count v)) in
        at_least k (k ∷ []) (contraction (rank v) 1 s v vs vv (omega arith) cov_v (omega arith) n (by_one refl) k h ∙ ap (λ y. y ∷ []) one)

    reads_diagonal : s.kind ≡ Diagonal → ReadsBy s v (contracted Diagonal (shape_of s) (rank v))
    reads_diagonal d =
        cond_both (eqb (rank v) 0) (DenseContraction (rank s - rank v) (axis s.shape 0)) (DiagonalContraction (rank s - rank v)) (ReadsBy s v)
        (λ z many.
        let w = axis s.shape 0 in
        let some = (axis_small s vs 0).0 in
        let c = diagonal_count s vs d in
        let n : count s ≡ count v * w = whole (count s) 1 w (count v) some (c ∙ sym (one-mul w)) many in
        ((some, n), λ k h. at_least k (range_with_len (k * w) w) (contraction (rank v) w s v vs vv (omega arith) cov_v some n (by_none (eqb-true (rank v) 0 z)) k h)))
        (λ z many. (many, reads_one many))

    ranges_read : length (ranges (rank v) s) ≡ count v → (k : ℕ) → k < count v → between (get_or (ranges (rank v) s) k (0, 0)) ≡ over_place (min (rank s) (rank v)) s (at v k)
    ranges_read many k h =
        let r = get_or (ranges (rank v) s) k (0, 0) in
        let g = range_of (rank v) s vs k (omega arith) in
        let below = g.some in
        let e : r.1 ≡ r.0 + (r.1 - r.0) = omega arith in
        let P : ℕ → Type 0 = λ y. Range (λ i. key (rank v) (at s i)) (count s) k r.0 y in
        at_least k (between r) (ranging (rank v) s v vs vv (omega arith) cov_v k r.0 (r.1 - r.0) h (subst P e g))

    reads_sparse : ReadsBy s v (contracted Sparse (shape_of s) (rank v))
    reads_sparse many = ((many, λ k h. let g = range_of (rank v) s vs k (omega arith) in (g.some, g.ends)), ranges_read many)

    reads_contracted : (t : LayoutKind) → s.kind ≡ t → ReadsBy s v (contracted t (shape_of s) (rank v))
    reads_contracted Dense d = reads_dense d
    reads_contracted Diagonal d = reads_diagonal d
    reads_contracted Sparse d = reads_sparse

  -- the via has at least the source's rank
  module _ (lower : rank s ≤ rank v) where
    least_s : rank s ≡ min (rank s) (rank v)
    least_s = omega arith

    cov_s : Covered (rank s) v s
    cov_s = other_way (rank s) s v (subst (λ m. Covered m s v) (sym least_s) cov)

    at_least_s : (k : ℕ) (xs : List ℕ) → over_place (rank s) s (at v k) ≡ xs → xs ≡ over_place (min (rank s) (rank v)) s (at v k)
    at_least_s k xs e = sym e ∙ ap (λ m. over_place m s (at v k)) least_s

    reads_each : ReadsBy s v ElementWise
    reads_each many =
        let n : count v ≡ count s * 1 = sym many ∙ sym (mul-one (count s)) in
        (many, λ k h. at_least_s k (k ∷ []) (spreading (rank s) 1 s v vs vv (omega arith) cov_s (omega arith) n (by_one refl) k h ∙ ap (λ y. y ∷ []) (div-one k)))

    reads_spread : (t : LayoutKind) (b : ℕ) → v.kind ≡ t → ReadsIn s v (spread t b (rank s) (shape_of v))
    reads_spread Dense b d = λ many.
        let w = tail_size (rank s) (shape_of v).lengths in
        let p = tail_padded (rank s) v in
        let some : 1 ≤ w = subst (λ y. 1 ≤ y) (sym p) (tail_some (rank s) v.shape (λ i. (axis_small v vv i).0)) in
        ((some, sym many), λ k h. at_least_s k (k / w ∷ []) (spreading (rank s) w s v vs vv (omega arith) cov_s some (sym many) (by_dense d p) k h))
    reads_spread Diagonal b d = λ many.
        let w = axis v.shape 0 in
        let some = (axis_small v vv 0).0 in
        let c = diagonal_count v vv d in
        let one : count s ≡ 1 = sym (mul-div_cancel (count s) {n = w} some) ∙ ap (λ y. y / w) (many ∙ c) ∙ div_self some in
        ((some, sym many), λ k h. at_least_s k (k / w ∷ []) (spreading (rank s) w s v vs vv (omega arith) cov_s some (sym many) (by_single one) k h))
    reads_spread Sparse b d = tt

    reads_widening : (t : ℕ) → ReadsIn s v (widening t (rank s) (shape_of v))
    reads_widening t =
        cond_both (ltb (rank v) t) None (cond (eqb (rank v) t) (Some ElementWise) (spread v.kind (rank v - t) (rank s) (shape_of v))) (ReadsIn s v) (λ _. tt)
        (λ _. cond_both (eqb (rank v) t) (Some ElementWise) (spread v.kind (rank v - t) (rank s) (shape_of v)) (ReadsIn s v) (λ _. reads_each) (λ _. reads_spread v.kind (rank v - t) refl))

  reads : (f : TranslationFrom) → from_of (shape_of s) (shape_of v) ≡ Some f → ReadsBy s v f
  reads f e =
      subst (ReadsIn s v) e
      (cond_both (ltb (rank v) (rank s)) (Some (contracted s.kind (shape_of s) (rank v))) (widening (taken_up s.kind v.kind (rank s)) (rank s) (shape_of v)) (ReadsIn s v)
      (λ h. reads_contracted (ltb-true (rank v) (rank s) h) s.kind refl)
      (λ h. reads_widening (ltb-false (rank v) (rank s) h) (taken_up s.kind v.kind (rank s))))

pub lawful : (s v : Layout) (x : List ℤ) (g : Layout) (t : Translation) → Valid s → Valid v → Valid g → ToldBy s v x g t → Lawful s v x g t
lawful s v x g t vs vv vg h = record {
  as_many = h.as_many;
  covers = covered_says (min (rank s) (rank v)) s v h.over;
  divided = (reads s v vs vv (covered_says (min (rank s) (rank v)) s v h.over) t.from h.kind h.many).0;
  reads = (reads s v vs vv (covered_says (min (rank s) (rank v)) s v h.over) t.from h.kind h.many).1;
  lands = λ k l. (let a = all_found (destination v x g) (count v) t.to h.goes k l in (a.0, a.1, (strict_says g (shift x (at v k)) a.0 a.1).1));
  rises = rise v x g vv vg h.low;
  together = in_a_row (destination v x g) (count v) t.to h.goes vv.some;
  long =
      length-append (from_entries t.from s (rank v)) (to_entries t.to (destination v x g) (count v))
      ∙ ap (λ n. n + length (to_entries t.to (destination v x g) (count v))) (from_long t.from s (rank v) t.elements (λ by e. ap (λ f. elements_made f s v) (sym e) ∙ h.many ∙ sym h.as_many))
      ∙ ap (λ n. from_count t.from t.elements + n) (to_long t.to (destination v x g) (count v) ∙ ap (to_count t.to) (sym h.as_many));
}

pub laws : Laws
laws ls source via target x t valid e =
    let k = known_in ls source via target x t e in
    lawful _ _ x _ t (valid source k.0) (valid via k.1) (valid target k.2) (told _ _ x _ t k.3)

pub laws_of : (ls : List Layout) (source via target : ℕ) (x : List ℤ) (r : Result Translation TranslationFault) → AllValid ls → r ≡ translated ls source via x target → IfOk r (LawfulIn ls source via x target)
laws_of ls source via target x (Ok t) valid e = laws ls source via target x t valid (sym e)
laws_of ls source via target x (Err f) valid e = tt

-- a number is kept of a counting exactly if it is counted and passes the test
counted_in : (a n : ℕ) → AllByRecursion (λ i. i < a + n) (range_with_len a n)
counted_in a zero = tt
counted_in a (suc n) = (omega arith, All-weaker (λ i. i < a + 1 + n) (λ i. i < a + suc n) (λ i h. omega arith) (range_with_len (a + 1) n) (counted_in (a + 1) n))

has_later : (x : ℕ) (xs : List ℕ) (i : ℕ) → Has xs i → Has (x ∷ xs) i
has_later x xs i h = (suc h.0, (let l = h.1 in omega arith), λ d. h.2 d)

kept_has : (t : ℕ → Bool) (a n i : ℕ) → a ≤ i → i < a + n → t i ≡ true → Has (filter t (range_with_len a n)) i
kept_has t a zero i h l e = absurd (omega arith)
kept_has t a (suc n) i h l e =
    elim (cases_lt a i) [
      | inl m ↦ (let r = kept_has t (a + 1) n i (omega arith) (omega arith) e in elim (cases_Bool (t a)) [ inl y ↦ rw y (has_later a (filter t (range_with_len (a + 1) n)) i r) | inr y ↦ rw y r ])
      | inr m ↦ (let z : a ≡ i = omega arith in let y : t a ≡ true = ap t z ∙ e in rw y (0, omega arith, λ d. z))
    ]

pub over_listed : OverListed
over_listed s v k i =
    let m = min (rank s) (rank v) in (
      λ h. (
        let l = all-has (λ i. i < 0 + count s) (filter (λ i. agrees m (at s i) (at v k)) (range_with_len 0 (count s))) i (all_kept_by (λ i. agrees m (at s i) (at v k)) (λ i. i < 0 + count s) (range_with_len 0 (count s)) (counted_in 0 (count s))) h in omega arith,
        agrees_true m (at s i) (at v k) (all-has (λ i. agrees m (at s i) (at v k) ≡ true) (filter (λ i. agrees m (at s i) (at v k)) (range_with_len 0 (count s))) i (kept_by_passes (λ i. agrees m (at s i) (at v k)) (range_with_len 0 (count s))) h),
      ),
      λ l o. kept_has (λ i. agrees m (at s i) (at v k)) 0 (count s) i (omega arith) (omega arith) (true_agrees m (at s i) (at v k) o),
    )
