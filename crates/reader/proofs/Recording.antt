-- The entries of an accepted translation are those of an accepted block.
use Rattle.std.proofs.Common.{◌≡◌, ℕ, zero, suc, ◌+◌, ◌-◌, ◌*◌, ◌<◌, ◌≤◌, min, Bool, true, cond, leb, List, [], ◌∷◌, ◌++◌, length, get_or, take, drop, ℤ, pos, Some, Ok, Err, Option, Result, unwrap_or, sym, refl, ap, ◌∙◌, subst, le_of_suc-le-suc, arith, length-append}
use Rattle.std.proofs.lemmas.List.FromFn.{get_or-map-range_with_len}
use Rattle.std.proofs.lemmas.List.Edits.{paste_all, length-paste}
use Rattle.std.proofs.lemmas.List.{get_or_append_left, get_or-append-add, length-take-le}
use Rattle.std.proofs.lemmas.Bool.{leb-true, le-leb}
use Rattle.std.specs.List.{range_with_len}
use lib.Seq.{paste}
use Rattle.layout.specs.Layouts.{Layout, Valid, AllValid, blank, count, rank}
use Rattle.translation.specs.declared.kinds.Translation.{Translation}
use Rattle.translation.specs.declared.kinds.TranslationFrom.{TranslationFrom}
use Rattle.translation.specs.declared.kinds.TranslationFrom.TheVariants.{DenseContraction, DiagonalContraction, SparseContraction, ElementWise, Broadcast}
use Rattle.translation.specs.declared.kinds.TranslationTo.{TranslationTo}
use Rattle.translation.specs.declared.kinds.TranslationTo.TheVariants.{Contiguous, Listed}
use Rattle.translation.specs.Cuts.{ranges, range_entries}
use Rattle.translation.specs.Tos.{destination as destination_in}
use Rattle.translation.specs.Entries.{from_entries, to_entries, from_count, to_count, data_layout, data_count, entries_of, appending, appended}
use Rattle.translation.specs.declared.kinds.TranslationFault.{TranslationFault}
use Rattle.translation.specs.declared.kinds.TranslationFault.TheVariants.{Short}
use Rattle.translation.specs.Laws.{Lawful, LawfulIn, Divided, taken}
use Rattle.translation.specs.Outcome.{translated}
use Rattle.translation.proofs.Accepting.{known_in}
use Rattle.translation.specs.Routes.{Leads}
use Rattle.translation.proofs.Meeting.{appends}
use Rattle.translation.proofs.Entering.{destinations_long, to_long}
use Rattle.reader.specs.declared.record.BlockRecord.{BlockRecord}
use Rattle.reader.specs.Rules.{natural, entry, over_of, place_of, ranges_reach, list_reach}
use Rattle.reader.specs.Accepted.{Takes, Aims}
use Rattle.reader.specs.Recorded.{record_of, recorded, recorded_by, table_by, table_after, Follows}

-- what was pasted stands there
pub at_paste : (d : List ℤ) (p : ℕ) (xs : List ℤ) (i : ℕ) (z : ℤ) → p ≤ length d → i < length xs → get_or (paste d p xs (length xs)) (p + i) z ≡ get_or xs i z
at_paste d p xs i z h l =
    let n = length-take-le p d h in
    ap (λ ys. get_or ys (p + i) z) (paste_all d p xs (length xs) refl)
    ∙ ap (λ m. get_or (take p d ++ (xs ++ drop (p + length xs) d)) (m + i) z) (sym n)
    ∙ get_or-append-add (take p d) (xs ++ drop (p + length xs) d) i z
    ∙ get_or_append_left xs (drop (p + length xs) d) z i l

-- the entries of ranges, two a range
range_start : (rs : List (ℕ × ℕ)) (k : ℕ) → k < length rs → get_or (range_entries rs) (2 * k) (pos 0) ≡ pos (get_or rs k (0, 0)).0
range_start [] k h = absurd (omega arith)
range_start (r ∷ rs) zero h = refl
range_start (r ∷ rs) (suc k) h = let e : 2 * suc k ≡ suc (suc (2 * k)) = omega arith in ap (λ n. get_or (range_entries (r ∷ rs)) n (pos 0)) e ∙ range_start rs k (le_of_suc-le-suc h)

range_end : (rs : List (ℕ × ℕ)) (k : ℕ) → k < length rs → get_or (range_entries rs) (2 * k + 1) (pos 0) ≡ pos (get_or rs k (0, 0)).1
range_end [] k h = absurd (omega arith)
range_end (r ∷ rs) zero h = refl
range_end (r ∷ rs) (suc k) h = let e : 2 * suc k + 1 ≡ suc (suc (2 * k + 1)) = omega arith in ap (λ n. get_or (range_entries (r ∷ rs)) n (pos 0)) e ∙ range_end rs k (le_of_suc-le-suc h)

module _ (s v : Layout) (x : List ℤ) (g : Layout) (table : List ℤ) (p : ℕ) where
  abbrev d : ℕ → Option ℕ
  d = destination_in v x g

  -- the reader's part of the source, by the kind: is has the ranges from p on
  takes_by : (f : TranslationFrom) (is : List ℤ) → Divided f s v → ((by : ℕ) → f ≡ SparseContraction by → (i : ℕ) → i < 2 * count v → get_or is (p + i) (pos 0) ≡ get_or (range_entries (ranges (rank v) s)) i (pos 0)) → Takes f (count v) (count s) p is
  takes_by (DenseContraction by l) is h e = h
  takes_by (DiagonalContraction by) is h e = h
  takes_by (SparseContraction by) is h e = λ k l _.
      let many = h.0 in
      let q = h.1 k l in
      let a : get_or is (p + 2 * k) (pos 0) ≡ pos (get_or (ranges (rank v) s) k (0, 0)).0 = e by refl (2 * k) (omega arith) ∙ range_start (ranges (rank v) s) k (omega arith) in
      let z : p + 2 * k + 1 ≡ p + (2 * k + 1) = omega arith in
      let b : get_or is (p + 2 * k + 1) (pos 0) ≡ pos (get_or (ranges (rank v) s) k (0, 0)).1 = ap (λ i. get_or is i (pos 0)) z ∙ e by refl (2 * k + 1) (omega arith) ∙ range_end (ranges (rank v) s) k (omega arith) in
      let a' : entry is (p + 2 * k) ≡ (get_or (ranges (rank v) s) k (0, 0)).0 = ap natural a in
      let b' : entry is (p + 2 * k + 1) ≡ (get_or (ranges (rank v) s) k (0, 0)).1 = ap natural b in
      record { start = a ∙ ap pos (sym a'); end = b ∙ ap pos (sym b'); some = omega (arith, q.0); ends = omega (arith, q.1) }
  takes_by ElementWise is h e = h
  takes_by (Broadcast by l) is h e = h

  over_by : (f : TranslationFrom) (is : List ℤ) (k : ℕ) → k < count v → Divided f s v → ((by : ℕ) → f ≡ SparseContraction by → (i : ℕ) → i < 2 * count v → get_or is (p + i) (pos 0) ≡ get_or (range_entries (ranges (rank v) s)) i (pos 0)) → over_of f p is k ≡ taken f s v k
  over_by (DenseContraction by l) is k h w e = refl
  over_by (DiagonalContraction by) is k h w e = refl
  over_by (SparseContraction by) is k h w e =
      let many = w.0 in
      let a : entry is (p + 2 * k) ≡ (get_or (ranges (rank v) s) k (0, 0)).0 = ap natural (e by refl (2 * k) (omega arith) ∙ range_start (ranges (rank v) s) k (omega arith)) in
      let z : p + 2 * k + 1 ≡ p + (2 * k + 1) = omega arith in
      let b : entry is (p + 2 * k + 1) ≡ (get_or (ranges (rank v) s) k (0, 0)).1 = ap natural (ap (λ i. get_or is i (pos 0)) z ∙ e by refl (2 * k + 1) (omega arith) ∙ range_end (ranges (rank v) s) k (omega arith)) in
      ap (λ n. range_with_len n (entry is (p + 2 * k + 1) - n)) a ∙ ap (λ n. range_with_len (get_or (ranges (rank v) s) k (0, 0)).0 (n - (get_or (ranges (rank v) s) k (0, 0)).0)) b
  over_by ElementWise is k h w e = refl
  over_by (Broadcast by l) is k h w e = refl

  -- the destinations, by how they are told: is has the list from q on
  aims_by : (o : TranslationTo) (is : List ℤ) (q : ℕ) → 1 ≤ count v
      → ((k : ℕ) → k < count v → (n : ℕ) × (d k ≡ Some n) × (n < count g))
      → ((j k : ℕ) → j < k → k < count v → (a b : ℕ) → d j ≡ Some a → d k ≡ Some b → a < b)
      → ((first end : ℕ) → o ≡ Contiguous first end → (end ≡ first + count v) × ((k : ℕ) → k < count v → d k ≡ Some (first + k)))
      → (o ≡ Listed → (k : ℕ) → k < count v → get_or is (q + k) (pos 0) ≡ pos (unwrap_or (d k) 0))
      → Aims o (count v) (count g) q is × ((k : ℕ) → k < count v → d k ≡ Some (place_of o q is k))
  aims_by (Contiguous first end) is q some lands rises together listed =
      let t = together first end refl in
      let l = lands (count v - 1) (omega arith) in
      let e : Some (first + (count v - 1)) ≡ Some l.0 = sym (t.1 (count v - 1) (omega arith)) ∙ l.1 in
      let f : first + (count v - 1) ≡ l.0 = cc in
      ((t.0, omega (arith, t.0, l.2)), t.1)
  aims_by Listed is q some lands rises together listed =
      let there = λ (k : ℕ) (h : k < count v).
      (let l = lands k h in let e : get_or is (q + k) (pos 0) ≡ pos l.0 = listed refl k h ∙ ap (λ o. pos (unwrap_or o 0)) l.1 in e) in (
        (
          (λ k h _.
              let l = lands k h in
              let e : entry is (q + k) ≡ l.0 = ap natural (there k h) in
              record { at = there k h ∙ ap pos (sym e); inside = omega (arith, l.2) }),
          λ j k l h _ z.
              let h' : j < count v = omega arith in
              let a = lands j h' in
              let b = lands k h in
              let r = rises j k l h a.0 b.0 a.1 b.1 in
              let e : entry is (q + j) ≡ a.0 = ap natural (there j h') in
              let f : entry is (q + k) ≡ b.0 = ap natural (there k h) in
              omega arith,
        ),
        λ k h. let l = lands k h in let e : entry is (q + k) ≡ l.0 = ap natural (there k h) in l.1 ∙ ap Some (sym e),
      )

  -- the entries as they stand in the table
  module _ (t : Translation) (vs : Valid s) (vv : Valid v) (vg : Valid g) (law : Lawful s v x g t) (room : p + data_count t ≤ length table) (few : p + data_count t ≤ 4194304) where
    abbrev xs : List ℤ
    xs = data_layout t s v x g

    abbrev is : List ℤ
    is = paste table p xs (length xs)

    abbrev ranged : List ℤ
    ranged = from_entries t.from s (rank v)

    long : length xs ≡ data_count t
    long = law.long

    parts : length xs ≡ length ranged + length (to_entries t.to d (count v))
    parts = length-append ranged (to_entries t.to d (count v))

    to_is : length (to_entries t.to d (count v)) ≡ to_count t.to t.elements
    to_is = to_long t.to d (count v) ∙ ap (to_count t.to) (sym law.as_many)

    ranged_long : length ranged ≡ from_count t.from t.elements
    ranged_long = omega (arith, long, parts, to_is)

    here : (i : ℕ) → i < length xs → get_or is (p + i) (pos 0) ≡ get_or xs i (pos 0)
    here i h = at_paste table p xs i (pos 0) (omega (arith, long)) h

    in_ranges : (by : ℕ) → t.from ≡ SparseContraction by → (i : ℕ) → i < 2 * count v → get_or is (p + i) (pos 0) ≡ get_or (range_entries (ranges (rank v) s)) i (pos 0)
    in_ranges by e i h =
        let n : length ranged ≡ 2 * t.elements = ranged_long ∙ ap (λ f. from_count f t.elements) e in
        let m = law.as_many in
        here i (omega (arith, parts)) ∙ get_or_append_left ranged (to_entries t.to d (count v)) (pos 0) i (omega arith) ∙ ap (λ f. get_or (from_entries f s (rank v)) i (pos 0)) e

    in_list : t.to ≡ Listed → (k : ℕ) → k < count v → get_or is (p + from_count t.from t.elements + k) (pos 0) ≡ pos (unwrap_or (d k) 0)
    in_list e k h =
        let n : length (to_entries t.to d (count v)) ≡ count v = ap (λ o. length (to_entries o d (count v))) e ∙ destinations_long d (count v) in
        let z : p + from_count t.from t.elements + k ≡ p + (length ranged + k) = omega (arith, ranged_long) in
        ap (λ i. get_or is i (pos 0)) z ∙ here (length ranged + k) (omega (arith, parts)) ∙ get_or-append-add ranged (to_entries t.to d (count v)) k (pos 0)
        ∙ ap (λ o. get_or (to_entries o d (count v)) k (pos 0)) e ∙ get_or-map-range_with_len (λ k. pos (unwrap_or (d k) 0)) 0 (count v) k k (pos 0) h (omega arith)

    is_long : length is ≡ length table
    is_long = length-paste table p xs (length xs) (omega (arith, long)) (omega arith)

    reach_ranges : (f : TranslationFrom) → ranges_reach f p (count v) ≤ p + from_count f (count v)
    reach_ranges (DenseContraction by l) = omega arith
    reach_ranges (DiagonalContraction by) = omega arith
    reach_ranges (SparseContraction by) = omega arith
    reach_ranges ElementWise = omega arith
    reach_ranges (Broadcast by l) = omega arith

    reach_list : (o : TranslationTo) (q : ℕ) → list_reach o q (count v) ≤ q + to_count o (count v)
    reach_list (Contiguous a b) q = omega arith
    reach_list Listed q = omega arith

    pub follows : Follows s v x g (record_of t s v g p) is
    follows =
        let aims = aims_by t.to is (p + from_count t.from t.elements) vv.some law.lands law.rises law.together in_list in
        let m = law.as_many in
        let a = ap (from_count t.from) m in
        let b = ap (to_count t.to) m in
        record {
          accepted = record {
            takes = takes_by t.from is law.divided in_ranges;
            aims = aims.0;
            via_small = vv.many;
            source_small = vs.many;
            target_small = vg.many;
            ranges_small = omega arith;
            list_small = omega arith;
          };
          reached = record {
            ranges = (let r = reach_ranges t.from in omega (arith, is_long));
            list = (let r = reach_list t.to (p + from_count t.from t.elements) in omega (arith, is_long));
          };
          takes = λ k h. over_by t.from is k h law.divided in_ranges ∙ law.reads k h;
          stores = aims.1;
        }

-- a block whose translation is accepted
module _ (ls : List Layout) (source via target : ℕ) (x : List ℤ) (table : List ℤ) (p : ℕ) (t : Translation) (e : Ok t ≡ translated ls source via x target) where
  abbrev S : Layout
  S = get_or ls source blank

  abbrev V : Layout
  V = get_or ls via blank

  abbrev G : Layout
  G = get_or ls target blank

  pub answers : (b : Bool) → leb (p + data_count t) (min (length table) 4194304) ≡ b → cond b (Ok (record_of t S V G p)) (Err Short) ≡ recorded ls source via x target (length table) p
  answers b h = ap (λ y. cond y (Ok (record_of t S V G p)) (Err Short)) (sym h) ∙ ap (λ r. recorded_by r ls source via target (length table) p) e

  pub leaves : table ≡ table_after (Err Short) ls source via x target table p
  leaves = ap (λ r. table_by r (Err Short) ls source via x target table p) e

  pub fills : (b : BlockRecord) (new : List ℤ) (r : Result ℕ TranslationFault) → LawfulIn ls source via x target t → leb (p + data_count t) (min (length table) 4194304) ≡ true → r ≡ appending ls t source via x target (length table) p → new ≡ appended r table p (entries_of ls t source via x target) → new ≡ table_after (Ok b) ls source via x target table p
  fills b new r law h a w =
      let k = known_in ls source via target x t (sym e) in
      let room = leb-true _ _ h in
      let n = law.long in
      let f : leb (p + length (entries_of ls t source via x target)) (length table) ≡ true = le-leb _ _ (omega arith) in
      let leads : Leads ls (record { source = source; via = via; start = x; target = target }) S V x G = record { known = (k.0, k.1, k.2); source = refl; via = refl; start = refl; target = refl } in
      let ok = a ∙ sym (appends ls _ S V x G leads t (length table) p _ true refl (sym f)) in
      w ∙ ap (λ y. appended y table p (entries_of ls t source via x target)) ok ∙ ap (λ y. table_by y (Ok b) ls source via x target table p) e

  pub follows_in : (b : BlockRecord) (new : List ℤ) → AllValid ls → LawfulIn ls source via x target t → leb (p + data_count t) (min (length table) 4194304) ≡ true → b ≡ record_of t S V G p → new ≡ table_after (Ok b) ls source via x target table p → Follows S V x G b new
  follows_in b new valid law h eb en =
      let k = known_in ls source via target x t (sym e) in
      let room = leb-true _ _ h in
      let ew : new ≡ paste table p (entries_of ls t source via x target) (length (entries_of ls t source via x target)) = en ∙ ap (λ y. table_by y (Ok b) ls source via x target table p) (sym e) in
      let f = follows S V x G table p t (valid source k.0) (valid via k.1) (valid target k.2) law (omega arith) (omega arith) in
      subst (λ y. Follows S V x G y new) (sym eb) (subst (Follows S V x G (record_of t S V G p)) (sym ew) f)
