-- Entries and records as they are appended.
use Rattle.std.proofs.Common.{◌≡◌, ℕ, suc, ◌+◌, ◌<◌, ◌≤◌, List, [], ◌∷◌, ◌++◌, length, get_or, take, drop, set, ℤ, Ok, Result, sym, refl, ap, ◌∙◌, subst, append-nil, add-one, arith, length-append}
use lib.ListN.{length-map}
use Rattle.std.specs.List.{flat_map}
use lib.Seq.{paste}
use Rattle.std.proofs.lemmas.List.Edits.{paste_all, paste-paste, length-paste}
use Rattle.std.proofs.lemmas.Grind.{common_steps, flat_map-append}
use Rattle.std.proofs.lemmas.List.{set_split, take_more, length-take-le}
use Rattle.std.proofs.lemmas.Bool.{lt-ltb, le-leb}
use Rattle.layout.specs.Layouts.{Layout, blank, count}
use Rattle.layout.specs.Answers.{index_of}
use Rattle.names.specs.declared.fault.NamesFault.{NamesFault}
use Rattle.names.specs.Reading.{slots_of, table_element}
use Rattle.names.specs.Tables.{entry_of, table_asked, PutFrom}
use Rattle.names.specs.declared.binary_table.TableKey.{TableKey}
use Rattle.records.specs.declared.record.BinaryRecord.{BinaryRecord}
use Rattle.records.specs.Written.{written}
use Rattle.entries.specs.Fresh.{no_key, table_of, tables, records_from}

-- a table has an entry a place of its source
table_long : (ls : List Layout) (k : TableKey) → length (table_of ls k) ≡ count (get_or ls k.source blank)
table_long ls k = length-map (get_or ls k.source blank).places (λ p. entry_of (table_element (get_or ls k.layout blank) (slots_of k.permutation) (index_of p)))

-- a table that there is, with room for it, is written
module _ (ls : List Layout) (k : TableKey) (at : ℕ) (before : List ℤ) (hl : k.layout < length ls) (hs : k.source < length ls) (room : at + length (table_of ls k) ≤ length before) where
  asked_ok : table_asked ls k.layout k.source (slots_of k.permutation) at (length before) ≡ Ok (table_of ls k)
  asked_ok = simp (lt-ltb _ _ hl, lt-ltb _ _ hs, le-leb (at + count (get_or ls k.source blank)) (length before) (omega (arith, table_long ls k)))

  pub put_written : (after : List ℤ) (r : Result ℕ NamesFault) → PutFrom at (table_asked ls k.layout k.source (slots_of k.permutation) at (length before)) before after r → (r ≡ Ok (at + length (table_of ls k))) × (after ≡ written before at (table_of ls k))
  put_written after r h =
      let p : PutFrom at (Ok (table_of ls k)) before after r = subst (λ a. PutFrom at a before after r) asked_ok h in
      (p.0, p.1 ∙ sym (paste_all before at (table_of ls k) (length (table_of ls k)) refl))

-- one part more, from where the last ended
written_more : {X : Type 0} (d e xs ys : List X) (at end : ℕ) → at ≤ length d → end ≡ at + length xs → e ≡ written d at xs → written e end ys ≡ written d at (xs ++ ys)
written_more d e xs ys at end h ee ed = rw (ed, ee) (paste-paste d at xs ys (length xs) (length ys) refl refl h ∙ ap (paste d at (xs ++ ys)) (sym (length-append xs ys)))

written_long : {X : Type 0} (d xs : List X) (at : ℕ) → at + length xs ≤ length d → length (written d at xs) ≡ length d
written_long d xs at h = length-paste d at xs (length xs) h (omega arith)

-- one element more
set_written : {X : Type 0} (d : List X) (at : ℕ) (x : X) → at < length d → set d at x ≡ written d at (x ∷ [])
set_written d at x h = set_split d at x h ∙ ap (λ n. take at d ++ x ∷ drop n d) (sym (add-one at)) ∙ sym (paste_all d at (x ∷ []) 1 refl)

-- the records of tables, with one more
records_push : (ls : List Layout) (at : ℕ) (ks : List TableKey) (k : TableKey) → records_from ls at (ks ++ k ∷ []) ≡ records_from ls at ks ++ record { key = k; at = at + length (tables ls ks) } ∷ []
records_push ls at [] k = let e : at ≡ at + 0 = omega arith in ap (λ n. record { key = k; at = n } ∷ []) e
records_push ls at (x ∷ ks) k = grind (arith, common_steps, records_push ls (at + length (table_of ls x)) ks k)

records_long : (ls : List Layout) (at : ℕ) (ks : List TableKey) → length (records_from ls at ks) ≡ length ks
records_long ls at [] = refl
records_long ls at (x ∷ ks) = ap suc (records_long ls (at + length (table_of ls x)) ks)

-- one part more, of those from a position on
module _ {X A : Type 0} (f : X → List A) (xs : List X) (z : X) (at i : ℕ) (h : i < length xs) where
  abbrev last : List A
  last = f (get_or xs i z)

  abbrev before : List A
  before = flat_map f (take i xs)

  parts_more : flat_map f (take (i + 1) xs) ≡ before ++ last
  parts_more = ap (flat_map f) (take_more xs i z h) ∙ flat_map-append f (take i xs) (get_or xs i z ∷ []) ∙ ap (λ l. before ++ l) (append-nil last)

  pub end_more : (end end' : ℕ) → end ≡ at + length before → end' ≡ end + length last → end' ≡ at + length (flat_map f (take (i + 1) xs))
  end_more end end' e g = omega (arith, ap length parts_more, length-append before last)

  pub entries_more : (d e e' : List A) (end : ℕ) → at ≤ length d → end ≡ at + length before → e ≡ written d at before → e' ≡ written e end last → e' ≡ written d at (flat_map f (take (i + 1) xs))
  entries_more d e e' end r ee ed en = en ∙ written_more d e before last at end r ee ed ∙ ap (written d at) (sym parts_more)

-- one record more
module _ (ls : List Layout) (keys : List TableKey) (at i : ℕ) (h : i < length keys) where
  abbrev key : TableKey
  key = get_or keys i no_key

  abbrev front : List TableKey
  front = take i keys

  pub records_more : (b c c' : List BinaryRecord) (number end : ℕ) → number + length keys ≤ length b → end ≡ at + length (tables ls front) → c ≡ written b number (records_from ls at front) → c' ≡ set c (number + i) (record { key = key; at = end }) → c' ≡ written b number (records_from ls at (take (i + 1) keys))
  records_more b c c' number end r ee ec en =
      let rs = records_from ls at front in
      let n : length rs ≡ i = records_long ls at front ∙ length-take-le i keys (omega arith) in
      let long : length c ≡ length b = ap length ec ∙ written_long b rs number (omega arith) in
      let x : BinaryRecord = record { key = key; at = end } in
      rw (take_more keys i no_key h, records_push ls at front key, ← ee) (en ∙ set_written c (number + i) x (omega arith) ∙ written_more b c rs (x ∷ []) number (number + i) (omega arith) (omega arith) ec)
