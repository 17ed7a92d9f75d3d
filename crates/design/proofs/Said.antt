-- Words that say numbers, one more at a time.
use Rattle.std.proofs.Common.{◌≡◌, ℕ, suc, ◌≤◌, Bool, false, cond, List, [], ◌∷◌, ◌++◌, length, ℤ, pos, Ok, codes, sym, refl, ap, ◌∙◌, subst, append_assoc, append-nil, w64}
use Rattle.std.specs.declared.num.ParseIntError.{ParseIntError}
use Rattle.std.specs.Str.Parse.{ParsesUnsigned, ParsesSigned}
use Rattle.table.specs.declared.record.LayoutRecord.{LayoutRecord}
use Rattle.design.specs.declared.ask.Entries.{Entries}
use Rattle.layout.specs.Words.{kind_word}
use Rattle.design.specs.Lines.{natural, integer, EntriesSaid, PlacesSaid, LayoutSaid}
use Rattle.design.specs.Numbers.{Says, four}
use Rattle.design.specs.Texts.{Numbered}

module _ {N : Type 0} (R : List ℕ → N → Type 0) where
  pub says_more : (ws : List (List ℕ)) (ns : List N) (w : List ℕ) (n : N) → Says R ws ns → R w n → Says R (ws ++ (w ∷ [])) (ns ++ (n ∷ []))
  says_more [] [] w n s r = (r, tt)
  says_more [] (m ∷ ns) w n s r = absurd s
  says_more (v ∷ ws) [] w n s r = absurd s
  says_more (v ∷ ws) (m ∷ ns) w n s r = (s.0, says_more ws ns w n s.1 r)

  pub says_length : (ws : List (List ℕ)) (ns : List N) → Says R ws ns → length ws ≡ length ns
  says_length [] [] s = refl
  says_length [] (m ∷ ns) s = absurd s
  says_length (v ∷ ws) [] s = absurd s
  says_length (v ∷ ws) (m ∷ ns) s = ap suc (says_length ws ns s.1)

  pub says_weaker : (Q : List ℕ → N → Type 0) → ((w : List ℕ) (n : N) → R w n → Q w n) → (ws : List (List ℕ)) (ns : List N) → Says R ws ns → Says Q ws ns
  says_weaker Q f [] [] s = tt
  says_weaker Q f [] (m ∷ ns) s = absurd s
  says_weaker Q f (v ∷ ws) [] s = absurd s
  says_weaker Q f (v ∷ ws) (m ∷ ns) s = (f v m s.0, says_weaker Q f ws ns s.1)

  -- done say the numbers ns, and after one more word they say one more
  abbrev pub Sofar : List (List ℕ) → List N → List (List ℕ) → Type 0
  Sofar all ns rest = (done : List (List ℕ)) × Says R done ns × (all ≡ done ++ rest)

  pub one_more : (all rest after : List (List ℕ)) (ns ms : List N) (w : List ℕ) (n : N) → Sofar all ns rest → rest ≡ w ∷ after → R w n → ms ≡ ns ++ (n ∷ []) → Sofar all ms after
  one_more all rest after ns ms w n old first r more = (
    old.0 ++ (w ∷ []),
    subst (Says R _) (sym more) (says_more old.0 ns w n old.1 r),
    old.2 ∙ ap (λ l. old.0 ++ l) first ∙ sym (append_assoc old.0 (w ∷ []) after),
  )

pub natural_read : (k : ℕ) (w : List ℕ) (n : ℕ) → ParsesUnsigned {E = ParseIntError} k 10 w (Ok n) → natural w n
natural_read k w n h = (h.0.0, sym h.1)

pub integer_read : (w : List ℕ) (z : ℤ) → ParsesSigned {E = ParseIntError} w64 10 w (Ok z) → integer w z
integer_read w z h = (h.0.0, sym h.1)

-- what the code reads is what the words say
module _ (R : List ℕ → ℤ → Type 0) (is : (w : List ℕ) (z : ℤ) → R w z → integer w z) where
  pub entries_said : (all rest : List (List ℕ)) (zs : List ℤ) (colon : Bool) (e : Entries) → Numbered R all zs colon rest → colon ≡ false → e.count ≡ length zs → length zs ≤ 4 → e.index ≡ four (pos 0) zs → EntriesSaid all e
  entries_said all rest zs colon e n none many few kept =
      let whole : all ≡ n.some = n.split ∙ ap (λ b. n.some ++ cond b (codes ":" ∷ rest) []) none ∙ append-nil n.some in
      record { given = zs; said = subst (λ l. Says integer l zs) (sym whole) (says_weaker R integer is n.some zs n.said); many = many; few = few; kept = kept }

module _ (R : List ℕ → ℕ → Type 0) (is : (w : List ℕ) (n : ℕ) → R w n → natural w n) where
  pub layout_said : (all after rest : List (List ℕ)) (ns : List ℕ) (colon : Bool) (r : LayoutRecord) (before now : List ℕ) → all ≡ kind_word r.kind ∷ after → Numbered R after ns colon rest → r.rank ≡ length ns → r.lengths ≡ four 1 ns → r.start ≡ length before → PlacesSaid r.kind (cond colon (codes ":" ∷ rest) []) r.rank r.count before now → LayoutSaid all r before now
  layout_said all after rest ns colon r before now first n ranked kept begun places = record {
    axes = n.some;
    lengths = ns;
    rest = cond colon (codes ":" ∷ rest) [];
    split = first ∙ ap (λ l. kind_word r.kind ∷ l) n.split;
    said = says_weaker R natural is n.some ns n.said;
    ranked = ranked;
    kept = kept;
    begun = begun;
    places = places;
  }
