-- The words of a text as an iterator over them goes along.
use Rattle.std.proofs.Common.{◌≡◌, ℕ, ◌<◌, true, List, [], ◌∷◌, ◌++◌, map, length, Some, None, IsUtf8, Option, sym, refl, ap, ◌∙◌, subst, append_assoc, append-nil, arith, length-append, Bor, MatchOption}
use Rattle.std.proofs.lemmas.Bool.{and_parts, not-false}
use lib.Utf8.{encode, encodes, scalar, scalars}
use Rattle.std.specs.Char.{is_whitespace, is_not_whitespace}
use Rattle.std.specs.Str.{NonePass, NoCharPasses, EmptyOrStartsWithPassing, chars}
use Rattle.std.proofs.lemmas.Str.{cons_from_encodes, chars-encodes, encodes-chars, scalars-chars, encodes_same, length-encode, len_utf8_bounds}
use Rattle.design.specs.Texts.{begun, runs, words, left}
use Rattle.std.specs.declared.str.SplitWhitespace.{SplitWhitespace}
use Rattle.std.specs.Str.Iter.{split_whitespace_rest, split_whitespace_steps}

-- a text that begins with the characters gs goes on with characters
past : (gs es rest : List ℕ) → encodes es ≡ encodes gs ++ rest → (fs : List ℕ) × (es ≡ gs ++ fs) × (encodes fs ≡ rest)
past [] es rest e = (es, refl, e)
past (g ∷ gs) es rest e =
    let p = cons_from_encodes es (encodes gs ++ rest) g (e ∙ append_assoc (encode g) (encodes gs) rest) in
    let q = past gs p.0 rest p.2 in
    (q.0, p.1 ∙ ap (λ l. g ∷ l) q.1, q.2)

scalars_after : (gs fs : List ℕ) → scalars (gs ++ fs) ≡ true → scalars fs ≡ true
scalars_after [] fs e = e
scalars_after (g ∷ gs) fs e = scalars_after gs fs (and_parts (scalar g) (scalars (gs ++ fs)) e).1

-- white characters in front make no run
runs_blank : (gs cs : List ℕ) → NonePass is_not_whitespace gs → runs (gs ++ cs) ≡ runs cs
runs_blank [] cs h = refl
runs_blank (g ∷ gs) cs h = let w = not-false (is_whitespace g) h.0 in rw w (runs_blank gs cs h.1)

-- the characters cs end, or go on with a white one
abbrev Ends : List ℕ → Type 0
Ends [] = Unit {0}
Ends (c ∷ cs) = is_whitespace c ≡ true

begun_ends : (x : ℕ) (cs : List ℕ) (rs : List (List ℕ)) → Ends cs → begun x cs rs ≡ (x ∷ []) ∷ rs
begun_ends x [] rs e = refl
begun_ends x (c ∷ cs) [] e = refl
begun_ends x (c ∷ cs) (r ∷ rs) e = rw e refl

runs_solid : (x : ℕ) (xs cs : List ℕ) → NonePass is_whitespace (x ∷ xs) → Ends cs → runs (x ∷ (xs ++ cs)) ≡ (x ∷ xs) ∷ runs cs
runs_solid x [] cs h e = rw h.0 (begun_ends x cs (runs cs) e)
runs_solid x (y ∷ xs) cs h e = rw (h.0, runs_solid y xs cs h.1 e, h.1.0) refl

some_encode : (c : ℕ) (rest : List ℕ) → 0 < length (encode c ++ rest)
some_encode c rest = omega (arith, length-append (encode c) rest, length-encode c, len_utf8_bounds c)

ends_at : (rs rest more : List ℕ) → encodes rs ≡ rest → EmptyOrStartsWithPassing is_whitespace rest more → Ends rs
ends_at [] rest more e o = tt
ends_at (c ∷ cs) rest more e o =
    let at = o (subst (λ l. 0 < length l) e (some_encode c (encodes cs))) in
    let p = cons_from_encodes (c ∷ cs) more at.0 (e ∙ at.2) in
    let same : c ≡ at.0 = cc p.1 in
    rw same at.1

solid : (xs cs : List ℕ) → 0 < length (encodes xs) → NonePass is_whitespace xs → Ends cs → runs (xs ++ cs) ≡ xs ∷ runs cs
solid [] cs l h e = absurd (omega arith)
solid (x ∷ xs) cs l h e = runs_solid x xs cs h e

-- a text, by its characters
pub record Whole (bs : List ℕ) : Type 0 where
  pub spelled : encodes (chars bs) ≡ bs
  pub valid : scalars (chars bs) ≡ true

pub whole : (bs : List ℕ) → IsUtf8 bs → Whole bs
whole bs u = record { spelled = encodes-chars bs u; valid = scalars-chars bs u }

pub next_word : (bs gap x rest more : List ℕ) → Whole bs → bs ≡ gap ++ (x ++ rest) → 0 < length x → NoCharPasses is_not_whitespace gap → NoCharPasses is_whitespace x → EmptyOrStartsWithPassing is_whitespace rest more → (words bs ≡ x ∷ words rest) × Whole rest
unfolding words
next_word bs gap x rest more u cut some blank whole ends =
    let p = past blank.0 (chars bs) (x ++ rest) (u.spelled ∙ cut ∙ ap (λ l. l ++ (x ++ rest)) (sym blank.1)) in
    let q = past whole.0 p.0 rest (p.2 ∙ ap (λ l. l ++ rest) (sym whole.1)) in
    let all : chars bs ≡ blank.0 ++ (whole.0 ++ q.0) = p.1 ∙ ap (λ l. blank.0 ++ l) q.1 in
    let sc = scalars_after whole.0 q.0 (scalars_after blank.0 (whole.0 ++ q.0) (subst (λ l. scalars l ≡ true) all u.valid)) in
    let there : chars rest ≡ q.0 = ap chars (sym q.2) ∙ chars-encodes q.0 sc in
    let run = runs_blank blank.0 (whole.0 ++ q.0) blank.2 ∙ solid whole.0 q.0 (subst (λ l. 0 < length l) (sym whole.1) some) whole.2 (ends_at q.0 rest more q.2 ends) in (
      ap (λ l. map encodes (runs l)) all ∙ ap (map encodes) run ∙ (λ i. whole.1 i ∷ map encodes (runs (sym there i))),
      record { spelled = ap encodes there ∙ q.2; valid = ap scalars there ∙ sc },
    )

pub no_word : (bs : List ℕ) → Whole bs → NoCharPasses is_not_whitespace bs → words bs ≡ []
unfolding words
no_word bs u blank =
    let here : chars bs ≡ blank.0 ++ [] = encodes_same _ _ (u.spelled ∙ sym blank.1) ∙ sym (append-nil blank.0) in
    ap (λ l. map encodes (runs l)) here ∙ ap (map encodes) (runs_blank blank.0 [] blank.2)

-- one step of the iterator
pub stepped : (s t : SplitWhitespace) (r : Option (Bor (List ℕ))) → Whole (split_whitespace_rest s) → split_whitespace_steps s r t → Whole (split_whitespace_rest t) × MatchOption r ((left s ≡ []) × (left t ≡ [])) (λ w. left s ≡ w.now ∷ left t)
stepped s t None u h =
    let none = no_word _ u h.1 in
    (subst (λ x. Whole (split_whitespace_rest x)) (sym h.0) u, (none, ap left h.0 ∙ none))
stepped s t (Some x) u h =
    let n = next_word _ h.0 x.now _ h.5.0 u h.1 h.2 h.3 h.4 h.5.1 in
    (n.1, n.0)
