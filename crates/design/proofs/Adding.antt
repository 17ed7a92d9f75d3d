-- The lines of a design, one more at a time.
use Rattle.std.proofs.Common.{◌≡◌, ℕ, ◌+◌, List, [], ◌∷◌, ◌++◌, length, sym, refl, ap, ◌∙◌, subst, append_assoc, append-nil, arith}
use Rattle.std.specs.Str.Lines.{IsFirstLine}
use Rattle.std.proofs.lemmas.List.{length_push}
use Rattle.design.specs.Designs.{Contents, nothing, uncommented, LineAdded, Lines, LinesAdded}

added_more : (k j : ℕ) (ls : List (List ℕ)) (l : List ℕ) (b m a : Contents) → j ≡ k + length ls → LinesAdded k ls b m → LineAdded j (uncommented l) m a → LinesAdded k (ls ++ (l ∷ [])) b a
added_more k j [] l b m a e same h =
    let at : j ≡ k = omega arith in
    (a, subst (λ n. LineAdded n (uncommented l) b a) at (subst (λ x. LineAdded j (uncommented l) x a) same h), refl)
added_more k j (x ∷ ls) l b m a e old h = (old.0, old.1, added_more (k + 1) j ls l old.0 m a (omega arith) old.2 h)

-- of the text, the lines before rest, n of them, say what is held now
pub record Sofar (text rest : List ℕ) (n : ℕ) (now : Contents) : Type 0 where
  pub done : List (List ℕ)
  pub before : (ls : List (List ℕ)) → Lines rest ls → Lines text (done ++ ls)
  pub added : LinesAdded 1 done nothing now
  pub many : length done ≡ n

pub none_yet : (text : List ℕ) (now : Contents) → now ≡ nothing → Sofar text text 0 now
none_yet text now e = record { done = []; before = λ ls h. h; added = e; many = refl }

module _ {text rest : List ℕ} {n : ℕ} {now : Contents} (old : Sofar text rest n now) where
  -- the line number and the text as the code has them
  pub one_more : (l code after : List ℕ) (m j : ℕ) (then : Contents) → IsFirstLine rest l after → m ≡ n → j ≡ n + 1 → code ≡ uncommented l → LineAdded (m + 1) code now then → Sofar text after j then
  one_more l code after m j then first at next cut h = record {
    done = old.done ++ (l ∷ []);
    before = λ ls more. subst (Lines text) (sym (append_assoc old.done (l ∷ []) ls)) (old.before (l ∷ ls) (after, first, more));
    added = added_more 1 (m + 1) old.done l nothing now then (omega (arith, old.many)) old.added (subst (λ t. LineAdded (m + 1) t now then) cut h);
    many = length_push old.done l ∙ ap (λ k. k + 1) old.many ∙ sym next;
  }

  pub no_more : length rest ≡ 0 → (ls : List (List ℕ)) × Lines text ls × LinesAdded 1 ls nothing now
  no_more none = (old.done, subst (Lines text) (append-nil old.done) (old.before [] none), old.added)
