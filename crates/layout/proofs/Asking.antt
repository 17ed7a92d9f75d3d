-- A question about a layout that there is, or is not.
use Rattle.std.proofs.Common.{◌≡◌, ℕ, ◌<◌, ◌≤◌, ltb, List, length, get_or, None, Ok, Err, sym, ap, ◌∙◌}
use Rattle.std.proofs.lemmas.Bool.{lt-ltb, le-ltb, cond-true, cond-false}
use Rattle.layout.specs.declared.fault.LayoutFault.TheVariants.{Unknown}
use Rattle.layout.specs.Layouts.{Layout, blank}
use Rattle.layout.specs.Answers.{asked, place_in, place_asked}

module _ (ls : List Layout) (n : ℕ) where
  pub asked_there : {A : Type 0} (f : Layout → A) (l : Layout) → n < length ls → get_or ls n blank ≡ l → Ok (f l) ≡ asked f ls n
  asked_there f l h e = ap (λ y. Ok (f y)) (sym e) ∙ sym (cond-true (ltb n (length ls)) (Ok (f (get_or ls n blank))) (Err Unknown) (lt-ltb n (length ls) h))

  pub asked_not : {A : Type 0} (f : Layout → A) → length ls ≤ n → Err Unknown ≡ asked f ls n
  asked_not f h = sym (cond-false (ltb n (length ls)) (Ok (f (get_or ls n blank))) (Err Unknown) (le-ltb n (length ls) h))

  pub place_there : (k : ℕ) (l : Layout) → n < length ls → get_or ls n blank ≡ l → place_in l k ≡ place_asked ls n k
  place_there k l h e = ap (λ y. place_in y k) (sym e) ∙ sym (cond-true (ltb n (length ls)) (place_in (get_or ls n blank) k) None (lt-ltb n (length ls) h))

  pub place_not : (k : ℕ) → length ls ≤ n → None ≡ place_asked ls n k
  place_not k h = sym (cond-false (ltb n (length ls)) (place_in (get_or ls n blank) k) None (le-ltb n (length ls) h))
