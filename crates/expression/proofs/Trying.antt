-- What `try_fold` gives where each step gives an option.
use Rattle.std.proofs.Common.{◌≡◌, List, [], ◌∷◌, Some, None, Option, MatchOption, sym, refl, ap, ◌∙◌, subst}
use denote.Param.Members.{Mut}
use Rattle.std.specs.ControlFlow.{continue_value}
use Rattle.std.specs.Fn.{Called}
use Rattle.std.specs.Iterator.{AlwaysYields, Yields, TryFoldTurn, TryFoldsItems}
use Rattle.std.specs.List.{FoldsTo}
use Rattle.std.specs.Option.{option_and_then}
use Rattle.std.specs.declared.ops.ControlFlow.{ControlFlow}
use Rattle.std.specs.declared.ops.ControlFlow.TheVariants.{Continue, Break}
use Rattle.std.proofs.lemmas.Iterator.{YieldsList}

-- a step for each item in turn, for as long as each gives a value
abbrev pub tried : {A B : Type 0} → (B → A → Option B) → B → List A → Option B
tried step b [] = Some b
tried step b (x ∷ xs) = option_and_then (λ c. tried step c xs) (step b x)

abbrev pub Branches : {B E : Type 0} → Option B → ControlFlow E B → Type 0
Branches r c = r ≡ continue_value c

module _ {S A B C F : Type 0} (E : Type 0) (steps : S → Option A → S → Type 0) (v : A → C) {g : Mut F (B × (A × Unit {0})) (Option B)} (step : B → C → Option B) (f : F)
    (says : (b : B) (x : A) (r : Option B) (q : F) → Called g f (b, (x, tt)) r q → (q ≡ f) × (r ≡ step b (v x))) where
  ended : (o : Option A) (s u : S) (h : F) (b : B) (r : Option B) (all : List C) → h ≡ f → steps s o u
      → MatchOption o (Branches {E = E} r (Continue b)) (λ x. (w : Option B) × (q : F) × (e : E) × Called g h (b, (x, tt)) w q × Branches w (Break e) × (r ≡ None))
      → AlwaysYields steps v s all → r ≡ tried step b all
  ended None s u h b r [] k p m y = m
  ended None s u h b r (z ∷ all) k p m y = absurd (y.0 u p)
  ended (Some x) s u h b r [] k p m y = absurd (y x u p)
  ended (Some x) s u h b r (z ∷ all) k p m y =
      let a = says b x m.0 m.1 (subst (λ n. Called g n (b, (x, tt)) m.0 m.1) k m.3) in
      let n : step b z ≡ None = sym (ap (step b) (y.1 x u p).0) ∙ sym a.1 ∙ m.4 in
      rw n m.5

  turns : (xs : List A) (o : Option A) (s t u : S) (h : F) (b c : B) (r : Option B) (all : List C) (k : F) → h ≡ f → Yields steps s xs t → steps t o u
      → FoldsTo {P = F × B} (TryFoldTurn g (Branches {E = E})) (h, b) xs (k, c)
      → MatchOption o (Branches {E = E} r (Continue c)) (λ x. (w : Option B) × (q : F) × (e : E) × Called g k (c, (x, tt)) w q × Branches w (Break e) × (r ≡ None))
      → AlwaysYields steps v s all → r ≡ tried step b all
  turns [] o s t u h b c r all k e p q d m y = subst (λ n. r ≡ tried step n all) (sym (ap (λ i. i.1) d)) (ended o t u k c r all (sym (ap (λ i. i.0) d) ∙ e) q m (subst (λ n. AlwaysYields steps v n all) p y))
  turns (x ∷ xs) o s t u h b c r [] k e p q d m y = absurd (y x p.0 p.1)
  turns (x ∷ xs) o s t u h b c r (z ∷ all) k e p q d m y =
      let i = y.1 x p.0 p.1 in
      let a = says b x d.1.0 d.0.0 (subst (λ n. Called g n (b, (x, tt)) d.1.0 d.0.0) e d.1.1) in
      let n : step b z ≡ Some d.0.1 = sym (ap (step b) i.0) ∙ sym a.1 ∙ d.1.2 in
      rw n (turns xs o p.0 t u d.0.0 d.0.1 c r all k a.0 p.2 q d.2 m i.1)

  pub try_fold_from_yields_List : {s : S} {all : List C} (u : S) (b : B) (r : Option B) → TryFoldsItems steps g (Branches {E = E}) (λ _ r. r ≡ None) s f b r u → YieldsList steps v s all → r ≡ tried step b all
  try_fold_from_yields_List {s} {all} u b r d e = turns d.0 d.1 s d.4.0 u f b d.3 r all d.2 refl d.4.1 d.4.2 d.5 d.6 e.runs
