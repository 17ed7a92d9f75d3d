-- The places of a sparse layout, word by word.
use Rattle.std.proofs.Common.{◌≡◌, ℕ, ◌+◌, ◌*◌, ◌<◌, ◌≤◌, List, [], ◌∷◌, ◌++◌, length, codes, sym, refl, ap, ◌∙◌, subst, inr, append_assoc, append-nil, suc-mul, le-mul_of_pos_right, arith, length-append}
use Rattle.std.specs.List.{flat_map, AllByRecursion}
use Rattle.std.proofs.ByRecursion.{All-push}
use Rattle.std.proofs.lemmas.List.{flat_map_more, length_push}
use Rattle.design.specs.Lines.{natural, ended, Pooled}
use Rattle.design.specs.Numbers.{Says}
use Rattle.design.proofs.Said.{says_more, says_length}

abbrev flat : List (List (List ℕ)) → List (List ℕ)
flat = flat_map (λ place. place)

-- of the words all, those before rest list place whole places and some entries of the next, which the pool now has
pub record Sofar (rank : ℕ) (all rest : List (List ℕ)) (before now : List ℕ) (place entries : ℕ) : Type 0 where
  pub places : List (List (List ℕ))
  pub last : List (List ℕ)
  pub es : List ℕ
  pub split : all ≡ flat_map ended places ++ (last ++ rest)
  pub said : Says natural (flat places ++ last) es
  pub pooled : now ≡ before ++ es
  pub even : AllByRecursion (λ p. length p ≡ rank) places
  pub many : length places ≡ place
  pub part : length last ≡ entries

pub none_yet : (rank : ℕ) (all : List (List ℕ)) (before : List ℕ) → Sofar rank all all before before 0 0
none_yet rank all before = record { places = []; last = []; es = []; split = refl; said = tt; pooled = sym (append-nil before); even = tt; many = refl; part = refl }

flat_length : (rank : ℕ) (ps : List (List (List ℕ))) → AllByRecursion (λ p. length p ≡ rank) ps → length (flat ps) ≡ length ps * rank
flat_length rank [] h = omega arith
flat_length rank (p ∷ ps) h = omega (arith, length-append p (flat ps), h.0, flat_length rank ps h.1, suc-mul (length ps) rank)

module _ {rank place entries : ℕ} {all rest : List (List ℕ)} {before now : List ℕ} (old : Sofar rank all rest before now place entries) where
  -- the entries so far are in the pool
  pub room : place * rank + entries ≤ length now
  room =
      omega (
        arith,
        ap length old.pooled,
        length-append before old.es,
        says_length natural (flat old.places ++ old.last) old.es old.said,
        length-append (flat old.places) old.last,
        flat_length rank old.places old.even,
        ap (λ n. n * rank) old.many,
        old.part,
      )

  -- and so are as many as there are places
  pub few : 0 < rank → rank ≤ entries → place + 1 ≤ length now
  few some full = omega (arith, room, le-mul_of_pos_right place some)

  pub one_entry : (w : List ℕ) (e : ℕ) (after : List (List ℕ)) (more : List ℕ) → rest ≡ w ∷ after → natural w e → more ≡ now ++ (e ∷ []) → Sofar rank all after before more place (entries + 1)
  one_entry w e after more first is push = record {
    places = old.places;
    last = old.last ++ (w ∷ []);
    es = old.es ++ (e ∷ []);
    split = old.split ∙ ap (λ l. flat_map ended old.places ++ l) (ap (λ l. old.last ++ l) first ∙ sym (append_assoc old.last (w ∷ []) after));
    said = subst (λ l. Says natural l (old.es ++ (e ∷ []))) (append_assoc (flat old.places) old.last (w ∷ [])) (says_more natural (flat old.places ++ old.last) old.es w e old.said is);
    pooled = push ∙ ap (λ l. l ++ (e ∷ [])) old.pooled ∙ append_assoc before old.es (e ∷ []);
    even = old.even;
    many = old.many;
    part = length_push old.last w ∙ ap (λ n. n + 1) old.part;
  }

  pub one_comma : (after : List (List ℕ)) → rest ≡ codes "," ∷ after → entries ≡ rank → Sofar rank all after before now (place + 1) 0
  one_comma after first full = record {
    places = old.places ++ (old.last ∷ []);
    last = [];
    es = old.es;
    split = old.split ∙ ap (λ l. flat_map ended old.places ++ l) (ap (λ l. old.last ++ l) first ∙ sym (append_assoc old.last (codes "," ∷ []) after))
        ∙ sym (append_assoc (flat_map ended old.places) (ended old.last) after) ∙ ap (λ l. l ++ after) (flat_map_more ended [] old.places old.last);
    said = subst (λ l. Says natural l old.es) (flat_map_more (λ place. place) [] old.places old.last ∙ sym (append-nil _)) old.said;
    pooled = old.pooled;
    even = All-push _ old.places old.last old.even (old.part ∙ full);
    many = length_push old.places old.last ∙ ap (λ n. n + 1) old.many;
    part = refl;
  }

  pub listed : rest ≡ [] → entries ≡ rank → Pooled rank all (place + 1) before now
  listed none full = inr (
    old.es,
    record {
      places = old.places;
      last = old.last;
      split = old.split ∙ ap (λ l. flat_map ended old.places ++ l) (ap (λ l. old.last ++ l) none ∙ append-nil old.last);
      said = old.said;
      even = old.even;
      whole = old.part ∙ full;
      many = ap (λ n. n + 1) (sym old.many);
    },
    old.pooled,
  )
