-- The first clash with a list of blocks, block after block.
use Rattle.std.proofs.Common.{◌≡◌, ℕ, ◌+◌, ◌<◌, Bool, true, false, cond, ◌||◌, eqb, List, [], ◌∷◌, ◌++◌, length, get_or, take, ℤ, None, Option, sym, refl, ap, ◌∙◌}
use Rattle.std.proofs.lemmas.List.{take_more}
use Rattle.reader.specs.Rules.{destination}
use Rattle.records.specs.declared.record.BlockEntry.{BlockEntry}
use Rattle.overlap.specs.Clashes.{among, stores, stored_at, first_that}
use Rattle.overlap.specs.Rows.{Places, old_row, shared_by, earlier}
use Rattle.overlap.proofs.Firsts.{first_alike, either_first, first_if, none_first}

or_false : (x : Bool) → (x || false) ≡ x
or_false true = refl
or_false false = refl

or_assoc : (x y z : Bool) → (x || (y || z)) ≡ ((x || y) || z)
or_assoc true y z = refl
or_assoc false y z = refl

stored_push : (bs : List BlockEntry) (e : BlockEntry) (is : List ℤ) (tensor p : ℕ) → stored_at (bs ++ e ∷ []) is tensor p ≡ (stored_at bs is tensor p || stores e is tensor p)
stored_push [] e is tensor p = or_false (stores e is tensor p)
stored_push (b ∷ bs) e is tensor p = ap (λ t. stores b is tensor p || t) (stored_push bs e is tensor p) ∙ or_assoc (stores b is tensor p) (stored_at bs is tensor p) (stores e is tensor p)

module _ (bs : List BlockEntry) (is : List ℤ) (tensor : ℕ) (p : Places) where
  -- the numbers of the places that are stored at
  abbrev clash_in : List BlockEntry → Option ℕ
  clash_in es = first_that (λ k. stored_at es is tensor (p.at k)) p.many

  -- one block more
  pub clash_more : (i : ℕ) (d : BlockEntry) (a b : Option ℕ) → i < length bs → a ≡ clash_in (take i bs) →
      b ≡ cond (eqb (get_or bs i d).tensor tensor) (shared_by p (old_row (record { block = (get_or bs i d).read; indices = is }))) None → earlier a b ≡ clash_in (take (i + 1) bs)
  clash_more i d a b h e q =
      let x = get_or bs i d in
      let t : ℕ → Bool = λ k. stored_at (take i bs) is tensor (p.at k) in
      let u : ℕ → Bool = λ k. stores x is tensor (p.at k) in
      let q' : b ≡ first_that u p.many = q ∙ first_if (eqb x.tensor tensor) (λ k. among (destination x.read is) x.read.via (p.at k)) p.many in
      ap (λ o. earlier o b) e ∙ ap (earlier (first_that t p.many)) q' ∙ either_first t u p.many
      ∙ first_alike (λ k. t k || u k) (λ k. stored_at (take (i + 1) bs) is tensor (p.at k)) p.many (λ k l. sym (ap (λ xs. stored_at xs is tensor (p.at k)) (take_more bs i d h) ∙ stored_push (take i bs) x is tensor (p.at k)))

  pub clash_none : None ≡ clash_in (take 0 bs)
  clash_none = none_first p.many
