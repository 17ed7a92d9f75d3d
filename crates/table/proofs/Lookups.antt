-- The places of a sparse layout are those of its record, and what the search answers is its strict lookup.
use Rattle.std.proofs.Common.{◌≡◌, ℕ, ◌<◌, ◌≤◌, true, ltb, List, length, ℤ, Some, None, Option, sym, ap, ◌∙◌, arith, MatchOption}
use Rattle.std.proofs.lemmas.List.{length-take}
use Rattle.std.proofs.lemmas.Bool.{lt-ltb, le-ltb, cond-true, cond-false}
use Rattle.std.specs.Option.{option_map}
use Rattle.layout.specs.Places.{Place, entries}
use Rattle.layout.specs.Layouts.{count, rank, at, inside, strict}
use Rattle.layout.specs.Answers.{index_of, place_in}
use Rattle.layout.proofs.Finding.{inside_says, strict_absent, strict_outside, strict_inside}
use Rattle.grid.proofs.Answering.{fours, got_some, got_none, some_same}
use Rattle.table.specs.declared.record.LayoutRecord.{LayoutRecord}
use Rattle.table.specs.Records.{record_shape, record_place, sparse_layout, sparse_kept, place_of}
use Rattle.table.proofs.Truths.{sparse_count, sparse_at, sparsely, sparse_valid}

module _ (pool : List ℕ) (r : LayoutRecord) (k : ℕ) where
  pub place_there : k < r.count → Some (index_of (record_place pool r k)) ≡ place_in (sparse_layout pool r) k
  place_there h =
      let l = sparse_layout pool r in
      ap (λ p. Some (index_of p)) (sym (sparse_at pool r k h)) ∙ sym (cond-true (ltb k (count l)) (Some (index_of (at l k))) None (lt-ltb k (count l) (omega (arith, sparse_count pool r))))

  pub place_not : r.count ≤ k → None ≡ place_in (sparse_layout pool r) k
  place_not h =
      let l = sparse_layout pool r in
      sym (cond-false (ltb k (count l)) (Some (index_of (at l k))) None (le-ltb k (count l) (omega (arith, sparse_count pool r))))

module _ (pool : List ℕ) (r : LayoutRecord) (ok : sparse_kept pool r ≡ true) (four : length r.lengths ≡ 4) (m : List ℕ) (is : m ≡ fours (record_shape r)) (x : List ℤ) where
  rank_is : rank (sparse_layout pool r) ≡ r.rank
  rank_is = let h = (sparsely pool r ok).high in simp length-take (omega arith)

  here : inside r.rank m x ≡ inside (rank (sparse_layout pool r)) (record_shape r) x
  here = ap (λ y. inside r.rank y x) is ∙ ap (λ y. inside y (record_shape r) x) (sym rank_is)

  pub search_none : None ≡ option_map entries (inside r.rank m x) → None ≡ strict (sparse_layout pool r) x
  search_none h = sym (strict_outside (sparse_layout pool r) x (sparse_valid pool r ok) (sym here ∙ got_none (inside r.rank m x) h))

  got : (e : List ℕ) → Some e ≡ option_map entries (inside r.rank m x) → (p : Place) × (e ≡ entries p) × (inside (rank (sparse_layout pool r)) (record_shape r) x ≡ Some p)
  got e h = let q = got_some (inside r.rank m x) e h in (q.0, q.2, sym here ∙ q.1)

  pub search_some : (e : List ℕ) (o : Option ℕ) → Some e ≡ option_map entries (inside r.rank m x) → MatchOption o ((k : ℕ) → k < r.count → record_place pool r k ≡ place_of e → ⊥) (λ k. (k < r.count) × (record_place pool r k ≡ place_of e)) → o ≡ strict (sparse_layout pool r) x
  search_some e None h f =
      let q = got e h in
      let l = sparse_layout pool r in
      let c = sparse_count pool r in
      let same = (inside_says (rank l) (record_shape r) x q.0 q.2).0 in
      sym (strict_absent l x (λ p e' k k< a.
      let k<' : k < r.count = rw c at k< in
      let pq : q.0 ≡ p = some_same q.0 p (sym same ∙ e') in
      let b : record_place pool r k ≡ q.0 = sym (sparse_at pool r k k<') ∙ a ∙ sym pq in
      f k k<' (b ∙ ap place_of (sym q.1))))
  search_some e (Some k) h f =
      let q = got e h in
      let l = sparse_layout pool r in
      let c = sparse_count pool r in
      let b : record_place pool r k ≡ q.0 = f.1 ∙ ap place_of q.1 in
      sym (strict_inside l x q.0 k (sparse_valid pool r ok) q.2 (rw c f.0) (sparse_at pool r k f.0 ∙ b))
