-- A record that keeps the rules means a valid layout.
use Rattle.std.proofs.Common.{◌≡◌, ℕ, zero, suc, ◌+◌, ◌-◌, ◌<◌, ◌≤◌, true, leb, List, map, length, get_or, sym, refl, subst, inl, inr, add-one, arith}
use Rattle.std.proofs.lemmas.Bool.{and_parts, leb-true, cases_order}
use Rattle.std.proofs.lemmas.List.{length-take}
use Rattle.std.proofs.ByRecursion.{All-from_get_or}
use Rattle.std.proofs.lemmas.List.FromFn.{length-map-range_with_len, get_or-map-range_with_len}
use Rattle.std.specs.List.{range_with_len}
use Rattle.layout.specs.declared.kind.LayoutKind.{LayoutKind}
use Rattle.layout.specs.declared.kind.LayoutKind.TheVariants.{Dense, Diagonal, Sparse}
use Rattle.layout.specs.Places.{origin, entries, Before, Inside}
use Rattle.layout.specs.Layouts.{Valid, count, at}
use Rattle.layout.specs.Rules.{none, axes_in_range}
use Rattle.layout.proofs.Order.{before_trans}
use Rattle.layout.proofs.Rules.{all_kept}
use Rattle.grid.proofs.Validity.{axes_say, grid_valid}
use Rattle.table.specs.declared.record.LayoutRecord.{LayoutRecord}
use Rattle.table.specs.Records.{record_shape, record_place, sparse_layout, Held, Ascending, grid_of, record_layout, layout_by, inside_test, before_test, sparse_tests, sparse_kept, broken_as, kept}
use Rattle.table.proofs.Below.{each_says, inside_said, before_said}

module _ (pool : List ℕ) (r : LayoutRecord) where
  pub sparse_count : count (sparse_layout pool r) ≡ r.count
  sparse_count = length-map-range_with_len (record_place pool r) 0 r.count

  pub sparse_at : (k : ℕ) → k < r.count → at (sparse_layout pool r) k ≡ record_place pool r k
  sparse_at k l = get_or-map-range_with_len (record_place pool r) 0 r.count k k origin l (omega arith)

pub record Sparsely (pool : List ℕ) (r : LayoutRecord) : Type 0 where
  pub low : 1 ≤ length (record_shape r)
  pub high : r.rank ≤ 4
  pub axes : axes_in_range (record_shape r) ≡ true
  pub some : 1 ≤ r.count
  pub few : r.count ≤ 65536
  pub held : Held pool r
  pub inside : (k : ℕ) → k < r.count → Inside (record_shape r) (record_place pool r k)
  pub next : (k : ℕ) → k < r.count - 1 → Before (record_place pool r k) (record_place pool r (k + 1))

pub sparsely : (pool : List ℕ) (r : LayoutRecord) → sparse_kept pool r ≡ true → Sparsely pool r
sparsely pool r h =
    let t = all_kept (sparse_tests pool r) h in
    let u = and_parts (leb 1 (length (record_shape r))) (leb r.rank 4) t.0 in
    let v = and_parts (leb 1 r.count) (leb r.count 65536) t.1.1.0 in
    record {
      low = leb-true _ _ u.0;
      high = leb-true _ _ u.1;
      axes = t.1.0;
      some = leb-true _ _ v.0;
      few = leb-true _ _ v.1;
      held = leb-true _ _ t.1.1.1.0;
      inside = λ k l. inside_said (record_shape r) (record_place pool r k) (each_says (λ k. inside_test (record_shape r) (record_place pool r k)) r.count k t.1.1.1.1.0 l);
      next = λ k l. before_said (record_place pool r k) (record_place pool r (k + 1)) (each_says (λ k. before_test (record_place pool r k) (record_place pool r (k + 1))) (r.count - 1) k t.1.1.1.1.1.0 l);
    }

module _ (pool : List ℕ) (r : LayoutRecord) (h : sparse_kept pool r ≡ true) where
  few_axes : length (record_shape r) ≤ 4
  few_axes = let x = (sparsely pool r h).high in simp length-take (omega arith)

  pub ascends : Ascending pool r
  ascends j zero l m = absurd (omega arith)
  ascends j (suc k) l m =
      let n : Before (record_place pool r k) (record_place pool r (suc k)) = rw add-one at ((sparsely pool r h).next k (omega arith)) in
      elim (cases_order j k) [
        | inl e ↦ subst (λ i. Before (record_place pool r i) (record_place pool r (suc k))) (sym e) n
        | inr o ↦ elim o [ inl i ↦ before_trans _ _ _ (ascends j k i (omega arith)) n | inr i ↦ absurd (omega arith) ]
      ]

  pub entry_small : (k : ℕ) → k < r.count → (i : ℕ) → get_or (entries (record_place pool r k)) i 0 < 65536
  entry_small k l zero = omega (arith, ((sparsely pool r h).inside k l).0, (axes_say (record_shape r) (sparsely pool r h).axes 0 (omega arith)).1)
  entry_small k l (suc zero) = omega (arith, ((sparsely pool r h).inside k l).1, (axes_say (record_shape r) (sparsely pool r h).axes 1 (omega arith)).1)
  entry_small k l (suc (suc zero)) = omega (arith, ((sparsely pool r h).inside k l).2, (axes_say (record_shape r) (sparsely pool r h).axes 2 (omega arith)).1)
  entry_small k l (suc (suc (suc zero))) = omega (arith, ((sparsely pool r h).inside k l).3, (axes_say (record_shape r) (sparsely pool r h).axes 3 (omega arith)).1)
  entry_small k l (suc (suc (suc (suc i)))) = omega arith

  pub sparse_valid : Valid (sparse_layout pool r)
  sparse_valid =
      let y = sparsely pool r h in
      let c = sparse_count pool r in
      record {
        ranked = few_axes;
        axes = All-from_get_or (λ n. (1 ≤ n) × (n ≤ 4096)) (record_shape r) 1 (λ i l. axes_say (record_shape r) y.axes i (omega (arith, few_axes)));
        some = rw c y.some;
        many = rw c y.few;
        inside = All-from_get_or (Inside (record_shape r)) (map (record_place pool r) (range_with_len 0 r.count)) origin (λ k l. let l' : k < r.count = rw c at l in rw (sparse_at pool r k l') (y.inside k l'));
        ascending = λ j k l l'. let b : k < r.count = rw c at l' in rw (sparse_at pool r j (omega arith), sparse_at pool r k b) (ascends j k l b);
        of_kind = y.low;
      }

valid_by : (kind : LayoutKind) (pool : List ℕ) (r : LayoutRecord) → r.kind ≡ kind → none (broken_as kind pool r) ≡ true → Valid (layout_by kind pool r)
valid_by Dense pool r e n = grid_valid (grid_of r) n
valid_by Diagonal pool r e n = grid_valid (grid_of r) n
valid_by Sparse pool r e n = sparse_valid pool r n

pub record_valid : (pool : List ℕ) (r : LayoutRecord) → kept pool r ≡ true → Valid (record_layout pool r)
record_valid pool r n = valid_by r.kind pool r refl n
