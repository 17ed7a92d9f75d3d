-- The turns of the search.
use Rattle.std.proofs.Common.{◌≡◌, ℕ, ◌+◌, ◌<◌, ◌≤◌, List, sym, ap, subst, inl, inr, arith}
use Rattle.std.proofs.lemmas.Bool.{cases_order}
use Rattle.layout.specs.Places.{Place, Before, entries}
use Rattle.layout.proofs.Order.{before_trans}
use Rattle.table.specs.declared.record.LayoutRecord.{LayoutRecord}
use Rattle.table.specs.Records.{record_place, Ascending, place_of}

-- a turn of the search: q is the place in the middle, as it was read
module _ (pool : List ℕ) (r : LayoutRecord) (up : Ascending pool r) (p : Place) (q : List ℕ) (mid : ℕ) (in_row : mid < r.count) (e : q ≡ entries (record_place pool r mid)) where
  at_mid : place_of q ≡ record_place pool r mid
  at_mid = ap place_of e

  pub below_mid : Before (place_of q) p → (k : ℕ) → k < mid + 1 → Before (record_place pool r k) p
  below_mid l k h =
      let m : Before (record_place pool r mid) p = subst (λ x. Before x p) at_mid l in
      elim (cases_order k mid) [
        | inl i ↦ subst (λ j. Before (record_place pool r j) p) (sym i) m
        | inr o ↦ elim o [ inl j ↦ before_trans _ _ _ (up k mid j in_row) m | inr j ↦ absurd (omega arith) ]
      ]

  pub above_mid : Before p (place_of q) → (k : ℕ) → mid ≤ k → k < r.count → Before p (record_place pool r k)
  above_mid l k h n =
      let m : Before p (record_place pool r mid) = subst (λ x. Before p x) at_mid l in
      elim (cases_order k mid) [
        | inl i ↦ subst (λ j. Before p (record_place pool r j)) (sym i) m
        | inr o ↦ elim o [ inl j ↦ absurd (omega arith) | inr j ↦ before_trans _ _ _ m (up mid k j n) ]
      ]
