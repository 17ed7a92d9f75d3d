-- The layouts of the records.
use Rattle.std.proofs.Common.{◌≡◌, ℕ, ◌<◌, List, length, get_or}
use Rattle.std.proofs.lemmas.List.{length-map, get_or-map}
use Rattle.layout.specs.Layouts.{Valid, blank}
use Rattle.table.specs.declared.record.LayoutRecord.{LayoutRecord}
use Rattle.table.specs.Records.{record_layout, table_layouts, AllKept, no_record}
use Rattle.table.proofs.Truths.{record_valid}

module _ (pool : List ℕ) (rs : List LayoutRecord) where
  pub kept_length : length (table_layouts pool rs) ≡ length rs
  kept_length = length-map rs (record_layout pool)

  pub kept_at : (k : ℕ) → k < length rs → get_or (table_layouts pool rs) k blank ≡ record_layout pool (get_or rs k no_record)
  kept_at k h = get_or-map (record_layout pool) rs k no_record blank h

  pub kept_valid : AllKept pool rs → (k : ℕ) → k < length (table_layouts pool rs) → Valid (get_or (table_layouts pool rs) k blank)
  kept_valid a k h = let l : k < length rs = rw kept_length at h in rw (kept_at k l) (record_valid pool (get_or rs k no_record) (a k l))
