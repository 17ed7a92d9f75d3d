use Rattle.std.proofs.Common.{ℕ, ◌-◌, ◌<◌, ◌≤◌}
use Rattle.layout.specs.Places.{Before}
use Rattle.table.specs.Records.{record_place, place_of}
use Rattle.table.proofs.places.Places.search.Given as goal

abbrev pub invariant-loop-low : goal.invariant-loop-low
invariant-loop-low l =
    (l.low ≤ l.high) × (l.high ≤ l.self.layout.count)
    × ((k : ℕ) → k < l.low → Before (record_place l.self.pool.now l.self.layout k) (place_of l.p))
    × ((k : ℕ) → l.high ≤ k → k < l.self.layout.count → Before (place_of l.p) (record_place l.self.pool.now l.self.layout k))

abbrev pub decreases-loop-low : goal.decreases-loop-low
decreases-loop-low l = l.high - l.low
