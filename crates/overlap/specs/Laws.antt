-- Accepted blocks are orderly, and stay so.
use Rattle.std.specs.Prelude.{◌≡◌, ℕ, ◌<◌, ◌≤◌, List, length, ℤ, pos, slice_index_or}
use Rattle.layout.specs.Layouts.{Layout, count}
use Rattle.translation.specs.declared.kinds.Translation.{Translation}
use Rattle.translation.specs.Laws.{Lawful}
use Rattle.reader.specs.declared.record.BlockRecord.{BlockRecord}
use Rattle.reader.specs.Recorded.{Follows}
use Rattle.overlap.specs.Clashes.{Orderly}

-- a block just recorded: its record has as many via places as its via, and following it is following its translation
abbrev pub MadeOrderly : Type 0
MadeOrderly = (s v : Layout) (x : List ℤ) (g : Layout) (t : Translation) (r : BlockRecord) (is : List ℤ) → Lawful s v x g t → r.via ≡ count v → Follows s v x g r is → Orderly r is

-- a longer index table that begins with the same entries
abbrev pub StaysOrderly : Type 0
StaysOrderly = (r : BlockRecord) (is js : List ℤ) → length is ≤ length js → ((p : ℕ) → p < length is → slice_index_or js p (pos 0) ≡ slice_index_or is p (pos 0)) → Orderly r is → Orderly r js
