-- The record of a block, made of its translation, and what following it comes to.
use Rattle.std.specs.Prelude.{◌≡◌, ℕ, ◌+◌, ◌<◌, min, cond, List, length, ℤ, Some, Ok, Err, Result, nat_le, slice_index_or}
use Rattle.std.proofs.Math.Seq.{paste}
use Rattle.layout.specs.Layouts.{Layout, blank, count, rank, at}
use Rattle.grouping.specs.Keys.{over_place}
use Rattle.translation.specs.declared.kinds.Translation.{Translation}
use Rattle.translation.specs.declared.kinds.TranslationFault.{TranslationFault}
use Rattle.translation.specs.declared.kinds.TranslationFault.TheVariants.{Short}
use Rattle.translation.specs.Tos.{destination as destination_in}
use Rattle.translation.specs.Entries.{from_count, data_count, entries_of}
use Rattle.translation.specs.Outcome.{translated}
use Rattle.reader.specs.declared.record.BlockRecord.{BlockRecord}
use Rattle.reader.specs.Rules.{over, destination}
use Rattle.reader.specs.Accepted.{Accepted}
use Rattle.reader.specs.Tables.{Reached}

-- the record of a translation of s by way of v into g, whose entries stand from a position on
abbrev pub record_of : Translation → Layout → Layout → Layout → ℕ → BlockRecord
record_of t s v g p = record { from = t.from; to = t.to; via = count v; source = count s; target = count g; ranges = p; list = p + from_count t.from t.elements }

-- a block recorded in a table of n entries, from position p on: a refusal of the translation, 23 where there is no room below n and 4,194,304, or the record
abbrev pub recorded_by : Result Translation TranslationFault → List Layout → ℕ → ℕ → ℕ → ℕ → ℕ → Result BlockRecord TranslationFault
recorded_by (Err f) ls source via target n p = Err f
recorded_by (Ok t) ls source via target n p =
    cond (nat_le (p + data_count t) (min n 4194304)) (Ok (record_of t (slice_index_or ls source blank) (slice_index_or ls via blank) (slice_index_or ls target blank) p)) (Err Short)

abbrev pub recorded : List Layout → ℕ → ℕ → List ℤ → ℕ → ℕ → ℕ → Result BlockRecord TranslationFault
recorded ls source via start target n p = recorded_by (translated ls source via start target) ls source via target n p

-- the table then: with the entries of an accepted block, and as it was where the block is refused
abbrev pub table_by : Result Translation TranslationFault → Result BlockRecord TranslationFault → List Layout → ℕ → ℕ → List ℤ → ℕ → List ℤ → ℕ → List ℤ
table_by (Ok t) (Ok b) ls source via start target table p = paste table p (entries_of ls t source via start target) (length (entries_of ls t source via start target))
table_by (Ok t) (Err f) ls source via start target table p = table
table_by (Err e) b ls source via start target table p = table

abbrev pub table_after : Result BlockRecord TranslationFault → List Layout → ℕ → ℕ → List ℤ → ℕ → List ℤ → ℕ → List ℤ
table_after b ls source via start target table p = table_by (translated ls source via start target) b ls source via start target table p

-- Following the record r over the index table: it takes for via place k exactly the source places that lie over it, in order, and goes to the destination that the rules give
pub record Follows (s v : Layout) (x : List ℤ) (g : Layout) (r : BlockRecord) (is : List ℤ) : Type 0 where
  pub accepted : Accepted r is
  pub reached : Reached r is
  pub takes : (k : ℕ) → k < count v → over r is k ≡ over_place (min (rank s) (rank v)) s (at v k)
  pub stores : (k : ℕ) → k < count v → destination_in v x g k ≡ Some (destination r is k)
