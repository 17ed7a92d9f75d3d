-- What a translation has in the index table.
use Rattle.std.specs.Prelude.{ℕ, ◌+◌, ◌*◌, cond, ◌&&◌, List, [], ◌++◌, length, ℤ, Ok, Err, Option, Result, nat_le, slice_index_or}
use Rattle.std.proofs.Math.Seq.{paste}
use Rattle.layout.specs.Layouts.{Layout, blank, count, rank}
use Rattle.translation.specs.declared.kinds.TranslationFrom.{TranslationFrom}
use Rattle.translation.specs.declared.kinds.TranslationFrom.TheVariants.{DenseContraction, DiagonalContraction, SparseContraction, ElementWise, Broadcast}
use Rattle.translation.specs.declared.kinds.TranslationTo.{TranslationTo}
use Rattle.translation.specs.declared.kinds.TranslationTo.TheVariants.{Contiguous, Listed}
use Rattle.translation.specs.declared.kinds.Translation.{Translation}
use Rattle.translation.specs.declared.kinds.TranslationFault.{TranslationFault}
use Rattle.translation.specs.declared.kinds.TranslationFault.TheVariants.{Unknown, Short}
use Rattle.translation.specs.Tos.{destination, destination_entries}
use Rattle.translation.specs.Outcome.{known}
use Rattle.translation.specs.Cuts.{ranges, range_entries}

-- the ranges of a source s, for a via of rank v
abbrev pub from_entries : TranslationFrom → Layout → ℕ → List ℤ
from_entries (DenseContraction by long) s v = []
from_entries (DiagonalContraction by) s v = []
from_entries (SparseContraction by) s v = range_entries (ranges v s)
from_entries ElementWise s v = []
from_entries (Broadcast by long) s v = []

-- n listed destinations
abbrev pub to_entries : TranslationTo → (ℕ → Option ℕ) → ℕ → List ℤ
to_entries (Contiguous first end) d n = []
to_entries Listed d n = destination_entries d n

-- each range as start and end, then each listed destination
abbrev pub data_layout : Translation → Layout → Layout → List ℤ → Layout → List ℤ
data_layout t s v x g = from_entries t.from s (rank v) ++ to_entries t.to (destination v x g) (count v)

-- how many entries n ranges and n destinations have
abbrev pub from_count : TranslationFrom → ℕ → ℕ
from_count (DenseContraction by long) n = 0
from_count (DiagonalContraction by) n = 0
from_count (SparseContraction by) n = 2 * n
from_count ElementWise n = 0
from_count (Broadcast by long) n = 0

abbrev pub to_count : TranslationTo → ℕ → ℕ
to_count (Contiguous first end) n = 0
to_count Listed n = n

abbrev pub data_count : Translation → ℕ
data_count t = from_count t.from t.elements + to_count t.to t.elements

-- the entries of a translation between layouts of a catalogue
abbrev pub entries_of : List Layout → Translation → ℕ → ℕ → List ℤ → ℕ → List ℤ
entries_of ls t source via start target = data_layout t (slice_index_or ls source blank) (slice_index_or ls via blank) start (slice_index_or ls target blank)

-- appended to a table of n entries at a position: where they end, or refusal 1, or 23 where there is no room
abbrev pub appending : List Layout → Translation → ℕ → ℕ → List ℤ → ℕ → ℕ → ℕ → Result ℕ TranslationFault
appending ls t source via start target n at =
    cond (known ls source && (known ls via && known ls target))
    (cond (nat_le (at + length (entries_of ls t source via start target)) n) (Ok (at + length (entries_of ls t source via start target))) (Err Short))
    (Err Unknown)

-- the table then: a refusal leaves it, and what is not written over stays
abbrev pub appended : {E : Type 0} → Result ℕ E → List ℤ → ℕ → List ℤ → List ℤ
appended (Ok end) table at xs = paste table at xs (length xs)
appended (Err e) table at xs = table
