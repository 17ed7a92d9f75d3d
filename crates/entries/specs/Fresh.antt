-- The binary tables that a block adds: those that its names need, in node order, each once, and none that there is already.
use Rattle.std.specs.Prelude.{ℕ, ◌+◌, Bool, cond, ◌&&◌, List, [], ◌∷◌, ◌++◌, map, length, ℤ, Some, None, Option, ◌==◌, nat_eq, slice_index_or}
use Rattle.std.specs.Cmp.Lexicographic.{pointwise}
use Rattle.std.specs.List.{flat_map, list_any}
use Rattle.layout.specs.Layouts.{Layout, blank}
use Rattle.names.specs.Reading.{slots_of}
use Rattle.names.specs.Tables.{binary_table}
use Rattle.names.specs.declared.binary_table.TableKey.{TableKey}
use Rattle.records.specs.declared.record.BinaryRecord.{BinaryRecord}

abbrev pub same_key : TableKey → TableKey → Bool
same_key k l = k.layout == l.layout && (k.source == l.source && pointwise nat_eq (slots_of k.permutation) (slots_of l.permutation))

abbrev pub has_key : TableKey → List TableKey → Bool
has_key k = list_any (λ l. same_key l k)

-- the keys of some records
abbrev pub keys_of : List BinaryRecord → List TableKey
keys_of = map (λ r. r.key)

-- what a need adds to the known ones: nothing where it is none, or known
abbrev pub added : List TableKey → Option TableKey → List TableKey
added known None = []
added known (Some k) = cond (has_key k known) [] (k ∷ [])

-- of the tables that are needed, one after another, those that are not among the known ones, each once
abbrev pub fresh : List TableKey → List (Option TableKey) → List TableKey
fresh known [] = []
fresh known (n ∷ ns) = added known n ++ fresh (known ++ added known n) ns

-- the entries of a table
abbrev pub table_of : List Layout → TableKey → List ℤ
table_of ls k = binary_table (slice_index_or ls k.layout blank) (slice_index_or ls k.source blank) (slots_of k.permutation)

-- the entries of tables one after another, and their records, the first of which begins at a position
abbrev pub tables : List Layout → List TableKey → List ℤ
tables ls = flat_map (table_of ls)

abbrev pub records_from : List Layout → ℕ → List TableKey → List BinaryRecord
records_from ls at [] = []
records_from ls at (k ∷ ks) = record { key = k; at = at } ∷ records_from ls (at + length (table_of ls k)) ks

abbrev pub no_key : TableKey
no_key = record { layout = 0; source = 0; permutation = record { count = 0; slots = [] } }
