-- What a block call answers and leaves.
use Rattle.std.specs.Prelude.{ℕ, ◌+◌, ◌-◌, Bool, true, false, cond, not, ◌&&◌, ◌||◌, List, [], ◌∷◌, ◌++◌, map, length, get_or, take, drop, ℤ, Some, None, Ok, Err, Option, Result, nat_le, slice_index_or, Float}
use Rattle.std.specs.Float.Ieee.{add}
use Rattle.std.specs.Float.{binary64}
use Rattle.std.specs.Option.{option_map, unwrap_or}
use Rattle.layout.specs.declared.kind.LayoutKind.{LayoutKind}
use Rattle.layout.specs.declared.kind.LayoutKind.TheVariants.{Dense, Diagonal, Sparse}
use Rattle.layout.specs.Layouts.{Layout, blank, count, rank}
use Rattle.translation.specs.declared.kinds.Translation.{Translation}
use Rattle.translation.specs.declared.kinds.TranslationTo.{TranslationTo}
use Rattle.translation.specs.declared.kinds.TranslationTo.TheVariants.{Contiguous, Listed}
use Rattle.translation.specs.declared.kinds.TranslationFault.{TranslationFault}
use Rattle.translation.specs.declared.route.Route.{Route}
use Rattle.translation.specs.Entries.{entries_of}
use Rattle.translation.specs.Outcome.{translated}
use Rattle.reader.specs.declared.record.BlockRecord.{BlockRecord}
use Rattle.reader.specs.Recorded.{record_of}
use Rattle.reader.specs.Rules.{join_of, followed}
use Rattle.expression.specs.declared.node.Letters.{Letters}
use Rattle.expression.specs.declared.node.Node.{Node}
use Rattle.expression.specs.declared.fault.ExpressionFault.{ExpressionFault}
use Rattle.expression.specs.Letterings.{letters_of, distinct}
use Rattle.expression.specs.Nodes.{sound_letters}
use Rattle.names.specs.declared.variable.VariableRecord.{VariableRecord}
use Rattle.names.specs.Checks.{and_then, checked}
use Rattle.names.specs.Outcomes.{gathered, value_by}
use Rattle.names.specs.Variables.{environment, is_constant, ready_but}
use Rattle.records.specs.declared.counts.Counts.{Counts}
use Rattle.records.specs.declared.counts.Room.{Room}
use Rattle.records.specs.declared.record.BlockEntry.{BlockEntry}
use Rattle.names.specs.declared.binary_table.TableKey.{TableKey}
use Rattle.records.specs.declared.record.TensorRecord.{TensorRecord}
use Rattle.records.specs.Memory.{Model, left, block_short, no_tensor}
use Rattle.entries.specs.Needed.{needed}
use Rattle.entries.specs.Fresh.{keys_of, fresh, tables, records_from}
use Rattle.entries.specs.Places.{place_entries}
use Rattle.overlap.specs.Clashes.{first_clash}
use Rattle.overlap.specs.Sharing.{shared, placed_at}
use Rattle.planning.specs.declared.call.BlockCall.{BlockCall}
use Rattle.planning.specs.declared.phase.Incoming.TheVariants as incoming
use Rattle.planning.specs.declared.fault.BlockFault.{BlockFault}
use Rattle.planning.specs.declared.fault.BlockFault.TheVariants as block
use Rattle.planning.specs.declared.fault.StageFault.{StageFault}
use Rattle.planning.specs.declared.fault.StageFault.TheVariants as stage
use Rattle.planning.specs.Phases.{phased}

-- ---- the open tensor, which is the last one

abbrev pub open_number : Counts → ℕ
open_number n = n.used.tensors - 1

abbrev pub open_tensor : Counts → List TensorRecord → TensorRecord
open_tensor n ts = slice_index_or ts (open_number n) no_tensor

-- ---- the refusals of a block by itself, in their order

-- 1: at most four block letters, each of a to z, and none twice
abbrev pub letters_checked : Letters → Result (Unit {0}) BlockFault
letters_checked l = cond (sound_letters l && distinct (letters_of l)) (Ok tt) (Err block.Letters)

-- 22, at the first via place whose destination is stored already
abbrev pub stored_checked : Option ℕ → Result (Unit {0}) BlockFault
stored_checked None = Ok tt
stored_checked (Some k) = Err (block.Stored k)

-- 8: a named block has its destinations one after another
abbrev pub named_checked : Bool → TranslationTo → Result (Unit {0}) BlockFault
named_checked named (Contiguous first end) = Ok tt
named_checked named Listed = cond named (Err block.Listed) (Ok tt)

-- 2, and then 21, 10 and 9 of each node
abbrev pub expression_checked : Result (Unit {0}) ExpressionFault → Result (Unit {0}) BlockFault
expression_checked (Ok u) = Ok tt
expression_checked (Err f) = Err (block.Expression f)

-- the checks of the expression of a block in a tensor
abbrev pub names_checked : List Layout → List VariableRecord → TensorRecord → BlockCall → List Node → Result (Unit {0}) BlockFault
names_checked ls vs t call ns =
    expression_checked (checked (environment ls vs) (ready_but (Some t.variable)) (is_constant t.class) (letters_of call.letters) (rank (slice_index_or ls call.source blank)) ns)

-- 1 and 3 to 7
abbrev pub with_translation : {A : Type 0} → Result Translation TranslationFault → (Translation → Result A BlockFault) → Result A BlockFault
with_translation (Ok t) f = f t
with_translation (Err e) f = Err (block.Translation e)

-- all of them, for the tensor with a number and a record; a block that is refused by none has its translation
abbrev pub block_checked : List Layout → Model → ℕ → TensorRecord → BlockCall → List Node → Result Translation BlockFault
block_checked ls m number t call ns =
    and_then (letters_checked call.letters)
    (with_translation (translated ls call.source call.via call.start t.layout)
    (λ r. and_then (stored_checked (first_clash m.blocks m.indices number (slice_index_or ls call.via blank) call.start (slice_index_or ls t.layout blank)))
    (and_then (named_checked call.named r.to) (and_then (names_checked ls m.variables t call ns) (Ok r)))))

-- ---- what it adds

-- the route of a call, into a tensor with this layout
abbrev pub route_into : ℕ → BlockCall → Route
route_into layout call = record { source = call.source; via = call.via; start = call.start; target = layout }

-- the places of a sparse source, unless they are there
abbrev pub places_new : LayoutKind → Option ℕ → List ℤ → List ℤ
places_new Dense at entries = []
places_new Diagonal at entries = []
places_new Sparse None entries = entries
places_new Sparse (Some at) entries = []

abbrev pub new_places : List Layout → List BlockEntry → ℕ → List ℤ
new_places ls bs source = places_new (get_or ls source blank).kind (placed_at bs source) (place_entries (slice_index_or ls source blank))

-- where they are then
abbrev pub places_then : LayoutKind → Option ℕ → ℕ → Option ℕ
places_then Dense at next = None
places_then Diagonal at next = None
places_then Sparse at next = Some (unwrap_or at next)

-- the binary tables that its names need, and that are not there
abbrev pub new_keys : List Layout → Model → BlockCall → List Node → List TableKey
new_keys ls m call ns = fresh (keys_of m.binaries) (map (needed ls m.variables (letters_of call.letters) call.source) ns)

-- its ranges and listed destinations, unless an earlier block has the same
abbrev pub unless_shared : Option BlockRecord → List ℤ → List ℤ
unless_shared None entries = entries
unless_shared (Some r) entries = []

abbrev pub sharing : Model → BlockCall → TensorRecord → Option BlockRecord
sharing m call t = shared m.blocks call.source call.via call.start t.layout

abbrev pub new_ranges : List Layout → Model → BlockCall → TensorRecord → Translation → List ℤ
new_ranges ls m call t r = unless_shared (sharing m call t) (entries_of ls r call.source call.via call.start t.layout)

abbrev pub new_entries : List Layout → Model → BlockCall → List Node → TensorRecord → Translation → List ℤ
new_entries ls m call ns t r = new_places ls m.blocks call.source ++ (tables ls (new_keys ls m call ns) ++ new_ranges ls m call t r)

-- ---- whether there is room: a record, a variable for a named block, the binary tables, the entries, and for constants scratch

abbrev pub one_if : Bool → ℕ
one_if true = 1
one_if false = 0

abbrev pub block_fits : List Layout → Model → Room → BlockCall → List Node → TensorRecord → Translation → Bool
block_fits ls m room call ns t r =
    ((nat_le 1 (left 256 room.brought.blocks m.counts.used.blocks) && nat_le (one_if call.named) (left 254 room.brought.variables m.counts.used.variables))
    && (nat_le (length (new_keys ls m call ns)) (left 4096 room.brought.binaries m.counts.used.binaries) && nat_le (length (new_entries ls m call ns t r)) (left 4194304 room.brought.indices m.counts.used.indices)))
    && (not (is_constant t.class) || nat_le (count (slice_index_or ls call.source blank)) room.scratch)

-- ---- its values, in a constant tensor: 11 by place and node

abbrev pub values_then : Bool → Result (List Float) ExpressionFault → Result (List Float) StageFault
values_then false r = Ok []
values_then true (Ok xs) = Ok xs
values_then true (Err f) = Err (stage.Block (block.Expression f))

abbrev pub block_values : (ℕ → List Float → Option Float) → List Layout → Model → BlockCall → List Node → TensorRecord → Result (List Float) StageFault
block_values host ls m call ns t =
    values_then (is_constant t.class) (gathered (value_by host ls m.variables m.constants (letters_of call.letters) call.source ns) (count (slice_index_or ls call.source blank)))

-- ---- the outcome: 23, 20, the refusals of the block, 23 and 11; or its translation and its values

pub record Passed : Type 0 where
  pub translation : Translation
  pub values : List Float

abbrev pub with_values : Translation → Result (List Float) StageFault → Result Passed StageFault
with_values r (Ok xs) = Ok (record { translation = r; values = xs })
with_values r (Err f) = Err f

abbrev pub fitted : (ℕ → List Float → Option Float) → List Layout → Model → Room → BlockCall → List Node → TensorRecord → Result Translation BlockFault → Result Passed StageFault
fitted host ls m room call ns t (Err f) = Err (stage.Block f)
fitted host ls m room call ns t (Ok r) = cond (block_fits ls m room call ns t r) (with_values r (block_values host ls m call ns t)) (Err stage.Short)

abbrev pub block_outcome : (ℕ → List Float → Option Float) → List Layout → Model → Room → ℕ → BlockCall → List Node → Result Passed StageFault
block_outcome host ls m room ticket call ns =
    cond (block_short m.counts room) (Err stage.Short)
    (and_then (phased m.counts.opened (incoming.Block ticket))
    (let t = open_tensor m.counts m.tensors in fitted host ls m room call ns t (block_checked ls m (open_number m.counts) t call ns)))

-- ---- what an accepted block leaves

abbrev pub first_place : TranslationTo → ℕ
first_place (Contiguous first end) = first
first_place Listed = 0

abbrev pub plus : Float → Float → Float
plus = add binary64

-- n elements from a position on, changed by f
abbrev pub part_changed : {X : Type 0} → ℕ → ℕ → (List X → List X) → List X → List X
part_changed at n f xs = take at xs ++ (f (take n (drop at xs)) ++ drop (at + n) xs)

module _ (ls : List Layout) (m : Model) (call : BlockCall) (ns : List Node) (p : Passed) where
  abbrev pub target : TensorRecord
  target = open_tensor m.counts m.tensors

  -- where its binary tables begin, and its ranges
  abbrev pub tables_at : ℕ
  tables_at = m.counts.used.indices + length (new_places ls m.blocks call.source)

  abbrev pub ranges_at : ℕ
  ranges_at = unwrap_or (option_map (λ r. r.ranges) (sharing m call target)) (tables_at + length (tables ls (new_keys ls m call ns)))

  abbrev pub new_record : BlockRecord
  new_record = record_of p.translation (slice_index_or ls call.source blank) (slice_index_or ls call.via blank) (slice_index_or ls target.layout blank) ranges_at

  abbrev pub new_block : BlockEntry
  new_block = record {
    tensor = open_number m.counts;
    route = route_into target.layout call;
    places = places_then (get_or ls call.source blank).kind (placed_at m.blocks call.source) m.counts.used.indices;
    read = new_record;
  }

  abbrev pub new_variable : VariableRecord
  new_variable = record { layout = Some call.via; class = target.class; offset = target.offset + first_place p.translation.to }

  abbrev pub indices_then : List ℤ
  indices_then = m.indices ++ new_entries ls m call ns target p.translation

  -- in a constant tensor the reader stores the joins of the values
  abbrev pub constants_then : List Float
  constants_then = cond (is_constant target.class) (part_changed target.offset target.places (followed (join_of plus) new_record indices_then p.values) m.constants) m.constants

  abbrev pub blocked : Model
  blocked = record {
    counts = record {
      opened = m.counts.opened;
      used = record {
        tensors = m.counts.used.tensors;
        blocks = m.counts.used.blocks + 1;
        variables = m.counts.used.variables + one_if call.named;
        binaries = m.counts.used.binaries + length (new_keys ls m call ns);
        constants = m.counts.used.constants;
        «data» = m.counts.used.«data»;
        indices = m.counts.used.indices + length (new_entries ls m call ns target p.translation);
      };
    };
    tensors = m.tensors;
    blocks = m.blocks ++ new_block ∷ [];
    variables = m.variables ++ cond call.named (new_variable ∷ []) [];
    binaries = m.binaries ++ records_from ls tables_at (new_keys ls m call ns);
    constants = constants_then;
    indices = indices_then;
  }
