-- What an opening answers and leaves, and a closing.
use Rattle.std.specs.Prelude.{ℕ, ◌+◌, Bool, cond, ◌&&◌, List, [], ◌∷◌, ◌++◌, replicate, Some, None, Ok, Err, Option, Result, nat_le, slice_index_or}
use Rattle.std.specs.Float.{float_zero as nought}
use Rattle.layout.specs.Layouts.{Layout, blank, count}
use Rattle.translation.specs.Outcome.{known}
use Rattle.names.specs.declared.variable.Class.{Class}
use Rattle.names.specs.declared.variable.Class.TheVariants.{Constant, Data, Unstored}
use Rattle.names.specs.declared.variable.VariableRecord.{VariableRecord}
use Rattle.names.specs.Variables.{class_of}
use Rattle.names.specs.Checks.{and_then}
use Rattle.records.specs.declared.counts.Amounts.{Amounts}
use Rattle.records.specs.declared.counts.Counts.{Counts}
use Rattle.records.specs.declared.counts.Room.{Room}
use Rattle.records.specs.declared.record.TensorRecord.{TensorRecord}
use Rattle.records.specs.Memory.{Model, left, opening_short}
use Rattle.planning.specs.declared.phase.Incoming.TheVariants.{Opening}
use Rattle.planning.specs.declared.fault.StageFault.{StageFault}
use Rattle.planning.specs.declared.fault.StageFault.TheVariants.{Unknown, Short}
use Rattle.planning.specs.Phases.{phased}

-- how many places of the constants, and of the data, a tensor of a class with so many places takes
abbrev pub constants_for : Class → ℕ → ℕ
constants_for Constant places = places
constants_for Data places = 0
constants_for Unstored places = 0

abbrev pub data_for : Class → ℕ → ℕ
data_for Constant places = 0
data_for Data places = places
data_for Unstored places = 0

-- what it adds to each table and buffer
abbrev pub opening_adds : Class → ℕ → Amounts
opening_adds class places = record { tensors = 1; blocks = 0; variables = 1; binaries = 0; constants = constants_for class places; «data» = data_for class places; indices = 0 }

-- where its values begin
abbrev pub offset_for : Class → Counts → ℕ
offset_for Constant n = n.used.constants
offset_for Data n = n.used.«data»
offset_for Unstored n = 0

-- there is a record left for a tensor and for its variable, and the places that it takes
abbrev pub opening_fits : Counts → Room → Class → ℕ → Bool
opening_fits n room class places =
    (nat_le 1 (left 64 room.brought.tensors n.used.tensors) && nat_le 1 (left 254 room.brought.variables n.used.variables))
    && (nat_le (constants_for class places) (left 1048576 room.brought.constants n.used.constants) && nat_le (data_for class places) (left 1048576 room.brought.«data» n.used.«data»))

-- the record of a new tensor; variables 0 and 1 have none
abbrev pub new_tensor : List Layout → Counts → ℕ → Class → TensorRecord
new_tensor ls n layout class = record { layout = layout; places = count (slice_index_or ls layout blank); class = class; offset = offset_for class n; variable = n.used.variables + 2 }

abbrev pub opened_as : List Layout → Counts → Room → ℕ → Option Class → Result TensorRecord StageFault
opened_as ls n room layout None = Err Unknown
opened_as ls n room layout (Some class) =
    cond (known ls layout) (cond (opening_fits n room class (count (slice_index_or ls layout blank))) (Ok (new_tensor ls n layout class)) (Err Short)) (Err Unknown)

-- the outcome of an opening: refusals 23, 20, 1 and 23, in this order, or the new tensor
abbrev pub opening : List Layout → Counts → Room → ℕ → ℕ → Result TensorRecord StageFault
opening ls n room layout class = cond (opening_short n room) (Err Short) (and_then (phased n.opened Opening) (opened_as ls n room layout (class_of class)))

-- the variable of a tensor
abbrev pub variable_for : TensorRecord → VariableRecord
variable_for t = record { layout = Some t.layout; class = t.class; offset = t.offset }

abbrev pub opened_counts : Counts → TensorRecord → Counts
opened_counts n t = record {
  opened = Some t.variable;
  used = record {
    tensors = n.used.tensors + 1;
    blocks = n.used.blocks;
    variables = n.used.variables + 1;
    binaries = n.used.binaries;
    constants = n.used.constants + constants_for t.class t.places;
    «data» = n.used.«data» + data_for t.class t.places;
    indices = n.used.indices;
  };
}

-- what an accepted opening leaves: constants begin at 0.0
abbrev pub opened : Model → TensorRecord → Model
opened m t = record {
  counts = opened_counts m.counts t;
  tensors = m.tensors ++ t ∷ [];
  blocks = m.blocks;
  variables = m.variables ++ variable_for t ∷ [];
  binaries = m.binaries;
  constants = m.constants ++ replicate (constants_for t.class t.places) nought;
  indices = m.indices;
}

abbrev pub closed_counts : Counts → Counts
closed_counts n = record { opened = None; used = n.used }

abbrev pub closed : Model → Model
closed m = record { counts = closed_counts m.counts; tensors = m.tensors; blocks = m.blocks; variables = m.variables; binaries = m.binaries; constants = m.constants; indices = m.indices }
