-- What the tables and buffers hold between calls: the parts in use.
use Rattle.std.specs.Prelude.{ℕ, ◌-◌, min, Bool, ◌||◌, List, [], take, ℤ, None, nat_lt, Float}
use Rattle.translation.specs.declared.kinds.TranslationFrom.TheVariants.{ElementWise}
use Rattle.translation.specs.declared.kinds.TranslationTo.TheVariants.{Listed}
use Rattle.names.specs.declared.variable.Class.TheVariants.{Unstored}
use Rattle.names.specs.declared.variable.VariableRecord.{VariableRecord}
use Rattle.records.specs.declared.counts.Counts.{Counts}
use Rattle.records.specs.declared.counts.Room.{Room}
use Rattle.records.specs.declared.record.TensorRecord.{TensorRecord}
use Rattle.records.specs.declared.record.BlockEntry.{BlockEntry}
use Rattle.records.specs.declared.record.BinaryRecord.{BinaryRecord}

-- how much is in use, and what stands there; of the data nobody asks what they hold
pub record Model : Type 0 where
  pub counts : Counts
  pub tensors : List TensorRecord
  pub blocks : List BlockEntry
  pub variables : List VariableRecord
  pub binaries : List BinaryRecord
  pub constants : List Float
  pub indices : List ℤ

-- the tables and buffers as a call finds or leaves them
pub record Buffers : Type 0 where
  pub tensors : List TensorRecord
  pub blocks : List BlockEntry
  pub variables : List VariableRecord
  pub binaries : List BinaryRecord
  pub constants : List Float
  pub indices : List ℤ

abbrev pub in_use : Counts → Buffers → Model
in_use n b = record {
  counts = n;
  tensors = take n.used.tensors b.tensors;
  blocks = take n.used.blocks b.blocks;
  variables = take n.used.variables b.variables;
  binaries = take n.used.binaries b.binaries;
  constants = take n.used.constants b.constants;
  indices = take n.used.indices b.indices;
}

-- what is left of a table or buffer of which so much is brought, used up to a limit
abbrev pub left : ℕ → ℕ → ℕ → ℕ
left limit brought used = min limit brought - used

-- some part that an opening brings is shorter than what is in use of it: constants, data, tensors or variables
abbrev pub opening_short : Counts → Room → Bool
opening_short n room = (nat_lt room.brought.constants n.used.constants || nat_lt room.brought.«data» n.used.«data») || (nat_lt room.brought.tensors n.used.tensors || nat_lt room.brought.variables n.used.variables)

-- some part that a block brings is: constants, indices, tensors, blocks, variables or binary tables
abbrev pub block_short : Counts → Room → Bool
block_short n room =
    ((nat_lt room.brought.constants n.used.constants || nat_lt room.brought.indices n.used.indices) || (nat_lt room.brought.tensors n.used.tensors || nat_lt room.brought.blocks n.used.blocks))
    || (nat_lt room.brought.variables n.used.variables || nat_lt room.brought.binaries n.used.binaries)

abbrev pub no_tensor : TensorRecord
no_tensor = record { layout = 0; places = 0; class = Unstored; offset = 0; variable = 0 }

abbrev pub no_block : BlockEntry
no_block = record {
  tensor = 0;
  route = record { source = 0; via = 0; start = []; target = 0 };
  places = None;
  read = record { from = ElementWise; to = Listed; via = 0; source = 0; target = 0; ranges = 0; list = 0 };
}

abbrev pub holding : Counts → List TensorRecord → List BlockEntry → List VariableRecord → List BinaryRecord → List Float → List ℤ → Model
holding n ts bs vs ks cs is = record { counts = n; tensors = ts; blocks = bs; variables = vs; binaries = ks; constants = cs; indices = is }
