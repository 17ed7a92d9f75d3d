-- The variables that records stand for, and what a name is.
use Rattle.std.specs.Prelude.{ℕ, zero, suc, ◌-◌, Bool, true, false, cond, not, ◌||◌, List, [], length, take, drop, ℤ, Some, None, Option, ◌==◌, nat_lt, slice_index_or, Float}
use Rattle.std.specs.Float.{float_zero}
use Rattle.std.specs.Option.{option_map}
use Rattle.layout.specs.Layouts.{Layout, blank, count}
use Rattle.expression.specs.declared.node.Letters.{Letters}
use Rattle.expression.specs.Letterings.{letters_of}
use Rattle.names.specs.declared.variable.Class.{Class}
use Rattle.names.specs.declared.variable.Class.TheVariants.{Constant, Data, Unstored}
use Rattle.names.specs.declared.variable.VariableRecord.{VariableRecord}
use Rattle.names.specs.Reading.{element, picked}

pub record Variable : Type 0 where
  pub layout : Layout
  pub class : Class

abbrev pub is_constant : Class → Bool
is_constant Constant = true
is_constant Data = false
is_constant Unstored = false

-- the class with a number: 0 constant, 1 data, 2 unstored
abbrev pub class_of : ℕ → Option Class
class_of zero = Some Constant
class_of (suc zero) = Some Data
class_of (suc (suc zero)) = Some Unstored
class_of (suc (suc (suc n))) = None

-- what a name is, by the variables of env and their values: 0.0 where there is no variable or no element
abbrev pub read_of : List Float → List ℕ → List ℤ → List ℕ → Option Variable → Float
read_of vs block x name None = float_zero
read_of vs block x name (Some v) = picked vs (element v.layout block x name)

abbrev pub reading : (ℕ → Option Variable) → (ℕ → List Float) → List ℕ → List ℤ → ℕ → Letters → Float
reading env values block x v l = read_of (values v) block x (letters_of l) (env v)

-- ---- by records

-- a layout of the list, or the scalar
abbrev pub layout_of : List Layout → Option ℕ → Layout
layout_of ls None = blank
layout_of ls (Some n) = slice_index_or ls n blank

-- t and N, variables 0 and 1, have no record: they are scalars, and not constant
abbrev pub unrecorded : VariableRecord
unrecorded = record { layout = None; class = Unstored; offset = 0 }

-- record i is that of variable i + 2
abbrev pub recorded : List VariableRecord → ℕ → Option VariableRecord
recorded rs v = cond (nat_lt v 2) None (cond (nat_lt (v - 2) (length rs)) (Some (slice_index_or rs (v - 2) unrecorded)) None)

abbrev pub described : List VariableRecord → ℕ → Option VariableRecord
described rs v = cond (nat_lt v 2) (Some unrecorded) (recorded rs v)

abbrev pub variable_of : List Layout → VariableRecord → Variable
variable_of ls r = record { layout = layout_of ls r.layout; class = r.class }

abbrev pub environment : List Layout → List VariableRecord → ℕ → Option Variable
environment ls rs v = option_map (variable_of ls) (described rs v)

-- the values are as many as the layout has places, from the offset on
abbrev pub values_of : List Layout → List Float → VariableRecord → List Float
values_of ls constants r = take (count (layout_of ls r.layout)) (drop r.offset constants)

abbrev pub values_by : List Layout → List Float → Option VariableRecord → List Float
values_by ls constants None = []
values_by ls constants (Some r) = values_of ls constants r

abbrev pub values : List Layout → List Float → List VariableRecord → ℕ → List Float
values ls constants rs v = values_by ls constants (recorded rs v)

-- what a name is by layouts, records and constants
abbrev pub read_by : List Layout → List VariableRecord → List Float → List ℕ → List ℤ → ℕ → Letters → Float
read_by ls rs constants = reading (environment ls rs) (values ls constants rs)

-- what names are read from: layouts, records, constants, the block's letters, and the source place as an index
pub record Readable : Type 0 where
  pub layouts : List Layout
  pub variables : List VariableRecord
  pub constants : List Float
  pub block : List ℕ
  pub place : List ℤ

abbrev pub read_from : Readable → ℕ → Letters → Float
read_from r = read_by r.layouts r.variables r.constants r.block r.place

-- every variable is ready but that of the open tensor, which has a record
abbrev pub ready_but : Option ℕ → ℕ → Bool
ready_but None v = true
ready_but (Some opened) v = nat_lt v 2 || not (v == opened)
