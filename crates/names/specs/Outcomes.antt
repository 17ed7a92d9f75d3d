-- What becomes of an expression at a source place, and at all of them.
use Rattle.std.specs.Prelude.{◌≡◌, ℕ, zero, suc, Bool, true, cond, List, [], ◌∷◌, ◌++◌, length, drop, Ok, Err, Option, Result, nat_le, slice_index_or, Float}
use Rattle.layout.specs.Layouts.{Layout, blank, count, rank, at}
use Rattle.layout.specs.Answers.{index_of}
use Rattle.expression.specs.declared.node.Letters.{Letters}
use Rattle.expression.specs.declared.node.Node.{Node}
use Rattle.expression.specs.declared.fault.ExpressionFault.{ExpressionFault}
use Rattle.expression.specs.declared.fault.ExpressionFault.TheVariants as fault
use Rattle.expression.specs.Letterings.{letters_of}
use Rattle.expression.specs.Values.{node_value, evaluated}
use Rattle.names.specs.declared.fault.NamesFault.{NamesFault}
use Rattle.names.specs.declared.fault.NamesFault.TheVariants.{Expression, NoRoom}
use Rattle.names.specs.declared.variable.VariableRecord.{VariableRecord}
use Rattle.names.specs.Variables.{Variable, reading, environment, values, ready_but}
use Rattle.names.specs.Checks.{and_then, checked}

-- a node without a value is one that the host has none for
abbrev pub by_host : Result Float ℕ → Result Float ExpressionFault
by_host (Ok x) = Ok x
by_host (Err i) = Err (fault.NoHostValue i)

-- the value at place k of a source s, or the node that the host has no value for
abbrev pub value_at : (ℕ → List Float → Option Float) → (ℕ → Option Variable) → (ℕ → List Float) → List ℕ → Layout → List Node → ℕ → Result Float ExpressionFault
value_at host env vals block s ns k = by_host (evaluated (node_value host (reading env vals block (index_of (at s k)))) ns)

-- by layouts, records, constants and the source's number
abbrev pub value_by : (ℕ → List Float → Option Float) → List Layout → List VariableRecord → List Float → List ℕ → ℕ → List Node → ℕ → Result Float ExpressionFault
value_by host ls rs constants block source ns = value_at host (environment ls rs) (values ls constants rs) block (slice_index_or ls source blank) ns

-- an expression and what it is evaluated by but the host: layouts, records, constants, the block's letters, and the source
pub record Evaluable : Type 0 where
  pub layouts : List Layout
  pub variables : List VariableRecord
  pub constants : List Float
  pub block : List ℕ
  pub source : Layout
  pub nodes : List Node

abbrev pub value_of : (ℕ → List Float → Option Float) → Evaluable → ℕ → Result Float ExpressionFault
value_of host e = value_at host (environment e.layouts e.variables) (values e.layouts e.constants e.variables) e.block e.source e.nodes

-- in a constant block: what a check refuses, or the value
abbrev pub outcome : (ℕ → List Float → Option Float) → (ℕ → Option Variable) → (ℕ → List Float) → (ℕ → Bool) → List ℕ → Layout → List Node → ℕ → Result Float ExpressionFault
outcome host env vals ready block s ns k = and_then (checked env ready true block (rank s) ns) (value_at host env vals block s ns k)

-- by layouts, records, the open tensor's variable, constants, letters and the source's number
abbrev pub outcome_of : (ℕ → List Float → Option Float) → List Layout → List VariableRecord → Option ℕ → List Float → Letters → ℕ → List Node → ℕ → Result Float ExpressionFault
outcome_of host ls rs opened constants l source ns k =
    outcome host (environment ls rs) (values ls constants rs) (ready_but opened) (letters_of l) (slice_index_or ls source blank) ns k

-- ---- at all places

abbrev pub followed : {A E : Type 0} → Result (List A) E → Result A E → Result (List A) E
followed (Ok xs) (Ok x) = Ok (xs ++ x ∷ [])
followed (Ok xs) (Err e) = Err e
followed (Err e) r = Err e

-- what f gives at 0, 1 and so on, n times, or the first fault
abbrev pub gathered : {A E : Type 0} → (ℕ → Result A E) → ℕ → Result (List A) E
gathered f zero = Ok []
gathered f (suc n) = followed (gathered f n) (f n)

abbrev pub by_expression : {A : Type 0} → Result A ExpressionFault → Result A NamesFault
by_expression (Ok x) = Ok x
by_expression (Err e) = Err (Expression e)

-- in a constant block: what a check refuses, or no room for as many values as the source has places, or the values
abbrev pub outcomes : (ℕ → List Float → Option Float) → (ℕ → Option Variable) → (ℕ → List Float) → (ℕ → Bool) → List ℕ → Layout → List Node → ℕ → Result (List Float) NamesFault
outcomes host env vals ready block s ns room =
    and_then (by_expression (checked env ready true block (rank s) ns))
    (cond (nat_le (count s) room) (by_expression (gathered (value_at host env vals block s ns) (count s))) (Err NoRoom))

abbrev pub outcomes_of : (ℕ → List Float → Option Float) → List Layout → List VariableRecord → Option ℕ → List Float → Letters → ℕ → List Node → ℕ → Result (List Float) NamesFault
outcomes_of host ls rs opened constants l source ns room =
    outcomes host (environment ls rs) (values ls constants rs) (ready_but opened) (letters_of l) (slice_index_or ls source blank) ns room

-- The answer to a call that is to write xs in front: it is given where xs are, and they stand there, with the rest as it was; refused otherwise.
abbrev pub PutInFront : {A E : Type 0} → Result (List A) E → List A → List A → Result (Unit {0}) E → Type 0
PutInFront (Ok xs) before after r = (r ≡ Ok tt) × (after ≡ xs ++ drop (length xs) before)
PutInFront (Err e) before after r = r ≡ Err e
