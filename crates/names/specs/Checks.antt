-- Which names may stand in a block: node by node, a variable that is absent or not ready, one that is not constant in a constant block, and letters.
use Rattle.std.specs.Prelude.{ℕ, ◌+◌, Bool, true, cond, not, ◌&&◌, ◌||◌, List, [], ◌∷◌, length, Some, None, Ok, Err, Option, Result, ◌==◌, nat_le, nat_lt}
use Rattle.layout.specs.declared.kind.LayoutKind.{LayoutKind}
use Rattle.layout.specs.declared.kind.LayoutKind.TheVariants.{Dense, Diagonal, Sparse}
use Rattle.layout.specs.Layouts.{Layout, rank}
use Rattle.expression.specs.declared.node.Node.{Node}
use Rattle.expression.specs.declared.node.Node.TheVariants.{Number, Name, Binary, Unary, Call}
use Rattle.expression.specs.declared.fault.ExpressionFault.{ExpressionFault}
use Rattle.expression.specs.declared.fault.ExpressionFault.TheVariants as fault
use Rattle.expression.specs.Letterings.{letters_of, distinct}
use Rattle.expression.specs.Nodes.{well_formed}
use Rattle.names.specs.Reading.{permutation}
use Rattle.names.specs.declared.variable.VariableRecord.{VariableRecord}
use Rattle.names.specs.Variables.{Variable, is_constant, environment, ready_but}

-- ---- letters

-- each slot below the rank r, from entry i on, has an entry of the source, whose rank is s
abbrev pub supplied : ℕ → ℕ → ℕ → List ℕ → Bool
supplied s r i [] = true
supplied s r i (p ∷ ps) = (nat_le r p || nat_lt i s) && supplied s r (i + 1) ps

abbrev pub fitting_slots : ℕ → ℕ → List ℕ → Bool
fitting_slots s r slots = nat_le (length slots) (s + 1) && supplied s r 0 slots

abbrev pub fitting_by : LayoutKind → ℕ → ℕ → List ℕ → List ℕ → Bool
fitting_by Dense s r block name = length name == r || length name == 0
fitting_by Diagonal s r block name = (length name == r && distinct name) && fitting_slots s r (permutation r block name)
fitting_by Sparse s r block name = (length name == r && distinct name) && fitting_slots s r (permutation r block name)

-- As many letters as the rank or, if dense, none; for other names none twice, a permutation of at most one more than the source's rank s, and no entry that the source lacks.
abbrev pub fitting : Layout → ℕ → List ℕ → List ℕ → Bool
fitting l s block name = fitting_by l.kind s (rank l) block name

-- ---- names

abbrev pub Verdict : Type 0
Verdict = Result (Unit {0}) ExpressionFault

-- where the first passes, the second counts
abbrev pub and_then : {A E : Type 0} → Result (Unit {0}) E → Result A E → Result A E
and_then (Ok u) r = r
and_then (Err e) r = Err e

-- node i is a name with letters; the variable is there or not, and ready or not; constant says whether the block is
abbrev pub variable_check : Bool → List ℕ → ℕ → ℕ → List ℕ → Bool → Option Variable → Verdict
variable_check constant block s i name ready None = Err (fault.NotReady i)
variable_check constant block s i name ready (Some v) =
    cond ready
    (cond (constant && not (is_constant v.class)) (Err (fault.NotConstant i)) (cond (fitting v.layout s block name) (Ok tt) (Err (fault.Letters i))))
    (Err (fault.NotReady i))

abbrev pub node_check : (ℕ → Option Variable) → (ℕ → Bool) → Bool → List ℕ → ℕ → ℕ → Node → Verdict
node_check env ready constant block s i (Number x) = Ok tt
node_check env ready constant block s i (Name v l) = variable_check constant block s i (letters_of l) (ready v) (env v)
node_check env ready constant block s i (Binary o) = Ok tt
node_check env ready constant block s i (Unary o) = Ok tt
node_check env ready constant block s i (Call c n) = Ok tt

-- from node i on, in order
abbrev pub names_check : (ℕ → Option Variable) → (ℕ → Bool) → Bool → List ℕ → ℕ → ℕ → List Node → Verdict
names_check env ready constant block s i [] = Ok tt
names_check env ready constant block s i (n ∷ ns) = and_then (node_check env ready constant block s i n) (names_check env ready constant block s (i + 1) ns)

-- malformed, or the first fault of a name
abbrev pub checked : (ℕ → Option Variable) → (ℕ → Bool) → Bool → List ℕ → ℕ → List Node → Verdict
checked env ready constant block s ns = cond (well_formed ns) (names_check env ready constant block s 0 ns) (Err fault.Malformed)

-- ---- by records

-- what the names of an expression in a block are checked by: layouts, records, the open tensor's variable, whether the block is constant, its letters, and the source's rank
pub record Setting : Type 0 where
  pub layouts : List Layout
  pub variables : List VariableRecord
  pub opened : Option ℕ
  pub constant : Bool
  pub block : List ℕ
  pub rank : ℕ

-- a variable with letters, at node i
abbrev pub name_verdict : Setting → ℕ → ℕ → List ℕ → Verdict
name_verdict s i v name = variable_check s.constant s.block s.rank i name (ready_but s.opened v) (environment s.layouts s.variables v)

abbrev pub node_verdict : Setting → ℕ → Node → Verdict
node_verdict s = node_check (environment s.layouts s.variables) (ready_but s.opened) s.constant s.block s.rank

abbrev pub names_verdict : Setting → List Node → Verdict
names_verdict s = names_check (environment s.layouts s.variables) (ready_but s.opened) s.constant s.block s.rank 0
