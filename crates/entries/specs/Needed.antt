-- Which binary tables the names of a block need.
use Rattle.std.specs.Prelude.{ℕ, Bool, true, false, ◌&&◌, List, nat_eq, get_or, Some, None, Option, slice_index_or}
use Rattle.std.specs.Cmp.Lexicographic.{pointwise}
use Rattle.layout.specs.declared.kind.LayoutKind.{LayoutKind}
use Rattle.layout.specs.declared.kind.LayoutKind.TheVariants.{Dense, Diagonal, Sparse}
use Rattle.layout.specs.Places.{same}
use Rattle.layout.specs.Layouts.{Layout, blank, rank}
use Rattle.expression.specs.declared.node.Node.{Node}
use Rattle.expression.specs.declared.node.Node.TheVariants.{Number, Name, Binary, Unary, Call}
use Rattle.expression.specs.Letterings.{letters_of}
use Rattle.names.specs.declared.variable.VariableRecord.{VariableRecord}
use Rattle.names.specs.Reading.{packed, permutation}
use Rattle.names.specs.Tables.{identity_from}
use Rattle.names.specs.Variables.{described}
use Rattle.names.specs.declared.binary_table.TableKey.{TableKey}

-- ---- layouts that are equal

abbrev pub same_kind : LayoutKind → LayoutKind → Bool
same_kind Dense Dense = true
same_kind Dense Diagonal = false
same_kind Dense Sparse = false
same_kind Diagonal Dense = false
same_kind Diagonal Diagonal = true
same_kind Diagonal Sparse = false
same_kind Sparse Dense = false
same_kind Sparse Diagonal = false
same_kind Sparse Sparse = true

abbrev pub same_layout : Layout → Layout → Bool
same_layout l m = same_kind l.kind m.kind && (pointwise nat_eq l.shape m.shape && pointwise same l.places m.places)

-- ---- the table of a name

-- kind, shape and places are equal, and the permutation is the identity: the place's own number counts
abbrev pub own_number : Layout → Layout → List ℕ → Bool
own_number l s slots = same_layout l s && identity_from 0 slots

abbrev pub unless_own : Bool → TableKey → Option TableKey
unless_own true k = None
unless_own false k = Some k

-- a dense name has none
abbrev pub table_by : LayoutKind → Bool → TableKey → Option TableKey
table_by Dense own k = None
table_by Diagonal own k = unless_own own k
table_by Sparse own k = unless_own own k

-- the table of a name with layout n, under a source
abbrev pub named_table : List Layout → ℕ → List ℕ → List ℕ → ℕ → Option TableKey
named_table ls source block name n =
    table_by (get_or ls n blank).kind (own_number (slice_index_or ls n blank) (slice_index_or ls source blank) (permutation (rank (slice_index_or ls n blank)) block name))
    (record { layout = n; source = source; permutation = packed (permutation (rank (slice_index_or ls n blank)) block name) })

abbrev pub layout_table : List Layout → ℕ → List ℕ → List ℕ → Option ℕ → Option TableKey
layout_table ls source block name None = None
layout_table ls source block name (Some n) = named_table ls source block name n

abbrev pub variable_table : List Layout → ℕ → List ℕ → List ℕ → Option VariableRecord → Option TableKey
variable_table ls source block name None = None
variable_table ls source block name (Some r) = layout_table ls source block name r.layout

-- the table that a node needs, if it is a name that needs one
abbrev pub needed : List Layout → List VariableRecord → List ℕ → ℕ → Node → Option TableKey
needed ls rs block source (Number x) = None
needed ls rs block source (Name v l) = variable_table ls source block (letters_of l) (described rs v)
needed ls rs block source (Binary o) = None
needed ls rs block source (Unary o) = None
needed ls rs block source (Call c n) = None
