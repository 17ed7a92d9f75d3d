-- What a design is answered, or refused for.
use Rattle.std.specs.Prelude.{◌≡◌, ℕ, ◌<◌, List, ◌++◌, map, length, get_or, vec_items, slice_index_or}
use Rattle.layout.specs.declared.fault.LayoutFault.TheVariants.{Faulty}
use Rattle.layout.specs.declared.fault.Rule.{Rule}
use Rattle.layout.specs.Layouts.{Layout, blank, rank}
use Rattle.table.specs.declared.record.LayoutRecord.{LayoutRecord}
use Rattle.table.specs.Records.{FirstFaulty, table_layouts, no_record}
use Rattle.design.specs.declared.ask.Ask.{Ask}
use Rattle.design.specs.declared.ask.Ask.TheVariants as ask
use Rattle.design.specs.declared.ask.Entries.{Entries}
use Rattle.design.specs.declared.ask.Question.{Question}
use Rattle.design.specs.declared.fault.Fault.{Fault}
use Rattle.design.specs.declared.fault.Fault.TheVariants as fault
use Rattle.design.specs.declared.layout_line.LayoutLine.{LayoutLine}
use Rattle.design.specs.declared.read.Design.{Design}
use Rattle.report.specs.declared.run.Form.{Form}
use Rattle.report.specs.declared.run.Form.TheVariants.{Report, Facts}
use Rattle.report.specs.Answers.{facts}

-- the layouts of a design
abbrev pub records : List LayoutLine → List LayoutRecord
records = map (λ l. l.layout)

abbrev pub layouts_of : Design → List Layout
layouts_of d = table_layouts (vec_items d.pool) (records (vec_items d.layouts))

-- an index has an entry for each axis of layout n, where there is such a layout
abbrev pub EachAxis : List Layout → ℕ → Entries → Type 0
EachAxis ls n e = n < length ls → e.count ≡ rank (slice_index_or ls n blank)

abbrev pub Matched : List Layout → Ask → Type 0
Matched ls (ask.Lookup how n e) = EachAxis ls n e
Matched ls (ask.Place n k) = Unit {0}
Matched ls (ask.From s v) = Unit {0}
Matched ls (ask.Trans s v t e) = Unit {0}

abbrev pub line_of : List LayoutLine → ℕ → LayoutLine
line_of lines n = get_or lines n (record { line = 0; layout = no_record })

-- the fault of layout n, which breaks a rule, with its line and its kind
abbrev pub rule_fault : List LayoutLine → ℕ → Rule → Fault
rule_fault lines n rule = fault.Layout (line_of lines n).line n (record { kind = (line_of lines n).layout.kind; rule = rule })

-- that of the first layout that breaks a rule
abbrev pub RuleTold : List LayoutLine → List ℕ → Fault → Type 0
RuleTold lines pool f =
    (n : ℕ) × (rule : Rule) × FirstFaulty pool (records lines) (Faulty n rule)
    × (f ≡ rule_fault lines n rule)

-- facts are told to the letter
abbrev pub Told : Form → List Layout → List Question → List ℕ → List ℕ → Type 0
Told Report ls qs before after = Unit {0}
Told Facts ls qs before after = after ≡ before ++ facts ls qs
