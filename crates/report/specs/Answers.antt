-- Facts of a design: one a layout, and then one a question.
use Rattle.std.specs.Prelude.{ℕ, List, ◌++◌, map, length, codes, slice_index_or}
use Rattle.std.specs.List.{range_with_len, flat_map}
use Rattle.layout.specs.Answers.{shape_of}
use Rattle.layout.specs.Layouts.{Layout, blank}
use Rattle.design.specs.declared.ask.Ask.{Ask}
use Rattle.design.specs.declared.ask.Ask.TheVariants as ask
use Rattle.design.specs.declared.ask.Question.{Question}
use Rattle.design.specs.Texts.{words}
use Rattle.report.specs.Facts.{before_blank, layout_fact, answer_fact}
use Rattle.report.specs.Told.{lookup_told, place_told}
use Rattle.report.specs.Translations.{from_told, trans_told}

-- what a question is answered
abbrev pub asked_fact : List Layout → Ask → List ℕ
asked_fact ls (ask.Lookup how n e) = answer_fact (lookup_told how ls n e.index)
asked_fact ls (ask.Place n k) = answer_fact (place_told ls n k)
asked_fact ls (ask.From s v) = from_told ls s v
asked_fact ls (ask.Trans s v t e) = trans_told ls s v e.index t

-- the words of a question, and its answer
abbrev pub question_fact : List Layout → Question → List ℕ
question_fact ls q = flat_map before_blank (words q.text.now) ++ (codes "-> " ++ (asked_fact ls q.ask ++ codes "\n"))

-- the fact of layout n
abbrev pub layout_fact_of : List Layout → ℕ → List ℕ
layout_fact_of ls n = layout_fact n (shape_of (slice_index_or ls n blank))

abbrev pub facts : List Layout → List Question → List ℕ
facts ls qs = flat_map (λ fact. fact) (map (layout_fact_of ls) (range_with_len 0 (length ls))) ++ flat_map (question_fact ls) qs
