use Rattle.std.proofs.Common.{◌≡◌, ◌++◌, map, take, string_bytes}
use Rattle.std.specs.List.{range_with_len, flat_map}
use Rattle.report.specs.Answers.{layout_fact_of, question_fact}
use Rattle.report.proofs.facts.put_facts.Given as goal

abbrev pub invariant-loop-layout : goal.invariant-loop-layout
invariant-loop-layout g l = string_bytes l.out ≡ string_bytes l.initial.out ++ flat_map (λ fact. fact) (map (layout_fact_of (g.C.Catalogue.layouts l.c)) (range_with_len 0 l.layout))

abbrev pub invariant-loop-question : goal.invariant-loop-question
invariant-loop-question g l = string_bytes l.out ≡ string_bytes l.initial.out ++ flat_map (question_fact (g.C.Catalogue.layouts l.c)) (take l.question-index l.questions)
