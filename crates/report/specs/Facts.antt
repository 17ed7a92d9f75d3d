-- Facts as text: one a line.
use Rattle.std.specs.Prelude.{ℕ, List, [], ◌∷◌, ◌++◌, map, take, Some, None, Ok, Err, Option, Result, codes, decimal}
use Rattle.std.specs.List.{flat_map}
use Rattle.std.specs.Fmt.{signed_decimal}
use Rattle.layout.specs.declared.fault.LayoutFault.{LayoutFault}
use Rattle.layout.specs.declared.fault.Report.{Report}
use Rattle.layout.specs.declared.shape.Shape.{Shape}
use Rattle.layout.specs.Faults.{reported}
use Rattle.layout.specs.Words.{kind_word, layer_word}
use Rattle.report.specs.declared.answer.Found.{Found}
use Rattle.report.specs.declared.answer.Found.TheVariants.{Number, Place}

-- texts with another between them
abbrev pub separated : List ℕ → List (List ℕ) → List ℕ
separated b [] = []
separated b (x ∷ []) = x
separated b (x ∷ y ∷ ys) = x ++ (b ++ separated b (y ∷ ys))

abbrev pub after_blank : ℕ → List ℕ
after_blank n = codes " " ++ decimal n

abbrev pub before_blank : List ℕ → List ℕ
before_blank w = w ++ codes " "

-- layout N KIND shape .. count N
abbrev pub layout_fact : ℕ → Shape → List ℕ
layout_fact n s =
    (codes "layout " ++ (decimal n ++ (codes " " ++ (kind_word s.kind ++ codes " shape"))))
    ++ (flat_map after_blank (take s.rank s.lengths) ++ (codes " count " ++ (decimal s.count ++ codes "\n")))

-- refuse NUMBER LAYER PLACE
abbrev pub refusal_fact : Report → List ℕ
refusal_fact r = codes "refuse " ++ (decimal r.number ++ (codes " " ++ (layer_word r.layer ++ (codes " " ++ decimal r.place))))

abbrev pub found_fact : Found → List ℕ
found_fact (Number n) = decimal n
found_fact (Place r x) = separated (codes " ") (map signed_decimal (take r x))

abbrev pub answer_fact : Result (Option Found) LayoutFault → List ℕ
answer_fact (Ok (Some f)) = found_fact f
answer_fact (Ok None) = codes "none"
answer_fact (Err f) = refusal_fact (reported f)
