-- What questions are answered, given the layouts that they are asked of.
use Rattle.std.specs.Prelude.{ℕ, cond, List, [], ◌∷◌, ℤ, pos, Some, None, Ok, Err, Option, Result, nat_lt}
use Rattle.layout.specs.declared.fault.LayoutFault.{LayoutFault}
use Rattle.layout.specs.Answers.{asked, index_of, number_asked, wide_asked}
use Rattle.layout.specs.Layouts.{Layout, count, rank, at}
use Rattle.report.specs.declared.answer.Found.{Found}
use Rattle.report.specs.declared.answer.Found.TheVariants.{Number, Place}
use Rattle.design.specs.declared.ask.Lookup.{Lookup}
use Rattle.design.specs.declared.ask.Lookup.TheVariants.{Wide, Strict}

abbrev pub looked_up : Result (Option ℕ) LayoutFault → Result (Option Found) LayoutFault
looked_up (Ok None) = Ok None
looked_up (Ok (Some n)) = Ok (Some (Number n))
looked_up (Err f) = Err f

abbrev pub lookup_told : Lookup → List Layout → ℕ → List ℤ → Result (Option Found) LayoutFault
lookup_told Wide ls n x = looked_up (wide_asked ls n x)
lookup_told Strict ls n x = looked_up (number_asked ls n x)

abbrev pub place_found : Layout → ℕ → Option Found
place_found l k = cond (nat_lt k (count l)) (Some (Place (rank l) (index_of (at l k)))) None

abbrev pub place_told : List Layout → ℕ → ℕ → Result (Option Found) LayoutFault
place_told ls n k = asked (λ l. place_found l k) ls n

-- the index of a cell of a picture of up to two axes: a picture of one axis has one row
abbrev pub cell_index : ℕ → ℕ → ℕ → List ℤ
cell_index rank row column = cond (nat_lt rank 2) (pos column ∷ pos 0 ∷ pos 0 ∷ pos 0 ∷ []) (pos row ∷ pos column ∷ pos 0 ∷ pos 0 ∷ [])
