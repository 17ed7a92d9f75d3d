-- Words as numbers.
use Rattle.std.specs.Prelude.{ℕ, List, [], ◌∷◌, Ok, Err, Result, slice_index_or}
use Rattle.std.specs.declared.num.IntErrorKind.{IntErrorKind}
use Rattle.std.specs.declared.num.IntErrorKind.TheVariants.{Empty, InvalidDigit, PosOverflow, NegOverflow, Zero}
use Rattle.std.specs.declared.num.ParseIntError.{ParseIntError}
use Rattle.std.specs.Str.Parse.{error_kind}
use Rattle.design.specs.declared.number.NumberFault.{NumberFault}
use Rattle.design.specs.declared.number.NumberFault.TheVariants.{NoNumber, OutOfRange}

-- digits of a number that does not fit, or no number at all
abbrev pub blame : IntErrorKind → NumberFault
blame Empty = NoNumber
blame InvalidDigit = NoNumber
blame PosOverflow = OutOfRange
blame NegOverflow = OutOfRange
blame Zero = NoNumber

abbrev pub blamed : {N : Type 0} → Result N ParseIntError → Result N NumberFault
blamed (Ok n) = Ok n
blamed (Err e) = Err (blame (error_kind e))

-- each word of a list says the number at its place in another
abbrev pub Says : {N : Type 0} → (List ℕ → N → Type 0) → List (List ℕ) → List N → Type 0
Says says [] [] = Unit {0}
Says says [] (n ∷ ns) = ⊥
Says says (w ∷ ws) [] = ⊥
Says says (w ∷ ws) (n ∷ ns) = says w n × Says says ws ns

-- the first four of a list, and d where it has fewer
abbrev pub four : {A : Type 0} → A → List A → List A
four d xs = slice_index_or xs 0 d ∷ slice_index_or xs 1 d ∷ slice_index_or xs 2 d ∷ slice_index_or xs 3 d ∷ []
