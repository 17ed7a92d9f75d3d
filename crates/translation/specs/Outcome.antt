-- The single outcome of a translation.
use Rattle.std.specs.Prelude.{ℕ, min, Bool, true, cond, ◌&&◌, List, length, ℤ, Some, None, Ok, Err, Option, Result, ◌==◌, nat_lt, slice_index_or}
use Rattle.layout.specs.Layouts.{Layout, blank, count, rank}
use Rattle.layout.specs.Answers.{shape_of}
use Rattle.translation.specs.declared.kinds.TranslationFrom.{TranslationFrom}
use Rattle.translation.specs.declared.kinds.TranslationFrom.TheVariants.{DenseContraction, DiagonalContraction, SparseContraction, ElementWise, Broadcast}
use Rattle.translation.specs.declared.kinds.TranslationTo.{TranslationTo}
use Rattle.translation.specs.declared.kinds.Translation.{Translation}
use Rattle.translation.specs.declared.kinds.TranslationFault.{TranslationFault}
use Rattle.translation.specs.declared.kinds.TranslationFault.TheVariants.{Unknown, Start, NoTranslation, Elements, Uncovered, NoDestination}
use Rattle.translation.specs.Froms.{from_of, elements_of}
use Rattle.translation.specs.Tos.{start_refused, destination, to_of}
use Rattle.translation.specs.Cuts.{covered, ranges}

-- how many elements a source makes for a via
abbrev pub elements_made : TranslationFrom → Layout → Layout → ℕ
elements_made f s v = elements_of f (count s) (length (ranges (rank v) s))

abbrev pub led : TranslationFrom → ℕ → Result TranslationTo ℕ → Result Translation TranslationFault
led f n (Ok to) = Ok record { from = f; to = to; elements = n }
led f n (Err k) = Err (NoDestination k)

-- refusals 5, 6 and 7, in this order
abbrev pub translated_by : Option TranslationFrom → Layout → Layout → List ℤ → Layout → Result Translation TranslationFault
translated_by None s v x t = Err NoTranslation
translated_by (Some f) s v x t =
    cond (elements_made f s v == count v)
    (cond (covered (min (rank s) (rank v)) s v) (led f (elements_made f s v) (to_of (destination v x t) (count v))) (Err Uncovered))
    (Err Elements)

-- refusals 3 and 4 before them
abbrev pub translating : Layout → Layout → List ℤ → Layout → Result Translation TranslationFault
translating s v x t = cond (start_refused (rank v) x (rank t)) (Err Start) (translated_by (from_of (shape_of s) (shape_of v)) s v x t)

abbrev pub known : List Layout → ℕ → Bool
known ls n = nat_lt n (length ls)

-- refusal 1 before all else
abbrev pub translated : List Layout → ℕ → ℕ → List ℤ → ℕ → Result Translation TranslationFault
translated ls source via start target =
    cond (known ls source && (known ls via && known ls target)) (translating (slice_index_or ls source blank) (slice_index_or ls via blank) start (slice_index_or ls target blank)) (Err Unknown)

-- the ranges of a sparse contraction are as many as the via's places
abbrev pub ranges_fit : TranslationFrom → Layout → Layout → Bool
ranges_fit (DenseContraction by long) s v = true
ranges_fit (DiagonalContraction by) s v = true
ranges_fit (SparseContraction by) s v = length (ranges (rank v) s) == count v
ranges_fit ElementWise s v = true
ranges_fit (Broadcast by long) s v = true

-- how a source makes the elements of a via by itself: refusals 1 and 4, and 5 where ranges and places differ in number
abbrev pub or_refused : Option TranslationFrom → Layout → Layout → Result TranslationFrom TranslationFault
or_refused None s v = Err NoTranslation
or_refused (Some f) s v = cond (ranges_fit f s v) (Ok f) (Err Elements)

abbrev pub from_between : Layout → Layout → Result TranslationFrom TranslationFault
from_between s v = or_refused (from_of (shape_of s) (shape_of v)) s v

abbrev pub from_asked : List Layout → ℕ → ℕ → Result TranslationFrom TranslationFault
from_asked ls source via = cond (known ls source && known ls via) (from_between (slice_index_or ls source blank) (slice_index_or ls via blank)) (Err Unknown)
