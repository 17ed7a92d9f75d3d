-- Facts of translations as text.
use Rattle.std.specs.Prelude.{ℕ, List, [], ◌∷◌, ◌++◌, map, take, drop, ℤ, pos, Ok, Err, codes, decimal, Result, slice_index_or}
use Rattle.std.specs.Fmt.{signed_decimal}
use Rattle.layout.specs.Layouts.{Layout, blank, count}
use Rattle.translation.specs.declared.kinds.Translation.{Translation}
use Rattle.translation.specs.declared.kinds.TranslationFault.{TranslationFault}
use Rattle.translation.specs.declared.kinds.TranslationFrom.{TranslationFrom}
use Rattle.translation.specs.declared.kinds.TranslationFrom.TheVariants.{DenseContraction, DiagonalContraction, SparseContraction, ElementWise, Broadcast}
use Rattle.translation.specs.declared.kinds.TranslationTo.{TranslationTo}
use Rattle.translation.specs.declared.kinds.TranslationTo.TheVariants.{Contiguous, Listed}
use Rattle.translation.specs.Entries.{entries_of, from_count}
use Rattle.translation.specs.Faults.{reported}
use Rattle.translation.specs.Outcome.{translated, from_asked}
use Rattle.report.specs.Facts.{separated, refusal_fact}

-- KIND by AXES length LENGTH, as far as the kind has them
abbrev pub kind_fact : TranslationFrom → List ℕ
kind_fact (DenseContraction by long) = codes "dense-contraction" ++ (codes " by " ++ (decimal by ++ (codes " length " ++ decimal long)))
kind_fact (DiagonalContraction by) = codes "diagonal-contraction" ++ (codes " by " ++ decimal by)
kind_fact (SparseContraction by) = codes "sparse-contraction" ++ (codes " by " ++ decimal by)
kind_fact ElementWise = codes "element-wise"
kind_fact (Broadcast by long) = codes "broadcast" ++ (codes " by " ++ (decimal by ++ (codes " length " ++ decimal long)))

-- START END .., or none
abbrev pub ranges_fact : List ℤ → List ℕ
ranges_fact [] = codes "none"
ranges_fact (x ∷ xs) = separated (codes " ") (map signed_decimal (x ∷ xs))

-- where the elements go
abbrev pub destinations_fact : TranslationTo → List ℤ → List ℕ
destinations_fact (Contiguous first end) xs = codes "contiguous " ++ (decimal first ++ (codes " " ++ decimal end))
destinations_fact Listed xs = codes "listed " ++ separated (codes " ") (map signed_decimal xs)

abbrev pub origin_index : List ℤ
origin_index = pos 0 ∷ pos 0 ∷ pos 0 ∷ pos 0 ∷ []

-- a kind with its ranges, which are all its entries
abbrev pub from_fact : List Layout → ℕ → ℕ → Result TranslationFrom TranslationFault → List ℕ
from_fact ls source via (Err f) = refusal_fact (reported f)
from_fact ls source via (Ok f) =
    kind_fact f ++ (codes " ranges " ++ ranges_fact (entries_of ls (record { from = f; to = Contiguous 0 0; elements = count (slice_index_or ls via blank) }) source via origin_index via))

-- a translation with its ranges, the first of its entries, and its destinations, the others
abbrev pub trans_fact : List Layout → ℕ → ℕ → List ℤ → ℕ → Result Translation TranslationFault → List ℕ
trans_fact ls source via start target (Err f) = refusal_fact (reported f)
trans_fact ls source via start target (Ok t) =
    kind_fact t.from
    ++ (codes " ranges " ++ (ranges_fact (take (from_count t.from t.elements) (entries_of ls t source via start target))
    ++ (codes " dest " ++ destinations_fact t.to (drop (from_count t.from t.elements) (entries_of ls t source via start target)))))

abbrev pub from_told : List Layout → ℕ → ℕ → List ℕ
from_told ls source via = from_fact ls source via (from_asked ls source via)

abbrev pub trans_told : List Layout → ℕ → ℕ → List ℤ → ℕ → List ℕ
trans_told ls source via start target = trans_fact ls source via start target (translated ls source via start target)
