-- Entries of the index table, part by part.
use Rattle.std.proofs.Common.{◌≡◌, ℕ, ◌+◌, ◌*◌, ◌≤◌, List, [], ◌∷◌, ◌++◌, length, ℤ, Option, sym, refl, ap, ◌∙◌, arith, length-append}
use Rattle.std.proofs.lemmas.List.Edits.{paste-paste}
use Rattle.std.proofs.lemmas.List.FromFn.{length-map-range_with_len}
use lib.Seq.{paste}
use Rattle.layout.specs.Layouts.{Layout}
use Rattle.translation.specs.declared.kinds.TranslationFrom.{TranslationFrom}
use Rattle.translation.specs.declared.kinds.TranslationFrom.TheVariants.{DenseContraction, DiagonalContraction, SparseContraction, ElementWise, Broadcast}
use Rattle.translation.specs.declared.kinds.TranslationTo.{TranslationTo}
use Rattle.translation.specs.declared.kinds.TranslationTo.TheVariants.{Contiguous, Listed}
use Rattle.translation.specs.Tos.{destination_entries}
use Rattle.translation.specs.Cuts.{ranges, range_entries}
use Rattle.translation.specs.Entries.{from_entries, to_entries, from_count, to_count}

pub destinations_long : (d : ℕ → Option ℕ) (n : ℕ) → length (destination_entries d n) ≡ n
destinations_long d n = length-map-range_with_len _ 0 n

pub ranges_long : (rs : List (ℕ × ℕ)) → length (range_entries rs) ≡ 2 * length rs
ranges_long [] = refl
ranges_long (r ∷ rs) = let e = ranges_long rs in omega arith

-- one part after another
pub both_parts : (d e f xs ys : List ℤ) (at mid end : ℕ) → at + length (xs ++ ys) ≤ length d → mid ≡ at + length xs → e ≡ paste d at xs (length xs) → end ≡ mid + length ys → f ≡ paste e mid ys (length ys) → (end ≡ at + length (xs ++ ys)) × (f ≡ paste d at (xs ++ ys) (length (xs ++ ys)))
both_parts d e f xs ys at mid end room em ee en ef =
    let l = length-append xs ys in (
      omega arith,
      ef ∙ ap (λ y. paste y mid ys (length ys)) ee ∙ ap (λ m. paste (paste d at xs (length xs)) m ys (length ys)) em
          ∙ paste-paste d at xs ys (length xs) (length ys) refl refl (omega arith) ∙ ap (paste d at (xs ++ ys)) (sym l),
    )

-- as many entries as are counted, where the ranges are as many as the elements
pub from_long : (f : TranslationFrom) (s : Layout) (v n : ℕ) → ((by : ℕ) → f ≡ SparseContraction by → length (ranges v s) ≡ n) → length (from_entries f s v) ≡ from_count f n
from_long (DenseContraction by long) s v n h = refl
from_long (DiagonalContraction by) s v n h = refl
from_long (SparseContraction by) s v n h = ranges_long (ranges v s) ∙ ap (λ y. 2 * y) (h by refl)
from_long ElementWise s v n h = refl
from_long (Broadcast by long) s v n h = refl

pub to_long : (to : TranslationTo) (d : ℕ → Option ℕ) (n : ℕ) → length (to_entries to d n) ≡ to_count to n
to_long (Contiguous first end) d n = refl
to_long Listed d n = destinations_long d n
