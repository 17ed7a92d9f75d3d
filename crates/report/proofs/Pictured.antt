-- The picture of a layout that is asked for by its number.
use Rattle.std.proofs.Common.{◌≡◌, ℕ, Bool, true, false, List, [], length, cond, nat_lt, slice_index_or, Ok, Err, Result, refl}
use Rattle.layout.specs.declared.fault.LayoutFault.{LayoutFault}
use Rattle.layout.specs.declared.fault.LayoutFault.TheVariants.{Unknown}
use Rattle.layout.specs.Layouts.{Layout, blank}
use Rattle.layout.specs.Answers.{asked}
use Rattle.report.specs.Pictures.{picture_text, picture_asked}

found : (t : Bool) (l x : Layout) (r : Result Layout LayoutFault) → r ≡ Ok l → r ≡ cond t (Ok x) (Err Unknown) → picture_text l ≡ cond t (picture_text x) []
found true l x r is e = cc
found false l x r is e = absurd cc

pub picture_found : (ls : List Layout) (n : ℕ) (l : Layout) → Ok l ≡ asked (λ m. m) ls n → picture_text l ≡ picture_asked ls n
picture_found ls n l e = found (nat_lt n (length ls)) l (slice_index_or ls n blank) (Ok l) refl e
