-- Pictures of layouts as text.
use Rattle.std.specs.Prelude.{ℕ, ◌-◌, ◌&&◌, List, [], ◌++◌, map, length, min, take, replicate, if◌then◌else◌, Some, None, Option, codes, decimal, nat_le, nat_lt, ◌==◌, slice_index_or}
use Rattle.std.specs.List.{range_with_len, flat_map}
use Rattle.std.specs.Fmt.{signed_decimal}
use Rattle.layout.specs.Answers.{index_of}
use Rattle.layout.specs.Layouts.{Layout, blank, count, rank, at, strict}
use Rattle.layout.specs.Places.{axis}
use Rattle.report.specs.Facts.{separated}
use Rattle.report.specs.Told.{cell_index}

-- the texts of the numbers below n, one after another
abbrev pub each_below : ℕ → (ℕ → List ℕ) → List ℕ
each_below n f = flat_map (λ t. t) (map f (range_with_len 0 n))

-- a text on the right of w columns
abbrev pub on_the_right : ℕ → List ℕ → List ℕ
on_the_right w t = replicate (w - length t) 32 ++ t

-- how many digits the numbers below n have at most, for n up to 1000; a layout that is drawn has at most 256 places
abbrev pub width_of : ℕ → ℕ
width_of n = if nat_le n 10 then 1 else (if nat_le n 100 then 2 else 3)

-- a blank, and on the right of w characters the number of a place, or a dot where there is none
abbrev pub cell_text : ℕ → Option ℕ → List ℕ
cell_text w (Some n) = codes " " ++ on_the_right w (decimal n)
cell_text w None = codes " " ++ on_the_right w (codes ".")

-- the cell at a row and a column
abbrev pub cell_at : Layout → ℕ → ℕ → List ℕ
cell_at l row column = cell_text (width_of (count l)) (strict l (cell_index (rank l) row column))

-- a row of so many cells
abbrev pub row_text : Layout → ℕ → ℕ → List ℕ
row_text l columns row = codes "   " ++ (each_below columns (cell_at l row) ++ codes "\n")

-- rows of cells; one line instead where there are more than 16 rows or columns
abbrev pub grid_text : Layout → ℕ → ℕ → List ℕ
grid_text l rows columns = if nat_le rows 16 && nat_le columns 16 then each_below rows (row_text l columns) else codes "    too large to draw\n"

-- place K: (ENTRY, ..)
abbrev pub place_text : Layout → ℕ → List ℕ
place_text l k = codes "    place " ++ (decimal k ++ (codes ": (" ++ (separated (codes ", ") (map signed_decimal (take (rank l) (index_of (at l k)))) ++ codes ")\n")))

-- how many of n places are not listed, if any
abbrev pub more_text : ℕ → List ℕ
more_text n = if nat_lt 32 n then codes "    .. and " ++ (decimal (n - 32) ++ codes " more\n") else []

-- the first 32 places, and how many more there are
abbrev pub list_text : Layout → List ℕ
list_text l = each_below (min (count l) 32) (place_text l) ++ more_text (count l)

-- up to two axes are drawn, none or one as one row; the places of more are listed
abbrev pub picture_text : Layout → List ℕ
picture_text l = if nat_lt (rank l) 2 then grid_text l 1 (axis l.shape 0) else (if rank l == 2 then grid_text l (axis l.shape 0) (axis l.shape 1) else list_text l)

-- the picture of layout n, and nothing where there is none
abbrev pub picture_asked : List Layout → ℕ → List ℕ
picture_asked ls n = if nat_lt n (length ls) then picture_text (slice_index_or ls n blank) else []
