-- Places worked out from their numbers, and numbers from places: a number's digits in the base of the axis lengths.
use Rattle.std.specs.Prelude.{ℕ, ◌+◌, ◌*◌, ◌/◌, ◌%◌, cond, List, map, nat_lt}
use Rattle.std.specs.List.{range_with_len}
use Rattle.layout.specs.Places.{Place, place, axis}

-- how many indices are inside a shape
abbrev pub size : List ℕ → ℕ
size s = axis s 0 * axis s 1 * axis s 2 * axis s 3

abbrev pub ravel : List ℕ → Place → ℕ
ravel s p = ((p.a * axis s 1 + p.b) * axis s 2 + p.c) * axis s 3 + p.d

abbrev pub unravel : List ℕ → ℕ → Place
unravel s k = place (k / axis s 3 / axis s 2 / axis s 1) (k / axis s 3 / axis s 2 % axis s 1) (k / axis s 3 % axis s 2) (k % axis s 3)

-- every index inside a shape, in order
abbrev pub every : List ℕ → List Place
every s = map (unravel s) (range_with_len 0 (size s))

-- the place with the entry k on each of r axes
abbrev pub along : ℕ → ℕ → Place
along r k = place k (cond (nat_lt 1 r) k 0) (cond (nat_lt 2 r) k 0) (cond (nat_lt 3 r) k 0)

-- the diagonal of r axes of length n, in order
abbrev pub diagonal : ℕ → ℕ → List Place
diagonal r n = map (along r) (range_with_len 0 n)
