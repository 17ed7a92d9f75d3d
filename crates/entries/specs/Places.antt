-- The places of a layout in the index table.
use Rattle.std.specs.Prelude.{List, take, ℤ}
use Rattle.std.specs.List.{flat_map}
use Rattle.layout.specs.Answers.{index_of}
use Rattle.layout.specs.Layouts.{Layout, rank}
use Rattle.layout.specs.Places.{Place}

-- entry by entry
abbrev pub entries_at : Layout → Place → List ℤ
entries_at l p = take (rank l) (index_of p)

-- place after place
abbrev pub place_entries : Layout → List ℤ
place_entries l = flat_map (entries_at l) l.places
