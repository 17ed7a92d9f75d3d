-- The shapes that sound shapes are.
use Rattle.std.specs.Prelude.{List, map}
use Rattle.grid.specs.declared.shapes.GridShape.{GridShape}
use Rattle.grid.specs.declared.sound_shape.SoundShape.{SoundShape}

abbrev pub shapes_of : List SoundShape → List GridShape
shapes_of ss = map (λ s. s.shape) ss
