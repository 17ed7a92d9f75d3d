-- The layouts of the shapes that are kept.
use Rattle.std.proofs.Common.{◌≡◌, ℕ, ◌<◌, List, length, get_or, refl, sym, ap, ◌∙◌, subst}
use Rattle.std.proofs.lemmas.List.{length-map, get_or-map}
use Rattle.layout.specs.Layouts.{Valid, blank}
use Rattle.grid.specs.declared.shapes.GridShape.{GridShape}
use Rattle.grid.specs.declared.sound_shape.SoundShape.{SoundShape}
use Rattle.grid.specs.Grids.{grid_layout, grid_layouts, no_shape}
use Rattle.grid.specs.Shapes.{shapes_of}
use Rattle.grid.proofs.Validity.{grid_valid}

pub no_sound_shape : SoundShape
no_sound_shape = record { shape = no_shape; sound = refl }

module _ (ss : List SoundShape) where
  pub kept_length : length (grid_layouts (shapes_of ss)) ≡ length ss
  kept_length = simp length-map

  pub kept_at : (k : ℕ) (d : SoundShape) → k < length ss → get_or (grid_layouts (shapes_of ss)) k blank ≡ grid_layout (get_or ss k d).shape
  kept_at k d h =
      get_or-map grid_layout (shapes_of ss) k d.shape blank (rw length-map h) ∙ ap grid_layout (get_or-map (λ (s : SoundShape). s.shape) ss k d d.shape h)

  pub kept_valid : (k : ℕ) → k < length (grid_layouts (shapes_of ss)) → Valid (get_or (grid_layouts (shapes_of ss)) k blank)
  kept_valid k h = let l : k < length ss = rw kept_length at h in rw (kept_at k no_sound_shape l) (grid_valid (get_or ss k no_sound_shape).shape (get_or ss k no_sound_shape).sound)

-- shape k of the kept ones, as it is read
module _ (gs : List GridShape) (ss xs : List SoundShape) (v : shapes_of ss ≡ gs) (e : xs ≡ ss) (k : ℕ) (s : SoundShape) (f : (k < length xs) × ((d : SoundShape) → s ≡ get_or xs k d)) where
  in_row : k < length ss
  in_row = subst (λ x. k < length x) e f.0

  pub there : k < length (grid_layouts gs)
  there = subst (λ x. k < length (grid_layouts x)) v (rw (kept_length ss) in_row)

  pub here : get_or (grid_layouts gs) k blank ≡ grid_layout s.shape
  here = subst (λ x. get_or (grid_layouts x) k blank ≡ grid_layout s.shape) v (kept_at ss k s in_row ∙ ap (λ (t : SoundShape). grid_layout t.shape) (sym (subst (λ x. s ≡ get_or x k s) e (f.1 s))))
