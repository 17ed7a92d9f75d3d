-- The words for kinds and layers.
use Rattle.std.specs.Prelude.{◌≡◌, ◌≢◌, ℕ, List, codes, MatchResult, Result}
use Rattle.layout.specs.declared.fault.Layer.{Layer}
use Rattle.layout.specs.declared.fault.Layer.TheVariants.{Translation, Expression, Stage}
use Rattle.layout.specs.declared.kind.LayoutKind.{LayoutKind}
use Rattle.layout.specs.declared.kind.LayoutKind.TheVariants.{Dense, Diagonal, Sparse}

abbrev pub kind_word : LayoutKind → List ℕ
kind_word Dense = codes "dense"
kind_word Diagonal = codes "diagonal"
kind_word Sparse = codes "sparse"

-- a word is read as the kind that it names, and refused where it names none
abbrev pub KindRead : {E : Type 0} → List ℕ → Result LayoutKind E → Type 0
KindRead word r = MatchResult r (λ k. kind_word k ≡ word) (λ _. (k : LayoutKind) → kind_word k ≢ word)

abbrev pub layer_word : Layer → List ℕ
layer_word Translation = codes "translation"
layer_word Expression = codes "expression"
layer_word Stage = codes "stage"
