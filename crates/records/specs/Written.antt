-- A part of a buffer written over.
use Rattle.std.specs.Prelude.{ℕ, List, length}
use Rattle.std.proofs.Math.Seq.{paste}

-- xs stand from a position on, and the rest is as it was
abbrev pub written : {X : Type 0} → List X → ℕ → List X → List X
written d at xs = paste d at xs (length xs)
