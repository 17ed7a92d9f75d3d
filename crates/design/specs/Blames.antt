-- Which line a fault is of, and what was expected there.
use Rattle.std.specs.Prelude.{◌≡◌, ℕ}
use Rattle.design.specs.declared.fault.Expected.{Expected}
use Rattle.design.specs.declared.fault.Fault.{Fault}
use Rattle.design.specs.declared.fault.Fault.TheVariants.{Memory, Line, Layout}

abbrev pub Blames : ℕ → Expected → Fault → Type 0
Blames line expected Memory = ⊥
Blames line expected (Layout l k b) = ⊥
Blames line expected (Line l w e) = (l ≡ line) × (e ≡ expected)
