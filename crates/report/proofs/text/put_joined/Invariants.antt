use Rattle.std.proofs.Common.{◌≡◌, ℕ, List, ◌++◌, take, Some, string_bytes}
use Rattle.std.specs.List.{flat_map}
use Rattle.report.proofs.text.put_joined.Given as goal

abbrev pub invariant-loop-item : goal.invariant-loop-item
invariant-loop-item g l =
    (show : g.row.N.Denot → List ℕ) → ((x : g.row.N.Denot) → g.N.Display.output x ≡ Some (show x)) → string_bytes l.out ≡ string_bytes l.initial.out ++ flat_map (λ x. l.between ++ show x) (take l.item-index l.rest)
