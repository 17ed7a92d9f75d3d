-- A list of rules of which none is broken.
use Rattle.std.proofs.Common.{◌≡◌, Bool, true, false, cond, List, [], ◌∷◌, Some, refl}
use Rattle.std.proofs.lemmas.Bool.{false≢true}
use Rattle.std.specs.List.{AllByRecursion}
use Rattle.layout.specs.declared.fault.Rule.{Rule}
use Rattle.layout.specs.Rules.{Test, first_broken, none}

one : (b : Bool) (r : Rule) (ts : List Test) → none (cond b (first_broken ts) (Some r)) ≡ true → (b ≡ true) × (none (first_broken ts) ≡ true)
one true r ts e = (refl, e)
one false r ts e = absurd (false≢true e)

pub all_kept : (ts : List Test) → none (first_broken ts) ≡ true → AllByRecursion (λ t. t.kept ≡ true) ts
all_kept [] h = tt
all_kept (t ∷ ts) h = let p = one t.kept t.rule ts h in (p.0, all_kept ts p.1)
