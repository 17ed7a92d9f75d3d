use Rattle.std.proofs.Common.{◌≡◌, ℕ, List, Some, None, Option, refl}
use Rattle.std.specs.Option.{option_map}
use Rattle.layout.specs.Places.{entries}
use Rattle.layout.specs.Layouts.{four}
use Rattle.layout.proofs.index.entries_inside.Goals as goal

-- a answers for the entries as far as they were asked for, with what was got put in their place
got : (p q s t p' q' s' t' : Option ℕ) (r : Option (List ℕ)) → p' ≡ p → q' ≡ q → s' ≡ s → t' ≡ t → r ≡ option_map entries (four p' q' s' t') → r ≡ option_map entries (four p q s t)
got p q s t p' q' s' t' r e f g h i = cc

pub returns-in_err-a : goal.returns-in_err-a
returns-in_err-a c = got _ _ _ _ None _ _ _ _ c.in_err-a.ensures refl refl refl c.from_residual.ensures

pub returns-in_err-b : goal.returns-in_err-b
returns-in_err-b c = got _ _ _ _ (Some c.in_ok-a.a) None _ _ _ c.in_ok-a.ensures c.in_err-b.ensures refl refl c.from_residual-in_err-b.ensures

pub returns-in_err-c : goal.returns-in_err-c
returns-in_err-c c = got _ _ _ _ (Some c.in_ok-a.a) (Some c.in_ok-b.b) None _ _ c.in_ok-a.ensures c.in_ok-b.ensures c.in_err-c.ensures refl c.from_residual-in_err-c.ensures

pub returns-in_err-d : goal.returns-in_err-d
returns-in_err-d c = got _ _ _ _ (Some c.in_ok-a.a) (Some c.in_ok-b.b) (Some c.in_ok-c.c) None _ c.in_ok-a.ensures c.in_ok-b.ensures c.in_ok-c.ensures c.in_err-d.ensures c.from_residual-in_err-d.ensures

pub returns : goal.returns
returns c = got _ _ _ _ (Some c.in_ok-a.a) (Some c.in_ok-b.b) (Some c.in_ok-c.c) (Some c.in_ok-d.d) _ c.in_ok-a.ensures c.in_ok-b.ensures c.in_ok-c.ensures c.in_ok-d.ensures refl
