-- Rules in the order in which they are checked: the first one that is broken.
use Rattle.std.specs.Prelude.{ℕ, Bool, true, false, cond, ◌&&◌, ◌||◌, List, [], ◌∷◌, length, Some, None, Option, ◌==◌, nat_le}
use Rattle.layout.specs.declared.fault.Rule.{Rule}
use Rattle.layout.specs.Places.{axis}

pub record Test : Type 0 where
  pub kept : Bool
  pub rule : Rule

-- the rule of the first test that is not kept
abbrev pub first_broken : List Test → Option Rule
first_broken [] = None
first_broken (t ∷ ts) = cond t.kept (first_broken ts) (Some t.rule)

abbrev pub none : Option Rule → Bool
none None = true
none (Some rule) = false

-- a length of 1 to 4,096
abbrev pub in_range : ℕ → Bool
in_range n = nat_le 1 n && nat_le n 4096

-- each axis has such a length; one past the last counts as 1
abbrev pub axes_in_range : List ℕ → Bool
axes_in_range s = ((in_range (axis s 0) && in_range (axis s 1)) && in_range (axis s 2)) && in_range (axis s 3)

-- 1 to 65,536 places
abbrev pub count_in_range : ℕ → Bool
count_in_range n = nat_le 1 n && nat_le n 65536

-- one axis to four, where r are asked for and s has the lengths
abbrev pub some_axes : ℕ → List ℕ → Bool
some_axes r s = nat_le 1 (length s) && nat_le r 4

-- the first r axes are of one length
abbrev pub equal_axes : ℕ → List ℕ → Bool
equal_axes r s = ((nat_le r 1 || axis s 1 == axis s 0) && (nat_le r 2 || axis s 2 == axis s 0)) && (nat_le r 3 || axis s 3 == axis s 0)
