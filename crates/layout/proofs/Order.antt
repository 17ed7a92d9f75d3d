-- The order of places.
use Rattle.std.proofs.Common.{arith}
use Rattle.layout.specs.Places.{Place, Before}

pub before_trans : (p q r : Place) → Before p q → Before q r → Before p r
before_trans p q r h k = grind arith
