-- Products of axis lengths stay small.
use Rattle.std.proofs.Common.{ℕ, ◌*◌, ◌≤◌}
use Rattle.std.proofs.lemmas.Nat.{mul-le}

pub two : (a b : ℕ) → a ≤ 4096 → b ≤ 4096 → a * b ≤ 16777216
two a b h i = mul-le a b 4096 4096 h i

pub three : (a b c : ℕ) → a ≤ 4096 → b ≤ 4096 → c ≤ 4096 → a * b * c ≤ 68719476736
three a b c h i j = mul-le (a * b) c 16777216 4096 (two a b h i) j

pub more : (a b c d : ℕ) → a ≤ 4096 → b ≤ 4096 → c ≤ 4096 → d ≤ 4096 → a * b * c * d ≤ 281474976710656
more a b c d h i j k = mul-le (a * b * c) d 68719476736 4096 (three a b c h i j) k
