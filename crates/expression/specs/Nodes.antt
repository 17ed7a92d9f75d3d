-- What a well-formed expression is.
use Rattle.std.specs.Prelude.{ℕ, ◌+◌, ◌-◌, Bool, true, cond, ◌&&◌, ◌||◌, List, [], ◌∷◌, length, ◌==◌, nat_le, slice_index}
use Rattle.expression.specs.declared.node.Letters.{Letters}
use Rattle.expression.specs.declared.node.Node.{Node}
use Rattle.expression.specs.declared.node.Node.TheVariants.{Number, Name, Binary, Unary, Call}

-- a to z
abbrev pub small_letter : ℕ → Bool
small_letter c = nat_le 97 c && nat_le c 122

-- place i is no letter, or one of a to z
abbrev pub letter_at : Letters → ℕ → Bool
letter_at l i = nat_le l.count i || small_letter (slice_index l.codes i)

-- at most four letters, each of a to z
abbrev pub sound_letters : Letters → Bool
sound_letters l = (((nat_le l.count 4 && letter_at l 0) && letter_at l 1) && letter_at l 2) && letter_at l 3

-- code 16, pow, has two arguments, code 17, piecewise, has 1 to 15, and each other code of 1 to 15 has one
abbrev pub sound_call : ℕ → ℕ → Bool
sound_call code n = cond (code == 17) (nat_le 1 n && nat_le n 15) (cond (code == 16) (n == 2) ((nat_le 1 code && nat_le code 15) && n == 1))

-- a function that there is, with as many arguments as it takes, and letters that may be
abbrev pub known : Node → Bool
known (Number x) = true
known (Name v l) = sound_letters l
known (Binary o) = true
known (Unary o) = true
known (Call c n) = sound_call c n

-- how many values a node takes; it leaves one
abbrev pub takes : Node → ℕ
takes (Number x) = 0
takes (Name v l) = 0
takes (Binary o) = 2
takes (Unary o) = 1
takes (Call c n) = n

-- A node after which d values lie there was known, found the values that it takes, and left at most 32.
abbrev pub may_follow : ℕ → Node → Bool
may_follow d n = (known n && nat_le (takes n) d) && nat_le (d - takes n + 1) 32

-- The nodes can follow where d values lie, and in the end one does.
abbrev pub sound_from : ℕ → List Node → Bool
sound_from d [] = d == 1
sound_from d (n ∷ ns) = may_follow d n && sound_from (d - takes n + 1) ns

abbrev pub sound_count : ℕ → Bool
sound_count n = nat_le 1 n && nat_le n 256

-- 1 to 256 nodes, at most 32 values deep, that leave one value
abbrev pub well_formed : List Node → Bool
well_formed ns = sound_count (length ns) && sound_from 0 ns
