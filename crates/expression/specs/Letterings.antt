-- Letters and where they stand.
use Rattle.std.specs.Prelude.{ℕ, suc, Bool, true, cond, not, ◌&&◌, List, [], ◌∷◌, length, take, ◌==◌, nat_lt}
use Rattle.expression.specs.declared.node.Letters.{Letters}

-- the letters that are meant
abbrev pub letters_of : Letters → List ℕ
letters_of l = take l.count l.codes

-- where c stands among letters; how many they are, where it does not
abbrev pub position : ℕ → List ℕ → ℕ
position c [] = 0
position c (x ∷ xs) = cond (x == c) 0 (suc (position c xs))

abbrev pub among : ℕ → List ℕ → Bool
among c xs = nat_lt (position c xs) (length xs)

abbrev pub distinct : List ℕ → Bool
distinct [] = true
distinct (c ∷ cs) = not (among c cs) && distinct cs
