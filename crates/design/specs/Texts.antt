-- The words of a text: its longest runs of characters that are not white space.
use Rattle.std.specs.Prelude.{◌≡◌, ℕ, Bool, cond, List, [], ◌∷◌, ◌++◌, map, codes}
use Rattle.std.proofs.Math.Utf8.{encodes}
use Rattle.std.specs.declared.str.SplitWhitespace.{SplitWhitespace}
use Rattle.std.specs.Str.Iter.{split_whitespace_rest}
use Rattle.std.specs.Char.{is_whitespace}
use Rattle.std.specs.Str.{chars}
use Rattle.design.specs.Numbers.{Says}

-- the character c, which is not white, before the characters cs, whose runs are rs
abbrev pub begun : ℕ → List ℕ → List (List ℕ) → List (List ℕ)
begun c [] rs = (c ∷ []) ∷ rs
begun c (d ∷ cs) [] = (c ∷ []) ∷ []
begun c (d ∷ cs) (r ∷ rs) = cond (is_whitespace d) ((c ∷ []) ∷ r ∷ rs) ((c ∷ r) ∷ rs)

abbrev pub runs : List ℕ → List (List ℕ)
runs [] = []
runs (c ∷ cs) = cond (is_whitespace c) (runs cs) (begun c cs (runs cs))

unfoldable pub words : List ℕ → List (List ℕ)
words text = map encodes (runs (chars text))

-- the words that are still to be read
abbrev pub left : SplitWhitespace → List (List ℕ)
left s = words (split_whitespace_rest s)

-- of the words all, some say the numbers ns, and a colon or the end is after them; rest are left
pub record Numbered {N : Type 0} (says : List ℕ → N → Type 0) (all : List (List ℕ)) (ns : List N) (colon : Bool) (rest : List (List ℕ)) : Type 0 where
  pub some : List (List ℕ)
  pub said : Says says some ns
  pub split : all ≡ some ++ cond colon (codes ":" ∷ rest) []
