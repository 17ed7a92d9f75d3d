-- Where a new block of a tensor would store into a place that an earlier block of the tensor has stored into.
use Rattle.std.specs.Prelude.{ℕ, zero, suc, ◌<◌, Bool, false, cond, ◌&&◌, ◌||◌, List, [], ◌∷◌, ℤ, Some, None, Option, ◌==◌, nat_eq}
use Rattle.std.specs.Option.{option_or}
use Rattle.layout.specs.Layouts.{Layout, count}
use Rattle.translation.specs.Cuts.{any}
use Rattle.translation.specs.Tos.{destination as destination_in}
use Rattle.reader.specs.declared.record.BlockRecord.{BlockRecord}
use Rattle.reader.specs.Rules.{destination}
use Rattle.reader.specs.Accepted.{Accepted}
use Rattle.reader.specs.Tables.{Reached}
use Rattle.records.specs.declared.record.BlockEntry.{BlockEntry}

-- n places, each above the one before it
abbrev pub Rising : (ℕ → ℕ) → ℕ → Type 0
Rising f n = (j k : ℕ) → j < k → k < n → f j < f k

-- an accepted block, whose entries stand in the index table, and whose later via places have later destinations
pub record Orderly (r : BlockRecord) (is : List ℤ) : Type 0 where
  pub accepted : Accepted r is
  pub reached : Reached r is
  pub rises : Rising (destination r is) r.via

-- blocks with their index table
pub record Earlier : Type 0 where
  pub blocks : List BlockEntry
  pub indices : List ℤ

-- p is among n places
abbrev pub among : (ℕ → ℕ) → ℕ → ℕ → Bool
among f n p = any (λ j. nat_eq (f j) p) n

-- a block is one of the tensor, and has p among its destinations
abbrev pub stores : BlockEntry → List ℤ → ℕ → ℕ → Bool
stores e is tensor p = e.tensor == tensor && among (destination e.read is) e.read.via p

-- some block stores at p
abbrev pub stored_at : List BlockEntry → List ℤ → ℕ → ℕ → Bool
stored_at [] is tensor p = false
stored_at (e ∷ es) is tensor p = stores e is tensor p || stored_at es is tensor p

-- a destination is stored at
abbrev pub clashes : List BlockEntry → List ℤ → ℕ → Option ℕ → Bool
clashes bs is tensor None = false
clashes bs is tensor (Some p) = stored_at bs is tensor p

-- the first number below n that passes a test
abbrev pub first_that : (ℕ → Bool) → ℕ → Option ℕ
first_that t zero = None
first_that t (suc n) = option_or (first_that t n) (cond (t n) (Some n) None)

-- the first via place whose destination is stored at; the block begins at x in the target g, by way of v
abbrev pub first_clash : List BlockEntry → List ℤ → ℕ → Layout → List ℤ → Layout → Option ℕ
first_clash bs is tensor v x g = first_that (λ k. clashes bs is tensor (destination_in v x g k)) (count v)
