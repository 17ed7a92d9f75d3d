-- What an earlier block has in the index table that a new one can share.
use Rattle.std.specs.Prelude.{ℕ, Bool, false, cond, ◌&&◌, List, [], ◌∷◌, ℤ, pos, negsuc, Some, None, Option, ◌==◌, nat_eq, slice_index_or}
use Rattle.reader.specs.declared.record.BlockRecord.{BlockRecord}
use Rattle.records.specs.declared.record.BlockEntry.{BlockEntry}

abbrev pub same_entry : ℤ → ℤ → Bool
same_entry (pos m) (pos n) = m == n
same_entry (pos m) (negsuc n) = false
same_entry (negsuc m) (pos n) = false
same_entry (negsuc m) (negsuc n) = m == n

abbrev pub same_at : ℕ → List ℤ → List ℤ → Bool
same_at i x y = same_entry (slice_index_or x i (pos 0)) (slice_index_or y i (pos 0))

-- two starts are equal in each of their four entries
abbrev pub same_start : List ℤ → List ℤ → Bool
same_start x y = (same_at 0 x y && same_at 1 x y) && (same_at 2 x y && same_at 3 x y)

-- a block was called with these layouts and this start
abbrev pub same_call : BlockEntry → ℕ → ℕ → List ℤ → ℕ → Bool
same_call e source via start target = (e.route.source == source && e.route.via == via) && (e.route.target == target && same_start e.route.start start)

-- what the first block that passes a test has
abbrev pub of_first : {A : Type 0} → (BlockEntry → Bool) → (BlockEntry → Option A) → List BlockEntry → Option A
of_first t f [] = None
of_first t f (e ∷ es) = cond (t e) (f e) (of_first t f es)

-- the record of the first block with this call
abbrev pub shared : List BlockEntry → ℕ → ℕ → List ℤ → ℕ → Option BlockRecord
shared bs source via start target = of_first (λ e. same_call e source via start target) (λ e. Some e.read) bs

-- where the first block with a source has the places of that in the index table
abbrev pub placed_at : List BlockEntry → ℕ → Option ℕ
placed_at bs source = of_first (λ e. nat_eq e.route.source source) (λ e. e.places) bs
