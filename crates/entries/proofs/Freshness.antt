-- The tables that a block adds, as they are gathered.
use Rattle.std.proofs.Common.{◌≡◌, ℕ, ◌+◌, ◌<◌, ◌≤◌, ◌||◌, List, [], ◌∷◌, ◌++◌, map, length, get_or, drop, Option, refl, ap, arith}
use Rattle.std.proofs.lemmas.Grind.{common_steps}
use Rattle.std.specs.List.{list_any}
use Rattle.std.proofs.lemmas.List.{at_drop_more, at_drop_all}
use Rattle.names.specs.declared.binary_table.TableKey.{TableKey}
use Rattle.records.specs.declared.record.BinaryRecord.{BinaryRecord}
use Rattle.entries.specs.Fresh.{same_key, has_key, keys_of, added, fresh}

-- a test of the records' keys
pub has_key_of : (k : TableKey) (rs : List BinaryRecord) → list_any (λ (r : BinaryRecord). same_key r.key k) rs ≡ has_key k (keys_of rs)
has_key_of k [] = refl
has_key_of k (r ∷ rs) = ap (λ b. same_key r.key k || b) (has_key_of k rs)

-- one node more: what was listed, and what it adds
module _ {X : Type 0} (f : X → Option TableKey) (known : List TableKey) (ns : List X) where
  pub listed_more : (all listed listed' : List TableKey) (i : ℕ) (d : X) → i < length ns → listed ++ fresh (known ++ listed) (map f (drop i ns)) ≡ all → listed' ≡ listed ++ added (known ++ listed) (f (get_or ns i d)) → listed' ++ fresh (known ++ listed') (map f (drop (i + 1) ns)) ≡ all
  listed_more all listed listed' i d h inv e = grind (arith, common_steps, at_drop_more (λ xs. fresh (known ++ listed) (map f xs)) ns i d h)

  pub listed_all : (all listed : List TableKey) (i : ℕ) → length ns ≤ i → listed ++ fresh (known ++ listed) (map f (drop i ns)) ≡ all → listed ≡ all
  listed_all all listed i h inv = grind (arith, common_steps, at_drop_all (λ xs. fresh (known ++ listed) (map f xs)) ns i h)
