-- The entries of a binary table.
use Rattle.std.proofs.Common.{◌≡◌, ℕ, ◌+◌, ◌<◌, ◌≤◌, List, length, get_or, take, set, ℤ, pos, IfSome, Some, None, Option, arith}
use Rattle.std.proofs.lemmas.List.{take_more, take_more_set, get_or-map, length-map}
use Rattle.layout.specs.Places.{Place, origin}
use Rattle.layout.specs.Layouts.{Layout, Valid, count, at, wide}
use Rattle.layout.specs.Answers.{index_of}
use Rattle.names.specs.Reading.{table_element}
use Rattle.names.specs.Tables.{entry_of, binary_table}
use Rattle.names.proofs.Picking.{below_wide}

few : (m n : ℕ) (o : Option ℕ) → IfSome o (λ k. k < m) → m ≤ n → IfSome o (λ k. k < n)
few m n None h l = tt
few m n (Some k) h l = omega arith

-- the number of a place is small
pub small_number : (l : Layout) (x : List ℤ) → Valid l → IfSome (wide l x) (λ n. n < 65536)
small_number l x v = few (count l) 65536 (wide l x) (below_wide l x) v.many

-- one more entry
pub table_more : (l s : Layout) (slots : List ℕ) (t : List ℤ) (k : ℕ) (v e : ℤ) → k < length t → k < count s → v ≡ e → e ≡ entry_of (table_element l slots (index_of (at s k))) → take k t ≡ take k (binary_table l s slots) → take (k + 1) (set t k v) ≡ take (k + 1) (binary_table l s slots)
table_more l s slots t k v e h m same is so_far =
    let f = λ (p : Place). entry_of (table_element l slots (index_of p)) in
    let n = length-map s.places f in
    let w : get_or (binary_table l s slots) k (pos 0) ≡ f (at s k) = get_or-map f s.places k origin (pos 0) m in
    let a = take_more_set t k v h in
    let b = take_more (binary_table l s slots) k (pos 0) (omega arith) in
    cc
