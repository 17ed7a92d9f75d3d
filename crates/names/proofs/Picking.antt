-- An element that is found is one of the layout's.
use Rattle.std.proofs.Common.{ℕ, suc, ◌<◌, Bool, true, false, cond, eqb, List, [], ◌∷◌, length, ℤ, IfSome, Some, None, Option, arith}
use Rattle.std.specs.Option.{option_map}
use Rattle.layout.specs.Places.{Place, same}
use Rattle.layout.specs.Layouts.{Layout, Valid, count, number, number_of, named, rank, strict, wide, wide_index}
use Rattle.names.specs.Reading.{dense_index, dense_element}

below_more : (m : ℕ) (o : Option ℕ) → IfSome o (λ n. n < m) → IfSome (option_map suc o) (λ n. n < suc m)
below_more m None h = tt
below_more m (Some n) h = omega arith

below_cond : (m : ℕ) (b : Bool) (x y : Option ℕ) → IfSome x (λ n. n < m) → IfSome y (λ n. n < m) → IfSome (cond b x y) (λ n. n < m)
below_cond m true x y h g = h
below_cond m false x y h g = g

below_number : (p : Place) (ps : List Place) → IfSome (number p ps) (λ n. n < length ps)
below_number p [] = tt
below_number p (q ∷ qs) = below_cond (suc (length qs)) (same p q) (Some 0) (option_map suc (number p qs)) (omega arith) (below_more (length qs) (number p qs) (below_number p qs))

below_named : (o : Option Place) (ps : List Place) → IfSome (number_of o ps) (λ n. n < length ps)
below_named None ps = tt
below_named (Some p) ps = below_number p ps

pub below_strict : (l : Layout) (x : List ℤ) → IfSome (strict l x) (λ n. n < count l)
below_strict l x = below_named (named (rank l) x) l.places

pub below_wide : (l : Layout) (x : List ℤ) → IfSome (wide l x) (λ n. n < count l)
below_wide l x = below_strict l (wide_index l.kind l.shape x)

pub below_dense : (l : Layout) (block : List ℕ) (x : List ℤ) (name : List ℕ) → Valid l → IfSome (dense_element l block x name) (λ n. n < count l)
below_dense l block x name v = below_cond (count l) (eqb (length name) 0) (Some 0) (strict l (dense_index block x l.shape name)) v.some (below_strict l (dense_index block x l.shape name))
