-- The digits of a number in the base of four axis lengths.
use Rattle.std.proofs.Common.{◌≡◌, ℕ, ◌+◌, ◌*◌, ◌/◌, ◌%◌, ◌<◌, ◌≤◌, ◌⊎◌, List, length, get_or, ap, ◌∙◌, inl, inr, mul-le-mul_right, add-mul, arith}
use lib.Arith.{digits_lt, digits_div, digits_mod}
use Rattle.std.proofs.lemmas.Nat.{div_below, mod_below, div-add-mod'}
use Rattle.std.proofs.lemmas.List.FromFn.{length-map-range_with_len, get_or-map-range_with_len}
use Rattle.std.proofs.lemmas.Bool.{cases_order}
use Rattle.std.specs.List.{ContainsAt as Has}
use Rattle.layout.specs.Places.{Place, origin, Before, Inside, axis}
use Rattle.layout.specs.Radix.{size, ravel, unravel, every}

-- of two numbers in order, the quotients are in order, or equal with the remainders in order
pub quotients : (w j k : ℕ) → 0 < w → j < k → (j / w < k / w) ⊎ ((j / w ≡ k / w) × (j % w < k % w))
quotients w j k p h =
    let a = div-add-mod' j w in
    let b = div-add-mod' k w in
    let r = mod_below j w p in
    let s = mod_below k w p in
    elim (cases_order (j / w) (k / w)) [
      | inl e ↦ inr (e, let f = ap (λ q. q * w) e in omega arith)
      | inr o ↦ elim o [ inl l ↦ inl l | inr g ↦ absurd (let m : (k / w + 1) * w ≤ j / w * w = mul-le-mul_right w (omega arith) in omega (arith, add-mul (k / w) 1 w)) ]
    ]

module _ (s : List ℕ) (p1 : 0 < axis s 1) (p2 : 0 < axis s 2) (p3 : 0 < axis s 3) where
  pub unravel_inside : (k : ℕ) → k < size s → Inside s (unravel s k)
  unravel_inside k h = (
    div_below (k / axis s 3 / axis s 2) (axis s 1) (axis s 0) p1 (div_below (k / axis s 3) (axis s 2) (axis s 0 * axis s 1) p2 (div_below k (axis s 3) (axis s 0 * axis s 1 * axis s 2) p3 h)),
    mod_below (k / axis s 3 / axis s 2) (axis s 1) p1,
    mod_below (k / axis s 3) (axis s 2) p2,
    mod_below k (axis s 3) p3,
  )

  -- the digits of a smaller number come before
  pub unravel_before : (j k : ℕ) → j < k → Before (unravel s j) (unravel s k)
  unravel_before j k h =
      elim (quotients (axis s 3) j k p3 h) [
        | inr t ↦ (let e = t.0 in inr (ap (λ q. q / axis s 2 / axis s 1) e, inr (ap (λ q. q / axis s 2 % axis s 1) e, inr (ap (λ q. q % axis s 2) e, t.1))))
        | inl u ↦ elim (quotients (axis s 2) (j / axis s 3) (k / axis s 3) p2 u) [
          | inr t ↦ (let e = t.0 in inr (ap (λ q. q / axis s 1) e, inr (ap (λ q. q % axis s 1) e, inl t.1)))
          | inl v ↦ elim (quotients (axis s 1) (j / axis s 3 / axis s 2) (k / axis s 3 / axis s 2) p1 v) [
            | inr t ↦ inr (t.0, inl t.1)
            | inl w ↦ inl w
          ]
        ]
      ]

module _ (s : List ℕ) where
  pub ravel_below : (p : Place) → Inside s p → ravel s p < size s
  ravel_below p i = digits_lt (digits_lt (digits_lt i.0 i.1) i.2) i.3

  pub unravel_ravel : (p : Place) → Inside s p → unravel s (ravel s p) ≡ p
  unravel_ravel p i =
      let x = p.a * axis s 1 + p.b in
      let y = x * axis s 2 + p.c in
      let e3 : (y * axis s 3 + p.d) / axis s 3 ≡ y = digits_div y i.3 in
      let m3 : (y * axis s 3 + p.d) % axis s 3 ≡ p.d = digits_mod y i.3 in
      let e2 : (x * axis s 2 + p.c) / axis s 2 ≡ x = digits_div x i.2 in
      let m2 : (x * axis s 2 + p.c) % axis s 2 ≡ p.c = digits_mod x i.2 in
      let e1 : (p.a * axis s 1 + p.b) / axis s 1 ≡ p.a = digits_div p.a i.1 in
      let m1 : (p.a * axis s 1 + p.b) % axis s 1 ≡ p.b = digits_mod p.a i.1 in
      simp (e3, m3, e2, m2, e1, m1)

  pub every_length : length (every s) ≡ size s
  every_length = length-map-range_with_len (unravel s) 0 (size s)

  pub every_at : (k : ℕ) → k < size s → get_or (every s) k origin ≡ unravel s k
  every_at k h = get_or-map-range_with_len (unravel s) 0 (size s) k k origin h (omega arith)

  pub every_has : (p : Place) → Inside s p → Has (every s) p
  every_has p i =
      let h = ravel_below p i in
      (ravel s p, rw every_length h, λ d. get_or-map-range_with_len (unravel s) 0 (size s) (ravel s p) (ravel s p) d h (omega arith) ∙ unravel_ravel p i)
