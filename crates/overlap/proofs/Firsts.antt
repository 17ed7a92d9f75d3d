-- The first number that passes a test.
use Rattle.std.proofs.Common.{◌≡◌, ℕ, zero, suc, ◌<◌, min, Bool, true, false, cond, ◌&&◌, ◌||◌, Some, None, Option, sym, refl, ap, ◌∙◌, inl, inr, arith, MatchOption}
use Rattle.std.proofs.lemmas.Bool.{cases_lt, cases_order, both_ways, or_left, or_right, or_from}
use Rattle.std.specs.Option.{option_or}
use Rattle.overlap.specs.Clashes.{first_that}
use Rattle.overlap.specs.Rows.{earlier}

-- o is the first number below n that passes, or none does
abbrev pub First : (ℕ → Bool) → ℕ → Option ℕ → Type 0
First t n o = MatchOption o ((k : ℕ) → k < n → t k ≡ false) (λ k. (k < n) × (t k ≡ true) × ((j : ℕ) → j < k → t j ≡ false))

module _ (t : ℕ → Bool) where
  more : (n : ℕ) (o : Option ℕ) (b : Bool) → t n ≡ b → First t n o → First t (suc n) (option_or o (cond b (Some n) None))
  more n (Some k) b e h = (omega (arith, h.0), h.1, h.2)
  more n None true e h = (omega arith, e, h)
  more n None false e h = λ k l. elim (cases_lt k n) [ inl a ↦ h k a | inr a ↦ (let z : k ≡ n = omega arith in ap t z ∙ e) ]

  pub first_says : (n : ℕ) → First t n (first_that t n)
  first_says zero = λ k l. absurd (omega arith)
  first_says (suc n) = more n (first_that t n) (t n) refl (first_says n)

  only_one : (n : ℕ) (o p : Option ℕ) → First t n o → First t n p → o ≡ p
  only_one n None None h g = refl
  only_one n None (Some k) h g = absurd (both_ways (t k) (h k g.0) g.1)
  only_one n (Some k) None h g = absurd (both_ways (t k) (g k h.0) h.1)
  only_one n (Some j) (Some k) h g =
      elim (cases_order j k) [
        | inl e ↦ ap Some e
        | inr o ↦ elim o [ inl a ↦ absurd (both_ways (t j) (g.2 j a) h.1) | inr a ↦ absurd (both_ways (t k) (h.2 k a) g.1) ]
      ]

  pub is_first : (n : ℕ) (o : Option ℕ) → First t n o → o ≡ first_that t n
  is_first n o h = only_one n o (first_that t n) h (first_says n)

-- tests that agree below n
pub first_alike : (t u : ℕ → Bool) (n : ℕ) → ((k : ℕ) → k < n → t k ≡ u k) → first_that t n ≡ first_that u n
first_alike t u n h = is_first u n (first_that t n) (by (first_that t n) (first_says t n)) where
  by : (o : Option ℕ) → First t n o → First u n o
  by None f = λ k l. sym (h k l) ∙ f k l
  by (Some k) f = let l = f.0 in (l, sym (h k l) ∙ f.1, λ j m. sym (h j (omega arith)) ∙ f.2 j m)

pub none_first : (n : ℕ) → None ≡ first_that (λ k. false) n
none_first n = is_first (λ k. false) n None (λ k l. refl)

-- one test or the other
pub either_first : (t u : ℕ → Bool) (n : ℕ) → earlier (first_that t n) (first_that u n) ≡ first_that (λ k. t k || u k) n
either_first t u n = is_first (λ k. t k || u k) n _ (by (first_that t n) (first_that u n) (first_says t n) (first_says u n)) where
  by : (o p : Option ℕ) → First t n o → First u n p → First (λ k. t k || u k) n (earlier o p)
  by None None f h = λ k l. or_from (t k) (u k) (f k l) (h k l)
  by None (Some k) f h = (h.0, or_right (t k) (u k) h.1, λ j l. let m = h.0 in or_from (t j) (u j) (f j (omega arith)) (h.2 j l))
  by (Some k) None f h = (f.0, or_left (t k) (u k) f.1, λ j l. let m = f.0 in or_from (t j) (u j) (f.2 j l) (h j (omega arith)))
  by (Some a) (Some b) f h =
      elim (cases_lt b a) [
        | inl l ↦ (let z : min a b ≡ b = omega arith in (omega (arith, h.0), ap (λ k. t k || u k) z ∙ or_right (t b) (u b) h.1, λ j m. or_from (t j) (u j) (f.2 j (omega arith)) (h.2 j (omega arith))))
        | inr l ↦ (let z : min a b ≡ a = omega arith in (omega (arith, f.0), ap (λ k. t k || u k) z ∙ or_left (t a) (u a) f.1, λ j m. or_from (t j) (u j) (f.2 j (omega arith)) (h.2 j (omega arith))))
      ]

-- a test that counts only where b holds
pub first_if : (b : Bool) (t : ℕ → Bool) (n : ℕ) → cond b (first_that t n) None ≡ first_that (λ k. b && t k) n
first_if true t n = refl
first_if false t n = none_first n
