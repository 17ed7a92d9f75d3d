-- The values gathered, one more at a time.
use Rattle.std.proofs.Common.{◌≡◌, ℕ, zero, suc, ◌+◌, ◌<◌, ◌≤◌, List, length, take, set, Ok, Err, Result, sym, ap, ◌∙◌, inl, inr, add-one, arith}
use lib.Ieee.{Float}
use Rattle.std.proofs.lemmas.List.{take_more_set}
use Rattle.std.proofs.lemmas.Bool.{cases_eq}
use Rattle.names.specs.Outcomes.{followed, gathered}

module _ {E : Type 0} (g : ℕ → Result Float E) (out : List Float) (k : ℕ) (given : gathered g k ≡ Ok (take k out)) where
  pub gathered_more : (x : Float) → k < length out → Ok x ≡ g k → gathered g (k + 1) ≡ Ok (take (k + 1) (set out k x))
  gathered_more x h e = ap (gathered g) (add-one k) ∙ ap (λ r. followed r (g k)) given ∙ ap (followed (Ok (take k out))) (sym e) ∙ ap (λ l. Ok l) (sym (take_more_set out k x h))

  stays : (m n : ℕ) (e : E) → m ≤ n → gathered g m ≡ Err e → gathered g n ≡ Err e
  stays m zero e h t = let z : zero ≡ m = omega arith in ap (gathered g) z ∙ t
  stays m (suc n) e h t =
      elim (cases_eq m (suc n)) [
        | inl q ↦ ap (gathered g) (sym q) ∙ t
        | inr q ↦ ap (λ r. followed r (g n)) (stays m n e (omega arith) t)
      ]

  pub gathered_stops : (n : ℕ) (e : E) → k < n → Err e ≡ g k → gathered g n ≡ Err e
  gathered_stops n e h t = stays (suc k) n e h (ap (λ r. followed r (g k)) given ∙ ap (followed (Ok (take k out))) (sym t))
