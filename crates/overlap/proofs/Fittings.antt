-- The rows of an accepted translation and of a recorded block.
use Rattle.std.proofs.Common.{◌≡◌, ℕ, ◌<◌, ◌≤◌, List, ℤ, Some, Option, unwrap_or, sym, refl, ap, ◌∙◌, arith}
use Rattle.layout.specs.Layouts.{Layout, Valid, count}
use Rattle.translation.specs.declared.kinds.TranslationTo.{TranslationTo}
use Rattle.translation.specs.declared.kinds.TranslationTo.TheVariants.{Contiguous, Listed}
use Rattle.translation.specs.declared.kinds.Translation.{Translation}
use Rattle.translation.specs.Tos.{destination}
use Rattle.translation.specs.Laws.{Lawful}
use Rattle.records.specs.declared.record.BlockEntry.{BlockEntry}
use Rattle.overlap.specs.Clashes.{Rising, stored_at, clashes, first_that, first_clash}
use Rattle.overlap.specs.Rows.{goes_by, Lined, new_row}
use Rattle.overlap.proofs.Firsts.{first_alike}

module _ (s v : Layout) (x : List ℤ) (g : Layout) (t : Translation) (l : Lawful s v x g t) where
  lands_by : (o : TranslationTo) → t.to ≡ o → (k : ℕ) → k < count v → destination v x g k ≡ Some (goes_by o v x g k)
  lands_by (Contiguous first end) e k h = (l.together first end e).1 k h
  lands_by Listed e k h = let r = (l.lands k h).1 in r ∙ ap Some (sym (ap (λ o. unwrap_or o 0) r))

  lands : (k : ℕ) → k < count v → destination v x g k ≡ Some (goes_by t.to v x g k)
  lands = lands_by t.to refl

  inside : (k : ℕ) → k < count v → goes_by t.to v x g k < count g
  inside k h = let r = l.lands k h in let e = lands k h in let z : r.0 ≡ goes_by t.to v x g k = cc (r.1, e) in omega (arith, r.2)

  pub row_rises : Rising (goes_by t.to v x g) t.elements
  row_rises j k a h = let m = l.as_many in l.rises j k a (omega arith) _ _ (lands j (omega arith)) (lands k (omega arith))

  pub row_low : count g ≤ 65536 → (k : ℕ) → k < t.elements → goes_by t.to v x g k < 65536
  row_low small k h = let m = l.as_many in let i = inside k (omega arith) in omega arith

  pub clash_is : (bs : List BlockEntry) (is : List ℤ) (tensor : ℕ) (o : Option ℕ) → o ≡ first_that (λ k. stored_at bs is tensor (goes_by t.to v x g k)) t.elements → o ≡ first_clash bs is tensor v x g
  clash_is bs is tensor o e =
      e ∙ ap (first_that (λ k. stored_at bs is tensor (goes_by t.to v x g k))) l.as_many
      ∙ first_alike (λ k. stored_at bs is tensor (goes_by t.to v x g k)) (λ k. clashes bs is tensor (destination v x g k)) (count v) (λ k h. sym (ap (clashes bs is tensor) (lands k h)))

  pub row_lined : Valid g → Lined (new_row (record { to = t.to; count = t.elements; via = v; start = x; target = g }))
  row_lined h = record { rises = row_rises; low = row_low h.many }

  pub row_some : Valid v → 0 < t.elements
  row_some h = let m = l.as_many in let n = h.some in omega arith
