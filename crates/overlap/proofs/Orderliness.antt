-- Accepted blocks are orderly, and stay so.
use Rattle.std.proofs.Common.{◌≡◌, ℕ, ◌+◌, ◌<◌, ◌≤◌, List, length, get_or, ℤ, pos, refl, ap, arith}
use Rattle.translation.specs.declared.kinds.TranslationTo.{TranslationTo}
use Rattle.translation.specs.declared.kinds.TranslationTo.TheVariants.{Contiguous, Listed}
use Rattle.reader.specs.Rules.{natural, place_of, destination, list_reach}
use Rattle.reader.proofs.Entries.{Like, accepted_like}
use Rattle.overlap.specs.Laws.{MadeOrderly, StaysOrderly}

pub made : MadeOrderly
made s v x g t r is l e f = record {
  accepted = f.accepted;
  reached = f.reached;
  rises = λ j k a b. l.rises j k a (omega arith) (destination r is j) (destination r is k) (f.stores j (omega arith)) (f.stores k (omega arith));
}

module _ (is js : List ℤ) (long : length is ≤ length js) (same : (p : ℕ) → p < length is → get_or js p (pos 0) ≡ get_or is p (pos 0)) where
  like : (n : ℕ) → n ≤ length is → Like is js n
  like n h = record { here = λ p a b. omega arith; same = λ p a b. same p (omega arith) }

  place_same : (o : TranslationTo) (p v k : ℕ) → list_reach o p v ≤ length is → k < v → place_of o p js k ≡ place_of o p is k
  place_same (Contiguous s e) p v k h b = refl
  place_same Listed p v k h b = ap natural (same (p + k) (omega arith))

pub stays : StaysOrderly
stays r is js long same o =
    let here = place_same is js long same r.to r.list r.via in
    let reach = o.reached.list in
    record {
      accepted = accepted_like r is js (like is js long same _ o.reached.ranges) (like is js long same _ reach) o.accepted;
      reached = record { ranges = omega (arith, o.reached.ranges); list = omega arith };
      rises = λ j k a b. (let u = o.rises j k a b in let x = here j reach (omega arith) in let y = here k reach b in omega arith);
    }
