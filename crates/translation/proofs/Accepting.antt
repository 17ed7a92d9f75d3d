-- What an accepted translation tells.
use Rattle.std.proofs.Common.{◌≡◌, ℕ, zero, suc, ◌+◌, ◌-◌, ◌<◌, ◌≤◌, min, Bool, true, false, cond, ◌&&◌, eqb, ltb, List, length, get_or, ℤ, Some, None, Ok, Err, Option, Result, unwrap_or, sym, refl, ap, ◌∙◌, inl, inr, arith}
use Rattle.std.proofs.lemmas.Bool.{cases_lt, and_parts, ltb-true, ltb-false, eqb-true, or_parts}
use Rattle.layout.specs.Layouts.{Layout, blank, count, rank}
use Rattle.layout.specs.Answers.{shape_of}
use Rattle.translation.specs.declared.kinds.TranslationFrom.{TranslationFrom}
use Rattle.translation.specs.declared.kinds.TranslationTo.{TranslationTo}
use Rattle.translation.specs.declared.kinds.TranslationTo.TheVariants.{Contiguous}
use Rattle.translation.specs.declared.kinds.Translation.{Translation}
use Rattle.translation.specs.declared.kinds.TranslationFault.{TranslationFault}
use Rattle.translation.specs.declared.kinds.TranslationFault.TheVariants.{Unknown, Start, NoTranslation, Elements, Uncovered, NoDestination}
use Rattle.translation.specs.Froms.{from_of}
use Rattle.translation.specs.Tos.{start_refused, strays, destination, missing, missing_at, follows, consecutive, placed, unless_missing, to_of}
use Rattle.translation.specs.Cuts.{covered}
use Rattle.translation.specs.Outcome.{elements_made, led, translated_by, translating, known, translated}

abbrev Outcome : Type 0
Outcome = Result Translation TranslationFault

err_ok : {X Y : Type 0} (y : Y) (x : X) → Err y ≡ Ok x → ⊥
err_ok y x e = let z : ◌≡◌ {A = ℕ} 0 1 = cc in omega arith

none_some : {X : Type 0} (x : X) → None ≡ Some x → ⊥
none_some x e = let z : ◌≡◌ {A = ℕ} 0 1 = cc in omega arith

ok_then : (b : Bool) (y : Outcome) (f : TranslationFault) (t : Translation) → cond b y (Err f) ≡ Ok t → (b ≡ true) × (y ≡ Ok t)
ok_then true y f t e = (refl, e)
ok_then false y f t e = absurd (err_ok f t e)

ok_else : (b : Bool) (y : Outcome) (f : TranslationFault) (t : Translation) → cond b (Err f) y ≡ Ok t → (b ≡ false) × (y ≡ Ok t)
ok_else true y f t e = absurd (err_ok f t e)
ok_else false y f t e = (refl, e)

led_says : (f : TranslationFrom) (n : ℕ) (o : Result TranslationTo ℕ) (t : Translation) → led f n o ≡ Ok t → (t.from ≡ f) × (o ≡ Ok t.to) × (t.elements ≡ n)
led_says f n (Ok to) t e =
    let g : record { from = f; to = to; elements = n } ≡ t = cc in
    (ap (λ (y : Translation). y.from) (sym g), ap (λ (y : Translation). Ok y.to) g, ap (λ (y : Translation). y.elements) (sym g))
led_says f n (Err k) t e = absurd (err_ok (NoDestination k) t e)

pub record ToldBy (s v : Layout) (x : List ℤ) (g : Layout) (t : Translation) : Type 0 where
  pub low : rank v ≤ rank g
  pub kind : from_of (shape_of s) (shape_of v) ≡ Some t.from
  pub many : elements_made t.from s v ≡ count v
  pub over : covered (min (rank s) (rank v)) s v ≡ true
  pub goes : to_of (destination v x g) (count v) ≡ Ok t.to
  pub as_many : t.elements ≡ count v

by_kind : (s v : Layout) (x : List ℤ) (g : Layout) (t : Translation) (o : Option TranslationFrom) → from_of (shape_of s) (shape_of v) ≡ o → rank v ≤ rank g → translated_by o s v x g ≡ Ok t → ToldBy s v x g t
by_kind s v x g t None k low e = absurd (err_ok NoTranslation t e)
by_kind s v x g t (Some f) k low e =
    let a = ok_then (eqb (elements_made f s v) (count v)) _ Elements t e in
    let b = ok_then (covered (min (rank s) (rank v)) s v) _ Uncovered t a.1 in
    let c = led_says f (elements_made f s v) (to_of (destination v x g) (count v)) t b.1 in
    let m = eqb-true (elements_made f s v) (count v) a.0 in
    record {
      low = low;
      kind = k ∙ ap Some (sym c.0);
      many = ap (λ y. elements_made y s v) c.0 ∙ m;
      over = b.0;
      goes = c.1;
      as_many = c.2 ∙ m;
    }

pub told : (s v : Layout) (x : List ℤ) (g : Layout) (t : Translation) → translating s v x g ≡ Ok t → ToldBy s v x g t
told s v x g t e =
    let a = ok_else (start_refused (rank v) x (rank g)) _ Start t e in
    let l = or_parts (ltb (rank g) (rank v)) (strays (rank g) x) a.0 in
    by_kind s v x g t (from_of (shape_of s) (shape_of v)) refl (ltb-false (rank g) (rank v) l.0) a.1

pub known_in : (ls : List Layout) (source via target : ℕ) (x : List ℤ) (t : Translation) → translated ls source via x target ≡ Ok t → (source < length ls) × (via < length ls) × (target < length ls) × (translating (get_or ls source blank) (get_or ls via blank) x (get_or ls target blank) ≡ Ok t)
known_in ls source via target x t e =
    let a = ok_then (known ls source && (known ls via && known ls target)) _ Unknown t e in
    let b = and_parts (known ls source) _ a.0 in
    let c = and_parts (known ls via) (known ls target) b.1 in
    (ltb-true source (length ls) b.0, ltb-true via (length ls) c.0, ltb-true target (length ls) c.1, a.1)

-- destinations
unless_says : (o : Option ℕ) (p to : TranslationTo) → unless_missing o p ≡ Ok to → (o ≡ None) × (p ≡ to)
unless_says None p to e = (refl, cc)
unless_says (Some k) p to e = absurd (err_ok k to e)

missing_at_says : (o : Option ℕ) (k : ℕ) (rest : Option ℕ) → missing_at o k rest ≡ None → ((n : ℕ) × (o ≡ Some n)) × (rest ≡ None)
missing_at_says None k rest e = absurd (none_some k (sym e))
missing_at_says (Some n) k rest e = ((n, refl), e)

none_missing : (d : ℕ → Option ℕ) (k n : ℕ) → missing d k n ≡ None → (i : ℕ) → k ≤ i → i < k + n → (a : ℕ) × (d i ≡ Some a)
none_missing d k zero e i h l = absurd (omega arith)
none_missing d k (suc n) e i h l =
    let p = missing_at_says (d k) k (missing d (k + 1) n) e in
    elim (cases_lt k i) [
      | inl m ↦ none_missing d (k + 1) n p.1 i (omega arith) (omega arith)
      | inr m ↦ (let z : i ≡ k = omega arith in (p.0.0, ap d z ∙ p.0.1))
    ]

pub all_found : (d : ℕ → Option ℕ) (n : ℕ) (to : TranslationTo) → to_of d n ≡ Ok to → (i : ℕ) → i < n → (a : ℕ) × (d i ≡ Some a)
all_found d n to e i h = none_missing d 0 n (unless_says (missing d 0 n) _ to e).0 i (omega arith) (omega arith)

follows_says : (a : ℕ) (o : Option ℕ) → follows (Some a) o ≡ true → o ≡ Some (a + 1)
follows_says a (Some b) e = ap Some (eqb-true b (a + 1) e)
follows_says a None e = absurd (let z : ◌≡◌ {A = ℕ} 0 1 = cc in omega arith)

run : (d : ℕ → Option ℕ) (k m a : ℕ) → consecutive d k m ≡ true → d k ≡ Some a → (i : ℕ) → i ≤ m → d (k + i) ≡ Some (a + i)
run d k m a e h zero l = let z : k + 0 ≡ k = omega arith in let y : a + 0 ≡ a = omega arith in ap d z ∙ h ∙ ap Some (sym y)
run d k zero a e h (suc i) l = absurd (omega arith)
run d k (suc m) a e h (suc i) l =
    let p = and_parts (follows (d k) (d (k + 1))) _ e in
    let f = follows_says a (d (k + 1)) (ap (λ o. follows o (d (k + 1))) (sym h) ∙ p.0) in
    let r = run d (k + 1) m (a + 1) p.1 f i (omega arith) in
    let z : k + suc i ≡ k + 1 + i = omega arith in
    let y : a + suc i ≡ a + 1 + i = omega arith in
    ap d z ∙ r ∙ ap Some (sym y)

placed_says : (b : Bool) (o : Option ℕ) (n first end : ℕ) → placed b o n ≡ Contiguous first end → (b ≡ true) × (unwrap_or o 0 ≡ first) × (unwrap_or o 0 + n ≡ end)
placed_says true o n first end e = (refl, cc, cc)
placed_says false o n first end e = absurd (let z : ◌≡◌ {A = ℕ} 0 1 = cc in omega arith)

pub in_a_row : (d : ℕ → Option ℕ) (n : ℕ) (to : TranslationTo) → to_of d n ≡ Ok to → 1 ≤ n → (first end : ℕ) → to ≡ Contiguous first end → (end ≡ first + n) × ((k : ℕ) → k < n → d k ≡ Some (first + k))
in_a_row d n to e some first end h =
    let u = unless_says (missing d 0 n) (placed (consecutive d 0 (n - 1)) (d 0) n) to e in
    let p = placed_says (consecutive d 0 (n - 1)) (d 0) n first end (u.1 ∙ h) in
    let a = all_found d n to e 0 some in
    let f : a.0 ≡ first = ap (λ o. unwrap_or o 0) (sym a.1) ∙ p.1 in (
      sym p.2 ∙ ap (λ y. y + n) p.1,
      λ k l. (let z : 0 + k ≡ k = omega arith in ap d (sym z) ∙ run d 0 (n - 1) first p.0 (a.1 ∙ ap Some f) k (omega arith)),
    )
