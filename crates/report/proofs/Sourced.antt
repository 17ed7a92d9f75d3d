-- What is known of the layouts of a kind that there is.
use Rattle.std.proofs.Common.{◌≡◌, ℕ, ◌<◌, Bool, true, false, cond, ◌&&◌, List, length, get_or, Some, None, Ok, Err, Option, Result, sym, refl, ap, ◌∙◌}
use Rattle.std.proofs.lemmas.Bool.{ltb-true, eqb-true, and_parts}
use Rattle.layout.specs.Layouts.{Layout, blank, count, rank}
use Rattle.layout.specs.Answers.{shape_of}
use Rattle.translation.specs.declared.kinds.TranslationFault.{TranslationFault}
use Rattle.translation.specs.declared.kinds.TranslationFault.TheVariants.{Unknown, Elements}
use Rattle.translation.specs.declared.kinds.TranslationFrom.{TranslationFrom}
use Rattle.translation.specs.Cuts.{ranges}
use Rattle.translation.specs.Entries.{from_entries, from_count}
use Rattle.translation.specs.Froms.{from_of}
use Rattle.translation.specs.Outcome.{known, ranges_fit, or_refused, from_between, from_asked}
use Rattle.translation.proofs.Entering.{from_long}

ok_then : {X : Type 0} (b : Bool) (y : Result X TranslationFault) (f : TranslationFault) (x : X) → cond b y (Err f) ≡ Ok x → (b ≡ true) × (y ≡ Ok x)
ok_then true y f x e = (refl, e)
ok_then false y f x e = cc

fits : (o : Option TranslationFrom) (s v : Layout) (f : TranslationFrom) → or_refused o s v ≡ Ok f → ranges_fit f s v ≡ true
fits None s v f e = cc
fits (Some g) s v f e =
    let a = ok_then (ranges_fit g s v) (Ok g) Elements f e in
    let b = a.1 in
    let same : g ≡ f = cc in
    ap (λ h. ranges_fit h s v) (sym same) ∙ a.0

pub record Known (ls : List Layout) (source via : ℕ) (f : TranslationFrom) : Type 0 where
  pub source_known : source < length ls
  pub via_known : via < length ls
  pub long : (n : ℕ) → n ≡ count (get_or ls via blank) → length (from_entries f (get_or ls source blank) (rank (get_or ls via blank))) ≡ from_count f n

pub known_kind : (ls : List Layout) (source via : ℕ) (f : TranslationFrom) → Ok f ≡ from_asked ls source via → Known ls source via f
known_kind ls source via f e =
    let s = get_or ls source blank in
    let v = get_or ls via blank in
    let a = ok_then (known ls source && known ls via) (from_between s v) Unknown f (sym e) in
    let b = and_parts (known ls source) (known ls via) a.0 in
    let c = fits (from_of (shape_of s) (shape_of v)) s v f a.1 in
    record {
      source_known = ltb-true source (length ls) b.0;
      via_known = ltb-true via (length ls) b.1;
      long = λ n h. from_long f s (rank v) n (λ by g. eqb-true (length (ranges (rank v) s)) (count v) (ap (λ k. ranges_fit k s v) (sym g) ∙ c) ∙ sym h);
    }
