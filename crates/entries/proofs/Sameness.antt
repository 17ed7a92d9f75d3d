-- The tests of equal layouts decide.
use Rattle.std.proofs.Common.{◌≡◌, ℕ, ◌<◌, Bool, true, false, List, length, get_or, Ok, Err, Result, Decides, sym, refl, ap, ◌∙◌}
use Rattle.std.proofs.lemmas.Bool.{false≢true}
use Rattle.std.proofs.lemmas.Bool.Decides.{Decides-eqb, Decides-and}
use Rattle.std.proofs.lemmas.Slice.Eq.{slice_eq-Decides}
use Rattle.std.specs.Result.{result_unwrap_or}
use Rattle.layout.specs.declared.fault.LayoutFault.{LayoutFault}
use Rattle.layout.specs.declared.kind.LayoutKind.{LayoutKind}
use Rattle.layout.specs.declared.kind.LayoutKind.TheVariants.{Dense, Diagonal, Sparse}
use Rattle.layout.specs.Places.{Place, same}
use Rattle.layout.specs.Layouts.{Layout, blank}
use Rattle.layout.proofs.Finding.{same_true, same_self}
use Rattle.names.specs.Tables.{NoTable, NoTableAsked, identity_from}
use Rattle.entries.specs.Needed.{same_kind, same_layout, own_number}

kind_decides : (k l : LayoutKind) → Decides (same_kind k l) (k ≡ l)
kind_decides k l = (same k l, λ e. ap (same_kind k) (sym e) ∙ self k) where
  same : (k l : LayoutKind) → same_kind k l ≡ true → k ≡ l
  same Dense Dense h = refl
  same Dense Diagonal h = absurd (false≢true h)
  same Dense Sparse h = absurd (false≢true h)
  same Diagonal Dense h = absurd (false≢true h)
  same Diagonal Diagonal h = refl
  same Diagonal Sparse h = absurd (false≢true h)
  same Sparse Dense h = absurd (false≢true h)
  same Sparse Diagonal h = absurd (false≢true h)
  same Sparse Sparse h = refl

  self : (k : LayoutKind) → same_kind k k ≡ true
  self Dense = refl
  self Diagonal = refl
  self Sparse = refl

place_decides : (p q : Place) → Decides (same p q) (p ≡ q)
place_decides p q = (same_true p q, λ e. ap (same p) (sym e) ∙ same_self p)

same_parts : (l m : Layout) → l.kind ≡ m.kind → l.shape ≡ m.shape → l.places ≡ m.places → l ≡ m
same_parts l m k s p =
    ap (λ x. record { kind = x; shape = l.shape; places = l.places }) k ∙ ap (λ x. record { kind = m.kind; shape = x; places = l.places }) s
    ∙ ap (λ x. record { kind = m.kind; shape = m.shape; places = x }) p

layout_decides : (l m : Layout) → Decides (same_layout l m) (l ≡ m)
layout_decides l m =
    let d = Decides-and _ _ (kind_decides l.kind m.kind) (Decides-and _ _ (slice_eq-Decides Decides-eqb l.shape m.shape _ refl) (slice_eq-Decides place_decides l.places m.places _ refl)) in (
      λ h. let p = d.0 h in same_parts l m p.0 p.1.0 p.1.1,
      λ e. d.1 (ap (λ (x : Layout). x.kind) e, (ap (λ (x : Layout). x.shape) e, ap (λ (x : Layout). x.places) e)),
    )

-- two tests that decide one fact are equal
same_test : (a b : Bool) (P : Type 0) → Decides a P → Decides b P → a ≡ b
same_test true b P d f = sym (f.1 (d.0 refl))
same_test false true P d f = d.1 (f.0 refl)
same_test false false P d f = refl

own_decided : (l s : Layout) (slots : List ℕ) (t : Bool) → Decides t (NoTable l s slots) → t ≡ own_number l s slots
own_decided l s slots t d = same_test t (own_number l s slots) (NoTable l s slots) d (Decides-and (same_layout l s) (identity_from 0 slots) (layout_decides l s) (λ h. h, λ h. h))

-- of two layouts that there are
pub own_asked : (ls : List Layout) (l s : ℕ) (slots : List ℕ) (r : Result Bool LayoutFault) → l < length ls → s < length ls → NoTableAsked ls l s slots r → result_unwrap_or r false ≡ own_number (get_or ls l blank) (get_or ls s blank) slots
own_asked ls l s slots (Ok t) hl hs h = own_decided (get_or ls l blank) (get_or ls s blank) slots t h.2
own_asked ls l s slots (Err f) hl hs h = absurd (h.1 hl hs)
