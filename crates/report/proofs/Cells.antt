-- Cells of pictures: what is written on the right of some columns.
use Rattle.std.proofs.Common.{◌≡◌, ℕ, zero, suc, ◌-◌, ◌^◌, refl, ◌∙◌, arith}
use Rattle.std.proofs.Padding.{repeat_ascii, styled_decimal_is, padded_integral_right}
use Rattle.std.proofs.Math.Dec.{eqb-suc-zero}
use Rattle.std.specs.Prelude.{codes, decimal}
use Rattle.std.specs.Fmt.{char_count, take_chars, padded, styled_decimal, styled_text, format_spec}
use Rattle.report.specs.Pictures.{on_the_right}

-- a number under `{:>w$}`
pub number_on_the_right : (w n : ℕ) → styled_decimal (format_spec 32 3 0 w (2 ^ 64 - 1)) n ≡ on_the_right w (decimal n)
number_on_the_right w n =
    let s = format_spec 32 3 0 w (2 ^ 64 - 1) in
    styled_decimal_is s n ∙ padded_integral_right s (decimal n) refl refl (λ e. omega (arith, e)) (λ e. omega (arith, e)) (omega arith)

-- a dot under `{:>w$}`
pub dot_on_the_right : (w : ℕ) → styled_text (format_spec 32 3 0 w (2 ^ 64 - 1)) (codes ".") ≡ on_the_right w (codes ".")
unfolding padded char_count take_chars
dot_on_the_right zero = refl
dot_on_the_right (suc w) =
    let p = suc w - 1 in
    let none : p - p ≡ 0 = omega arith in
    rw (eqb-suc-zero w, none, repeat_ascii p 32 (omega arith)) refl
