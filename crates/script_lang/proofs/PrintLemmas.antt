-- What printing leaves in front, and the digits of characters below U+20.
use Rattle.std.proofs.Common.{◌≡◌, ℕ, ◌-◌, ◌/◌, ◌%◌, ◌<◌, ◌≤◌, false, List, [], ◌∷◌, ◌++◌, length, take, ap, sym, ◌∙◌, arith, length-append}
use Rattle.std.proofs.Math.Seq.{take-append_seam}
use Rattle.std.proofs.lemmas.List.{take-take}
use Rattle.std.specs.Prelude.{◌==◌, if◌then◌else◌}
use Rattle.std.specs.Fmt.{digits, digits_onto, digit_glyph}

-- what leaves a list in front leaves its own front there
pub front_kept : (old more mid new : List ℕ) → mid ≡ old ++ more → take (length mid) new ≡ mid → take (length old) new ≡ old
front_kept old more mid new e h =
    let within : length old ≤ length mid = omega (arith, ap length e, length-append old more) in
    sym (take-take (length old) (length mid) new within) ∙ ap (take (length old)) (h ∙ e) ∙ take-append_seam old more

-- a number below 16 is one digit
pub hex_one : (n : ℕ) → n < 16 → digits 16 false n ≡ digit_glyph false n ∷ []
unfolding digits
hex_one n h =
    let high : n / 16 ≡ 0 = omega arith in
    let low : n % 16 ≡ n = omega arith in
    ap (λ (q : ℕ). if q == 0 then digit_glyph false (n % 16) ∷ [] else digits_onto 63 16 false q (digit_glyph false (n % 16) ∷ [])) high
    ∙ ap (λ (d : ℕ). digit_glyph false d ∷ []) low

-- a number from 16 to 31 is 1 and a digit
pub hex_two : (n : ℕ) → 16 ≤ n → n < 32 → digits 16 false n ≡ 0x31 ∷ digit_glyph false (n - 16) ∷ []
unfolding digits
hex_two n some h =
    let high : n / 16 ≡ 1 = omega arith in
    let low : n % 16 ≡ n - 16 = omega arith in
    ap (λ (q : ℕ). if q == 0 then digit_glyph false (n % 16) ∷ [] else digits_onto 63 16 false q (digit_glyph false (n % 16) ∷ [])) high
    ∙ ap (λ (d : ℕ). 0x31 ∷ digit_glyph false d ∷ []) low
