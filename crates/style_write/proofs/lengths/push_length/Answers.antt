-- The sign, and the size in millionths of an inch.
use Rattle.std.proofs.Common.{◌≡◌, ◌++◌, ℕ, ℤ, pos, Bool, refl, ap, ◌∙◌, subst, OnOk, int_lt, unsigned_abs, to_z-of_z, w32}
use mir.Val.{to_z, of_z}
use Rattle.std.specs.Str.{chars}
use Rattle.std.specs.String.{string_bytes}
use Rattle.std.specs.Fmt.{sign_text}
use Rattle.style_model.specs.Lengths.{is_below_zero, millionths}
use Rattle.style_write.specs.Sizes.{size_text}
use Rattle.value_write.proofs.ChainLemmas.{two}
use Rattle.style_write.proofs.DigitLemmas.{below, fits}
use Rattle.style_write.proofs.lengths.push_length.Goals as goal

pub returns : goal.returns
returns c =
    let old = chars (string_bytes c.args.out.now) in
    let is : to_z w32 (of_z w32 c.units-units.result) ≡ c.args.length = to_z-of_z (fits c.units-units.result c.units-units.ensures.range) ∙ c.units-units.ensures.same in
    let sign : chars (string_bytes c.push_sign.new.out) ≡ old ++ sign_text (is_below_zero c.args.length) =
    c.in_ok-push_sign.ensures ∙ (ap (λ (z : ℤ). old ++ sign_text (int_lt z (pos 0))) is ∙ ap (λ (b : Bool). old ++ sign_text b) (below c.args.length)) in
    let number : c.millionths.result ≡ millionths (unsigned_abs c.args.length) = c.millionths.ensures ∙ ap millionths (c.unsigned_abs.ensures.value ∙ ap unsigned_abs is) in
    two c.push_size.result (chars (string_bytes c.push_size.new.out)) (chars (string_bytes c.push_sign.new.out)) old (sign_text (is_below_zero c.args.length)) (size_text (millionths (unsigned_abs c.args.length))) sign
    (subst (λ (n : ℕ). OnOk c.push_size.result (chars (string_bytes c.push_size.new.out) ≡ chars (string_bytes c.push_sign.new.out) ++ size_text n)) number c.push_size.ensures) refl
