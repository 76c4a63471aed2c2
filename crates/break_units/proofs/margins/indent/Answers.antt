use Rattle.std.proofs.Common.{◌≡◌, ap, ap₂, ◌∙◌, arith, rules, pos, negsuc, ℤ, ◌+ℤ◌, ◌≤ℤ◌, int_div, ◌==◌, if◌then◌else◌, to_z, of_z, w32, FitsSigned}
use Rattle.std.proofs.lemmas.Int.{ints, to_z-of_z}
use Rattle.line_model.specs.Lines.{column}
use Rattle.break_units.proofs.margins.indent.Goals as goal

fitting_sum : (x y z : ℤ) → negsuc 23486 ≤ℤ x → x ≤ℤ pos 23486 → pos 0 ≤ℤ y → y ≤ℤ pos 508 → negsuc 23486 ≤ℤ z → z ≤ℤ pos 23486
    → to_z w32 (of_z w32 (to_z w32 (of_z w32 (to_z w32 (of_z w32 x) +ℤ to_z w32 (of_z w32 y))) +ℤ to_z w32 (of_z w32 z))) ≡ x +ℤ y +ℤ z
fitting_sum x y z a b d e f g = omega (arith, ints)

pub returns : goal.returns
returns c =
    let left : FitsSigned w32 c.args.key.now.left = search rules in
    let indent : FitsSigned w32 c.args.key.now.indent = search rules in
    fitting_sum _ _ _ c.whole_columns.ensures.least c.whole_columns.ensures.most c.level_columns.ensures.least c.level_columns.ensures.most
    c.first_indent.ensures.least c.first_indent.ensures.most
    ∙ ap₂ (λ a b. a +ℤ b)
    (ap₂ (λ a b. a +ℤ b) (c.whole_columns.ensures.value ∙ ap (λ (z : ℤ). int_div z column) (to_z-of_z w32 _ left)) c.level_columns.ensures.value)
    (c.first_indent.ensures.value ∙ ap (λ (z : ℤ). if c.args.from == 0 then int_div z column else pos 0) (to_z-of_z w32 _ indent))
