use Rattle.std.proofs.Common.{◌≡◌, ◌∙◌, ap, ℤ, ◌-ℤ◌, int_div, to_z, of_z, w32, rules, FitsSigned}
use Rattle.std.proofs.lemmas.Int.{to_z-of_z}
use Rattle.style_model.specs.Dims.{at_least, column_units}
use Rattle.page_style.proofs.Sums.{between}
use Rattle.page_style.proofs.pages.columns.Goals as goal

pub returns : goal.returns
returns c =
    let counted : c.whole_columns.result ≡ int_div (to_z w32 (of_z w32 (to_z w32 (of_z w32 (to_z w32 (of_z w32 c.args.width) -ℤ to_z w32 (of_z w32 c.args.left))) -ℤ to_z w32 (of_z w32 c.args.right)))) column_units = c.whole_columns.ensures in
    let whole : c.whole_columns.result ≡ int_div (c.args.width -ℤ c.args.left -ℤ c.args.right) column_units =
    counted ∙ ap (λ (z : ℤ). int_div z column_units) (between c.args.width c.args.left c.args.right c.requires.width c.requires.left c.requires.right) in
    let fits : FitsSigned w32 c.whole_columns.result = search rules in
    c.at_least.ensures ∙ ap (at_least 8) (to_z-of_z w32 _ fits ∙ whole)
