use Rattle.std.proofs.Common.{◌≡◌, ◌∙◌, ap, ℤ, ◌-ℤ◌, int_div, to_z, of_z, w32, rules, FitsSigned}
use Rattle.std.proofs.lemmas.Int.{to_z-of_z}
use Rattle.style_model.specs.Dims.{at_least, row_units}
use Rattle.page_style.proofs.Sums.{between}
use Rattle.page_style.proofs.pages.rows.Goals as goal

pub returns : goal.returns
returns c =
    let counted : c.whole_rows.result ≡ int_div (to_z w32 (of_z w32 (to_z w32 (of_z w32 (to_z w32 (of_z w32 c.args.height) -ℤ to_z w32 (of_z w32 c.args.top))) -ℤ to_z w32 (of_z w32 c.args.bottom)))) row_units = c.whole_rows.ensures in
    let whole : c.whole_rows.result ≡ int_div (c.args.height -ℤ c.args.top -ℤ c.args.bottom) row_units =
    counted ∙ ap (λ (z : ℤ). int_div z row_units) (between c.args.height c.args.top c.args.bottom c.requires.height c.requires.top c.requires.bottom) in
    let fits : FitsSigned w32 c.whole_rows.result = search rules in
    c.at_least.ensures ∙ ap (at_least 4) (to_z-of_z w32 _ fits ∙ whole)
