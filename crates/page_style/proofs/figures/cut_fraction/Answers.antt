use Rattle.std.proofs.Common.{◌≡◌, get_or, refl, rules, Some}
use Rattle.page_style.proofs.Digits.{begins_with}
use Rattle.page_style.proofs.figures.cut_fraction.Goals as goal

pub returns-in-46-clause-cut : goal.returns-in-46-clause-cut
returns-in-46-clause-cut c =
    let first : get_or c.args.text.now 0 0 ≡ 46 = search rules in
    (Some c.cut_digits.result.0.now, begins_with 46 c.args.text.now c.cut_digits.result.0.now c.cut_digits.result.1.now c.in-46.len_at_least first c.cut_digits.ensures.cut, refl)
