use Rattle.std.proofs.Common.{ℕ, List, ◌∙◌, ◌++◌, map, take, get_or, ap, sym}
use Rattle.std.proofs.lemmas.List.{take_more}
use Rattle.load_model.specs.declared.element.Element.{Element}
use Rattle.sheet_values.specs.LevelKinds.{level_numbers, levels_at, levels_among}
use Rattle.sheet_values.proofs.Steps.{flat_behind}
use Rattle.sheet_values.proofs.levels.levels_of.Goals as goal

pub numbers-preserved : goal.numbers-preserved
numbers-preserved c =
    let kept : List Element = map (λ element. element.now) c.args.kept.now in
    let number : ℕ = get_or level_numbers c.numbers.number-index 0 in
    c.in_ok-add_number.ensures ∙ ap (λ all. all ++ levels_at number kept) c.numbers.invariant
    ∙ sym (ap (λ some. levels_among some kept) (take_more level_numbers c.numbers.number-index 0 c.numbers-test.true) ∙ flat_behind (λ level. levels_at level kept) (take c.numbers.number-index level_numbers) number)
