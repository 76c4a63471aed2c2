use Rattle.std.proofs.Common.{◌∙◌, ◌++◌, ◌∷◌, [], List, map, take, ap, sym, append_assoc}
use Rattle.load_model.specs.Styles.{InPart}
use Rattle.sheet_kept.specs.Held.{seen}
use Rattle.sheet_styles.specs.Read.{styles_with}
use Rattle.sheet_styles.proofs.StyleSteps.{with_behind}
use Rattle.sheet_values.proofs.Steps.{next_behind}
use Rattle.sheet_styles.proofs.styles.add_styles.Goals as goal

pub kept-preserved : goal.kept-preserved
kept-preserved c =
    let before : List InPart = map seen (take c.kept.one-index c.args.kept.now) in
    let one : InPart = seen c.one-item.result in
    c.in_ok-add_style.ensures ∙ ap (λ all. all ++ styles_with c.args.names.now c.args.is_auto (one ∷ [])) c.kept.invariant
    ∙ append_assoc c.args.styles.now (styles_with c.args.names.now c.args.is_auto before) (styles_with c.args.names.now c.args.is_auto (one ∷ []))
    ∙ ap (λ more. c.args.styles.now ++ more) (sym (ap (styles_with c.args.names.now c.args.is_auto) (next_behind seen c.args.kept.now c.kept.one-index c.one-item.result c.kept-test.true c.one-item.is)
    ∙ with_behind c.args.names.now c.args.is_auto before one))
