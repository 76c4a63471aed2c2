use Rattle.std.proofs.Common.{◌∙◌, List, map, take, ap, sym}
use Rattle.load_model.specs.Left.{Left, all_of}
use Rattle.load_model.specs.Styles.{InPart}
use Rattle.element_parts.specs.Shown.{shown}
use Rattle.sheet_kept.specs.Held.{seen}
use Rattle.sheet_styles.specs.Read.{left_at}
use Rattle.sheet_values.proofs.Steps.{left_behind, next_behind}
use Rattle.sheet_styles.proofs.styles.styles_left.Goals as goal

pub kept-preserved : goal.kept-preserved
kept-preserved c =
    let before : List InPart = map seen (take c.kept.one-index c.args.kept.now) in
    let own : InPart → Left = λ one. left_at c.args.names.now one.element in
    left_behind own before (seen c.one-item.result) _ (c.both-total.ensures (all_of (map own before)) (own (seen c.one-item.result)) c.kept.invariant c.style_left.ensures)
    ∙ ap (λ all. shown (all_of (map own all))) (sym (next_behind seen c.args.kept.now c.kept.one-index c.one-item.result c.kept-test.true c.one-item.is))
