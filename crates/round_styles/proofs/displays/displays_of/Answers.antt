use Rattle.std.proofs.Common.{List, ◌++◌, ap, ◌∙◌}
use Rattle.std.specs.Prelude.{option_to_list}
use Rattle.key_parts.specs.Displays.{display_of}
use Rattle.key_parts.specs.declared.parts.SpanDisplay.{SpanDisplay}
use Rattle.round_styles.proofs.Kept.{kept_more}
use Rattle.round_styles.proofs.displays.displays_of.Goals as goal

pub loop-at-preserved : goal.loop-at-preserved
loop-at-preserved c =
    let styles = c.args.styles.now.styles in
    c.in_ok-push_display.ensures ∙ ap (λ (front : List SpanDisplay). front ++ option_to_list (display_of styles c.get.result.now)) c.loop-at.invariant
    ∙ kept_more (display_of styles) styles c.loop-at.at c.get.result.now c.get.ensures
