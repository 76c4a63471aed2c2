use Rattle.std.proofs.Common.{◌∙◌, Bool, List, ap, sym, Option}
use Rattle.std.specs.Prelude.{unwrap_or}
use Rattle.doc_model.specs.declared.texts.Name.{Name}
use Rattle.key_parts.specs.Shows.{is_shown_in}
use Rattle.key_parts.proofs.Displays.{outermost}
use Rattle.key_parts.proofs.Fronts.{front, rest}
use Rattle.key_parts.proofs.shown.is_shown_in.Goals as goal

pub spans-preserved : goal.spans-preserved
spans-preserved c =
    let inner : List Name = rest c.spans.left.now in
    ap (λ (shown : Bool). is_shown_in c.args.displays.now shown inner)
    (c.unwrap_or-shown.ensures ∙ ap (λ (stated : Option Bool). unwrap_or stated c.spans.shown) c.stated_display.ensures)
    ∙ outermost c.args.displays.now c.spans.shown c.span-item.result inner
    ∙ ap (λ (spans : List Name). is_shown_in c.args.displays.now c.spans.shown spans) (sym (front c.spans.left.now c.span-item.result _ c.in-len1-up.len_at_least c.span-item.is))
    ∙ c.spans.invariant
