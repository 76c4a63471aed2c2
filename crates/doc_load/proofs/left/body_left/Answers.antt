use Rattle.std.proofs.Common.{ℕ, ◌∙◌, ap, ap₂, length, Option}
use Rattle.std.specs.Prelude.{option_to_list}
use Rattle.load_model.specs.declared.element.Element.{Element}
use Rattle.element_parts.specs.Shown.{shown}
use Rattle.doc_load.specs.Lefts.{body_left_in}
use Rattle.doc_load.proofs.left.body_left.Goals as goal

pub returns : goal.returns
returns c =
    let read = c.part_count.ensures ∙ ap (λ (text : Option Element). length (option_to_list text)) c.text_in.ensures in
    c.left_in.ensures ∙ ap₂ (λ (n : ℕ) (body : Option Element). shown (body_left_in n body)) read c.body_in.ensures
