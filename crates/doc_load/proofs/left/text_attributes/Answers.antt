use Rattle.std.proofs.Common.{◌∙◌, ap, Option}
use Rattle.load_model.specs.declared.element.Element.{Element}
use Rattle.element_parts.specs.Shown.{shown}
use Rattle.doc_load.specs.Lefts.{attributes_left_in}
use Rattle.doc_load.proofs.left.text_attributes.Goals as goal

pub returns : goal.returns
returns c = c.attributes_in.ensures ∙ ap (λ (text : Option Element). shown (attributes_left_in text)) c.text_in.ensures
