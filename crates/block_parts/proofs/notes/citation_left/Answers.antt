use Rattle.std.proofs.Common.{◌∙◌, ◌∷◌, [], List, ap, cond, sym}
use Rattle.load_model.specs.declared.element.Element.{Element}
use Rattle.load_model.specs.Blocks.{left_by}
use Rattle.load_model.specs.Left.{nothing, attributes_of}
use Rattle.element_parts.specs.Shown.{shown}
use Rattle.block_parts.specs.Notes.{attributes_in}
use Rattle.block_parts.proofs.notes.citation_left.Goals as goal

pub returns-then-is : goal.returns-then-is
returns-then-is c =
    let element = c.args.element.now in
    let none : List Element = [] in
    c.both.ensures nothing (left_by [] (attributes_of element)) c.nothing.ensures c.bare_left.ensures
    ∙ sym (ap (λ b. shown (attributes_in (cond b (element ∷ none) none))) (sym c.is.ensures ∙ c.if-is.true))
