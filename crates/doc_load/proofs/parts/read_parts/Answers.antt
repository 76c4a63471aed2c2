use Rattle.std.proofs.Common.{List, ◌∙◌, ap, length, sym}
use Rattle.std.specs.Borrow.{Bor}
use Rattle.std.proofs.lemmas.List.{length-map}
use Rattle.load_model.specs.declared.element.Element.{Element}
use Rattle.doc_load.proofs.parts.read_parts.Goals as goal

pub returns : goal.returns
returns c = λ sheet.
    let root = c.args.root.now in
    let values = c.in_ok-values.ensures root sheet in
    record {
      count_is = ap (λ (parts : List (Bor Element)). length parts) c.as_slice.ensures.value
          ∙ sym (length-map c.args.sheet.now.parts.items (λ (part : Bor Element). part.now)) ∙ ap (λ (parts : List Element). length parts) sheet.parts_are;
      values_are = values;
      masters_are = c.in_ok-masters.ensures sheet;
      loops_are = c.in_ok-loops.ensures root sheet (c.get.ensures ∙ values.styles_are);
      limits_are = c.part_limits.ensures root sheet;
    }
