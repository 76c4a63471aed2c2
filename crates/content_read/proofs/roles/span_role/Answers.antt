use Rattle.std.proofs.Common.{◌≡◌, ◌≤◌, ◌<◌, ◌∙◌, ℕ, List, [], ◌∷◌, length, Some, None, sym, ap, arith}
use Rattle.std.specs.Prelude.{chars}
use Rattle.std.proofs.lemmas.Bool.{le-ltb, lt-ltb}
use Rattle.doc_model.specs.declared.style.Family.TheVariants as family
use Rattle.load_model.specs.declared.names.Key.TheVariants as key
use Rattle.load_model.specs.Blocks.{left_by, one_element}
use Rattle.load_model.specs.Left.{attributes_of, nothing, only_attributes}
use Rattle.load_model.specs.Styles.{reference, style_reference}
use Rattle.load_model.specs.Values.{rule}
use Rattle.element_parts.specs.Shown.{shown}
use Rattle.content_read.specs.Held.{held, content_in}
use Rattle.content_read.proofs.RoleLemmas.{with_nothing, value_is, span_at, span_bare, span_unknown, span_deep, span_kept}
use Rattle.content_read.proofs.roles.span_role.Goals as goal

pub returns-in_default-clause-read : goal.returns-in_default-clause-read
returns-in_default-clause-read c = λ model known around same.
    let element = c.args.element.now in
    record {
      more = nothing;
      left_is = c.nothing.ensures;
      content_is = span_at model element around c.requires
          ∙ span_bare model around (attributes_of element) (held model element) (value_is element c.get.result.now None c.get.ensures c.in_default.ensures)
          ∙ with_nothing (content_in model element around);
    }

pub returns-in_default-style_reference-clause-read : goal.returns-in_default-style_reference-clause-read
returns-in_default-style_reference-clause-read c = λ model known around same.
    let element = c.args.element.now in
    let text = chars c.in-Some.text.now in
    record {
      more = only_attributes 1;
      left_is = c.attributes.ensures;
      content_is = span_at model element around c.requires
          ∙ span_unknown model around (attributes_of element) (held model element) text (value_is element c.get.result.now (Some text) c.get.ensures c.in-Some.ensures)
          (sym (c.in_default-style_reference.ensures model.names known.names));
    }

pub returns-then-get-ge-MOST_SPANS-clause-read : goal.returns-then-get-ge-MOST_SPANS-clause-read
returns-then-get-ge-MOST_SPANS-clause-read c = λ model known around same.
    let element = c.args.element.now in
    let text = chars c.in-Some.text.now in
    let name = chars c.in-Some-style_reference.name.now in
    let counted : length around.spans ≡ length c.get-2.result.now = ap length (same ∙ sym c.get-2.ensures) in
    let many : 8 ≤ length around.spans = omega arith in
    record {
      more = one_element;
      left_is = c.elements.ensures;
      content_is = span_at model element around c.requires
          ∙ span_deep model around (attributes_of element) (held model element) text name (value_is element c.get.result.now (Some text) c.get.ensures c.in-Some.ensures)
          (sym (c.in-Some-style_reference.ensures model.names known.names)) (le-ltb (length around.spans) 8 many);
    }

pub returns-clause-read : goal.returns-clause-read
returns-clause-read c = λ model known around same.
    let element = c.args.element.now in
    let text = chars c.in-Some.text.now in
    let name = chars c.in-Some-style_reference.name.now in
    let counted : length around.spans ≡ length c.get-2.result.now = ap length (same ∙ sym c.get-2.ensures) in
    let few : length around.spans < 8 = omega arith in
    record {
      more = left_by (rule key.StyleName (style_reference model.names family.Text) ∷ []) (attributes_of element);
      left_is = c.left_beside-left.ensures ∙ ap (λ (names : List (List ℕ)). shown (left_by (rule key.StyleName (reference names) ∷ []) (attributes_of element))) (known.names.styles_are family.Text);
      content_is = span_at model element around c.requires
          ∙ span_kept model around (attributes_of element) (held model element) text name (value_is element c.get.result.now (Some text) c.get.ensures c.in-Some.ensures)
          (sym (c.in-Some-style_reference.ensures model.names known.names)) (lt-ltb (length around.spans) 8 few);
    }
