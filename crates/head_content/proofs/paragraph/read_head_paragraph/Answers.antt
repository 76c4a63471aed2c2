use Rattle.std.proofs.Common.{◌≡◌, ◌∙◌, List, ap, sym}
use Rattle.doc_model.specs.declared.paragraph.What.{What}
use Rattle.load_model.specs.declared.element.Element.{out-Element}
use Rattle.load_model.specs.Blocks.{ReadContent}
use Rattle.load_model.specs.Content.{items_of_raw}
use Rattle.load_model.specs.Headers.{head_rules, within}
use Rattle.load_model.specs.Left.{Left, attributes_of, only_attributes}
use Rattle.load_model.specs.Values.{Rule, attributes_left}
use Rattle.element_parts.specs.Shown.{shown}
use Rattle.head_content.specs.Reading.{followed, nothing_read}
use Rattle.head_content.specs.Walk.{given_by, whats}
use Rattle.head_content.proofs.ReadingLemmas.{nothing_both}
use Rattle.head_content.proofs.WalkLemmas.{inside_out}
use Rattle.head_content.proofs.paragraph.read_head_paragraph.Goals as goal

pub returns : goal.returns
returns c = λ known knows.
    let element = c.args.element.now in
    let given : ReadContent = given_by (out-Element element).nodes known in
    let content : ReadContent = followed nothing_read given in
    let read = c.in_ok-push_inside.ensures known knows nothing_read c.new-read.ensures in
    let inside : given ≡ (within element).inside known = sym (inside_out element known) in
    let own : List Rule → Left = λ rules. only_attributes (attributes_left rules (attributes_of element)) in
    record {
      paragraph_is = ap (λ (all : List What). record { items = all }) (c.in_ok-whats.ensures ∙ ap whats (c.into_parts-items.ensures.items content read ∙ ap (λ (one : ReadContent). items_of_raw one.raws) inside));
      left_is = c.both.ensures (own (head_rules element)) ((within element).inside known).left
          (c.attributes_out.ensures ∙ ap (λ (rules : List Rule). shown (own rules)) c.head_rules.ensures)
          (c.into_parts-items.ensures.left content read ∙ ap shown (nothing_both given.left ∙ ap (λ (one : ReadContent). one.left) inside));
    }
