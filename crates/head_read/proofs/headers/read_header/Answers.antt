use Rattle.std.proofs.Common.{◌≡◌, ◌∙◌, [], ℕ, List, length, map, sym, ap}
use Rattle.std.proofs.lemmas.List.{append-nil, length-map}
use Rattle.load_model.specs.declared.element.Element.{Element}
use Rattle.load_model.specs.Headers.{head_elements, head_left, head_paragraph, header_left}
use Rattle.load_model.specs.Left.{Left, all_but, all_of, attributes_of, both, children, nothing, only_attributes}
use Rattle.load_model.specs.Offences.{too_long}
use Rattle.load_model.specs.Values.{attributes_left}
use Rattle.element_parts.specs.Shown.{shown}
use Rattle.head_read.specs.Heads.{counted}
use Rattle.head_read.proofs.headers.read_header.Goals as goal

pub returns : goal.returns
returns c = λ known knows.
    let header = c.args.header.now in
    let are : map (λ one. one.now) c.as_slice-elements.result.now ≡ head_elements header = ap (map (λ one. one.now)) c.as_slice-elements.ensures.value ∙ c.in_ok-elements.ensures in
    let read = c.in_ok-pars.ensures known knows in
    let count : length c.as_slice-elements.result.now ≡ length (head_elements header) = sym (length-map c.as_slice-elements.result.now (λ one. one.now)) ∙ ap length are in
    let own : Left = only_attributes (attributes_left [] (attributes_of header)) in
    let others : Left = all_but (length (head_elements header)) (children header) in
    let inside : Left = all_of (map (head_left known) (head_elements header)) in
    record {
      pars_are = read.pars_are ∙ ap (map (head_paragraph known)) are ∙ sym (append-nil (map (head_paragraph known) (head_elements header)));
      left_is = c.both-3.ensures nothing (header_left known header) c.nothing-2.ensures
          (c.both-own.ensures (both (both nothing own) others) inside
          (c.both-2.ensures (both nothing own) others (c.both.ensures nothing own c.nothing.ensures c.attributes_out.ensures)
          (c.children_left.ensures ∙ ap (λ (read : ℕ). shown (all_but read (children header))) count))
          (read.left_is ∙ ap (λ (elements : List Element). shown (all_of (map (head_left known) elements))) are));
      too_long_are = read.too_long_are ∙ ap (λ (elements : List Element). too_long (map (counted known) elements)) are ∙ ap too_long (sym (append-nil (map (counted known) (head_elements header))));
    }
