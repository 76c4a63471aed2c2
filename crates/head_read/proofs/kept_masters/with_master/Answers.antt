use Rattle.std.proofs.Common.{◌≡◌, ◌∙◌, ◌+◌, ◌++◌, ℕ, List, length, map, sym, ap, ap₂, append_assoc}
use Rattle.std.specs.List.{flat_map}
use Rattle.std.specs.Option.{option_to_list}
use Rattle.std.proofs.lemmas.Grind.{flat_map-append}
use Rattle.std.proofs.lemmas.List.{map-append}
use Rattle.doc_model.specs.declared.page_layout.HeadPar.{HeadPar}
use Rattle.doc_model.specs.declared.page_layout.Master.{Master}
use Rattle.load_model.specs.declared.element.Element.{Element}
use Rattle.load_model.specs.declared.names.Tag.TheVariants as tag
use Rattle.load_model.specs.Headers.{head_elements, head_of, header_left, master_left}
use Rattle.load_model.specs.Left.{Left, all_but, all_of, attributes_of, both, children, nothing, only_attributes}
use Rattle.load_model.specs.Offences.{Counted, too_long}
use Rattle.load_model.specs.Styles.{name_of}
use Rattle.load_model.specs.Values.{attributes_left}
use Rattle.element_parts.specs.Shown.{shown}
use Rattle.head_content.proofs.WalkLemmas.{all_append}
use Rattle.sheet_values.proofs.Steps.{flat_behind, left_behind}
use Rattle.head_read.specs.Heads.{counted}
use Rattle.head_read.specs.Masters.{counted_in, masters_in}
use Rattle.head_read.specs.Rules.{master_by, rules_by}
use Rattle.head_read.proofs.HeadLemmas.{long_append, long_flat}
use Rattle.head_read.proofs.kept_masters.with_master.Goals as goal

pub returns : goal.returns
returns c = λ known knows before are.
    let element = c.args.element.now in
    let kept = c.args.names.now in
    let header = c.in_ok-header.ensures known knows in
    let footer = c.in_ok-footer.ensures known knows in
    let headers : List Element = option_to_list (head_of tag.Header element) in
    let footers : List Element = option_to_list (head_of tag.Footer element) in
    let found : List Element → List Counted = λ some. flat_map (λ one. map (counted known) (head_elements one)) some in
    let made : List (List ℕ) → List (List ℕ) → List HeadPar → List HeadPar → List Master = λ layouts masters front back. map (λ name. master_by layouts masters element front back name) (option_to_list (name_of element)) in
    let own : List (List ℕ) → List (List ℕ) → Left = λ layouts masters. only_attributes (attributes_left (rules_by layouts masters) (attributes_of element)) in
    let attributes : Left = own known.layouts known.masters in
    let others : Left = all_but (length headers + length footers) (children element) in
    let front : Left = all_of (map (header_left known) headers) in
    let back : Left = all_of (map (header_left known) footers) in
    let inside : both front back ≡ all_of (map (header_left known) (headers ++ footers)) =
    sym (ap all_of (map-append (header_left known) headers footers) ∙ all_append (map (header_left known) headers) (map (header_left known) footers)) in
    record {
      masters_are = c.in_ok-add_master.ensures ∙ ap (λ (all : List Master). all ++ made kept.layouts kept.masters c.in_ok-header.header.pars c.in_ok-footer.footer.pars) are.masters_are
          ∙ ap₂ (λ (layouts masters : List (List ℕ)). flat_map (masters_in known) before ++ made layouts masters c.in_ok-header.header.pars c.in_ok-footer.footer.pars) knows.layouts_are knows.masters_are
          ∙ ap₂ (λ (one other : List HeadPar). flat_map (masters_in known) before ++ made known.layouts known.masters one other) header.pars_are footer.pars_are
          ∙ sym (flat_behind (masters_in known) before element);
      left_is = left_behind (master_left known) before element _ (c.both-4.ensures (all_of (map (master_left known) before)) (master_left known element) are.left_is
          (c.both-own.ensures (both (both nothing attributes) others) (all_of (map (header_left known) (headers ++ footers)))
          (c.both-2.ensures (both nothing attributes) others
          (c.both.ensures nothing attributes c.nothing.ensures (c.own_attributes.ensures ∙ ap₂ (λ (layouts masters : List (List ℕ)). shown (own layouts masters)) knows.layouts_are knows.masters_are))
          c.other_elements.ensures)
          (c.both-3.ensures front back header.left_is footer.left_is ∙ ap shown inside)));
      too_long_are = c.in_ok-append-2.ensures.items
          ∙ ap (λ (all : List ℕ). all ++ c.in_ok-footer.footer.too_long.items) (c.in_ok-append.ensures.items ∙ ap₂ (λ (all more : List ℕ). all ++ more) are.too_long_are header.too_long_are)
          ∙ append_assoc (too_long (flat_map (counted_in known) before)) (too_long (found headers)) c.in_ok-footer.footer.too_long.items
          ∙ ap (λ (more : List ℕ). too_long (flat_map (counted_in known) before) ++ more) (ap (λ (more : List ℕ). too_long (found headers) ++ more) footer.too_long_are ∙ sym (long_append (found headers) (found footers))
          ∙ ap too_long (sym (flat_map-append (λ (one : Element). map (counted known) (head_elements one)) headers footers)))
          ∙ sym (long_flat (counted_in known) before element);
    }
