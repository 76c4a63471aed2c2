-- The end of the tag, the properties and the end of the element.
use Rattle.std.proofs.Common.{◌≡◌, ◌++◌, [], ℕ, List, OnOk, true, false, codes, sym, ◌∙◌, subst}
use Rattle.std.specs.List.{flat_map}
use Rattle.std.specs.Str.{chars}
use Rattle.std.specs.String.{string_bytes}
use Rattle.markup_nodes.specs.declared.words.Attr.{Attr}
use Rattle.spelling_model.specs.Spelling.{is_there}
use Rattle.tree_text.specs.Writing.{attr_text, tag_text, end_text}
use Rattle.written_model.specs.Elements.{properties}
use Rattle.written_model.specs.Styles.{layout_attributes}
use Rattle.value_write.proofs.ChainLemmas.{five}
use Rattle.sheet_write.proofs.HeldLemmas.{held_none, held_properties}
use Rattle.sheet_write.proofs.ThereLemmas.{there-properties}
use Rattle.sheet_write.proofs.layouts.push_dimensions.Goals as goal

pub returns-then-not-states_dimension : goal.returns-then-not-states_dimension
unfolding chars
returns-then-not-states_dimension c =
    let tag = codes "style:page-layout" in
    let inner = codes "style:page-layout-properties" in
    let attrs : List Attr = layout_attributes c.args.layout.now in
    let none : is_there attrs ≡ false = sym c.states_dimension.ensures ∙ c.if-not-states_dimension.true in
    subst (λ (text : List ℕ). OnOk c.push_empty_end.result (chars (string_bytes c.push_empty_end.new.out) ≡ chars (string_bytes c.args.out.now) ++ text))
    (held_none tag (properties inner attrs) (there-properties inner attrs ∙ none)) c.push_empty_end.ensures

pub returns : goal.returns
unfolding chars
returns c =
    let tag = codes "style:page-layout" in
    let inner = codes "style:page-layout-properties" in
    let attrs : List Attr = layout_attributes c.args.layout.now in
    let some : is_there attrs ≡ true = sym c.states_dimension.ensures ∙ c.if-not-states_dimension.false in
    five c.push_end.result (chars (string_bytes c.push_end.new.out)) (chars (string_bytes c.push_empty_end-2.new.out)) (chars (string_bytes c.push_layout_attributes.new.out)) (chars (string_bytes c.push_name.new.out)) (chars (string_bytes c.push_tag_end.new.out)) (chars (string_bytes c.args.out.now))
    (codes ">") (tag_text inner []) (flat_map attr_text attrs) (codes "/>") (end_text tag)
    c.in_ok-push_tag_end.ensures c.in_ok-push_name.ensures c.in_ok-push_layout_attributes.ensures c.in_ok-push_empty_end.ensures c.push_end.ensures (held_properties tag inner attrs some)
