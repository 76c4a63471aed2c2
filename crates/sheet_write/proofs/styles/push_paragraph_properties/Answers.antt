use Rattle.std.proofs.Common.{◌≡◌, ◌++◌, [], ℕ, List, true, false, codes, sym, ◌∙◌, ap}
use Rattle.std.proofs.lemmas.List.{append-nil}
use Rattle.std.specs.List.{flat_map}
use Rattle.std.specs.Str.{chars}
use Rattle.std.specs.String.{string_bytes}
use Rattle.markup_nodes.specs.declared.words.Attr.{Attr}
use Rattle.spelling_model.specs.Spelling.{is_there}
use Rattle.tree_text.specs.Writing.{attr_text, tag_text}
use Rattle.written_model.specs.Styles.{paragraph_attributes}
use Rattle.value_write.proofs.ChainLemmas.{three}
use Rattle.sheet_write.proofs.HeldLemmas.{no_properties, properties_text}
use Rattle.sheet_write.proofs.styles.push_paragraph_properties.Goals as goal

pub returns-then-not-states_paragraph : goal.returns-then-not-states_paragraph
unfolding chars
returns-then-not-states_paragraph c =
    let tag = codes "style:paragraph-properties" in
    let attrs : List Attr = paragraph_attributes c.args.props.now in
    let none : is_there attrs ≡ false = sym c.states_paragraph.ensures ∙ c.if-not-states_paragraph.true in
    let old = chars (string_bytes c.args.out.now) in
    sym (append-nil old) ∙ ap (λ (text : List ℕ). old ++ text) (sym (no_properties tag attrs none))

pub returns : goal.returns
unfolding chars
returns c =
    let tag = codes "style:paragraph-properties" in
    let attrs : List Attr = paragraph_attributes c.args.props.now in
    let some : is_there attrs ≡ true = sym c.states_paragraph.ensures ∙ c.if-not-states_paragraph.false in
    three c.push_empty_end.result (chars (string_bytes c.push_empty_end.new.out)) (chars (string_bytes c.push_paragraph_attributes.new.out)) (chars (string_bytes c.push_name.new.out)) (chars (string_bytes c.args.out.now))
    (tag_text tag []) (flat_map attr_text attrs) (codes "/>") c.in_ok-push_name.ensures c.in_ok-push_paragraph_attributes.ensures c.push_empty_end.ensures (properties_text tag attrs some)
