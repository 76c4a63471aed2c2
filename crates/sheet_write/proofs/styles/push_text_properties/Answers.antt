use Rattle.std.proofs.Common.{◌≡◌, ◌++◌, [], ℕ, List, true, false, codes, sym, ◌∙◌, ap}
use Rattle.std.proofs.lemmas.List.{append-nil}
use Rattle.std.specs.List.{flat_map}
use Rattle.std.specs.Str.{chars}
use Rattle.std.specs.String.{string_bytes}
use Rattle.markup_nodes.specs.declared.words.Attr.{Attr}
use Rattle.spelling_model.specs.Spelling.{is_there}
use Rattle.tree_text.specs.Writing.{attr_text, tag_text}
use Rattle.written_model.specs.Styles.{text_attributes}
use Rattle.value_write.proofs.ChainLemmas.{three}
use Rattle.sheet_write.proofs.HeldLemmas.{no_properties, properties_text}
use Rattle.sheet_write.proofs.styles.push_text_properties.Goals as goal

pub returns-then-not-states_text : goal.returns-then-not-states_text
unfolding chars
returns-then-not-states_text c =
    let tag = codes "style:text-properties" in
    let attrs : List Attr = text_attributes c.args.props.now in
    let none : is_there attrs ≡ false = sym c.states_text.ensures ∙ c.if-not-states_text.true in
    let old = chars (string_bytes c.args.out.now) in
    sym (append-nil old) ∙ ap (λ (text : List ℕ). old ++ text) (sym (no_properties tag attrs none))

pub returns : goal.returns
unfolding chars
returns c =
    let tag = codes "style:text-properties" in
    let attrs : List Attr = text_attributes c.args.props.now in
    let some : is_there attrs ≡ true = sym c.states_text.ensures ∙ c.if-not-states_text.false in
    three c.push_empty_end.result (chars (string_bytes c.push_empty_end.new.out)) (chars (string_bytes c.push_text_attributes.new.out)) (chars (string_bytes c.push_name.new.out)) (chars (string_bytes c.args.out.now))
    (tag_text tag []) (flat_map attr_text attrs) (codes "/>") c.in_ok-push_name.ensures c.in_ok-push_text_attributes.ensures c.push_empty_end.ensures (properties_text tag attrs some)
