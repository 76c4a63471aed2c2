-- The tag with its attribute, the properties and the end.
use Rattle.std.proofs.Common.{◌≡◌, ◌++◌, [], ◌∷◌, ℕ, List, true, codes, sym, ◌∙◌, ap}
use Rattle.std.proofs.lemmas.List.{append-nil}
use Rattle.std.specs.List.{flat_map}
use Rattle.std.specs.Str.{chars}
use Rattle.std.specs.String.{string_bytes}
use Rattle.markup_nodes.specs.Node.{Node}
use Rattle.markup_nodes.specs.declared.tree.Elem.{Elem}
use Rattle.markup_nodes.specs.declared.words.Attr.{Attr}
use Rattle.spelling_model.specs.Spelling.{is_there}
use Rattle.tree_text.specs.Writing.{attr_text, tag_text, end_text, content_text}
use Rattle.written_model.specs.Elements.{attribute}
use Rattle.written_model.specs.Styles.{property_elements}
use Rattle.value_write.proofs.ChainLemmas.{five}
use Rattle.sheet_write.proofs.DefaultLemmas.{default_none, default_some}
use Rattle.sheet_write.proofs.styles.push_default_style.Goals as goal

pub returns-then-not-states_something : goal.returns-then-not-states_something
unfolding chars
returns-then-not-states_something c =
    let old = chars (string_bytes c.args.out.now) in
    sym (append-nil old) ∙ ap (λ (text : List ℕ). old ++ text) (sym (default_none c.args.defaults.now (sym c.states_something.ensures ∙ c.if-not-states_something.true)))

pub returns : goal.returns
unfolding chars
returns c =
    let tag = codes "style:default-style" in
    let attrs : List Attr = attribute (codes "style:family") (codes "paragraph") ∷ [] in
    let nodes : List (Node Elem) = property_elements c.args.defaults.now in
    let some : is_there nodes ≡ true = sym c.states_something.ensures ∙ c.if-not-states_something.false in
    five c.push_end.result (chars (string_bytes c.push_end.new.out)) (chars (string_bytes c.push_properties.new.out)) (chars (string_bytes c.push_tag_end.new.out)) (chars (string_bytes c.push_text.new.out)) (chars (string_bytes c.push_name.new.out)) (chars (string_bytes c.args.out.now))
    (tag_text tag []) (flat_map attr_text attrs) (codes ">") (content_text nodes) (end_text tag)
    c.in_ok-push_name.ensures c.in_ok-push_text.ensures c.in_ok-push_tag_end.ensures c.in_ok-push_properties.ensures c.push_end.ensures (default_some c.args.defaults.now some)
