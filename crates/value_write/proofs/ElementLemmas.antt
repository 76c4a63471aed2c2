-- The text of elements as they are written.
use Rattle.std.proofs.Common.{◌≡◌, ℕ, List, [], ◌∷◌, ◌++◌, codes, refl, ap, sym, ◌∙◌, append_assoc}
use Rattle.std.proofs.lemmas.List.{append-nil}
use Rattle.std.proofs.lemmas.Grind.{flat_map-append}
use Rattle.std.specs.List.{flat_map}
use Rattle.markup_nodes.specs.Node.{Node, Element, Char}
use Rattle.markup_nodes.specs.Nodes.{char_nodes}
use Rattle.markup_nodes.specs.declared.words.Attr.{Attr}
use Rattle.markup_nodes.specs.declared.tree.Elem.{Elem, roll-Elem}
use Rattle.markup_nodes.specs.declared.tree.Elem.TheFolds.{fold-roll-Elem}
use Rattle.markup_tree.specs.Escapes.{escaped_text}
use Rattle.tree_text.specs.Writing.{attr_text, tag_text, end_text, rest_text, elem_text, child_text, content_text, written}
use Rattle.tree_text.proofs.NodesWritten.{each_node}
use Rattle.tree_text.proofs.PieceLemmas.{nodes_content, run_text}
use Rattle.written_model.specs.Elements.{element, empty_element, characters}

text_of : (name : List ℕ) (attrs : List Attr) (nodes : List (Node Elem)) → child_text (element name attrs nodes) ≡ tag_text name attrs ++ rest_text name (each_node written nodes)
text_of name attrs nodes = fold-roll-Elem (List ℕ) elem_text (record { place = 0; name = name; attrs = attrs; nodes = nodes })

-- an element that holds nothing
pub empty_text : (name : List ℕ) (attrs : List Attr) → child_text (empty_element name attrs) ≡ tag_text name attrs ++ codes "/>"
empty_text name attrs = text_of name attrs []

-- one that holds something
pub filled_text : (name : List ℕ) (attrs : List Attr) (node : Node Elem) (nodes : List (Node Elem))
    → child_text (element name attrs (node ∷ nodes)) ≡ tag_text name attrs ++ (codes ">" ++ (content_text (node ∷ nodes) ++ end_text name))
filled_text name attrs node nodes =
    text_of name attrs (node ∷ nodes) ∙ ap (λ (t : List ℕ). tag_text name attrs ++ (0x3e ∷ (t ++ end_text name))) (nodes_content (node ∷ nodes))

-- attributes behind a tag's name
pub attributes_on : (name : List ℕ) (attrs : List Attr) (end : List ℕ) → tag_text name [] ++ (flat_map attr_text attrs ++ end) ≡ tag_text name attrs ++ end
attributes_on name attrs end =
    ap (λ (t : List ℕ). 0x3c ∷ (t ++ (flat_map attr_text attrs ++ end))) (append-nil name) ∙ ap (λ (t : List ℕ). 0x3c ∷ t) (sym (append_assoc name (flat_map attr_text attrs) end))

-- attributes behind others
pub attributes_join : (first more : List Attr) (end : List ℕ) → flat_map attr_text first ++ (flat_map attr_text more ++ end) ≡ flat_map attr_text (first ++ more) ++ end
attributes_join first more end =
    sym (append_assoc (flat_map attr_text first) (flat_map attr_text more) end) ∙ ap (λ (t : List ℕ). t ++ end) (sym (flat_map-append attr_text first more))

-- what elements with one, two and three groups of attributes and nothing in them come to
pub empty_one : (name : List ℕ) (a : List Attr) → tag_text name [] ++ (flat_map attr_text a ++ codes "/>") ≡ child_text (empty_element name a)
empty_one name a = attributes_on name a (codes "/>") ∙ sym (empty_text name a)

pub empty_two : (name : List ℕ) (a b : List Attr) → tag_text name [] ++ (flat_map attr_text a ++ (flat_map attr_text b ++ codes "/>")) ≡ child_text (empty_element name (a ++ b))
empty_two name a b = ap (λ (t : List ℕ). tag_text name [] ++ t) (attributes_join a b (codes "/>")) ∙ empty_one name (a ++ b)

pub empty_three : (name : List ℕ) (a b c : List Attr)
    → tag_text name [] ++ (flat_map attr_text a ++ (flat_map attr_text b ++ (flat_map attr_text c ++ codes "/>"))) ≡ child_text (empty_element name (a ++ (b ++ c)))
empty_three name a b c = ap (λ (t : List ℕ). tag_text name [] ++ (flat_map attr_text a ++ t)) (attributes_join b c (codes "/>")) ∙ empty_two name a (b ++ c)

-- an element that holds characters
pub characters_text : (text : List ℕ) → content_text (characters text) ≡ escaped_text text
characters_text text = run_text text

pub held_characters : (name : List ℕ) (attrs : List Attr) (c : ℕ) (cs : List ℕ)
    → child_text (element name attrs (characters (c ∷ cs))) ≡ tag_text name attrs ++ (codes ">" ++ (escaped_text (c ∷ cs) ++ end_text name))
held_characters name attrs c cs =
    filled_text name attrs (Char c) (characters cs) ∙ ap (λ (t : List ℕ). tag_text name attrs ++ (0x3e ∷ (t ++ end_text name))) (characters_text (c ∷ cs))

pub held_filled : (name : List ℕ) (attrs : List Attr) (text : List ℕ) → (text ≡ [] → ⊥) → tag_text name [] ++ (flat_map attr_text attrs ++ (codes ">" ++ (escaped_text text ++ end_text name))) ≡ child_text (element name attrs (characters text))
held_filled name attrs [] never = absurd (never refl)
held_filled name attrs (c ∷ cs) never = attributes_on name attrs (codes ">" ++ (escaped_text (c ∷ cs) ++ end_text name)) ∙ sym (held_characters name attrs c cs)
