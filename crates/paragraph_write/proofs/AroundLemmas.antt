-- An element's text round what it holds.
use Rattle.std.proofs.Common.{◌≡◌, ℕ, Bool, true, false, List, [], ◌∷◌, ◌++◌, codes, refl, ap, sym, ◌∙◌, append_assoc}
use Rattle.std.specs.Prelude.{not, if◌then◌else◌}
use Rattle.std.proofs.lemmas.List.{append-nil}
use Rattle.markup_nodes.specs.Node.{Node}
use Rattle.markup_nodes.specs.declared.words.Attr.{Attr}
use Rattle.markup_nodes.specs.declared.tree.Elem.{Elem}
use Rattle.spelling_model.specs.Spelling.{is_there}
use Rattle.tree_text.specs.Writing.{attr_text, tag_text, end_text, child_text, content_text}
use Rattle.std.specs.List.{flat_map}
use Rattle.value_write.proofs.ElementLemmas.{empty_text, filled_text, attributes_on, attributes_join}
use Rattle.written_model.specs.Elements.{element}
use Rattle.paragraph_write.specs.Around.{tag_close, element_close}

-- one that holds something or nothing
pub element_around : (name : List ℕ) (attrs : List Attr) (nodes : List (Node Elem))
    → child_text (element name attrs nodes) ≡ tag_text name attrs ++ (tag_close (is_there nodes) ++ (content_text nodes ++ element_close name (is_there nodes)))
element_around name attrs [] = empty_text name attrs
element_around name attrs (node ∷ nodes) = filled_text name attrs node nodes

-- one that holds one node
pub one_held : (name : List ℕ) (attrs : List Attr) (node : Node Elem) → child_text (element name attrs (node ∷ [])) ≡ (tag_text name attrs ++ codes ">") ++ (child_text node ++ end_text name)
one_held name attrs node =
    filled_text name attrs node []
    ∙ (ap (λ (t : List ℕ). tag_text name attrs ++ (0x3e ∷ (t ++ end_text name))) (append-nil (child_text node)) ∙ sym (append_assoc (tag_text name attrs) (codes ">") (child_text node ++ end_text name)))

-- two groups of attributes behind a tag's name
pub two_groups : (name : List ℕ) (a b : List Attr) (end : List ℕ) → tag_text name [] ++ (flat_map attr_text a ++ (flat_map attr_text b ++ end)) ≡ tag_text name (a ++ b) ++ end
two_groups name a b end = ap (λ (t : List ℕ). tag_text name [] ++ t) (attributes_join a b end) ∙ attributes_on name (a ++ b) end

-- `not` as the definition writes it
pub not_fresh : (fresh : Bool) → not fresh ≡ (if fresh then false else true)
not_fresh true = refl
not_fresh false = refl
