-- The default style.
use Rattle.std.proofs.Common.{◌≡◌, ℕ, List, [], ◌∷◌, ◌++◌, true, false, suc, zero, codes, decimal, refl, sym, ◌∙◌}
use Rattle.std.proofs.lemmas.List.{append-nil}
use Rattle.std.specs.List.{flat_map}
use Rattle.markup_nodes.specs.Node.{Node}
use Rattle.markup_nodes.specs.declared.words.Attr.{Attr}
use Rattle.markup_nodes.specs.declared.tree.Elem.{Elem}
use Rattle.markup_parts.proofs.LiteralLemmas.{true_false}
use Rattle.doc_model.specs.declared.style.Props.{Props}
use Rattle.spelling_model.specs.Spelling.{is_there}
use Rattle.tree_text.specs.Writing.{attr_text, tag_text, end_text, child_text, content_text}
use Rattle.written_model.specs.Elements.{attribute, element}
use Rattle.written_model.specs.Styles.{property_elements, default_style, outline_attribute}
use Rattle.sheet_write.proofs.HeldLemmas.{holding}

-- the element round properties, where there are some
abbrev round : List (Node Elem) → List (Node Elem)
round [] = []
round (node ∷ nodes) = element (codes "style:default-style") (attribute (codes "style:family") (codes "paragraph") ∷ []) (node ∷ nodes) ∷ []

round_none : (nodes : List (Node Elem)) → is_there nodes ≡ false → content_text (round nodes) ≡ []
round_none [] e = refl
round_none (node ∷ nodes) e = absurd (true_false refl e)

round_some : (nodes : List (Node Elem)) → is_there nodes ≡ true
    → tag_text (codes "style:default-style") [] ++ (flat_map attr_text (attribute (codes "style:family") (codes "paragraph") ∷ []) ++ (codes ">" ++ (content_text nodes ++ end_text (codes "style:default-style")))) ≡ content_text (round nodes)
round_some [] e = absurd (true_false e refl)
round_some (node ∷ nodes) e =
    let tag = codes "style:default-style" in
    let attrs : List Attr = attribute (codes "style:family") (codes "paragraph") ∷ [] in
    holding tag attrs (node ∷ nodes) ∙ sym (append-nil (child_text (element tag attrs (node ∷ nodes))))

pub default_none : (defaults : Props) → is_there (property_elements defaults) ≡ false → content_text (default_style defaults) ≡ []
default_none defaults e = round_none (property_elements defaults) e

pub default_some : (defaults : Props) → is_there (property_elements defaults) ≡ true
    → tag_text (codes "style:default-style") [] ++ (flat_map attr_text (attribute (codes "style:family") (codes "paragraph") ∷ []) ++ (codes ">" ++ (content_text (property_elements defaults) ++ end_text (codes "style:default-style")))) ≡ content_text (default_style defaults)
default_some defaults e = round_some (property_elements defaults) e

-- the outline level of a style that has one
pub outlined : (level : ℕ) → (level ≡ 0 → ⊥) → outline_attribute level ≡ attribute (codes "style:default-outline-level") (decimal level) ∷ []
outlined zero never = absurd (never refl)
outlined (suc level) never = refl

-- whether there is one
there-round : (nodes : List (Node Elem)) → is_there (round nodes) ≡ is_there nodes
there-round [] = refl
there-round (node ∷ nodes) = refl

pub there-default : (defaults : Props) → is_there (default_style defaults) ≡ is_there (property_elements defaults)
there-default defaults = there-round (property_elements defaults)
