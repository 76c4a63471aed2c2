-- An element that holds a text or nothing.
use Rattle.std.proofs.Common.{◌≡◌, ℕ, List, [], ◌∷◌, ◌++◌, codes, refl}
use Rattle.std.specs.List.{flat_map}
use Rattle.markup_nodes.specs.declared.words.Attr.{Attr}
use Rattle.markup_tree.specs.Escapes.{escaped_text}
use Rattle.tree_text.specs.Writing.{attr_text, tag_text, end_text, child_text}
use Rattle.written_model.specs.Elements.{element, characters}
use Rattle.value_write.proofs.ElementLemmas as elements
use Rattle.field_write.specs.Held.{held_text}

pub held_filled : (name text : List ℕ) → (text ≡ [] → ⊥) → codes ">" ++ (escaped_text text ++ end_text name) ≡ held_text name text
held_filled name [] never = absurd (never refl)
held_filled name (c ∷ cs) never = refl

pub holding : (name : List ℕ) (attrs : List Attr) (text : List ℕ) → tag_text name [] ++ (flat_map attr_text attrs ++ held_text name text) ≡ child_text (element name attrs (characters text))
holding name attrs [] = elements.empty_one name attrs
holding name attrs (c ∷ cs) = elements.held_filled name attrs (c ∷ cs) (λ e. cc)
