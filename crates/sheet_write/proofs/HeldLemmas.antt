-- Elements that hold nodes or nothing, and parts, from their pieces.
use Rattle.std.proofs.Common.{◌≡◌, ℕ, List, [], ◌∷◌, ◌++◌, Bool, true, false, codes, refl, ap, sym, ◌∙◌, append_assoc}
use Rattle.std.proofs.lemmas.List.{append-nil}
use Rattle.std.proofs.lemmas.Grind.{flat_map-append}
use Rattle.std.specs.List.{flat_map}
use Rattle.markup_nodes.specs.Node.{Node}
use Rattle.markup_nodes.specs.declared.words.Attr.{Attr}
use Rattle.markup_nodes.specs.declared.tree.Elem.{Elem}
use Rattle.markup_parts.proofs.LiteralLemmas.{true_false}
use Rattle.spelling_model.specs.Spelling.{is_there}
use Rattle.tree_text.specs.Writing.{attr_text, tag_text, end_text, child_text, content_text}
use Rattle.written_model.specs.Elements.{element, empty_element, part, properties}
use Rattle.value_write.proofs.ElementLemmas.{attributes_on, filled_text, empty_one}
use Rattle.sheet_write.specs.Held.{held_text}
use Rattle.sheet_write.specs.Parts.{part_start, part_end}

-- an element that holds nothing
pub held_none : (name : List ℕ) (nodes : List (Node Elem)) → is_there nodes ≡ false → codes "/>" ≡ held_text name nodes
held_none name [] e = refl
held_none name (node ∷ nodes) e = absurd (true_false refl e)

-- one that holds something
pub held_some : (name : List ℕ) (nodes : List (Node Elem)) → is_there nodes ≡ true → codes ">" ++ (content_text nodes ++ end_text name) ≡ held_text name nodes
held_some name [] e = absurd (true_false e refl)
held_some name (node ∷ nodes) e = refl

-- an element from its tag and what stands behind it
pub holding : (name : List ℕ) (attrs : List Attr) (nodes : List (Node Elem)) → tag_text name [] ++ (flat_map attr_text attrs ++ held_text name nodes) ≡ child_text (element name attrs nodes)
holding name attrs [] = empty_one name attrs
holding name attrs (node ∷ nodes) = attributes_on name attrs (codes ">" ++ (content_text (node ∷ nodes) ++ end_text name)) ∙ sym (filled_text name attrs node nodes)

-- a part from its pieces
pub part_text : (name : List ℕ) (nodes : List (Node Elem)) → part_start name (is_there nodes) ++ (content_text nodes ++ part_end name (is_there nodes)) ≡ content_text (part name nodes)
part_text name [] = refl
part_text name (node ∷ nodes) =
    append_assoc (tag_text name []) (codes ">") (content_text (node ∷ nodes) ++ end_text name) ∙ (sym (filled_text name [] node nodes) ∙ sym (append-nil (child_text (element name [] (node ∷ nodes)))))

-- stated properties
pub properties_text : (name : List ℕ) (attrs : List Attr) → is_there attrs ≡ true → tag_text name [] ++ (flat_map attr_text attrs ++ codes "/>") ≡ content_text (properties name attrs)
properties_text name [] e = absurd (true_false e refl)
properties_text name (attr ∷ attrs) e = empty_one name (attr ∷ attrs) ∙ sym (append-nil (child_text (empty_element name (attr ∷ attrs))))

pub part_holds : (name : List ℕ) (nodes : List (Node Elem)) (holds : Bool) → holds ≡ is_there nodes → part_start name holds ++ (content_text nodes ++ part_end name holds) ≡ content_text (part name nodes)
part_holds name nodes holds e = rw e (part_text name nodes)

pub start_is : (name : List ℕ) (holds : Bool) → holds ≡ true → tag_text name [] ++ codes ">" ≡ part_start name holds
start_is name holds e = rw e refl

pub end_is : (name : List ℕ) (holds : Bool) → holds ≡ true → end_text name ≡ part_end name holds
end_is name holds e = rw e refl

pub no_start : (name : List ℕ) (holds : Bool) → holds ≡ false → part_start name holds ≡ []
no_start name holds e = rw e refl

pub no_end : (name : List ℕ) (holds : Bool) → holds ≡ false → part_end name holds ≡ []
no_end name holds e = rw e refl

pub no_properties : (name : List ℕ) (attrs : List Attr) → is_there attrs ≡ false → content_text (properties name attrs) ≡ []
no_properties name [] e = refl
no_properties name (attr ∷ attrs) e = absurd (true_false refl e)

-- nodes behind others
pub contents_join : (first more : List (Node Elem)) (end : List ℕ) → content_text first ++ (content_text more ++ end) ≡ content_text (first ++ more) ++ end
contents_join first more end = sym (append_assoc (content_text first) (content_text more) end) ∙ ap (λ (t : List ℕ). t ++ end) (sym (flat_map-append child_text first more))

-- an element that holds stated properties
pub held_properties : (name inner : List ℕ) (attrs : List Attr) → is_there attrs ≡ true
    → codes ">" ++ (tag_text inner [] ++ (flat_map attr_text attrs ++ (codes "/>" ++ end_text name))) ≡ held_text name (properties inner attrs)
held_properties name inner [] e = absurd (true_false e refl)
held_properties name inner (attr ∷ attrs) e =
    let attributes = flat_map attr_text (attr ∷ attrs) in
    let tag = tag_text inner [] in
    let joined : tag ++ (attributes ++ (codes "/>" ++ end_text name)) ≡ content_text (properties inner (attr ∷ attrs)) ++ end_text name =
    ap (λ (t : List ℕ). tag ++ t) (sym (append_assoc attributes (codes "/>") (end_text name))) ∙ (sym (append_assoc tag (attributes ++ codes "/>") (end_text name)) ∙ ap (λ (t : List ℕ). t ++ end_text name) (properties_text inner (attr ∷ attrs) refl)) in
    ap (λ (t : List ℕ). 0x3e ∷ t) joined
