-- What a written element gives, by its parts.
use Rattle.std.proofs.Common.{◌≡◌, List, [], ◌∷◌, ℕ, map, length, refl, ap, ◌∙◌}
use mathlib.Core.Former.{this}
use Rattle.markup_nodes.specs.formers.nodes.Nodes.{the_former}
use Rattle.markup_nodes.specs.declared.words.Attr.{Attr}
use Rattle.markup_nodes.specs.declared.tree.Elem.{Elem}
use Rattle.markup_nodes.specs.Node.{Node, Element, Char}
use Rattle.markup_nodes.specs.Nodes.{elems}
use Rattle.load_model.specs.declared.names.Tag.{Tag}
use Rattle.load_model.specs.declared.element.Attribute.{Attribute}
use Rattle.load_model.specs.declared.element.Element.{Element as Read}
use Rattle.load_model.specs.declared.element.Element.TheFolds.{fold-roll-Element}
use Rattle.load_model.specs.Blocks.{Known, Gives, gives_of, element_content, element_blocks, entry_blocks, joined_blocks}
use Rattle.load_model.specs.Styles.{Names}
use Rattle.written_model.specs.Elements.{element}
use Rattle.back_names.specs.Named.{tag_named, named_attribute, named, named_node}
use Rattle.back_names.proofs.Parts.{named_of}
use Rattle.back_fields.specs.Given.{all_kept, given}

-- what an element of these parts gives
abbrev pub gives_with : Known → Tag → List Attribute → List (Node Gives) → Gives
gives_with known tag attributes nodes = record {
  tag = tag;
  attributes = attributes;
  place = 0;
  content = element_content known tag 0 attributes nodes;
  blocks = element_blocks known tag 0 attributes nodes;
  entry = entry_blocks tag attributes (elems nodes);
  inside = λ lists. joined_blocks (map (λ one. one.blocks lists) (elems nodes));
  children = length (elems nodes);
}

nodes_given : (names : Names) (nodes : List (Node Elem)) → (the_former this).map Read Gives (gives_of (all_kept names)) (map named_node nodes) ≡ map (given names) nodes
nodes_given names [] = refl
nodes_given names (Element elem ∷ nodes) = ap (λ (more : List (Node Gives)). Element (gives_of (all_kept names) (named elem)) ∷ more) (nodes_given names nodes)
nodes_given names (Char c ∷ nodes) = ap (λ (more : List (Node Gives)). Char c ∷ more) (nodes_given names nodes)

pub element_given : (names : Names) (name : List ℕ) (attrs : List Attr) (nodes : List (Node Elem))
    → given names (element name attrs nodes) ≡ Element (gives_with (all_kept names) (tag_named name) (map named_attribute attrs) (map (given names) nodes))
element_given names name attrs nodes =
    ap (λ (read : Read). Element (gives_of (all_kept names) read)) (named_of 0 name attrs nodes)
    ∙ ap (λ (gives : Gives). Element gives) (fold-roll-Element Gives _ (record { place = 0; tag = tag_named name; attributes = map named_attribute attrs; nodes = map named_node nodes })
    ∙ ap (gives_with (all_kept names) (tag_named name) (map named_attribute attrs)) (nodes_given names nodes))
