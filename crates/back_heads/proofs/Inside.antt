-- What written elements hold as headers are read.
use Rattle.std.proofs.Common.{◌≡◌, List, [], ◌∷◌, ℕ, map, refl, ap, ◌∙◌}
use mathlib.Core.Former.{this}
use Rattle.markup_nodes.specs.formers.nodes.Nodes.{the_former}
use Rattle.markup_nodes.specs.declared.words.Attr.{Attr}
use Rattle.markup_nodes.specs.declared.tree.Elem.{Elem}
use Rattle.markup_nodes.specs.Node.{Node, Element, Char}
use Rattle.load_model.specs.declared.names.Tag.{Tag}
use Rattle.load_model.specs.declared.element.Attribute.{Attribute}
use Rattle.load_model.specs.declared.element.Element.{Element as Read}
use Rattle.load_model.specs.declared.element.Element.TheFolds.{fold-roll-Element}
use Rattle.load_model.specs.Headers.{Gives, Within, content_of, element_content, within}
use Rattle.back_names.specs.Named.{tag_named, named_attribute, named, named_node}
use Rattle.back_names.proofs.Parts.{elem_of, named_of}

-- what a written node gives in a header
abbrev pub head_given : Node Elem → Node Gives
head_given (Element elem) = Element (within (named elem)).content
head_given (Char c) = Char c

-- what an element of these parts gives, and what it holds
abbrev pub within_with : Tag → List Attribute → List (Node Gives) → Within
within_with which attributes nodes = record { content = element_content which attributes nodes; inside = λ names. content_of names nodes }

abbrev as_content : Node Within → Node Gives
as_content (Element one) = Element one.content
as_content (Char c) = Char c

nodes_given : (nodes : List (Node Elem)) → map as_content ((the_former this).map Read Within within (map named_node nodes)) ≡ map head_given nodes
nodes_given [] = refl
nodes_given (Element elem ∷ nodes) = ap (λ (more : List (Node Gives)). Element (within (named elem)).content ∷ more) (nodes_given nodes)
nodes_given (Char c ∷ nodes) = ap (λ (more : List (Node Gives)). Char c ∷ more) (nodes_given nodes)

pub within_named : (name : List ℕ) (attrs : List Attr) (nodes : List (Node Elem)) → within (named (elem_of 0 name attrs nodes)) ≡ within_with (tag_named name) (map named_attribute attrs) (map head_given nodes)
within_named name attrs nodes =
    ap within (named_of 0 name attrs nodes)
    ∙ fold-roll-Element Within _ (record { place = 0; tag = tag_named name; attributes = map named_attribute attrs; nodes = map named_node nodes })
    ∙ ap (within_with (tag_named name) (map named_attribute attrs)) (nodes_given nodes)
