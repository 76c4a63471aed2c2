-- What an element gives where blocks and the content of paragraphs are read, by what its nodes give.
use Rattle.std.proofs.Common.{◌≡◌, List, [], ◌∷◌, map, length, refl, ap, ◌∙◌}
use mathlib.Core.Former.{this}
use Rattle.markup_nodes.specs.formers.nodes.Nodes.{the_former}
use Rattle.markup_nodes.specs.Node.{Node, Element as Inner, Char as Letter}
use Rattle.markup_nodes.specs.Nodes.{elems}
use Rattle.load_model.specs.declared.element.Element.{Element, out-Element}
use Rattle.load_model.specs.declared.element.Element.TheFolds.{fold_out-Element}
use Rattle.load_model.specs.Blocks.{Known, Gives, gives_of, element_content, element_blocks, entry_blocks, joined_blocks}

module _ (known : Known) where
  -- what a node gives
  abbrev pub given : Node Element → Node Gives
  given (Inner element) = Inner (gives_of known element)
  given (Letter c) = Letter c

  -- an element with what its nodes give
  abbrev pub with_nodes : Element → List (Node Gives) → Gives
  with_nodes element nodes = record {
    tag = (out-Element element).tag;
    attributes = (out-Element element).attributes;
    place = (out-Element element).place;
    content = element_content known (out-Element element).tag (out-Element element).place (out-Element element).attributes nodes;
    blocks = element_blocks known (out-Element element).tag (out-Element element).place (out-Element element).attributes nodes;
    entry = entry_blocks (out-Element element).tag (out-Element element).attributes (elems nodes);
    inside = λ lists. joined_blocks (map (λ one. one.blocks lists) (elems nodes));
    children = length (elems nodes);
  }

  nodes_given : (nodes : List (Node Element)) → (the_former this).map Element Gives (gives_of known) nodes ≡ map given nodes
  nodes_given [] = refl
  nodes_given (Inner element ∷ nodes) = ap (λ (more : List (Node Gives)). Inner (gives_of known element) ∷ more) (nodes_given nodes)
  nodes_given (Letter c ∷ nodes) = ap (λ (more : List (Node Gives)). Letter c ∷ more) (nodes_given nodes)

  pub gives_out : (element : Element) → gives_of known element ≡ with_nodes element (map given (out-Element element).nodes)
  gives_out element = fold_out-Element Gives _ element ∙ ap (with_nodes element) (nodes_given (out-Element element).nodes)

  pub elems_given : (nodes : List (Node Element)) → elems (map given nodes) ≡ map (gives_of known) (elems nodes)
  elems_given [] = refl
  elems_given (Inner element ∷ nodes) = ap (λ (more : List Gives). gives_of known element ∷ more) (elems_given nodes)
  elems_given (Letter c ∷ nodes) = elems_given nodes
