-- What an element gives, by what its nodes give.
use Rattle.std.proofs.Common.{◌≡◌, List, [], ◌∷◌, map, length, refl, ap, ◌∙◌}
use Rattle.std.proofs.lemmas.List.{length-map}
use mathlib.Core.Former.{this}
use Rattle.markup_nodes.specs.formers.nodes.Nodes.{the_former}
use Rattle.markup_nodes.specs.Node.{Node, Element as Inner, Char as Letter}
use Rattle.markup_nodes.specs.Nodes.{elems}
use Rattle.load_model.specs.declared.element.Element.{Element, out-Element}
use Rattle.load_model.specs.declared.element.Element.TheFolds.{fold_out-Element}
use Rattle.load_model.specs.Blocks.{Known, Around, Gives, gives_of, element_content, element_blocks, entry_blocks, joined_blocks, own_text}
use Rattle.element_texts.specs.Letters.{letters}
use Rattle.element_texts.proofs.LetterLemmas.{own_in_text, letters_kept}
use Rattle.content_read.specs.Held.{given, held, content_at}

-- what an element of these nodes gives
abbrev pub gives_with : Known → Element → List (Node Gives) → Gives
gives_with known element nodes = record {
  tag = (out-Element element).tag;
  attributes = (out-Element element).attributes;
  place = (out-Element element).place;
  content = element_content known (out-Element element).tag (out-Element element).place (out-Element element).attributes nodes;
  blocks = element_blocks known (out-Element element).tag (out-Element element).place (out-Element element).attributes nodes;
  entry = entry_blocks (out-Element element).tag (out-Element element).attributes (elems nodes);
  inside = λ lists. joined_blocks (map (λ one. one.blocks lists) (elems nodes));
  children = length (elems nodes);
}

nodes_given : (known : Known) (nodes : List (Node Element)) → (the_former this).map Element Gives (gives_of known) nodes ≡ map (given known) nodes
nodes_given known [] = refl
nodes_given known (Inner element ∷ nodes) = ap (λ (more : List (Node Gives)). Inner (gives_of known element) ∷ more) (nodes_given known nodes)
nodes_given known (Letter c ∷ nodes) = ap (λ (more : List (Node Gives)). Letter c ∷ more) (nodes_given known nodes)

pub gives_out : (known : Known) (element : Element) → gives_of known element ≡ gives_with known element (held known element)
gives_out known element = fold_out-Element Gives _ element ∙ ap (gives_with known element) (nodes_given known (out-Element element).nodes)

-- its content
pub content_out : (known : Known) (element : Element) (around : Around)
    → content_at known element around ≡ element_content known (out-Element element).tag (out-Element element).place (out-Element element).attributes (held known element) around
content_out known element around = ap (λ (one : Gives). one.content around) (gives_out known element)

-- the elements among what nodes give
pub elems_given : (known : Known) (nodes : List (Node Element)) → elems (map (given known) nodes) ≡ map (gives_of known) (elems nodes)
elems_given known [] = refl
elems_given known (Inner element ∷ nodes) = ap (λ (more : List Gives). gives_of known element ∷ more) (elems_given known nodes)
elems_given known (Letter c ∷ nodes) = elems_given known nodes

pub count_given : (known : Known) (nodes : List (Node Element)) → length (elems (map (given known) nodes)) ≡ length (elems nodes)
count_given known nodes = ap length (elems_given known nodes) ∙ length-map (elems nodes) (gives_of known)

-- the characters among them
pub letters_held : (known : Known) (element : Element) → own_text (held known element) ≡ letters (out-Element element).nodes
letters_held known element = own_in_text (held known element) ∙ letters_kept (given known) (λ x. refl) (λ c. refl) (out-Element element).nodes
