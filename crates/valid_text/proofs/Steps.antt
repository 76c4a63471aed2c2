-- Elements one level deep, and what holds of each.
use Rattle.std.proofs.Common.{◌≡◌, ℕ, List, [], ◌∷◌, map, length, refl, ap, sym, subst, ◌∙◌}
use Rattle.std.specs.List.{AllByRecursion as Each}
use mathlib.Core.Former.{this}
use Rattle.markup_nodes.specs.formers.nodes.Nodes.{the_former}
use Rattle.markup_nodes.specs.Node.{Node, Element, Char}
use Rattle.markup_nodes.specs.Nodes.{elems}
use Rattle.load_model.specs.declared.names.Tag.{Tag}
use Rattle.load_model.specs.declared.element.Attribute.{Attribute}
use Rattle.load_model.specs.declared.element.Element.{Element as Read, out-Element, roll-Element}
use Rattle.load_model.specs.declared.element.Element.TheOpen.{Element-F}
use Rattle.load_model.specs.declared.element.Element.TheViews.{out-roll-Element}
use Rattle.load_model.specs.declared.element.Element.TheFolds.{fold_out-Element, ind-Element}
use Rattle.load_model.specs.Blocks.{Known, Gives, element_blocks, element_content, entry_blocks, gives_of, joined_blocks}
use Rattle.load_model.specs.Left.{attributes_of, tag_of}
use Rattle.load_model.specs.Met as met
use Rattle.load_model.specs.Met.{each, in_blocks, in_content, in_list}

-- what holds of each element, if it holds where it holds of those in it
module _ (P : Read → Type 0) (step : (element : Read) → Each P (elems (out-Element element).nodes) → P element) where
  abbrev Known-Element : Type 0
  Known-Element = (element : Read) × P element

  abbrev plain : Known-Element → Read
  plain one = one.0

  each_known : (nodes : List (Node Known-Element)) → Each P (elems ((the_former this).map Known-Element Read plain nodes))
  each_known [] = tt
  each_known (Element one ∷ nodes) = (one.1, each_known nodes)
  each_known (Char c ∷ nodes) = each_known nodes

  abbrev layer_of : Element-F Known-Element → Element-F Read
  layer_of y = record { place = y.place; tag = y.tag; attributes = y.attributes; nodes = (the_former this).map Known-Element Read plain y.nodes }

  rolled : (y : Element-F Known-Element) → P (roll-Element (layer_of y))
  rolled y = step (roll-Element (layer_of y)) (subst (λ (x : Element-F Read). Each P (elems x.nodes)) (sym (out-roll-Element (layer_of y))) (each_known y.nodes))

  pub every : (element : Read) → P element
  every = ind-Element P (λ x y is. subst (λ (z : Element-F Read). P (roll-Element z)) is (rolled y))

-- what nodes give
abbrev pub given_nodes : Known → List (Node Read) → List (Node Gives)
given_nodes known = (the_former this).map Read Gives (gives_of known)

pub elems_given : (known : Known) (nodes : List (Node Read)) → elems (given_nodes known nodes) ≡ map (gives_of known) (elems nodes)
elems_given known [] = refl
elems_given known (Element element ∷ nodes) = ap (λ (more : List Gives). gives_of known element ∷ more) (elems_given known nodes)
elems_given known (Char c ∷ nodes) = elems_given known nodes

-- an element of these parts
abbrev pub gives_with : Known → ℕ → Tag → List Attribute → List (Node Gives) → Gives
gives_with known place tag attributes nodes = record {
  tag = tag;
  attributes = attributes;
  place = place;
  content = element_content known tag place attributes nodes;
  blocks = element_blocks known tag place attributes nodes;
  entry = entry_blocks tag attributes (elems nodes);
  inside = λ lists. joined_blocks (map (λ one. one.blocks lists) (elems nodes));
  children = length (elems nodes);
}

pub gives_out : (known : Known) (element : Read) → gives_of known element ≡ gives_with known (out-Element element).place (tag_of element) (attributes_of element) (given_nodes known (out-Element element).nodes)
gives_out known element = fold_out-Element Gives _ element

pub tag_given : (known : Known) (element : Read) → (gives_of known element).tag ≡ tag_of element
tag_given known element = ap (λ (one : Gives). one.tag) (gives_out known element)

-- what an element of these parts meets
abbrev pub met_with : ℕ → Tag → List Attribute → List met.Gives → met.Gives
met_with place tag attributes gives = record {
  tag = tag;
  blocks = in_blocks tag place attributes gives;
  entry = in_list tag gives;
  content = in_content tag place attributes gives;
  inside = λ here. each (λ one. one.blocks) here gives;
}

elems_met : (nodes : List (Node Read)) → elems ((the_former this).map Read met.Gives met.gives_of nodes) ≡ map met.gives_of (elems nodes)
elems_met [] = refl
elems_met (Element element ∷ nodes) = ap (λ (more : List met.Gives). met.gives_of element ∷ more) (elems_met nodes)
elems_met (Char c ∷ nodes) = elems_met nodes

pub met_out : (element : Read) → met.gives_of element ≡ met_with (out-Element element).place (tag_of element) (attributes_of element) (map met.gives_of (elems (out-Element element).nodes))
met_out element = fold_out-Element met.Gives _ element ∙ ap (met_with (out-Element element).place (tag_of element) (attributes_of element)) (elems_met (out-Element element).nodes)

pub tag_met : (element : Read) → (met.gives_of element).tag ≡ tag_of element
tag_met element = ap (λ (one : met.Gives). one.tag) (met_out element)
