-- Elements one level deep, and what holds of each.
use Rattle.std.proofs.Common.{◌≡◌, ℕ, false, List, [], ◌∷◌, map, length, refl, ap, sym, subst, ◌∙◌}
use Rattle.std.specs.List.{AllByRecursion as Each, list_all}
use mathlib.Core.Former.{this}
use Rattle.markup_nodes.specs.formers.nodes.Nodes.{the_former}
use Rattle.markup_nodes.specs.Node.{Node, Element, Char}
use Rattle.markup_nodes.specs.Nodes.{elems}
use Rattle.load_model.specs.declared.names.Tag.{Tag}
use Rattle.load_model.specs.declared.element.Attribute.{Attribute}
use Rattle.load_model.specs.declared.element.Element.{Element as Read, out-Element, roll-Element}
use Rattle.load_model.specs.declared.element.Element.TheOpen.{Element-F}
use Rattle.load_model.specs.declared.element.Element.TheViews.{out-roll-Element}
use Rattle.load_model.specs.declared.element.Element.TheFolds.{fold_out-Element, ind-Element}
use Rattle.load_model.specs.Blocks.{Known, Gives, element_blocks, element_content, entry_blocks, gives_of, joined_blocks}
use Rattle.load_model.specs.Left.{attributes_of, tag_of}
use Rattle.back_names.specs.Named.{placeless, placeless_node}
use Rattle.back_sheet_places.proofs.Bare.{out_bare}
use Rattle.back_text_places.specs.Standing.{Standing, blocks_stand, content_stands, standing}

-- what holds of each element, if it holds where it holds of those in it
module _ (P : Read → Type 0) (step : (element : Read) → Each P (elems (out-Element element).nodes) → P element) where
  abbrev Known-Element : Type 0
  Known-Element = (element : Read) × P element

  abbrev plain : Known-Element → Read
  plain one = one.0

  each_known : (nodes : List (Node Known-Element)) → Each P (elems ((the_former this).map Known-Element Read plain nodes))
  each_known [] = tt
  each_known (Element one ∷ nodes) = (one.1, each_known nodes)
  each_known (Char c ∷ nodes) = each_known nodes

  abbrev layer_of : Element-F Known-Element → Element-F Read
  layer_of y = record { place = y.place; tag = y.tag; attributes = y.attributes; nodes = (the_former this).map Known-Element Read plain y.nodes }

  rolled : (y : Element-F Known-Element) → P (roll-Element (layer_of y))
  rolled y = step (roll-Element (layer_of y)) (subst (λ (x : Element-F Read). Each P (elems x.nodes)) (sym (out-roll-Element (layer_of y))) (each_known y.nodes))

  pub every : (element : Read) → P element
  every = ind-Element P (λ x y is. subst (λ (z : Element-F Read). P (roll-Element z)) is (rolled y))

-- what nodes give
abbrev pub given_nodes : Known → List (Node Read) → List (Node Gives)
given_nodes known = (the_former this).map Read Gives (gives_of known)

pub elems_given : (known : Known) (nodes : List (Node Read)) → elems (given_nodes known nodes) ≡ map (gives_of known) (elems nodes)
elems_given known [] = refl
elems_given known (Element element ∷ nodes) = ap (λ (more : List Gives). gives_of known element ∷ more) (elems_given known nodes)
elems_given known (Char c ∷ nodes) = elems_given known nodes

-- an element of these parts
abbrev pub gives_with : Known → ℕ → Tag → List Attribute → List (Node Gives) → Gives
gives_with known place tag attributes nodes = record {
  tag = tag;
  attributes = attributes;
  place = place;
  content = element_content known tag place attributes nodes;
  blocks = element_blocks known tag place attributes nodes;
  entry = entry_blocks tag attributes (elems nodes);
  inside = λ lists. joined_blocks (map (λ one. one.blocks lists) (elems nodes));
  children = length (elems nodes);
}

pub gives_out : (known : Known) (element : Read) → gives_of known element ≡ gives_with known (out-Element element).place (tag_of element) (attributes_of element) (given_nodes known (out-Element element).nodes)
gives_out known element = fold_out-Element Gives _ element

pub bare_out : (known : Known) (element : Read)
    → gives_of known (placeless element) ≡ gives_with known 0 (tag_of element) (attributes_of element) (given_nodes known (map placeless_node (out-Element element).nodes))
bare_out known element =
    gives_out known (placeless element) ∙ ap (λ (x : Element-F Read). gives_with known x.place x.tag x.attributes (given_nodes known x.nodes)) (out_bare element)

pub elems_bare : (nodes : List (Node Read)) → elems (map placeless_node nodes) ≡ map placeless (elems nodes)
elems_bare [] = refl
elems_bare (Element element ∷ nodes) = ap (λ (more : List Read). placeless element ∷ more) (elems_bare nodes)
elems_bare (Char c ∷ nodes) = elems_bare nodes

-- whether an element stands in place
abbrev pub stands_with : Tag → List Attribute → List Standing → Standing
stands_with tag attributes held = record {
  tag = tag;
  content = content_stands tag attributes held;
  entry = list_all (λ one. one.blocks false) held;
  blocks = blocks_stand tag attributes held;
  inside = λ sections. list_all (λ one. one.blocks sections) held;
}

elems_stand : (nodes : List (Node Read)) → elems ((the_former this).map Read Standing standing nodes) ≡ map standing (elems nodes)
elems_stand [] = refl
elems_stand (Element element ∷ nodes) = ap (λ (more : List Standing). standing element ∷ more) (elems_stand nodes)
elems_stand (Char c ∷ nodes) = elems_stand nodes

pub standing_out : (element : Read) → standing element ≡ stands_with (tag_of element) (attributes_of element) (map standing (elems (out-Element element).nodes))
standing_out element = fold_out-Element Standing _ element ∙ ap (stands_with (tag_of element) (attributes_of element)) (elems_stand (out-Element element).nodes)
