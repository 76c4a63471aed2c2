-- What holds of each element, and the places in it.
use Rattle.std.proofs.Common.{◌≡◌, ℕ, List, [], ◌∷◌, ◌++◌, refl, sym, ap, ◌∙◌, subst}
use Rattle.std.specs.List.{flat_map, AllByRecursion as Each}
use mathlib.Core.Former.{this}
use Rattle.markup_nodes.specs.formers.nodes.Nodes.{the_former}
use Rattle.markup_nodes.specs.declared.words.Attr.{Attr}
use Rattle.markup_nodes.specs.declared.tree.Elem.{Elem, out-Elem, roll-Elem}
use Rattle.markup_nodes.specs.declared.tree.Elem.TheViews.{out-roll-Elem}
use Rattle.markup_nodes.specs.declared.tree.Elem.TheOpen.{Elem-F}
use Rattle.markup_nodes.specs.declared.tree.Elem.TheFolds.{fold_out-Elem, map-Elem, ind-Elem}
use Rattle.markup_nodes.specs.Node.{Node, Element as Inner, Char}
use Rattle.markup_nodes.specs.Nodes.{elems}
use Rattle.load_model.specs.declared.names.Tag.{Tag}
use Rattle.load_model.specs.declared.element.Attribute.{Attribute}
use Rattle.load_model.specs.declared.element.Element.{Element, out-Element, roll-Element}
use Rattle.load_model.specs.declared.element.Element.TheViews.{out-roll-Element}
use Rattle.load_model.specs.declared.element.Element.TheOpen.{Element-F}
use Rattle.load_model.specs.declared.element.Element.TheFolds.{fold-roll-Element, fold_out-Element, map-Element, ind-Element}
use Rattle.tree_places.specs.Order.{own_and_inner, places_in, tag_and_inner, tag_places}

-- what holds of each element of markup of whose inner ones it holds, holds of all
module _ (P : Elem → Type 0) (of_elem : (elem : Elem) → Each P (elems (out-Elem elem).nodes) → P elem) where
  abbrev KnownElem : Type 0
  KnownElem = (elem : Elem) × P elem

  abbrev bare_elem : KnownElem → Elem
  bare_elem known = known.0

  abbrev bared_elems : List (Node KnownElem) → List (Node Elem)
  bared_elems = (the_former this).map KnownElem Elem bare_elem

  each_elem : (nodes : List (Node KnownElem)) → Each P (elems (bared_elems nodes))
  each_elem [] = tt
  each_elem (Inner known ∷ nodes) = (known.1, each_elem nodes)
  each_elem (Char c ∷ nodes) = each_elem nodes

  elem_rolled : (place : ℕ) (name : List ℕ) (attrs : List Attr) (nodes : List (Node KnownElem)) → P (roll-Elem (record { place = place; name = name; attrs = attrs; nodes = bared_elems nodes }))
  elem_rolled place name attrs nodes =
      of_elem (roll-Elem (record { place = place; name = name; attrs = attrs; nodes = bared_elems nodes }))
      (subst (λ (x : Elem-F Elem). Each P (elems x.nodes)) (sym (out-roll-Elem (record { place = place; name = name; attrs = attrs; nodes = bared_elems nodes }))) (each_elem nodes))

  elem_step : (x : Elem-F Elem) (y : Elem-F KnownElem) → map-Elem KnownElem Elem bare_elem y ≡ x → P (roll-Elem x)
  elem_step x y is = subst (λ (z : Elem-F Elem). P (roll-Elem z)) is (elem_rolled y.place y.name y.attrs y.nodes)

  pub every_elem : (elem : Elem) → P elem
  every_elem = ind-Elem P elem_step

-- the same of elements whose names are resolved
module _ (P : Element → Type 0) (of_element : (element : Element) → Each P (elems (out-Element element).nodes) → P element) where
  abbrev KnownElement : Type 0
  KnownElement = (element : Element) × P element

  abbrev bare_element : KnownElement → Element
  bare_element known = known.0

  abbrev bared_elements : List (Node KnownElement) → List (Node Element)
  bared_elements = (the_former this).map KnownElement Element bare_element

  each_element : (nodes : List (Node KnownElement)) → Each P (elems (bared_elements nodes))
  each_element [] = tt
  each_element (Inner known ∷ nodes) = (known.1, each_element nodes)
  each_element (Char c ∷ nodes) = each_element nodes

  element_rolled : (place : ℕ) (tag : Tag) (attributes : List Attribute) (nodes : List (Node KnownElement))
      → P (roll-Element (record { place = place; tag = tag; attributes = attributes; nodes = bared_elements nodes }))
  element_rolled place tag attributes nodes =
      of_element (roll-Element (record { place = place; tag = tag; attributes = attributes; nodes = bared_elements nodes }))
      (subst (λ (x : Element-F Element). Each P (elems x.nodes)) (sym (out-roll-Element (record { place = place; tag = tag; attributes = attributes; nodes = bared_elements nodes }))) (each_element nodes))

  element_step : (x : Element-F Element) (y : Element-F KnownElement) → map-Element KnownElement Element bare_element y ≡ x → P (roll-Element x)
  element_step x y is = subst (λ (z : Element-F Element). P (roll-Element z)) is (element_rolled y.place y.tag y.attributes y.nodes)

  pub every_element : (element : Element) → P element
  every_element = ind-Element P element_step

-- places, level by level
tags_inner : (nodes : List (Node Elem)) → flat_map (λ (inner : List ℕ). inner) (elems ((the_former this).map Elem (List ℕ) tag_places nodes)) ≡ flat_map tag_places (elems nodes)
tags_inner [] = refl
tags_inner (Inner elem ∷ nodes) = ap (λ (more : List ℕ). tag_places elem ++ more) (tags_inner nodes)
tags_inner (Char c ∷ nodes) = tags_inner nodes

pub tags_out : (elem : Elem) → tag_places elem ≡ (out-Elem elem).place ∷ flat_map tag_places (elems (out-Elem elem).nodes)
tags_out elem = fold_out-Elem (List ℕ) tag_and_inner elem ∙ ap (λ (more : List ℕ). (out-Elem elem).place ∷ more) (tags_inner (out-Elem elem).nodes)

places_inner : (nodes : List (Node Element)) → flat_map (λ (inner : List ℕ). inner) (elems ((the_former this).map Element (List ℕ) places_in nodes)) ≡ flat_map places_in (elems nodes)
places_inner [] = refl
places_inner (Inner element ∷ nodes) = ap (λ (more : List ℕ). places_in element ++ more) (places_inner nodes)
places_inner (Char c ∷ nodes) = places_inner nodes

pub places_out : (element : Element) → places_in element ≡ (out-Element element).place ∷ flat_map places_in (elems (out-Element element).nodes)
places_out element = fold_out-Element (List ℕ) own_and_inner element ∙ ap (λ (more : List ℕ). (out-Element element).place ∷ more) (places_inner (out-Element element).nodes)

pub places_rolled : (x : Element-F Element) → places_in (roll-Element x) ≡ x.place ∷ flat_map places_in (elems x.nodes)
places_rolled x = fold-roll-Element (List ℕ) own_and_inner x ∙ ap (λ (more : List ℕ). x.place ∷ more) (places_inner x.nodes)
