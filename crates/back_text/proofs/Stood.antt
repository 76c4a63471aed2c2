-- How the elements of written nodes stand.
use Rattle.std.proofs.Common.{◌≡◌, ℕ, ◌&&◌, Bool, true, false, List, [], ◌∷◌, ◌++◌, map, refl, ap, ◌∙◌}
use Rattle.std.specs.List.{AllByRecursion as Each, list_all}
use Rattle.markup_nodes.specs.declared.words.Attr.{Attr}
use Rattle.markup_nodes.specs.declared.tree.Elem.{Elem}
use Rattle.markup_nodes.specs.Node.{Node, Element, Char}
use Rattle.markup_nodes.specs.Nodes.{elems}
use Rattle.load_model.specs.declared.names.Tag.{Tag}
use Rattle.load_model.specs.declared.element.Element.{Element as Read}
use Rattle.load_model.specs.declared.element.Element.TheOpen.{Element-F}
use Rattle.load_model.specs.declared.element.Element.TheViews.{out-roll-Element}
use Rattle.written_model.specs.Elements.{characters, element}
use Rattle.back_names.specs.Named.{named, named_attribute, named_node, tag_named}
use Rattle.back_names.proofs.Parts.{elem_of, named_of}
use Rattle.back_text_places.specs.Standing.{Standing, standing}
use Rattle.back_text_places.proofs.Steps.{stands_with, standing_out}

-- how each element among nodes stands
abbrev pub stood : List (Node Elem) → List Standing
stood nodes = map standing (elems (map named_node nodes))

pub standing_of : (name : List ℕ) (attrs : List Attr) (nodes : List (Node Elem)) (which : Tag) → tag_named name ≡ which
    → standing (named (elem_of 0 name attrs nodes)) ≡ stands_with which (map named_attribute attrs) (stood nodes)
standing_of name attrs nodes which is =
    let layer : Element-F Read = record { place = 0; tag = tag_named name; attributes = map named_attribute attrs; nodes = map named_node nodes } in
    ap standing (named_of 0 name attrs nodes) ∙ standing_out _ ∙ ap (λ (x : Element-F Read). stands_with x.tag x.attributes (map standing (elems x.nodes))) (out-roll-Element layer)
    ∙ ap (λ (one : Tag). stands_with one (map named_attribute attrs) (stood nodes)) is

pub stood_element : (name : List ℕ) (attrs : List Attr) (nodes more : List (Node Elem)) (which : Tag) → tag_named name ≡ which
    → stood (element name attrs nodes ∷ more) ≡ stands_with which (map named_attribute attrs) (stood nodes) ∷ stood more
stood_element name attrs nodes more which is = ap (λ (one : Standing). one ∷ stood more) (standing_of name attrs nodes which is)

pub stood_characters : (text : List ℕ) → stood (characters text) ≡ []
stood_characters [] = refl
stood_characters (c ∷ cs) = stood_characters cs

both_hold : (one more : Bool) → one ≡ true → more ≡ true → (one && more) ≡ true
both_hold true true e f = refl
both_hold true false e f = cc
both_hold false more e f = cc

-- all elements among nodes pass a test
module _ (test : Standing → Bool) where
  abbrev pub Stand : List (Node Elem) → Type 0
  Stand nodes = list_all test (stood nodes) ≡ true

  pub both_stand : (nodes others : List (Node Elem)) → Stand nodes → Stand others → Stand (nodes ++ others)
  both_stand [] others one other = other
  both_stand (Char c ∷ nodes) others one other = both_stand nodes others one other
  both_stand (Element elem ∷ nodes) others one other = by_test (test (standing (named elem))) one (λ e. both_stand nodes others e other) where
    by_test : (b : Bool) → (b && list_all test (stood nodes)) ≡ true → (list_all test (stood nodes) ≡ true → list_all test (stood (nodes ++ others)) ≡ true) → (b && list_all test (stood (nodes ++ others))) ≡ true
    by_test true e rest = rest e
    by_test false e rest = cc

  pub more_stand : (name : List ℕ) (attrs : List Attr) (nodes more : List (Node Elem)) (which : Tag) → tag_named name ≡ which → test (stands_with which (map named_attribute attrs) (stood nodes)) ≡ true → Stand more
      → Stand (element name attrs nodes ∷ more)
  more_stand name attrs nodes more which is one rest =
      ap (list_all test) (stood_element name attrs nodes more which is) ∙ both_hold (test (stands_with which (map named_attribute attrs) (stood nodes))) (list_all test (stood more)) one rest

  pub one_stands : (name : List ℕ) (attrs : List Attr) (nodes : List (Node Elem)) (which : Tag) → tag_named name ≡ which → test (stands_with which (map named_attribute attrs) (stood nodes)) ≡ true → Stand (element name attrs nodes ∷ [])
  one_stands name attrs nodes which is one = more_stand name attrs nodes [] which is one refl

  -- nodes one by one
  pub each_stand : {X : Type 0} (made : X → Node Elem) (xs : List X) → Each (λ x. Stand (made x ∷ [])) xs → Stand (map made xs)
  each_stand made [] each = refl
  each_stand made (x ∷ xs) each = both_stand (made x ∷ []) (map made xs) each.0 (each_stand made xs each.1)
