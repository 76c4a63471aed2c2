-- The children of the root, and its style parts.
use Rattle.std.proofs.Common.{◌≡◌, ℕ, ◌||◌, not, Bool, true, false, cond, List, [], ◌∷◌, ◌++◌, map, filter, codes, refl, ap, ap₂, ◌∙◌}
use Rattle.std.specs.List.{flat_map, AllByRecursion as Each}
use Rattle.std.proofs.lemmas.List.{append-nil}
use Rattle.std.proofs.lemmas.List.Elements.{filter-append}
use Rattle.std.proofs.lemmas.Grind.{flat_map-append}
use Rattle.markup_nodes.specs.declared.tree.Elem.{Elem}
use Rattle.markup_nodes.specs.Node.{Node}
use Rattle.load_model.specs.declared.names.Tag.{Tag}
use Rattle.load_model.specs.declared.names.Tag.TheVariants as tag
use Rattle.load_model.specs.declared.element.Element.{Element}
use Rattle.load_model.specs.Left.{children, tag_of, is_same_tag, is, firsts}
use Rattle.load_model.specs.Styles.{InPart, style_parts, in_parts}
use Rattle.written_model.specs.Elements.{element, part}
use Rattle.back_names.specs.Named.{tag_named}
use Rattle.back_styles.specs.Shown.{shown, held_of}
use Rattle.back_styles.proofs.Parts.{tag_shown, children_shown}
use Rattle.tree_places.proofs.Within.{each_weaker}
use Rattle.back_parts.proofs.Keys as named
use Rattle.back_parts.proofs.Lists.{filter_all, filter_none}

-- elements of one tag
abbrev pub AreOfTag : Tag → List Element → Type 0
AreOfTag which elements = Each (λ one. tag_of one ≡ which) elements

-- a test of tags, of elements of one tag
pub tested : (test : Tag → Bool) (which : Tag) (b : Bool) (elements : List Element) → test which ≡ b → AreOfTag which elements → Each (λ one. test (tag_of one) ≡ b) elements
tested test which b elements e are = each_weaker (λ one. tag_of one ≡ which) (λ one. test (tag_of one) ≡ b) (λ one is. ap test is ∙ e) elements are

pub part_tags : (name : List ℕ) (which : Tag) (nodes : List (Node Elem)) → tag_named name ≡ which → AreOfTag which (held_of (part name nodes))
part_tags name which [] is = tt
part_tags name which (node ∷ nodes) is = (tag_shown name [] (node ∷ nodes) which is, tt)

-- whether an element is a style part, and whether two are the same one
abbrev pub is_part : Element → Bool
is_part one = is tag.CommonStyles one || is tag.AutomaticStyles one

abbrev pub are_same_part : Element → Element → Bool
are_same_part one other = is_same_tag (tag_of one) (tag_of other)

abbrev pub held_in : Bool → Element → InPart
held_in auto one = record { auto = auto; element = one }

abbrev held_by : Element → List InPart
held_by one = map (held_in (is tag.AutomaticStyles one)) (children one)

-- the children of a root
abbrev pub root_held : List (Node Elem) → List (Node Elem) → List (Node Elem) → Element → List Element
root_held common automatic masters body =
    held_of (part (codes "office:styles") common) ++ held_of (part (codes "office:automatic-styles") automatic) ++ held_of (part (codes "office:master-styles") masters) ++ body ∷ []

-- the parts that are written are apart
parts_apart : (common automatic : List (Node Elem)) → firsts are_same_part (held_of (part (codes "office:styles") common) ++ held_of (part (codes "office:automatic-styles") automatic))
    ≡ held_of (part (codes "office:styles") common) ++ held_of (part (codes "office:automatic-styles") automatic)
parts_apart [] [] = refl
parts_apart [] (node ∷ nodes) = refl
parts_apart (node ∷ nodes) [] = refl
parts_apart (node ∷ nodes) (other ∷ others) =
    ap₂ (λ (one two : Tag). shown (element (codes "office:styles") [] (node ∷ nodes)) ∷ cond (not (is_same_tag one two)) (shown (element (codes "office:automatic-styles") [] (other ∷ others)) ∷ []) [])
    (tag_shown (codes "office:styles") [] (node ∷ nodes) tag.CommonStyles named.common_tag) (tag_shown (codes "office:automatic-styles") [] (other ∷ others) tag.AutomaticStyles named.automatic_tag)

inner_of : (name : List ℕ) (which : Tag) (auto : Bool) (nodes : List (Node Elem)) → tag_named name ≡ which → is_same_tag which tag.AutomaticStyles ≡ auto
    → flat_map held_by (held_of (part name nodes)) ≡ map (held_in auto) (held_of nodes)
inner_of name which auto [] is e = refl
inner_of name which auto (node ∷ nodes) is e =
    append-nil (held_by (shown (element name [] (node ∷ nodes))))
    ∙ ap₂ (λ (b : Bool) (inner : List Element). map (held_in b) inner) (ap (λ (of : Tag). is_same_tag of tag.AutomaticStyles) (tag_shown name [] (node ∷ nodes) which is) ∙ e) (children_shown name [] (node ∷ nodes))

module _ (root : Element) (common automatic masters : List (Node Elem)) (body : Element) (of_body : tag_of body ≡ tag.Body) (held : children root ≡ root_held common automatic masters body) where
  abbrev first_part : List Element
  first_part = held_of (part (codes "office:styles") common)

  abbrev second_part : List Element
  second_part = held_of (part (codes "office:automatic-styles") automatic)

  abbrev third_part : List Element
  third_part = held_of (part (codes "office:master-styles") masters)

  abbrev test : Tag → Bool
  test of = is_same_tag of tag.CommonStyles || is_same_tag of tag.AutomaticStyles

  chosen : filter is_part (first_part ++ second_part ++ third_part ++ body ∷ []) ≡ first_part ++ second_part
  chosen =
      filter-append is_part (first_part ++ second_part ++ third_part) (body ∷ [])
      ∙ ap₂ (λ (front behind : List Element). front ++ behind)
      (filter-append is_part (first_part ++ second_part) third_part
      ∙ ap₂ (λ (front behind : List Element). front ++ behind)
      (filter-append is_part first_part second_part
      ∙ ap₂ (λ (front behind : List Element). front ++ behind)
      (filter_all is_part first_part (tested test tag.CommonStyles true first_part refl (part_tags (codes "office:styles") tag.CommonStyles common named.common_tag)))
      (filter_all is_part second_part (tested test tag.AutomaticStyles true second_part refl (part_tags (codes "office:automatic-styles") tag.AutomaticStyles automatic named.automatic_tag))))
      (filter_none is_part third_part (tested test tag.MasterStyles false third_part refl (part_tags (codes "office:master-styles") tag.MasterStyles masters named.masters_tag))))
      (filter_none is_part (body ∷ []) (ap test of_body, tt))
      ∙ append-nil ((first_part ++ second_part) ++ []) ∙ append-nil (first_part ++ second_part)

  pub parts_are : style_parts root ≡ first_part ++ second_part
  parts_are = ap (λ (inner : List Element). firsts are_same_part (filter is_part inner)) held ∙ ap (firsts are_same_part) chosen ∙ parts_apart common automatic

  pub in_parts_are : in_parts root ≡ map (held_in false) (held_of common) ++ map (held_in true) (held_of automatic)
  in_parts_are =
      ap (flat_map held_by) parts_are ∙ flat_map-append held_by first_part second_part
      ∙ ap₂ (λ (front behind : List InPart). front ++ behind) (inner_of (codes "office:styles") tag.CommonStyles false common named.common_tag refl)
      (inner_of (codes "office:automatic-styles") tag.AutomaticStyles true automatic named.automatic_tag refl)
