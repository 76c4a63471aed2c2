-- What is kept of a tree without places is what is kept of the tree, each without places.
use Rattle.std.proofs.Common.{◌≡◌, ℕ, ◌&&◌, ◌||◌, Bool, true, false, List, [], map, filter, filter_map, refl, ap, ap₂, sym, ◌∙◌, Option, Some, None, option_map, option_to_list, is_some}
use Rattle.std.specs.List.{flat_map}
use Rattle.std.specs.Option.{option_map_or}
use Rattle.std.specs.Str.{bytes_eq}
use Rattle.doc_model.specs.declared.style.Family.{Family}
use Rattle.doc_model.specs.declared.style.Family.TheVariants as family
use Rattle.style_model.specs.Lineage.{is_same_family}
use Rattle.load_model.specs.declared.names.Key.TheVariants as key
use Rattle.load_model.specs.declared.names.Tag.{Tag}
use Rattle.load_model.specs.declared.names.Tag.TheVariants as tag
use Rattle.load_model.specs.declared.element.Element.{Element}
use Rattle.load_model.specs.Values as value
use Rattle.load_model.specs.Values.{stated}
use Rattle.load_model.specs.Left.{children, tag_of, is_same_tag, is, first, firsts}
use Rattle.load_model.specs.Styles.{InPart, style_parts, in_parts, parts_of_kind, family_of, name_of, have_same_name, have_same_family, named, kept_styles, is_default_style, kept_default, kept_outline, kept_lists, kept_layouts, masters_in, kept_masters, StyleName, style_name, names_of}
use Rattle.back_names.specs.Named.{placeless}
use Rattle.back_sheet_places.proofs.Bare.{tag_bare, attributes_bare, children_bare}
use Rattle.back_sheet_places.proofs.Lists.{filtered, firsts_changed, found, mapped, joined, picked, joined_changed}

-- an element of a style part without places
abbrev pub bare_in : InPart → InPart
bare_in in_part = record { auto = in_part.auto; element = placeless in_part.element }

pub is_bare : (wanted : Tag) (element : Element) → is wanted (placeless element) ≡ is wanted element
is_bare wanted element = ap (λ (one : Tag). is_same_tag one wanted) (tag_bare element)

pub first_bare : (wanted : Tag) (elements : List Element) → first wanted (map placeless elements) ≡ option_map placeless (first wanted elements)
first_bare wanted elements = found placeless (is wanted) (is wanted) (is_bare wanted) elements

pub first_child_bare : (wanted : Tag) (element : Element) → first wanted (children (placeless element)) ≡ option_map placeless (first wanted (children element))
first_child_bare wanted element = ap (first wanted) (children_bare element) ∙ first_bare wanted (children element)

pub name_bare : (element : Element) → name_of (placeless element) ≡ name_of element
name_bare element = ap (stated key.Name value.name) (attributes_bare element)

pub family_bare : (element : Element) → family_of (placeless element) ≡ family_of element
family_bare element = ap (stated key.Family value.family_of_text) (attributes_bare element)

same_name_bare : (one other : Element) → have_same_name (placeless one) (placeless other) ≡ have_same_name one other
same_name_bare one other =
    ap₂ (λ (own others : Option (List ℕ)). option_map_or (λ name. option_map_or (bytes_eq name) others false) own false) (name_bare one) (name_bare other)

same_family_bare : (one other : Element) → have_same_family (placeless one) (placeless other) ≡ have_same_family one other
same_family_bare one other =
    ap₂ (λ (own others : Option Family). option_map_or (λ name. option_map_or (is_same_family name) others false) own false) (family_bare one) (family_bare other)

-- whether an element is a style part, and whether two are the same one
abbrev is_part : Element → Bool
is_part part = is tag.CommonStyles part || is tag.AutomaticStyles part

abbrev are_same_part : Element → Element → Bool
are_same_part one other = is_same_tag (tag_of one) (tag_of other)

pub parts_bare : (root : Element) → style_parts (placeless root) ≡ map placeless (style_parts root)
parts_bare root =
    ap (λ (elements : List Element). firsts are_same_part (filter is_part elements)) (children_bare root)
    ∙ ap (firsts are_same_part) (filtered placeless is_part is_part (λ part. ap₂ (λ (one other : Bool). one || other) (is_bare tag.CommonStyles part) (is_bare tag.AutomaticStyles part)) (children root))
    ∙ firsts_changed placeless are_same_part are_same_part (λ one other. ap₂ is_same_tag (tag_bare one) (tag_bare other)) (filter is_part (children root))

abbrev held_in : Bool → Element → InPart
held_in auto element = record { auto = auto; element = element }

abbrev held_by : Element → List InPart
held_by part = map (held_in (is tag.AutomaticStyles part)) (children part)

held_bare : (part : Element) → held_by (placeless part) ≡ map bare_in (held_by part)
held_bare part =
    let auto = is tag.AutomaticStyles part in
    ap₂ (λ (is : Bool) (elements : List Element). map (held_in is) elements) (is_bare tag.AutomaticStyles part) (children_bare part)
    ∙ mapped placeless (held_in auto) (λ element. bare_in (held_in auto element)) (λ element. refl) (children part)
    ∙ sym (mapped (held_in auto) bare_in (λ element. bare_in (held_in auto element)) (λ element. refl) (children part))

pub in_parts_bare : (root : Element) → in_parts (placeless root) ≡ map bare_in (in_parts root)
in_parts_bare root =
    ap (flat_map held_by) (parts_bare root) ∙ joined placeless held_by (λ part. map bare_in (held_by part)) held_bare (style_parts root)
    ∙ joined_changed bare_in (λ part. map bare_in (held_by part)) held_by (λ part. refl) (style_parts root)

abbrev pub element_in : InPart → Element
element_in in_part = in_part.element

pub elements_bare : (root : Element) → map element_in (in_parts (placeless root)) ≡ map placeless (map element_in (in_parts root))
elements_bare root =
    ap (map element_in) (in_parts_bare root) ∙ mapped bare_in element_in (λ in_part. placeless in_part.element) (λ in_part. refl) (in_parts root)
    ∙ sym (mapped element_in placeless (λ in_part. placeless in_part.element) (λ in_part. refl) (in_parts root))

kind_bare : (of_kind : Element → Bool) → ((element : Element) → of_kind (placeless element) ≡ of_kind element) → (root : Element) → parts_of_kind of_kind (placeless root) ≡ map placeless (parts_of_kind of_kind root)
kind_bare of_kind e root = ap (filter of_kind) (elements_bare root) ∙ filtered placeless of_kind of_kind e (map element_in (in_parts root))

abbrev is_style : InPart → Bool
is_style in_part = is tag.Style in_part.element && is_some (family_of in_part.element) && is_some (name_of in_part.element)

abbrev are_same_style : InPart → InPart → Bool
are_same_style one other = have_same_family one.element other.element && have_same_name one.element other.element

is_style_bare : (in_part : InPart) → is_style (bare_in in_part) ≡ is_style in_part
is_style_bare in_part =
    ap₂ (λ (of : Bool) (name : Option (List ℕ)). of && is_some name)
    (ap₂ (λ (of : Bool) (own : Option Family). of && is_some own) (is_bare tag.Style in_part.element) (family_bare in_part.element)) (name_bare in_part.element)

pub kept_styles_bare : (root : Element) → kept_styles (placeless root) ≡ map bare_in (kept_styles root)
kept_styles_bare root =
    ap (λ (held : List InPart). firsts are_same_style (filter is_style held)) (in_parts_bare root)
    ∙ ap (firsts are_same_style) (filtered bare_in is_style is_style is_style_bare (in_parts root))
    ∙ firsts_changed bare_in are_same_style are_same_style
    (λ one other. ap₂ (λ (own name : Bool). own && name) (same_family_bare one.element other.element) (same_name_bare one.element other.element)) (filter is_style (in_parts root))

named_bare : (of_kind : Tag) (elements : List Element) → named (is of_kind) (map placeless elements) ≡ map placeless (named (is of_kind) elements)
named_bare of_kind elements =
    ap (firsts have_same_name) (filtered placeless has_name has_name (λ element. ap₂ (λ (of : Bool) (name : Option (List ℕ)). of && is_some name) (is_bare of_kind element) (name_bare element)) elements)
    ∙ firsts_changed placeless have_same_name have_same_name same_name_bare (filter has_name elements)
  where
    has_name : Element → Bool
    has_name element = is of_kind element && is_some (name_of element)

pub kept_lists_bare : (root : Element) → kept_lists (placeless root) ≡ map placeless (kept_lists root)
kept_lists_bare root = ap (named (is tag.ListStyle)) (kind_bare (λ element. true) (λ element. refl) root) ∙ named_bare tag.ListStyle (parts_of_kind (λ element. true) root)

pub kept_layouts_bare : (root : Element) → kept_layouts (placeless root) ≡ map placeless (kept_layouts root)
kept_layouts_bare root = ap (named (is tag.PageLayout)) (kind_bare (λ element. true) (λ element. refl) root) ∙ named_bare tag.PageLayout (parts_of_kind (λ element. true) root)

pub kept_outline_bare : (root : Element) → kept_outline (placeless root) ≡ option_map placeless (kept_outline root)
kept_outline_bare root = ap (first tag.OutlineStyle) (kind_bare (λ element. true) (λ element. refl) root) ∙ first_bare tag.OutlineStyle (parts_of_kind (λ element. true) root)

pub kept_default_bare : (root : Element) → kept_default (placeless root) ≡ option_map placeless (kept_default root)
kept_default_bare root =
    ap (first tag.DefaultStyle) (kind_bare is_default_style
    (λ element. ap₂ (λ (of : Bool) (own : Option Family). of && option_map_or (is_same_family family.Paragraph) own false) (is_bare tag.DefaultStyle element) (family_bare element)) root)
    ∙ first_bare tag.DefaultStyle (parts_of_kind is_default_style root)

pub masters_part_bare : (root : Element) → first tag.MasterStyles (children (placeless root)) ≡ option_map placeless (first tag.MasterStyles (children root))
masters_part_bare root = first_child_bare tag.MasterStyles root

pub kept_masters_bare : (root : Element) → kept_masters (placeless root) ≡ map placeless (kept_masters root)
kept_masters_bare root = ap (named (is tag.MasterPage)) (in_bare (first tag.MasterStyles (children root)) (masters_part_bare root)) ∙ named_bare tag.MasterPage (masters_in root) where
  in_bare : (part : Option Element) → first tag.MasterStyles (children (placeless root)) ≡ option_map placeless part → masters_in (placeless root) ≡ map placeless (option_map_or children part [])
  in_bare None e = ap (λ (one : Option Element). option_map_or children one []) e
  in_bare (Some part) e = ap (λ (one : Option Element). option_map_or children one []) e ∙ children_bare part

pub style_name_bare : (element : Element) → style_name (placeless element) ≡ style_name element
style_name_bare element =
    ap₂ (λ (of : Option Family) (name : Option (List ℕ)). flat_map (λ own. map (λ text. record { family = own; name = text }) (option_to_list name)) (option_to_list of)) (family_bare element) (name_bare element)

pub names_bare : (root : Element) → names_of (placeless root) ≡ names_of root
names_bare root =
    ap₂ (λ (own : List StyleName) (others : List (List ℕ)). record { styles = own; lists = others; layouts = filter_map name_of (kept_layouts (placeless root)); masters = filter_map name_of (kept_masters (placeless root)) })
    (ap (flat_map (λ in_part. style_name in_part.element)) (kept_styles_bare root)
    ∙ joined bare_in (λ in_part. style_name in_part.element) (λ in_part. style_name in_part.element) (λ in_part. style_name_bare in_part.element) (kept_styles root))
    (of_names kept_lists (kept_lists_bare root))
    ∙ ap₂ (λ (own others : List (List ℕ)). record { styles = (names_of root).styles; lists = (names_of root).lists; layouts = own; masters = others })
    (of_names kept_layouts (kept_layouts_bare root)) (of_names kept_masters (kept_masters_bare root))
  where
    of_names : (kept : Element → List Element) → kept (placeless root) ≡ map placeless (kept root) → filter_map name_of (kept (placeless root)) ≡ filter_map name_of (kept root)
    of_names kept e = ap (filter_map name_of) e ∙ picked placeless name_of name_of name_bare (kept root)
