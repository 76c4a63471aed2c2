-- What is kept of the style parts of a written document.
use Rattle.std.proofs.Common.{◌≡◌, ◌≢◌, ℕ, ◌&&◌, not, Bool, true, false, List, [], ◌∷◌, ◌++◌, map, filter, bytes_eq, refl, sym, ap, ap₂, ◌∙◌, Option, Some, None, is_some}
use Rattle.std.specs.List.{AllByRecursion as Each}
use Rattle.std.specs.Option.{option_map_or}
use Rattle.std.proofs.lemmas.List.{append-nil, map-append}
use Rattle.std.proofs.lemmas.List.Elements.{filter-append}
use Rattle.std.proofs.lemmas.Slice.Eq.{bytes_eq-Decides}
use Rattle.markup_nodes.specs.declared.tree.Elem.{Elem}
use Rattle.markup_nodes.specs.Node.{Node}
use Rattle.doc_model.specs.declared.document.Document.{Document}
use Rattle.doc_model.specs.declared.style.Family.{Family}
use Rattle.doc_model.specs.declared.style.Family.TheVariants as family
use Rattle.doc_model.specs.declared.style.Style.{Style}
use Rattle.doc_model.specs.declared.list_style.ListStyle.{ListStyle}
use Rattle.doc_model.specs.declared.page_layout.PageLayout.{PageLayout}
use Rattle.doc_model.specs.declared.page_layout.Master.{Master}
use Rattle.doc_model.specs.Valid.{IsValid}
use Rattle.style_model.specs.Lineage.{is_same_family}
use Rattle.load_model.specs.declared.names.Tag.{Tag}
use Rattle.load_model.specs.declared.names.Tag.TheVariants as tag
use Rattle.load_model.specs.declared.element.Element.{Element}
use Rattle.load_model.specs.Left.{tag_of, is_same_tag, is, first, firsts}
use Rattle.load_model.specs.Styles.{InPart, in_parts, family_of, name_of, have_same_name, have_same_family, named, kept_styles, is_default_style, kept_default, kept_outline, kept_lists, kept_layouts}
use Rattle.written_model.specs.Styles.{style_element, default_style, outline_style, list_style_element, layout_element, master_element}
use Rattle.back_fields.specs.Fit.{IsName}
use Rattle.back_styles.specs.Shown.{shown, held_of}
use Rattle.back_styles.specs.Styles.{style_read, default_read}
use Rattle.back_styles.proofs.Parts.{held_both}
use Rattle.back_sheets.specs.Layouts.{layout_read}
use Rattle.back_lists.specs.Lists.{list_read, outline_read}
use Rattle.tree_places.proofs.Within.{Pairs, pairs_of, each_weaker, each_within, within_filter}
use Rattle.back_masters.specs.Masters.{master_read}
use Rattle.back_parts.specs.Parts.{root_read}
use Rattle.back_parts.proofs.Files.{common_nodes, automatic_nodes, body_read, body_tagged, root_children, master_nodes, none_of_tag, first_both, or_none}
use Rattle.back_parts.proofs.Lists.{made_of_each, filter_all, filter_none, filter_made, firsts_made, pairs_joined, pairs_of_made, sorted, each_passed}
use Rattle.back_parts.proofs.Named.{AreNamed}
use Rattle.back_parts.proofs.Root.{AreOfTag, held_in, in_parts_are}
use Rattle.back_parts.proofs.Tags.{style_tagged, list_tagged, layout_tagged, outline_tagged, default_tagged, style_named, list_named, layout_named, family_named}

-- made elements
held_made : {X : Type 0} (made : X → Node Elem) → ((x : X) → held_of (made x ∷ []) ≡ shown (made x) ∷ []) → (xs : List X) → held_of (map made xs) ≡ map (λ x. shown (made x)) xs
held_made made alone [] = refl
held_made made alone (x ∷ xs) = held_both (made x ∷ []) (map made xs) ∙ ap₂ (λ (one more : List Element). one ++ more) (alone x) (held_made made alone xs)

pub masters_held : (masters : List Master) → held_of (map master_element masters) ≡ map master_read masters
masters_held masters = held_made master_element (λ master. refl) masters

-- six lists of elements
abbrev pub six : {X : Type 0} → List X → List X → List X → List X → List X → List X → List X
six d s o l a p = (d ++ s ++ o ++ l) ++ (a ++ p)

filter_six : {X : Type 0} (test : X → Bool) (d s o l a p : List X) → filter test (six d s o l a p) ≡ six (filter test d) (filter test s) (filter test o) (filter test l) (filter test a) (filter test p)
filter_six {X} test d s o l a p =
    filter-append test (d ++ s ++ o ++ l) (a ++ p)
    ∙ ap₂ (λ (front behind : List X). front ++ behind)
    (filter-append test (d ++ s ++ o) l
    ∙ ap (λ (front : List X). front ++ filter test l)
    (filter-append test (d ++ s) o ∙ ap (λ (front : List X). front ++ filter test o) (filter-append test d s)))
    (filter-append test a p)

-- elements of another tag don't pass a test of one
other_tag : (wanted which : Tag) (more : Element → Bool) (elements : List Element) → is_same_tag which wanted ≡ false → AreOfTag which elements → filter (λ one. is wanted one && more one) elements ≡ []
other_tag wanted which more elements e are =
    filter_none (λ one. is wanted one && more one) elements
    (each_weaker (λ one. tag_of one ≡ which) (λ one. (is wanted one && more one) ≡ false) (λ one own. ap (λ (of : Tag). is_same_tag of wanted && more one) own ∙ ap (λ (b : Bool). b && more one) e) elements are)

all_tagged : {X : Type 0} (made : X → Element) (which : Tag) → ((x : X) → tag_of (made x) ≡ which) → (xs : List X) → AreOfTag which (map made xs)
all_tagged made which is [] = tt
all_tagged made which is (x ∷ xs) = (is x, all_tagged made which is xs)

-- where only some of the six are left
only_first : {X : Type 0} (xs : List X) → six xs [] [] [] [] [] ≡ xs
only_first xs = append-nil (xs ++ [] ++ [] ++ []) ∙ append-nil (xs ++ [] ++ []) ∙ append-nil (xs ++ []) ∙ append-nil xs

only_styles : {X : Type 0} (xs ys : List X) → (([] ++ xs) ++ [] ++ []) ++ (ys ++ []) ≡ xs ++ ys
only_styles {X} xs ys = ap₂ (λ (front behind : List X). front ++ behind) (append-nil (xs ++ []) ∙ append-nil xs) (append-nil ys)

-- a test that all of a list pass
each_true : {X : Type 0} (xs : List X) → Each (λ x. true ≡ true) xs
each_true [] = tt
each_true (x ∷ xs) = (refl, each_true xs)

-- names that differ
names_differ : (one other : List ℕ) → one ≢ other → bytes_eq one other ≡ false
names_differ one other apart = by_test (bytes_eq one other) refl where
  by_test : (b : Bool) → bytes_eq one other ≡ b → bytes_eq one other ≡ false
  by_test true e = absurd (apart ((bytes_eq-Decides one other).0 e))
  by_test false e = e

-- elements that state these names aren't of the same name
names_apart : (one other : Element) (name next : List ℕ) → name_of one ≡ Some name → name_of other ≡ Some next → name ≢ next → have_same_name one other ≡ false
names_apart one other name next e f apart =
    ap₂ (λ (own more : Option (List ℕ)). option_map_or (λ text. option_map_or (bytes_eq text) more false) own false) e f ∙ names_differ name next apart

-- things with names that are apart, which are read of the elements that they are made as
module _ {X : Type 0} (made : X → Element) (name : X → List ℕ) (wanted : Tag) (same : is_same_tag wanted wanted ≡ true) (tagged : (x : X) → tag_of (made x) ≡ wanted) (xs : List X)
    (stated : Each (λ x. name_of (made x) ≡ Some (name x)) xs) (apart : Pairs (λ x y. name x ≢ name y) xs) where
  all_pass : filter (λ one. is wanted one && is_some (name_of one)) (map made xs) ≡ map made xs
  all_pass =
      filter_all (λ one. is wanted one && is_some (name_of one)) (map made xs)
      (made_of_each (λ one. (is wanted one && is_some (name_of one)) ≡ true) made xs
      (each_weaker (λ x. name_of (made x) ≡ Some (name x)) (λ x. (is wanted (made x) && is_some (name_of (made x))) ≡ true)
      (λ x e. ap₂ (λ (of : Tag) (text : Option (List ℕ)). is_same_tag of wanted && is_some text) (tagged x) e ∙ ap (λ (b : Bool). b && true) same) xs stated))

  pub named_all : firsts have_same_name (map made xs) ≡ map made xs
  named_all =
      firsts_made made have_same_name xs
      (pairs_joined (λ x. name_of (made x) ≡ Some (name x)) (λ x y. name x ≢ name y) (λ x y. have_same_name (made x) (made y) ≡ false)
      (λ x y e f differ. names_apart (made x) (made y) (name x) (name y) e f differ) xs stated apart)

  pub named_alone : named (is wanted) (map made xs) ≡ map made xs
  named_alone = ap (firsts have_same_name) all_pass ∙ named_all

-- a style of an element of a part
abbrev pub own_part : Style → InPart
own_part style = record { auto = style.auto; element = style_read style }

abbrev is_kept : Element → Bool
is_kept one = is tag.Style one && is_some (family_of one) && is_some (name_of one)

-- whether two styles of parts are the same
abbrev same_style : InPart → InPart → Bool
same_style one other = have_same_family one.element other.element && have_same_name one.element other.element

same_family_is : (one other : Family) → is_same_family one other ≡ true → one ≡ other
same_family_is family.Paragraph family.Paragraph e = refl
same_family_is family.Text family.Text e = refl
same_family_is family.Section family.Section e = refl
same_family_is family.Paragraph family.Text e = absurd cc
same_family_is family.Paragraph family.Section e = absurd cc
same_family_is family.Text family.Paragraph e = absurd cc
same_family_is family.Text family.Section e = absurd cc
same_family_is family.Section family.Paragraph e = absurd cc
same_family_is family.Section family.Text e = absurd cc

styles_differ : (one other : Style) → IsName one.name → IsName other.name → (one.family ≡ other.family → one.name ≢ other.name) → same_style (own_part one) (own_part other) ≡ false
styles_differ one other is are apart = families ∙ by_family (is_same_family one.family other.family) refl where
  families : same_style (own_part one) (own_part other) ≡ (is_same_family one.family other.family && have_same_name (style_read one) (style_read other))
  families = ap₂ (λ (own more : Option Family). option_map_or (λ of. option_map_or (is_same_family of) more false) own false && have_same_name (style_read one) (style_read other)) (family_named one) (family_named other)

  by_family : (b : Bool) → is_same_family one.family other.family ≡ b → (is_same_family one.family other.family && have_same_name (style_read one) (style_read other)) ≡ false
  by_family false e = ap (λ (b : Bool). b && have_same_name (style_read one) (style_read other)) e
  by_family true e =
      ap₂ (λ (b c : Bool). b && c) e
      (names_apart (style_read one) (style_read other) one.name other.name (style_named one is) (style_named other are) (apart (same_family_is one.family other.family e)))

-- those that pass, in parts
kept_in : (auto : Bool) (elements : List Element) → filter (λ (in_part : InPart). is_kept in_part.element) (map (held_in auto) elements) ≡ map (held_in auto) (filter is_kept elements)
kept_in auto elements = filter_made (λ (in_part : InPart). is_kept in_part.element) (held_in auto) elements

-- styles of one kind
own_parts : (auto : Bool) (styles : List Style) → Each (λ (style : Style). style.auto ≡ auto) styles → map (held_in auto) (map style_read styles) ≡ map own_part styles
own_parts auto [] each = refl
own_parts auto (style ∷ styles) each = ap₂ (λ (kind : Bool) (more : List InPart). held_in kind (style_read style) ∷ more) (sym each.0) (own_parts auto styles each.1)

-- those of which a test is false aren't those of which it is true
each_not : (styles : List Style) → Each (λ (style : Style). not style.auto ≡ true) styles → Each (λ (style : Style). style.auto ≡ false) styles
each_not styles each = each_weaker (λ (style : Style). not style.auto ≡ true) (λ (style : Style). style.auto ≡ false) (λ style e. by_kind style.auto e) styles each where
  by_kind : (b : Bool) → not b ≡ true → b ≡ false
  by_kind false e = refl
  by_kind true e = sym e

each_within_filter : {X : Type 0} (P : X → Type 0) (test : X → Bool) (xs : List X) → Each P xs → Each P (filter test xs)
each_within_filter P test xs each = each_within P (filter test xs) xs (within_filter test xs) each

module _ (doc : Document) where
  abbrev pub common : List Style
  common = filter (λ (style : Style). not style.auto) doc.styles

  abbrev pub automatic : List Style
  automatic = filter (λ (style : Style). style.auto) doc.styles

  abbrev pub d : List Element
  d = default_read doc.defaults

  abbrev pub s : List Element
  s = map style_read common

  abbrev pub o : List Element
  o = outline_read doc.outline

  abbrev pub l : List Element
  l = map list_read doc.lists

  abbrev pub a : List Element
  a = map style_read automatic

  abbrev pub p : List Element
  p = map layout_read doc.layouts

  common_held : held_of (common_nodes doc) ≡ d ++ s ++ o ++ l
  common_held =
      held_both (default_style doc.defaults ++ map style_element common ++ outline_style doc.outline) (map list_style_element doc.lists)
      ∙ ap₂ (λ (front behind : List Element). front ++ behind)
      (held_both (default_style doc.defaults ++ map style_element common) (outline_style doc.outline)
      ∙ ap (λ (front : List Element). front ++ o)
      (held_both (default_style doc.defaults) (map style_element common) ∙ ap (λ (behind : List Element). d ++ behind) (held_made style_element (λ style. refl) common)))
      (held_made list_style_element (λ list. refl) doc.lists)

  automatic_held : held_of (automatic_nodes doc) ≡ a ++ p
  automatic_held =
      held_both (map style_element automatic) (map layout_element doc.layouts)
      ∙ ap₂ (λ (front behind : List Element). front ++ behind) (held_made style_element (λ style. refl) automatic) (held_made layout_element (λ layout. refl) doc.layouts)

  parts_held : in_parts (root_read doc) ≡ map (held_in false) (d ++ s ++ o ++ l) ++ map (held_in true) (a ++ p)
  parts_held =
      in_parts_are (root_read doc) (common_nodes doc) (automatic_nodes doc) (master_nodes doc) (body_read doc) (body_tagged doc) (root_children doc)
      ∙ ap₂ (λ (front behind : List Element). map (held_in false) front ++ map (held_in true) behind) common_held automatic_held

  let_out : (auto : Bool) (elements : List Element) → map (λ (in_part : InPart). in_part.element) (map (held_in auto) elements) ≡ elements
  let_out auto [] = refl
  let_out auto (one ∷ elements) = ap (λ (more : List Element). one ∷ more) (let_out auto elements)

  pub elements_are : map (λ (in_part : InPart). in_part.element) (in_parts (root_read doc)) ≡ six d s o l a p
  elements_are =
      ap (map (λ (in_part : InPart). in_part.element)) parts_held ∙ map-append (λ (in_part : InPart). in_part.element) (map (held_in false) (d ++ s ++ o ++ l)) (map (held_in true) (a ++ p))
      ∙ ap₂ (λ (front behind : List Element). front ++ behind) (let_out false (d ++ s ++ o ++ l)) (let_out true (a ++ p))

  module _ (valid : IsValid doc) (given : AreNamed doc) where
    passed : (styles : List Style) → Each (λ (style : Style). IsName style.name) styles → filter is_kept (map style_read styles) ≡ map style_read styles
    passed styles each =
        filter_all is_kept (map style_read styles)
        (made_of_each (λ one. is_kept one ≡ true) style_read styles
        (each_weaker (λ (style : Style). IsName style.name) (λ style. is_kept (style_read style) ≡ true)
        (λ style is. (λ i. is_same_tag (style_tagged style i) tag.Style && is_some (family_named style i) && is_some (style_named style is i))) styles each))

    not_kept : (which : Tag) (elements : List Element) → is_same_tag which tag.Style ≡ false → AreOfTag which elements → filter is_kept elements ≡ []
    not_kept which elements e are =
        filter_none is_kept elements
        (each_weaker (λ one. tag_of one ≡ which) (λ one. is_kept one ≡ false)
        (λ one own. ap (λ (of : Tag). is_same_tag of tag.Style && is_some (family_of one) && is_some (name_of one)) own ∙ ap (λ (b : Bool). b && is_some (family_of one) && is_some (name_of one)) e) elements are)

    kept_elements : filter (λ (in_part : InPart). is_kept in_part.element) (in_parts (root_read doc)) ≡ map own_part doc.styles
    kept_elements =
        ap (filter (λ (in_part : InPart). is_kept in_part.element)) parts_held
        ∙ filter-append (λ (in_part : InPart). is_kept in_part.element) (map (held_in false) (d ++ s ++ o ++ l)) (map (held_in true) (a ++ p))
        ∙ ap₂ (λ (front behind : List InPart). front ++ behind) front_kept behind_kept
        ∙ sym (map-append own_part common automatic)
        ∙ ap (map own_part) (sorted (λ (style : Style). style.auto) doc.styles (pairs_of (λ left right. right.auto ≡ false → left.auto ≡ false) doc.styles valid.styles_in_order))
      where
        front_kept : filter (λ (in_part : InPart). is_kept in_part.element) (map (held_in false) (d ++ s ++ o ++ l)) ≡ map own_part common
        front_kept =
            kept_in false (d ++ s ++ o ++ l)
            ∙ ap (map (held_in false))
            (filter-append is_kept (d ++ s ++ o) l
            ∙ ap₂ (λ (front behind : List Element). front ++ behind)
            (filter-append is_kept (d ++ s) o
            ∙ ap₂ (λ (front behind : List Element). front ++ behind)
            (filter-append is_kept d s
            ∙ ap₂ (λ (front behind : List Element). front ++ behind) (not_kept tag.DefaultStyle d refl (default_tagged doc.defaults)) (passed common (each_within_filter (λ (style : Style). IsName style.name) (λ (style : Style). not style.auto) doc.styles given.styles)))
            (not_kept tag.OutlineStyle o refl (outline_tagged doc.outline)))
            (not_kept tag.ListStyle l refl (all_tagged list_read tag.ListStyle list_tagged doc.lists))
            ∙ append-nil (s ++ []) ∙ append-nil s)
            ∙ own_parts false common (each_not common (each_passed (λ (style : Style). not style.auto) doc.styles))

        behind_kept : filter (λ (in_part : InPart). is_kept in_part.element) (map (held_in true) (a ++ p)) ≡ map own_part automatic
        behind_kept =
            kept_in true (a ++ p)
            ∙ ap (map (held_in true))
            (filter-append is_kept a p
            ∙ ap₂ (λ (front behind : List Element). front ++ behind) (passed automatic (each_within_filter (λ (style : Style). IsName style.name) (λ (style : Style). style.auto) doc.styles given.styles))
            (not_kept tag.PageLayout p refl (all_tagged layout_read tag.PageLayout layout_tagged doc.layouts))
            ∙ append-nil a)
            ∙ own_parts true automatic (each_passed (λ (style : Style). style.auto) doc.styles)

    pub styles_kept : kept_styles (root_read doc) ≡ map own_part doc.styles
    styles_kept =
        ap (firsts same_style) kept_elements
        ∙ firsts_made own_part same_style doc.styles
        (pairs_joined (λ (style : Style). IsName style.name) (λ left right. left.family ≡ right.family → left.name ≢ right.name) (λ one other. same_style (own_part one) (own_part other) ≡ false)
        (λ one other is are apart. styles_differ one other is are apart) doc.styles given.styles (pairs_of (λ left right. left.family ≡ right.family → left.name ≢ right.name) doc.styles valid.style_names))

    -- all the elements pass where nothing is asked
    all_elements : filter (λ (one : Element). true) (map (λ (in_part : InPart). in_part.element) (in_parts (root_read doc))) ≡ six d s o l a p
    all_elements = filter_all (λ (one : Element). true) (map (λ (in_part : InPart). in_part.element) (in_parts (root_read doc))) (each_true (map (λ (in_part : InPart). in_part.element) (in_parts (root_read doc)))) ∙ elements_are

    pub lists_kept : kept_lists (root_read doc) ≡ l
    lists_kept =
        ap (named (is tag.ListStyle)) all_elements
        ∙ ap (firsts have_same_name)
        (filter_six (λ one. is tag.ListStyle one && is_some (name_of one)) d s o l a p
        ∙ (λ i. six (other_tag tag.ListStyle tag.DefaultStyle (λ one. is_some (name_of one)) d refl (default_tagged doc.defaults) i)
        (other_tag tag.ListStyle tag.Style (λ one. is_some (name_of one)) s refl (all_tagged style_read tag.Style style_tagged common) i)
        (other_tag tag.ListStyle tag.OutlineStyle (λ one. is_some (name_of one)) o refl (outline_tagged doc.outline) i)
        (filter (λ one. is tag.ListStyle one && is_some (name_of one)) l)
        (other_tag tag.ListStyle tag.Style (λ one. is_some (name_of one)) a refl (all_tagged style_read tag.Style style_tagged automatic) i)
        (other_tag tag.ListStyle tag.PageLayout (λ one. is_some (name_of one)) p refl (all_tagged layout_read tag.PageLayout layout_tagged doc.layouts) i))
        ∙ append-nil (filter (λ one. is tag.ListStyle one && is_some (name_of one)) l))
        ∙ named_alone list_read (λ (list : ListStyle). list.name) tag.ListStyle refl list_tagged doc.lists
        (each_weaker (λ (list : ListStyle). IsName list.name) (λ list. name_of (list_read list) ≡ Some list.name) list_named doc.lists given.lists)
        (pairs_of_made (λ left right. left ≢ right) (λ (list : ListStyle). list.name) doc.lists (pairs_of (λ left right. left ≢ right) (map (λ (list : ListStyle). list.name) doc.lists) valid.list_names.1))

    pub layouts_kept : kept_layouts (root_read doc) ≡ p
    layouts_kept =
        ap (named (is tag.PageLayout)) all_elements
        ∙ ap (firsts have_same_name)
        (filter_six (λ one. is tag.PageLayout one && is_some (name_of one)) d s o l a p
        ∙ (λ i. six (other_tag tag.PageLayout tag.DefaultStyle (λ one. is_some (name_of one)) d refl (default_tagged doc.defaults) i)
        (other_tag tag.PageLayout tag.Style (λ one. is_some (name_of one)) s refl (all_tagged style_read tag.Style style_tagged common) i)
        (other_tag tag.PageLayout tag.OutlineStyle (λ one. is_some (name_of one)) o refl (outline_tagged doc.outline) i)
        (other_tag tag.PageLayout tag.ListStyle (λ one. is_some (name_of one)) l refl (all_tagged list_read tag.ListStyle list_tagged doc.lists) i)
        (other_tag tag.PageLayout tag.Style (λ one. is_some (name_of one)) a refl (all_tagged style_read tag.Style style_tagged automatic) i)
        (filter (λ one. is tag.PageLayout one && is_some (name_of one)) p)))
        ∙ named_alone layout_read (λ (layout : PageLayout). layout.name) tag.PageLayout refl layout_tagged doc.layouts
        (each_weaker (λ (layout : PageLayout). IsName layout.name) (λ layout. name_of (layout_read layout) ≡ Some layout.name) layout_named doc.layouts given.layouts)
        (pairs_of_made (λ left right. left ≢ right) (λ (layout : PageLayout). layout.name) doc.layouts (pairs_of (λ left right. left ≢ right) (map (λ (layout : PageLayout). layout.name) doc.layouts) valid.layout_names.1))

    pub default_kept : Each (λ one. is_default_style one ≡ true) d → kept_default (root_read doc) ≡ first tag.DefaultStyle d
    default_kept each =
        ap (first tag.DefaultStyle)
        (ap (filter is_default_style) elements_are ∙ filter_six is_default_style d s o l a p
        ∙ (λ i. six (filter_all is_default_style d each i)
        (other_tag tag.DefaultStyle tag.Style of_paragraphs s refl (all_tagged style_read tag.Style style_tagged common) i)
        (other_tag tag.DefaultStyle tag.OutlineStyle of_paragraphs o refl (outline_tagged doc.outline) i)
        (other_tag tag.DefaultStyle tag.ListStyle of_paragraphs l refl (all_tagged list_read tag.ListStyle list_tagged doc.lists) i)
        (other_tag tag.DefaultStyle tag.Style of_paragraphs a refl (all_tagged style_read tag.Style style_tagged automatic) i)
        (other_tag tag.DefaultStyle tag.PageLayout of_paragraphs p refl (all_tagged layout_read tag.PageLayout layout_tagged doc.layouts) i))
        ∙ only_first d)
      where
        of_paragraphs : Element → Bool
        of_paragraphs one = option_map_or (is_same_family family.Paragraph) (family_of one) false

    pub outline_kept : kept_outline (root_read doc) ≡ first tag.OutlineStyle o
    outline_kept =
        ap (first tag.OutlineStyle) all_elements
        ∙ first_both tag.OutlineStyle (d ++ s ++ o ++ l) (a ++ p) (first tag.OutlineStyle o) None
        (first_both tag.OutlineStyle (d ++ s ++ o) l (first tag.OutlineStyle o) None
        (first_both tag.OutlineStyle (d ++ s) o None (first tag.OutlineStyle o)
        (first_both tag.OutlineStyle d s None None (none_of_tag tag.OutlineStyle tag.DefaultStyle d refl (default_tagged doc.defaults)) (none_of_tag tag.OutlineStyle tag.Style s refl (all_tagged style_read tag.Style style_tagged common))) refl)
        (none_of_tag tag.OutlineStyle tag.ListStyle l refl (all_tagged list_read tag.ListStyle list_tagged doc.lists))
        ∙ or_none (first tag.OutlineStyle o))
        (first_both tag.OutlineStyle a p None None (none_of_tag tag.OutlineStyle tag.Style a refl (all_tagged style_read tag.Style style_tagged automatic))
        (none_of_tag tag.OutlineStyle tag.PageLayout p refl (all_tagged layout_read tag.PageLayout layout_tagged doc.layouts)))
        ∙ or_none (first tag.OutlineStyle o)
