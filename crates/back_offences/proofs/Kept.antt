-- As many styles, list styles, layouts and masters are kept as are read.
use Rattle.std.proofs.Common.{◌≡◌, ℕ, ◌&&◌, not, Bool, true, List, length, map, filter, refl, arith, length-append, Option, Some, None, option_to_list, is_some}
use Rattle.std.specs.List.{flat_map, AllByRecursion as Each}
use Rattle.std.proofs.lemmas.Bool.{false≢true, and_parts}
use Rattle.doc_model.specs.declared.style.Family.{Family}
use Rattle.doc_model.specs.declared.style.Style.{Style}
use Rattle.load_model.specs.declared.names.Tag.TheVariants as tag
use Rattle.load_model.specs.declared.element.Element.{Element}
use Rattle.load_model.specs.Headers.{masters}
use Rattle.load_model.specs.Left.{is}
use Rattle.load_model.specs.Styles.{InPart, Names, StyleName, family_of, in_parts, kept_layouts, kept_lists, kept_masters, kept_styles, layouts, list_styles, masters_in, name_of, named, names_of, parts_of_kind, style_in, style_of, styles}
use Rattle.back_valid.proofs.Lists.{each_also}
use Rattle.back_offences.proofs.Lists.{both_halves, each_filter, each_firsts, each_passes, one_each}

-- a style with a family and a name is one
single : (make : StyleName → Style) (of : Option Family) (name : Option (List ℕ)) → is_some of ≡ true → is_some name ≡ true
    → length (map make (flat_map (λ own. map (λ text. record { family = own; name = text }) (option_to_list name)) (option_to_list of))) ≡ 1
single make None name has called = absurd (false≢true has)
single make (Some of) None has called = absurd (false≢true called)
single make (Some of) (Some name) has called = refl

-- what has a family and a name is kept
abbrev is_style : InPart → Bool
is_style in_part = is tag.Style in_part.element && is_some (family_of in_part.element) && is_some (name_of in_part.element)

style_single : (names : Names) (in_part : InPart) → is_style in_part ≡ true → length (style_in names in_part) ≡ 1
style_single names in_part passes =
    let called = and_parts (is tag.Style in_part.element && is_some (family_of in_part.element)) (is_some (name_of in_part.element)) passes in
    let has = and_parts (is tag.Style in_part.element) (is_some (family_of in_part.element)) called.0 in
    single (λ style. style_of names in_part.auto style.family style.name in_part.element) (family_of in_part.element) (name_of in_part.element) has.1 called.1

pub styles_counted : (root : Element) → length (styles (names_of root) root) ≡ length (kept_styles root)
styles_counted root =
    let kept = kept_styles root in
    let plain = filter (λ (one : InPart). not one.auto) kept in
    let auto = filter (λ (one : InPart). one.auto) kept in
    let one : Each (λ in_part. length (style_in (names_of root) in_part) ≡ 1) kept =
    each_also (λ in_part. is_style in_part ≡ true) (λ in_part. length (style_in (names_of root) in_part) ≡ 1) (style_single (names_of root)) kept
    (each_firsts (λ in_part. is_style in_part ≡ true) _ (filter is_style (in_parts root)) (each_passes is_style (in_parts root))) in
    let size = length-append (flat_map (style_in (names_of root)) plain) (flat_map (style_in (names_of root)) auto) in
    let front = one_each (style_in (names_of root)) plain (each_filter _ (λ in_part. not in_part.auto) kept one) in
    let behind = one_each (style_in (names_of root)) auto (each_filter _ (λ in_part. in_part.auto) kept one) in
    let halves = both_halves (λ (one : InPart). one.auto) kept in
    omega (arith, size, front, behind, halves)

-- what is kept by its name has one
pub each_named : (of_kind : Element → Bool) (elements : List Element) → Each (λ element. is_some (name_of element) ≡ true) (named of_kind elements)
each_named of_kind elements =
    each_firsts (λ element. is_some (name_of element) ≡ true) _ (filter has_name elements)
    (each_also (λ element. has_name element ≡ true) (λ element. is_some (name_of element) ≡ true) (λ element passes. (and_parts (of_kind element) (is_some (name_of element)) passes).1) (filter has_name elements) (each_passes has_name elements))
  where
    has_name : Element → Bool
    has_name element = of_kind element && is_some (name_of element)

-- as many are made as have a name
one_named : {X : Type 0} (make : Element → List ℕ → X) (elements : List Element) → Each (λ element. is_some (name_of element) ≡ true) elements
    → length (flat_map (λ element. map (make element) (option_to_list (name_of element))) elements) ≡ length elements
one_named {X} make elements each =
    one_each (λ element. map (make element) (option_to_list (name_of element))) elements
    (each_also (λ element. is_some (name_of element) ≡ true) (λ element. length (map (make element) (option_to_list (name_of element))) ≡ 1) (λ element. by_name (make element) (name_of element)) elements each)
  where
    by_name : (own : List ℕ → X) (name : Option (List ℕ)) → is_some name ≡ true → length (map own (option_to_list name)) ≡ 1
    by_name own None called = absurd (false≢true called)
    by_name own (Some name) called = refl

pub lists_counted : (root : Element) → length (list_styles root) ≡ length (kept_lists root)
lists_counted root = one_named _ (kept_lists root) (each_named (is tag.ListStyle) (parts_of_kind (λ element. true) root))

pub layouts_counted : (root : Element) → length (layouts root) ≡ length (kept_layouts root)
layouts_counted root = one_named _ (kept_layouts root) (each_named (is tag.PageLayout) (parts_of_kind (λ element. true) root))

pub masters_named : (root : Element) → Each (λ element. is_some (name_of element) ≡ true) (kept_masters root)
masters_named root = each_named (is tag.MasterPage) (masters_in root)

pub masters_counted : (root : Element) → length (masters (names_of root) root) ≡ length (kept_masters root)
masters_counted root = one_named _ (kept_masters root) (masters_named root)
