-- Good references name what is there.
use Rattle.std.proofs.Common.{◌≡◌, ◌≢◌, ℕ, ◌≤◌, ◌&&◌, not, ◌⊎◌, inl, inr, Bool, true, false, cond, List, [], ◌∷◌, ◌++◌, map, filter, length, refl, sym, ap, ap₂, subst, bytes_eq, Option, Some, None}
use Rattle.std.specs.Prelude.{filter_map, option_to_list}
use Rattle.std.specs.List.{flat_map, AllByRecursion as Each, Any, cons_option}
use Rattle.std.proofs.lemmas.Bool.{and_parts}
use Rattle.std.proofs.lemmas.Slice.Eq.{bytes_eq-Decides}
use Rattle.doc_model.specs.declared.list_style.ListStyle.{ListStyle}
use Rattle.doc_model.specs.declared.style.Family.{Family}
use Rattle.doc_model.specs.declared.style.Family.TheVariants as family
use Rattle.doc_model.specs.declared.style.Style.{Style}
use Rattle.doc_model.specs.Chars.{IsLegal}
use Rattle.doc_model.specs.Valid.{IsNoneOrGiven, IsNoneOrStyle}
use Rattle.style_model.specs.Lineage.{is_same_family}
use Rattle.load_model.specs.declared.names.Key.TheVariants as key
use Rattle.load_model.specs.declared.element.Element.{Element as Read}
use Rattle.load_model.specs.Left.{attributes_of, is_one_of}
use Rattle.load_model.specs.Loaded.{draft_of, known_of}
use Rattle.load_model.specs.Styles.{InPart, Names, StyleName, family_of, is_level, kept_lists, kept_styles, levels, list_styles, name_of, names_of, reference, style_in, style_name, style_of, style_reference, styles}
use Rattle.load_model.specs.Values as value
use Rattle.valid_text.specs.Texts.{IsGoodName}
use Rattle.valid_text.proofs.Good.{Fits}
use Rattle.valid_text.proofs.Has.{Has, any_name, any_of, has_also, has_back, has_each, has_filter, has_filtered, has_front, has_made, has_map, has_mapped, has_one, has_source}
use Rattle.valid_text.proofs.Lists.{each_append}
use Rattle.valid_text.proofs.Values.{name_short, stated_is}

abbrev IsShort : List ℕ → Type 0
IsShort name = (name ≢ []) × (length name ≤ 1024)

none_some : {A : Type 0} {x : A} → None ≡ Some x → ⊥
none_some e = cc

-- a reference is to a name that is there
reference_is : (given : List (List ℕ)) (text name : List ℕ) → reference given text ≡ Some name → (text ≡ name) × Has (λ other. other ≡ text) given
reference_is given text name e = by_test (is_one_of given text) refl e where
  same : Some text ≡ Some name → text ≡ name
  same e = cc

  by_test : (b : Bool) → is_one_of given text ≡ b → cond b (Some text) None ≡ Some name → (text ≡ name) × Has (λ other. other ≡ text) given
  by_test true is e = (same e, has_one text given is)
  by_test false is e = absurd (none_some e)

same_family : (one of : Family) → is_same_family one of ≡ true → one ≡ of
same_family family.Paragraph family.Paragraph e = refl
same_family family.Text family.Text e = refl
same_family family.Section family.Section e = refl
same_family family.Paragraph family.Text e = absurd cc
same_family family.Paragraph family.Section e = absurd cc
same_family family.Text family.Paragraph e = absurd cc
same_family family.Text family.Section e = absurd cc
same_family family.Section family.Paragraph e = absurd cc
same_family family.Section family.Text e = absurd cc

family_same : (one of : Family) → one ≡ of → is_same_family one of ≡ true
family_same one of e = subst (λ (other : Family). is_same_family one other ≡ true) e (itself one) where
  itself : (one : Family) → is_same_family one one ≡ true
  itself family.Paragraph = refl
  itself family.Text = refl
  itself family.Section = refl

-- a name that is stated is short
name_is_short : (element : Read) (name : List ℕ) → name_of element ≡ Some name → IsShort name
name_is_short element name e = stated_is IsShort key.Name value.name (attributes_of element) name_short name e

style_short : (element : Read) → Each (λ style. IsShort style.name) (style_name element)
style_short element = by_parts (family_of element) (name_of element) (name_is_short element) where
  by_parts : (of : Option Family) (found : Option (List ℕ)) → ((name : List ℕ) → found ≡ Some name → IsShort name)
      → Each (λ (style : StyleName). IsShort style.name) (flat_map (λ of. map (λ name. record { family = of; name = name }) (option_to_list found)) (option_to_list of))
  by_parts None found is = tt
  by_parts (Some of) None is = tt
  by_parts (Some of) (Some name) is = (is name refl, tt)

each_style : (parts : List InPart) → Each (λ style. IsShort style.name) (flat_map (λ in_part. style_name in_part.element) parts)
each_style [] = tt
each_style (in_part ∷ parts) = each_append (λ (style : StyleName). IsShort style.name) (style_name in_part.element) (flat_map (λ in_part. style_name in_part.element) parts) (style_short in_part.element) (each_style parts)

each_list : (elements : List Read) → Each IsShort (filter_map name_of elements)
each_list [] = tt
each_list (element ∷ elements) = by_name (name_of element) (name_is_short element) (each_list elements) where
  by_name : (found : Option (List ℕ)) → ((name : List ℕ) → found ≡ Some name → IsShort name) → Each IsShort (filter_map name_of elements) → Each IsShort (cons_option found (filter_map name_of elements))
  by_name None is rest = rest
  by_name (Some name) is rest = (is name refl, rest)

-- the names of the list styles
lists_named : (elements : List Read) → map (λ (list : ListStyle). list.name) (flat_map (λ element. map (λ name. record { name = name; levels = levels is_level element }) (option_to_list (name_of element))) elements) ≡ filter_map name_of elements
lists_named [] = refl
lists_named (element ∷ elements) = by_name (name_of element) (lists_named elements) where
  rest : List ListStyle
  rest = flat_map (λ element. map (λ name. record { name = name; levels = levels is_level element }) (option_to_list (name_of element))) elements

  by_name : (found : Option (List ℕ)) → map (λ (list : ListStyle). list.name) rest ≡ filter_map name_of elements
      → map (λ (list : ListStyle). list.name) (map (λ name. record { name = name; levels = levels is_level element }) (option_to_list found) ++ rest) ≡ cons_option found (filter_map name_of elements)
  by_name None e = e
  by_name (Some name) e = ap (λ (more : List (List ℕ)). name ∷ more) e

module _ (root : Read) where
  abbrev names : Names
  names = names_of root

  module _ (of : Family) (text : List ℕ) where
    abbrev IsIt : Style → Type 0
    IsIt style = (style.family ≡ of) × (style.name ≡ text)

    abbrev IsCalled : StyleName → Type 0
    IsCalled style = (style.name ≡ text) × (is_same_family style.family of ≡ true)

    abbrev has_it : InPart → Type 0
    has_it in_part = Has IsIt (style_in names in_part)

    kept_parts : (in_part : InPart) → Has IsCalled (style_name in_part.element) → has_it in_part
    kept_parts in_part has =
        has_map IsIt (λ (style : StyleName). style_of names in_part.auto style.family style.name in_part.element) (style_name in_part.element)
        (has_also IsCalled (λ (style : StyleName). (style.family ≡ of) × (style.name ≡ text)) (λ style is. (same_family style.family of is.1, is.0)) (style_name in_part.element) has)

    -- those that pass a test
    into : (test : InPart → Bool) (parts : List InPart) → Has (λ in_part. has_it in_part × (test in_part ≡ true)) parts → Has has_it (filter test parts)
    into test [] has = absurd has
    into test (in_part ∷ parts) (inl is) = subst (λ (b : Bool). Has has_it (cond b (in_part ∷ filter test parts) (filter test parts))) (sym is.1) (inl is.0)
    into test (in_part ∷ parts) (inr has) = by_test (test in_part) (into test parts has) where
      by_test : (b : Bool) → Has has_it (filter test parts) → Has has_it (cond b (in_part ∷ filter test parts) (filter test parts))
      by_test true has = inr has
      by_test false has = has

    negated : (b : Bool) → not b ≡ false → b ≡ true
    negated true e = refl
    negated false e = absurd cc

    abbrev common : List Style
    common = flat_map (style_in names) (filter (λ in_part. not in_part.auto) (kept_styles root))

    abbrev automatic : List Style
    automatic = flat_map (style_in names) (filter (λ in_part. in_part.auto) (kept_styles root))

    style_has : Has IsCalled names.styles → Has IsIt (styles names root)
    style_has has =
        by_filter (has_filter has_it (λ (in_part : InPart). not in_part.auto) (kept_styles root)
        (has_also (λ (in_part : InPart). Has IsCalled (style_name in_part.element)) has_it kept_parts (kept_styles root) (has_source IsCalled (λ (in_part : InPart). style_name in_part.element) (kept_styles root) has)))
      where
        by_filter : Has has_it (filter (λ (in_part : InPart). not in_part.auto) (kept_styles root)) ⊎ Has (λ (in_part : InPart). has_it in_part × (not in_part.auto ≡ false)) (kept_styles root) → Has IsIt (styles names root)
        by_filter (inl has) = has_front IsIt common automatic (has_made IsIt (style_in names) (filter (λ (in_part : InPart). not in_part.auto) (kept_styles root)) has)
        by_filter (inr has) =
            has_back IsIt common automatic (has_made IsIt (style_in names) (filter (λ (in_part : InPart). in_part.auto) (kept_styles root))
            (into (λ (in_part : InPart). in_part.auto) (kept_styles root) (has_also (λ (in_part : InPart). has_it in_part × (not in_part.auto ≡ false)) (λ (in_part : InPart). has_it in_part × (in_part.auto ≡ true))
            (λ in_part is. (is.0, negated in_part.auto is.1)) (kept_styles root) has)))

    style_any : Has IsCalled names.styles → Any IsIt (styles names root)
    style_any has =
        any_of IsIt (λ (style : Style). is_same_family style.family of && bytes_eq style.name text)
        (λ style is. ap₂ (λ (a b : Bool). a && b) (family_same style.family of is.0) ((bytes_eq-Decides style.name text).1 is.1))
        (λ style e. let parts = and_parts (is_same_family style.family of) (bytes_eq style.name text) e in (same_family style.family of parts.0, (bytes_eq-Decides style.name text).0 parts.1))
        (styles names root) (style_has has)

    style_there : (name : List ℕ) → Each IsLegal text → style_reference names of text ≡ Some name → (name ≢ []) × IsNoneOrStyle (draft_of root) of name × IsGoodName name
    style_there name legal e =
        let is = reference_is (map (λ (style : StyleName). style.name) (filter (λ (style : StyleName). is_same_family style.family of) names.styles)) text name e in
        let has = has_filtered (λ (style : StyleName). style.name ≡ text) (λ (style : StyleName). is_same_family style.family of) names.styles
        (has_mapped (λ other. other ≡ text) (λ (style : StyleName). style.name) (filter (λ (style : StyleName). is_same_family style.family of) names.styles) is.1) in
        let short : IsShort text = has_each (λ (style : StyleName). IsShort style.name) IsCalled (IsShort text) (λ style short is. subst IsShort is.0 short) names.styles (each_style (kept_styles root)) has in
        subst (λ (one : List ℕ). (one ≢ []) × IsNoneOrStyle (draft_of root) of one × IsGoodName one) is.0 (short.0, inr (style_any has), (legal, short.1))

  list_there : (text name : List ℕ) → Each IsLegal text → reference names.lists text ≡ Some name → IsNoneOrGiven (map (λ list. list.name) (list_styles root)) name × IsGoodName name
  list_there text name legal e =
      let is = reference_is names.lists text name e in
      let short : IsShort text = has_each IsShort (λ (other : List ℕ). other ≡ text) (IsShort text) (λ other short is. subst IsShort is short) names.lists (each_list (kept_lists root)) is.1 in
      subst (λ (one : List ℕ). IsNoneOrGiven (map (λ list. list.name) (list_styles root)) one × IsGoodName one) is.0
      (inr (subst (λ (given : List (List ℕ)). Any (λ other. other ≡ text) given) (sym (lists_named (kept_lists root))) (any_name text names.lists is.1)), (legal, short.1))

  pub root_fits : (strict : Bool) → Fits (record { known = known_of root; doc = draft_of root; strict = strict })
  root_fits strict = record { style = λ of text name legal e. style_there of text name legal e; list = list_there }
