-- What styles and masters refer to is there.
use Rattle.std.proofs.Common.{◌≡◌, ℕ, ◌≤◌, inl, inr, not, Bool, true, false, List, [], ◌∷◌, ◌++◌, map, filter, filter_map, arith, refl, sym, ap, subst, ◌∙◌, Option, Some, None, option_to_list, if◌then◌else◌, bytes_eq}
use Rattle.std.specs.List.{flat_map, AllByRecursion as Each}
use Rattle.std.specs.Option.{option_map_or}
use Rattle.doc_model.specs.declared.document.Document.{Document}
use Rattle.doc_model.specs.declared.page_layout.Master.{Master}
use Rattle.doc_model.specs.declared.style.Family.{Family}
use Rattle.doc_model.specs.declared.style.Family.TheVariants as family
use Rattle.doc_model.specs.declared.style.Style.{Style}
use Rattle.doc_model.specs.Empty.{unstated}
use Rattle.doc_model.specs.Valid.{AreOf, IsNoneOrGiven, IsNoneOrStyle, IsStyle, StatesNoTabs}
use Rattle.style_model.specs.Lineage.{is_same_family}
use Rattle.load_model.specs.declared.names.Key.{Key}
use Rattle.load_model.specs.declared.names.Key.TheVariants as key
use Rattle.load_model.specs.declared.element.Attribute.{Attribute}
use Rattle.load_model.specs.declared.element.Element.{Element}
use Rattle.load_model.specs.Left.{attributes_of}
use Rattle.load_model.specs.Loaded.{draft_of}
use Rattle.load_model.specs.Styles.{InPart, Names, StyleName, kept_default, kept_layouts, kept_masters, kept_styles, master_reference, name_of, names_of, reference, style_in, style_name, style_of, style_properties, style_reference, styles}
use Rattle.load_model.specs.Values as value
use Rattle.load_model.specs.Values.{stated, stated_or}
use Rattle.valid_sheets.specs.Sheets.{AreReferencesThere}
use Rattle.valid_sheets.proofs.Lists.{Has, any_has, each_all, each_append, each_flat, each_map, filter_has, flat_has, has_flat, has_front, has_behind, has_halves, has_map, has_so, map_has}
use Rattle.valid_sheets.proofs.Names.{layouts_called, master_of, masters_called, own_name}
use Rattle.valid_sheets.proofs.Stated.{Anything, anything, each_stated, is_stated, number_read, reference_there, some_same}

-- the names of kept things are those that they state
pub names_listed : (elements : List Element) → filter_map name_of elements ≡ flat_map own_name elements
names_listed [] = refl
names_listed (element ∷ elements) = by_name (name_of element) refl (names_listed elements) where
  by_name : (name : Option (List ℕ)) → name_of element ≡ name → filter_map name_of elements ≡ flat_map own_name elements → filter_map name_of (element ∷ elements) ≡ option_to_list (name_of element) ++ flat_map own_name elements
  by_name None e rest = rw e rest
  by_name (Some one) e rest = rw e (ap (λ (more : List (List ℕ)). one ∷ more) rest)

-- a good reference, and one that is none
referred : (given : List (List ℕ)) (wanted : Key) (attributes : List Attribute) → IsNoneOrGiven given (stated_or wanted (reference given) [] attributes)
referred given wanted attributes =
    is_stated Anything (IsNoneOrGiven given) (reference given) (λ text name known e. inr (any_has (λ other. other ≡ name) given (reference_there given text name e))) wanted [] attributes (inl refl) (anything attributes)

-- the layouts and the masters that masters refer to
module _ (root : Element) where
  layouts_given : (names_of root).layouts ≡ map (λ layout. layout.name) (draft_of root).layouts
  layouts_given = names_listed (kept_layouts root) ∙ sym (layouts_called root)

  masters_given : (names_of root).masters ≡ map (λ master. master.name) (draft_of root).masters
  masters_given = names_listed (kept_masters root) ∙ sym (masters_called (names_of root) root)

  abbrev each_master : (Master → Type 0) → Type 0
  each_master P = Each P (draft_of root).masters

  of_masters : (P : Master → Type 0) → ((element : Element) (name : List ℕ) → P (master_of (names_of root) element name)) → each_master P
  of_masters P all =
      each_flat P (λ element. map (master_of (names_of root) element) (own_name element)) (kept_masters root)
      (each_all (λ element. Each P (map (master_of (names_of root) element) (own_name element))) (λ element. each_map P (master_of (names_of root) element) (own_name element) (each_all (λ name. P (master_of (names_of root) element name)) (all element) (own_name element))) (kept_masters root))

  pub layouts_there : each_master (λ master. IsNoneOrGiven (map (λ layout. layout.name) (draft_of root).layouts) master.layout)
  layouts_there = of_masters (λ master. IsNoneOrGiven (map (λ layout. layout.name) (draft_of root).layouts) master.layout)
      (λ element name. subst (λ (given : List (List ℕ)). IsNoneOrGiven given (stated_or key.Layout (reference (names_of root).layouts) [] (attributes_of element))) layouts_given (referred (names_of root).layouts key.Layout (attributes_of element)))

  pub masters_there : each_master (λ master. IsNoneOrGiven (map (λ other. other.name) (draft_of root).masters) master.next)
  masters_there = of_masters (λ master. IsNoneOrGiven (map (λ other. other.name) (draft_of root).masters) master.next)
      (λ element name. subst (λ (given : List (List ℕ)). IsNoneOrGiven given (stated_or key.Next (reference (names_of root).masters) [] (attributes_of element))) masters_given (referred (names_of root).masters key.Next (attributes_of element)))

-- styles
same_family : (one other : Family) → is_same_family one other ≡ true → one ≡ other
same_family family.Paragraph family.Paragraph e = refl
same_family family.Text family.Text e = refl
same_family family.Section family.Section e = refl
same_family family.Paragraph family.Text e = cc
same_family family.Paragraph family.Section e = cc
same_family family.Text family.Paragraph e = cc
same_family family.Text family.Section e = cc
same_family family.Section family.Paragraph e = cc
same_family family.Section family.Text e = cc

family_has : (of : Family) (element : Element) → AreOf of (style_properties of element)
unfolding unstated
family_has family.Paragraph element = tt
family_has family.Text element = refl
family_has family.Section element = refl

no_tabs : (of : Family) (element : Element) → StatesNoTabs (style_properties of element)
unfolding unstated
no_tabs family.Paragraph element = refl
no_tabs family.Text element = refl
no_tabs family.Section element = refl

module _ (root : Element) where
  abbrev names : Names
  names = names_of root

  abbrev doc : Document
  doc = draft_of root

  -- a style of a family and name that is kept is one of the document's
  abbrev IsCalled : Family → List ℕ → StyleName → Type 0
  IsCalled of name style = (style.name ≡ name) × (is_same_family style.family of ≡ true)

  abbrev made : InPart → StyleName → Style
  made in_part style = style_of names in_part.auto style.family style.name in_part.element

  in_styles : (P : Style → Type 0) → Has (λ in_part. Has (λ style. P (made in_part style)) (style_name in_part.element)) (kept_styles root) → Has P (styles names root)
  in_styles P has =
      let found = has_so (λ in_part. Has (λ style. P (made in_part style)) (style_name in_part.element)) (λ in_part. Has P (style_in names in_part)) (λ in_part more. has_map P (made in_part) (style_name in_part.element) more) (kept_styles root) has in
      let plain = flat_map (style_in names) (filter (λ in_part. not in_part.auto) (kept_styles root)) in
      let automatic = flat_map (style_in names) (filter (λ in_part. in_part.auto) (kept_styles root)) in
      elim (has_halves (λ in_part. Has P (style_in names in_part)) (λ in_part. in_part.auto) (kept_styles root) found) [
        | inl front ↦ has_front P plain automatic (has_flat P (style_in names) (filter (λ in_part. not in_part.auto) (kept_styles root)) front)
        | inr behind ↦ has_behind P plain automatic (has_flat P (style_in names) (filter (λ in_part. in_part.auto) (kept_styles root)) behind)
      ]

  style_there : (of : Family) (text name : List ℕ) → style_reference names of text ≡ Some name → IsNoneOrStyle doc of name
  style_there of text name e =
      let found = reference_there (map (λ (style : StyleName). style.name) (filter (λ (style : StyleName). is_same_family style.family of) names.styles)) text name e in
      let listed = filter_has (λ (style : StyleName). style.name ≡ name) (λ (style : StyleName). is_same_family style.family of) names.styles (map_has (λ other. other ≡ name) (λ (style : StyleName). style.name) (filter (λ (style : StyleName). is_same_family style.family of) names.styles) found) in
      inr (any_has (λ style. (style.family ≡ of) × (style.name ≡ name)) doc.styles (in_styles (λ style. (style.family ≡ of) × (style.name ≡ name))
      (has_so (λ in_part. Has (IsCalled of name) (style_name in_part.element)) (λ in_part. Has (λ style. ((made in_part style).family ≡ of) × ((made in_part style).name ≡ name)) (style_name in_part.element))
      (λ in_part more. has_so (IsCalled of name) (λ style. ((made in_part style).family ≡ of) × ((made in_part style).name ≡ name)) (λ style is. (same_family style.family of is.1, is.0)) (style_name in_part.element) more)
      (kept_styles root) (flat_has (IsCalled of name) (λ in_part. style_name in_part.element) (kept_styles root) listed))))

  master_there : (text name : List ℕ) → master_reference names text ≡ Some name → IsNoneOrGiven (map (λ master. master.name) doc.masters) name
  master_there text name e = by_text (bytes_eq text []) refl e where
    by_text : (b : Bool) → bytes_eq text [] ≡ b → (if b then Some [] else reference names.masters text) ≡ Some name → IsNoneOrGiven (map (λ master. master.name) doc.masters) name
    by_text true is e = inl (sym (some_same [] name e))
    by_text false is e = subst (λ (given : List (List ℕ)). IsNoneOrGiven given name) (masters_given root) (inr (any_has (λ other. other ≡ name) names.masters (reference_there names.masters text name e)))

  one_style : (auto : Bool) (of : Family) (name : List ℕ) (element : Element) → IsStyle doc (style_of names auto of name element)
  one_style auto of name element =
      let attributes = attributes_of element in
      record {
        properties = family_has of element;
        tabs = no_tabs of element;
        parent = is_stated Anything (IsNoneOrStyle doc of) (style_reference names of) (λ text name known e. style_there of text name e) key.Parent [] attributes (inl refl) (anything attributes);
        next = is_stated Anything (IsNoneOrStyle doc of) (style_reference names of) (λ text name known e. style_there of text name e) key.Next [] attributes (inl refl) (anything attributes);
        master = each_stated Anything (IsNoneOrGiven (map (λ master. master.name) doc.masters)) (master_reference names) (λ text name known e. master_there text name e) key.Master attributes (anything attributes);
        outline = is_stated Anything (λ level. level ≤ 10) value.level (λ text n known e. (number_read 1 10 text n e).1) key.DefaultOutlineLevel 0 attributes (omega arith) (anything attributes);
      }

  -- what holds of each style that an element is read as holds of all styles
  pub of_styles : (P : Style → Type 0) → ((auto : Bool) (of : Family) (name : List ℕ) (element : Element) → P (style_of names auto of name element)) → Each P doc.styles
  of_styles P all =
      let one : (in_part : InPart) → Each P (style_in names in_part) = λ in_part. each_map P (made in_part) (style_name in_part.element) (each_all (λ style. P (made in_part style)) (λ style. all in_part.auto style.family style.name in_part.element) (style_name in_part.element)) in
      each_append P (flat_map (style_in names) (filter (λ in_part. not in_part.auto) (kept_styles root))) (flat_map (style_in names) (filter (λ in_part. in_part.auto) (kept_styles root)))
      (each_flat P (style_in names) (filter (λ in_part. not in_part.auto) (kept_styles root)) (each_all (λ in_part. Each P (style_in names in_part)) one (filter (λ in_part. not in_part.auto) (kept_styles root))))
      (each_flat P (style_in names) (filter (λ in_part. in_part.auto) (kept_styles root)) (each_all (λ in_part. Each P (style_in names in_part)) one (filter (λ in_part. in_part.auto) (kept_styles root))))

  default_tabs : (found : Option Element) → StatesNoTabs (option_map_or (style_properties family.Paragraph) found unstated)
  unfolding unstated
  default_tabs None = refl
  default_tabs (Some element) = refl

  pub references_there : AreReferencesThere doc
  references_there = record {
    default_tabs = default_tabs (kept_default root);
    styles = of_styles (IsStyle doc) one_style;
    layout_names_used = layouts_there root;
    next_masters = masters_there root;
  }
