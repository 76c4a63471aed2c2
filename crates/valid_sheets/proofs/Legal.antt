-- The names of styles, lists, page layouts and masters are legal, and short.
use Rattle.std.proofs.Common.{◌≡◌, ◌≢◌, ℕ, ◌≤◌, not, Bool, true, false, List, [], ◌∷◌, ◌++◌, map, filter, filter_map, length, arith, sym, subst, Some, None, option_to_list, if◌then◌else◌, bytes_eq}
use Rattle.std.specs.List.{flat_map, AllByRecursion as Each}
use Rattle.doc_model.specs.Chars.{IsLegal}
use Rattle.doc_model.specs.declared.list_style.ListStyle.{ListStyle}
use Rattle.doc_model.specs.declared.page_layout.Master.{Master}
use Rattle.doc_model.specs.declared.page_layout.PageLayout.{PageLayout}
use Rattle.doc_model.specs.declared.style.Family.{Family}
use Rattle.doc_model.specs.declared.style.Style.{Style}
use Rattle.doc_model.specs.Parts.{names_of_style}
use Rattle.style_model.specs.Lineage.{is_same_family}
use Rattle.load_model.specs.declared.names.Key.TheVariants as key
use Rattle.load_model.specs.declared.element.Element.{Element}
use Rattle.load_model.specs.Left.{attributes_of, is_one_of}
use Rattle.load_model.specs.Loaded.{draft_of}
use Rattle.load_model.specs.Styles.{InPart, Names, StyleName, family_of, in_parts, kept_layouts, kept_lists, kept_masters, kept_styles, master_reference, name_of, names_of, parts_of_kind, reference, style_in, style_name, style_of, style_reference, styles}
use Rattle.load_model.specs.Values as value
use Rattle.load_model.specs.Values.{stated, stated_or}
use Rattle.legal_trees.specs.Legal.{IsLegalTree}
use Rattle.legal_trees.proofs.Trees.{attributes_legal}
use Rattle.valid_sheets.specs.Sheets.{IsGoodName, sheet_names}
use Rattle.valid_sheets.proofs.Headers.{masters_legal}
use Rattle.valid_sheets.proofs.Levels.{held_legal, parts_legal}
use Rattle.valid_sheets.proofs.Lists.{each_all, each_append, each_filter, each_firsts, each_flat, each_map, each_so, has_each}
use Rattle.valid_sheets.proofs.Names.{layouts_called, lists_called, master_of, own_name, own_short}
use Rattle.valid_sheets.proofs.References.{names_listed}
use Rattle.valid_sheets.proofs.Stated.{each_stated, is_stated, name_read, none_some, reference_there, some_same}

none_good : IsGoodName []
none_good = (tt, omega arith)

-- the name that a legal element states
own_good : (element : Element) → IsLegalTree element → Each IsGoodName (own_name element)
own_good element legal =
    each_stated (Each IsLegal) IsGoodName value.name (λ text name known e. let is = name_read text name e in (subst (Each IsLegal) is.0 known, is.2)) key.Name (attributes_of element) (attributes_legal element legal)

-- a reference to a short name
abbrev AreShort : List (List ℕ) → Type 0
AreShort given = Each (λ (name : List ℕ). length name ≤ 1024) given

reference_text : (given : List (List ℕ)) (text name : List ℕ) → reference given text ≡ Some name → text ≡ name
reference_text given text name e = by_test (is_one_of given text) e where
  by_test : (b : Bool) → (if b then Some text else None) ≡ Some name → text ≡ name
  by_test true e = some_same text name e
  by_test false e = absurd (none_some name e)

reference_good : (given : List (List ℕ)) → AreShort given → (text name : List ℕ) → Each IsLegal text → reference given text ≡ Some name → IsGoodName name
reference_good given short text name known e = (
  subst (Each IsLegal) (reference_text given text name e) known,
  has_each (λ other. other ≡ name) (λ (other : List ℕ). length other ≤ 1024) (length name ≤ 1024) (λ other is few. subst (λ (one : List ℕ). length one ≤ 1024) is few) given (reference_there given text name e) short,
)

master_good : (names : Names) → AreShort names.masters → (text name : List ℕ) → Each IsLegal text → master_reference names text ≡ Some name → IsGoodName name
master_good names short text name known e = by_text (bytes_eq text []) e where
  by_text : (b : Bool) → (if b then Some [] else reference names.masters text) ≡ Some name → IsGoodName name
  by_text true e = subst IsGoodName (some_same [] name e) none_good
  by_text false e = reference_good names.masters short text name known e

-- names that are listed are short
listed_short : (elements : List Element) → AreShort (filter_map name_of elements)
listed_short elements =
    subst AreShort (sym (names_listed elements)) (each_flat (λ (name : List ℕ). length name ≤ 1024) own_name elements
    (each_all (λ element. AreShort (own_name element)) (λ element. each_so (λ (name : List ℕ). (name ≢ []) × (length name ≤ 1024)) (λ (name : List ℕ). length name ≤ 1024) (λ name is. is.1) (own_name element) (own_short element)) elements))

module _ (root : Element) (legal : IsLegalTree root) where
  abbrev names : Names
  names = names_of root

  called_short : (element : Element) → Each (λ (style : StyleName). length style.name ≤ 1024) (style_name element)
  called_short element =
      each_flat (λ (style : StyleName). length style.name ≤ 1024) (λ (of : Family). map (λ (name : List ℕ). record { family = of; name = name }) (own_name element)) (option_to_list (family_of element))
      (each_all (λ (of : Family). Each (λ (style : StyleName). length style.name ≤ 1024) (map (λ (name : List ℕ). record { family = of; name = name }) (own_name element)))
      (λ of. each_map (λ (style : StyleName). length style.name ≤ 1024) (λ (name : List ℕ). record { family = of; name = name }) (own_name element)
      (each_so (λ (name : List ℕ). (name ≢ []) × (length name ≤ 1024)) (λ (name : List ℕ). length name ≤ 1024) (λ name is. is.1) (own_name element) (own_short element))) (option_to_list (family_of element)))

  family_short : (of : Family) → AreShort (map (λ (style : StyleName). style.name) (filter (λ (style : StyleName). is_same_family style.family of) names.styles))
  family_short of =
      each_map (λ (name : List ℕ). length name ≤ 1024) (λ (style : StyleName). style.name) (filter (λ (style : StyleName). is_same_family style.family of) names.styles)
      (each_filter (λ (style : StyleName). length style.name ≤ 1024) (λ (style : StyleName). is_same_family style.family of) names.styles
      (each_flat (λ (style : StyleName). length style.name ≤ 1024) (λ in_part. style_name in_part.element) (kept_styles root) (each_all (λ (in_part : InPart). Each (λ (style : StyleName). length style.name ≤ 1024) (style_name in_part.element)) (λ in_part. called_short in_part.element) (kept_styles root))))

  -- a style
  style_good : (auto : Bool) (of : Family) (name : List ℕ) (element : Element) → IsLegalTree element → IsGoodName name → Each IsGoodName (names_of_style (style_of names auto of name element))
  style_good auto of name element own good =
      let attributes = attributes_of element in
      let referred : (text one : List ℕ) → Each IsLegal text → style_reference names of text ≡ Some one → IsGoodName one =
      reference_good (map (λ (style : StyleName). style.name) (filter (λ (style : StyleName). is_same_family style.family of) names.styles)) (family_short of) in
      let parent = is_stated (Each IsLegal) IsGoodName (style_reference names of) referred key.Parent [] attributes none_good (attributes_legal element own) in
      let next = is_stated (Each IsLegal) IsGoodName (style_reference names of) referred key.Next [] attributes none_good (attributes_legal element own) in
      (good, (parent, (next, each_stated (Each IsLegal) IsGoodName (master_reference names) (master_good names (listed_short (kept_masters root))) key.Master attributes (attributes_legal element own))))

  kept_legal : Each (λ (in_part : InPart). IsLegalTree in_part.element) (kept_styles root)
  kept_legal = each_firsts (λ (in_part : InPart). IsLegalTree in_part.element) _ _ (each_filter (λ (in_part : InPart). IsLegalTree in_part.element) _ (in_parts root) (parts_legal root legal))

  abbrev IsGoodStyle : Style → Type 0
  IsGoodStyle style = Each IsGoodName (names_of_style style)

  in_part_good : (in_part : InPart) → IsLegalTree in_part.element → Each IsGoodStyle (style_in names in_part)
  in_part_good in_part own =
      each_map IsGoodStyle (λ (style : StyleName). style_of names in_part.auto style.family style.name in_part.element) (style_name in_part.element)
      (each_flat (λ (style : StyleName). IsGoodStyle (style_of names in_part.auto style.family style.name in_part.element)) (λ (of : Family). map (λ (name : List ℕ). record { family = of; name = name }) (own_name in_part.element)) (option_to_list (family_of in_part.element))
      (each_all (λ (of : Family). Each (λ (style : StyleName). IsGoodStyle (style_of names in_part.auto style.family style.name in_part.element)) (map (λ (name : List ℕ). record { family = of; name = name }) (own_name in_part.element)))
      (λ of. each_map (λ (style : StyleName). IsGoodStyle (style_of names in_part.auto style.family style.name in_part.element)) (λ (name : List ℕ). record { family = of; name = name }) (own_name in_part.element)
      (each_so IsGoodName (λ name. IsGoodStyle (style_of names in_part.auto of name in_part.element)) (λ name good. style_good in_part.auto of name in_part.element own good) (own_name in_part.element) (own_good in_part.element own)))
      (option_to_list (family_of in_part.element))))

  half_good : (test : InPart → Bool) → Each IsGoodStyle (flat_map (style_in names) (filter test (kept_styles root)))
  half_good test =
      each_flat IsGoodStyle (style_in names) (filter test (kept_styles root))
      (each_so (λ (in_part : InPart). IsLegalTree in_part.element) (λ in_part. Each IsGoodStyle (style_in names in_part)) in_part_good (filter test (kept_styles root)) (each_filter (λ (in_part : InPart). IsLegalTree in_part.element) test (kept_styles root) kept_legal))

  styles_good : Each IsGoodName (flat_map names_of_style (styles names root))
  styles_good =
      each_flat IsGoodName names_of_style (styles names root)
      (each_append IsGoodStyle (flat_map (style_in names) (filter (λ in_part. not in_part.auto) (kept_styles root))) (flat_map (style_in names) (filter (λ in_part. in_part.auto) (kept_styles root)))
      (half_good (λ in_part. not in_part.auto)) (half_good (λ in_part. in_part.auto)))

  -- lists, layouts and masters
  kept_good : (elements : List Element) → Each IsLegalTree elements → Each IsGoodName (flat_map own_name elements)
  kept_good elements each = each_flat IsGoodName own_name elements (each_so IsLegalTree (λ element. Each IsGoodName (own_name element)) own_good elements each)

  held : Each IsLegalTree (parts_of_kind (λ element. true) root)
  held = held_legal root legal (λ element. true)

  lists_good : Each IsGoodName (map (λ (list : ListStyle). list.name) (draft_of root).lists)
  lists_good = subst (Each IsGoodName) (sym (lists_called root)) (kept_good (kept_lists root) (each_firsts IsLegalTree _ _ (each_filter IsLegalTree _ (parts_of_kind (λ element. true) root) held)))

  layouts_good : Each IsGoodName (map (λ (layout : PageLayout). layout.name) (draft_of root).layouts)
  layouts_good = subst (Each IsGoodName) (sym (layouts_called root)) (kept_good (kept_layouts root) (each_firsts IsLegalTree _ _ (each_filter IsLegalTree _ (parts_of_kind (λ element. true) root) held)))

  abbrev names_of_master : Master → List (List ℕ)
  names_of_master master = master.name ∷ master.layout ∷ master.next ∷ []

  one_master : (element : Element) (name : List ℕ) → IsLegalTree element → IsGoodName name → Each IsGoodName (names_of_master (master_of names element name))
  one_master element name own good =
      let layout = is_stated (Each IsLegal) IsGoodName (reference names.layouts) (reference_good names.layouts (listed_short (kept_layouts root))) key.Layout [] (attributes_of element) none_good (attributes_legal element own) in
      let next = is_stated (Each IsLegal) IsGoodName (reference names.masters) (reference_good names.masters (listed_short (kept_masters root))) key.Next [] (attributes_of element) none_good (attributes_legal element own) in
      (good, (layout, (next, tt)))

  masters_good : Each IsGoodName (flat_map names_of_master (draft_of root).masters)
  masters_good =
      each_flat IsGoodName names_of_master (draft_of root).masters
      (each_flat (λ master. Each IsGoodName (names_of_master master)) (λ element. map (master_of names element) (own_name element)) (kept_masters root)
      (each_so IsLegalTree (λ element. Each (λ master. Each IsGoodName (names_of_master master)) (map (master_of names element) (own_name element)))
      (λ element own. each_map (λ master. Each IsGoodName (names_of_master master)) (master_of names element) (own_name element)
      (each_so IsGoodName (λ name. Each IsGoodName (names_of_master (master_of names element name))) (λ name good. one_master element name own good) (own_name element) (own_good element own))) (kept_masters root) (masters_legal root legal)))

  pub names_good : Each IsGoodName (sheet_names (draft_of root))
  names_good =
      let first = flat_map names_of_style (styles names root) in
      let lists = map (λ (list : ListStyle). list.name) (draft_of root).lists in
      let layouts = map (λ (layout : PageLayout). layout.name) (draft_of root).layouts in
      let last = flat_map names_of_master (draft_of root).masters in
      each_append IsGoodName ((first ++ lists) ++ [] ∷ layouts) last (each_append IsGoodName (first ++ lists) ([] ∷ layouts) (each_append IsGoodName first lists styles_good lists_good) (none_good, layouts_good)) masters_good
