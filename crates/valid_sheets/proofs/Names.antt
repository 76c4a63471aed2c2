-- The names of what is kept are apart, and each is a name.
use Rattle.std.proofs.Common.{◌≡◌, ◌≢◌, ℕ, ◌≤◌, Bool, true, false, List, [], ◌∷◌, ◌++◌, map, length, refl, sym, ap₂, subst, ◌∙◌, Option, Some, None, option_to_list, bytes_eq}
use Rattle.std.specs.List.{flat_map, AllByRecursion as Each}
use Rattle.std.specs.Option.{option_map_or}
use Rattle.std.proofs.lemmas.Bool.{false≢true}
use Rattle.std.proofs.lemmas.List.{map-append}
use Rattle.std.proofs.lemmas.Slice.Eq.{bytes_eq-Decides}
use Rattle.doc_model.specs.declared.list_style.ListStyle.{ListStyle}
use Rattle.doc_model.specs.declared.page_layout.Master.{Master}
use Rattle.doc_model.specs.declared.page_layout.PageLayout.{PageLayout}
use Rattle.doc_model.specs.Valid.{AreNamesGiven}
use Rattle.load_model.specs.declared.names.Key.TheVariants as key
use Rattle.load_model.specs.declared.names.Tag.TheVariants as tag
use Rattle.load_model.specs.declared.element.Element.{Element}
use Rattle.load_model.specs.Headers.{head_paragraphs, masters}
use Rattle.load_model.specs.Left.{attributes_of, is}
use Rattle.load_model.specs.Loaded.{draft_of}
use Rattle.load_model.specs.Styles.{Names, have_same_name, is_level, kept_layouts, kept_lists, kept_masters, layout_of, layout_part, layouts, levels, list_styles, masters_in, name_of, named, names_of, part_attributes, parts_of_kind, reference}
use Rattle.load_model.specs.Values as value
use Rattle.load_model.specs.Values.{stated_or}
use Rattle.tree_places.proofs.Within.{Pairs, all_pairs}
use Rattle.valid_sheets.specs.Sheets.{AreOthersNamed}
use Rattle.valid_sheets.proofs.Lists.{each_all, each_flat, firsts_apart, pairs_flat, pairs_so}
use Rattle.valid_sheets.proofs.Stated.{Anything, anything, each_stated, name_read}

-- the name that an element states, if it states one
abbrev pub own_name : Element → List (List ℕ)
own_name element = option_to_list (name_of element)

abbrev IsShort : List ℕ → Type 0
IsShort name = (name ≢ []) × (length name ≤ 1024)

pub own_short : (element : Element) → Each IsShort (own_name element)
own_short element = each_stated Anything IsShort value.name (λ text name known e. let is = name_read text name e in (is.1, is.2)) key.Name (attributes_of element) (anything (attributes_of element))

pub own_given : (element : Element) → Each (λ name. name ≢ []) (own_name element)
own_given element = each_stated Anything (λ name. name ≢ []) value.name (λ text name known e. (name_read text name e).1) key.Name (attributes_of element) (anything (attributes_of element))

abbrev Apart : Element → Element → Type 0
Apart one other = Each (λ (name : List ℕ). Each (λ (more : List ℕ). name ≢ more) (own_name other)) (own_name one)

apart_by : (one other : Option (List ℕ)) → option_map_or (λ (name : List ℕ). option_map_or (bytes_eq name) other false) one false ≡ false
    → Each (λ (name : List ℕ). Each (λ (more : List ℕ). name ≢ more) (option_to_list other)) (option_to_list one)
apart_by None other e = tt
apart_by (Some name) None e = (tt, tt)
apart_by (Some name) (Some more) e = ((λ same. false≢true (sym e ∙ (bytes_eq-Decides name more).1 same), tt), tt)

none_twice : (one : Option (List ℕ)) → Pairs (λ (name more : List ℕ). name ≢ more) (option_to_list one)
none_twice None = tt
none_twice (Some name) = (tt, tt)

-- the names of some elements, the first of each
abbrev names_in : List Element → List (List ℕ)
names_in elements = flat_map own_name elements

pub names_apart : (of_kind : Element → Bool) (elements : List Element) → AreNamesGiven (names_in (named of_kind elements))
names_apart of_kind elements =
    let kept = named of_kind elements in (
      each_flat (λ (name : List ℕ). name ≢ []) own_name kept (each_all (λ (element : Element). Each (λ (name : List ℕ). name ≢ []) (own_name element)) own_given kept),
      all_pairs (λ (name more : List ℕ). name ≢ more) (names_in kept)
          (pairs_flat (λ (name more : List ℕ). name ≢ more) own_name kept (each_all (λ (element : Element). Pairs (λ (name more : List ℕ). name ≢ more) (own_name element)) (λ element. none_twice (name_of element)) kept)
          (pairs_so (λ one other. have_same_name one other ≡ false) Apart (λ one other e. apart_by (name_of one) (name_of other) e) kept (firsts_apart have_same_name _))),
    )

-- the names of what such elements are read as
module _ {Y : Type 0} (made : Element → List ℕ → Y) (called : Y → List ℕ) (same : (element : Element) (name : List ℕ) → called (made element name) ≡ name) where
  one_named : (element : Element) (names : List (List ℕ)) → map called (map (made element) names) ≡ names
  one_named element [] = refl
  one_named element (name ∷ names) = ap₂ (λ (one : List ℕ) (more : List (List ℕ)). one ∷ more) (same element name) (one_named element names)

  pub made_named : (elements : List Element) → map called (flat_map (λ element. map (made element) (own_name element)) elements) ≡ names_in elements
  made_named [] = refl
  made_named (element ∷ elements) =
      map-append called (map (made element) (own_name element)) (flat_map (λ one. map (made one) (own_name one)) elements)
      ∙ ap₂ (λ (one more : List (List ℕ)). one ++ more) (one_named element (own_name element)) (made_named elements)

abbrev pub master_of : Names → Element → List ℕ → Master
master_of names element name = record {
  name = name;
  layout = stated_or key.Layout (reference names.layouts) [] (attributes_of element);
  next = stated_or key.Next (reference names.masters) [] (attributes_of element);
  header = head_paragraphs names tag.Header element;
  footer = head_paragraphs names tag.Footer element;
}

pub lists_called : (root : Element) → map (λ (list : ListStyle). list.name) (list_styles root) ≡ names_in (kept_lists root)
lists_called root = made_named (λ element name. record { name = name; levels = levels is_level element }) (λ list. list.name) (λ element name. refl) (kept_lists root)

pub layouts_called : (root : Element) → map (λ (layout : PageLayout). layout.name) (layouts root) ≡ names_in (kept_layouts root)
layouts_called root = made_named (λ element name. layout_of name (part_attributes (layout_part element))) (λ layout. layout.name) (λ element name. refl) (kept_layouts root)

pub masters_called : (names : Names) (root : Element) → map (λ (master : Master). master.name) (masters names root) ≡ names_in (kept_masters root)
masters_called names root = made_named (master_of names) (λ master. master.name) (λ element name. refl) (kept_masters root)

pub others_named : (root : Element) → AreOthersNamed (draft_of root)
others_named root = record {
  list_names = subst AreNamesGiven (sym (lists_called root)) (names_apart (is tag.ListStyle) (parts_of_kind (λ element. true) root));
  layout_names = subst AreNamesGiven (sym (layouts_called root)) (names_apart (is tag.PageLayout) (parts_of_kind (λ element. true) root));
  master_names = subst AreNamesGiven (sym (masters_called (names_of root) root)) (names_apart (is tag.MasterPage) (masters_in root));
}
