-- Facts of a valid document that speak of its styles, lists, page layouts and masters alone.
use Rattle.std.specs.Prelude.{◌≡◌, ◌≢◌, ℕ, ◌≤◌, List, [], ◌∷◌, ◌++◌, map, length, AllPairs}
use Rattle.std.specs.List.{flat_map, AllByRecursion as Each}
use Rattle.doc_model.specs.Chars.{IsLegal}
use Rattle.doc_model.specs.declared.document.Document.{Document}
use Rattle.doc_model.specs.Parts.{head_paragraphs, names_of_style}
use Rattle.doc_model.specs.Valid.{AreInOrder, AreLevels, AreNamesGiven, IsNoneOrGiven, IsNumberLevel, IsOfHeader, IsStyle, StatesNoTabs}

-- each two styles of a family have different names, and each has one
pub record AreStylesNamed (doc : Document) : Type 0 where
  pub styles_in_order : AreInOrder doc.styles
  pub style_names : AllPairs (λ left right. left.family ≡ right.family → left.name ≢ right.name) doc.styles
  pub style_names_given : Each (λ style. style.name ≢ []) doc.styles

-- so it is with lists, page layouts and masters
pub record AreOthersNamed (doc : Document) : Type 0 where
  pub list_names : AreNamesGiven (map (λ list. list.name) doc.lists)
  pub layout_names : AreNamesGiven (map (λ layout. layout.name) doc.layouts)
  pub master_names : AreNamesGiven (map (λ master. master.name) doc.masters)

-- what is referred to is there
pub record AreReferencesThere (doc : Document) : Type 0 where
  pub default_tabs : StatesNoTabs doc.defaults
  pub styles : Each (IsStyle doc) doc.styles
  pub layout_names_used : Each (λ master. IsNoneOrGiven (map (λ layout. layout.name) doc.layouts) master.layout) doc.masters
  pub next_masters : Each (λ master. IsNoneOrGiven (map (λ other. other.name) doc.masters) master.next) doc.masters

-- the levels of lists and of the outline are valid
pub record AreListsValid (doc : Document) : Type 0 where
  pub lists : Each (λ list. AreLevels list.levels) doc.lists
  pub outline : (doc.outline.name ≡ []) × AreLevels doc.outline.levels × Each IsNumberLevel doc.outline.levels

-- headers and footers hold what may stand there
pub record AreHeadersValid (doc : Document) : Type 0 where
  pub headers : Each (λ master. (length master.header ≤ 16) × (length master.footer ≤ 16)) doc.masters
  pub header_items : Each (λ par. Each IsOfHeader par.items) (head_paragraphs doc)

-- a name of legal characters that isn't too long
abbrev pub IsGoodName : List ℕ → Type 0
IsGoodName name = Each IsLegal name × (length name ≤ 1024)

-- the names that stand in styles, lists, page layouts and masters
abbrev pub sheet_names : Document → List (List ℕ)
sheet_names doc =
    flat_map names_of_style doc.styles
    ++ map (λ list. list.name) doc.lists
    ++ doc.outline.name ∷ map (λ layout. layout.name) doc.layouts
    ++ flat_map (λ master. master.name ∷ master.layout ∷ master.next ∷ []) doc.masters
