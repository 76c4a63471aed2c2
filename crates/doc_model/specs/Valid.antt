-- What it means that a document is valid. Each fact is about whole lists of its parts.
use Rattle.std.specs.Prelude.{◌≡◌, ◌≢◌, ℕ, ◌<◌, ◌≤◌, ◌⊎◌, ◌++◌, List, [], ◌∷◌, map, length, filter, Option, Some, None, option_to_list, AllPairs, Any, false}
use Rattle.std.specs.List.{AllByRecursion as Each, flat_map}
use Rattle.std.specs.Str.{bytes_eq}
use Rattle.doc_model.specs.declared.block.Kind.TheVariants.{Plain}
use Rattle.doc_model.specs.declared.paragraph.Par.{Par, out-Par}
use Rattle.doc_model.specs.declared.paragraph.Item.{Item, out-Item}
use Rattle.doc_model.specs.declared.paragraph.What.{What, out-What}
use Rattle.doc_model.specs.declared.paragraph.What.TheOpen.{What-F}
use Rattle.doc_model.specs.declared.paragraph.Note.{Note, out-Note}
use Rattle.doc_model.specs.declared.paragraph.ListPos.{ListPos}
use Rattle.doc_model.specs.declared.paragraph.Mark.{Mark}
use Rattle.doc_model.specs.declared.paragraph.Mark.TheVariants.{Point, Start, End}
use Rattle.doc_model.specs.declared.field.Field.{Field}
use Rattle.doc_model.specs.declared.field.Field.TheVariants as fields
use Rattle.doc_model.specs.declared.style.Family.{Family}
use Rattle.doc_model.specs.declared.style.Family.TheVariants as family
use Rattle.doc_model.specs.declared.style.Style.{Style}
use Rattle.doc_model.specs.declared.style.Props.{Props}
use Rattle.doc_model.specs.declared.list_style.ListLevel.{ListLevel}
use Rattle.doc_model.specs.declared.list_style.LevelWhat.{LevelWhat}
use Rattle.doc_model.specs.declared.list_style.LevelWhat.TheVariants.{Bullet, Number}
use Rattle.doc_model.specs.declared.page_layout.NoteStart.TheVariants as counting
use Rattle.doc_model.specs.declared.document.Document.{Document}
use Rattle.doc_model.specs.Empty.{unstated}
use Rattle.doc_model.specs.Chars.{IsLegal, IsLegalText}
use Rattle.doc_model.specs.Reading.{paragraphs, number_of}
use Rattle.doc_model.specs.Parts.{all_items, all_fields, notes, texts, what_of, mark_of, mark_name, span_names, SectionHead, sections, head_paragraphs, names}
use Rattle.doc_model.specs.Limits.{IsWithinLimits}

-- a name is none, or one of those given
abbrev pub IsNoneOrGiven : List (List ℕ) → List ℕ → Type 0
IsNoneOrGiven given name = (name ≡ []) ⊎ Any (λ other. other ≡ name) given

-- names that are given: none is empty, and none is given twice
abbrev pub AreNamesGiven : List (List ℕ) → Type 0
AreNamesGiven given = Each (λ name. name ≢ []) given × AllPairs (λ left right. left ≢ right) given

-- names that may be empty: no other is given twice
abbrev pub AreNamesOrNone : List (List ℕ) → Type 0
AreNamesOrNone given = AllPairs (λ left right. left ≡ right → left ≡ []) given

-- a style of this family and name is there, or the name is none
abbrev pub IsNoneOrStyle : Document → Family → List ℕ → Type 0
IsNoneOrStyle doc family name = (name ≡ []) ⊎ Any (λ style. (style.family ≡ family) × (style.name ≡ name)) doc.styles

-- the one style is the parent of the other
abbrev pub IsParentOf : Style → Style → Type 0
IsParentOf parent style = (parent.family ≡ style.family) × (parent.name ≡ style.parent) × (parent.name ≢ [])

-- one style after the other is the parent of the one before, from a style to its ancestor
abbrev pub Leads : Style → List Style → Style → Type 0
Leads style [] ancestor = IsParentOf ancestor style
Leads style (parent ∷ chain) ancestor = IsParentOf parent style × Leads parent chain ancestor

-- no style is its own ancestor
abbrev pub HasNoStyleLoop : Document → Type 0
HasNoStyleLoop doc = (style : Style) (chain : List Style) → Any (λ other. other ≡ style) doc.styles → Each (λ parent. Any (λ other. other ≡ parent) doc.styles) chain → Leads style chain style → ⊥

-- the properties that a family has: text has display alone, a section none
abbrev pub AreOf : Family → Props → Type 0
AreOf family.Paragraph props = Unit {0}
AreOf family.Text props = props ≡ record unstated { display = props.display }
AreOf family.Section props = props ≡ unstated

-- tab stops are not read or written yet, so none are stated
abbrev pub StatesNoTabs : Props → Type 0
StatesNoTabs props = props.tabs ≡ None

-- a style states what its family has, and its names are there
pub record IsStyle (doc : Document) (style : Style) : Type 0 where
  pub properties : AreOf style.family style.props
  pub tabs : StatesNoTabs style.props
  pub parent : IsNoneOrStyle doc style.family style.parent
  pub next : IsNoneOrStyle doc style.family style.next
  pub master : Each (IsNoneOrGiven (map (λ master. master.name) doc.masters)) (option_to_list style.master)
  pub outline : style.outline ≤ 10

-- a level of a list style is labelled by legal characters
abbrev pub IsLevel : ListLevel → Type 0
IsLevel level = of_what level.what where
  of_what : LevelWhat → Type 0
  of_what (Bullet c) = IsLegal c
  of_what (Number format prefix suffix start display) = Each IsLegal prefix × Each IsLegal suffix

-- the levels are valid and ascend
abbrev pub AreLevels : List ListLevel → Type 0
AreLevels levels = Each IsLevel levels × AllPairs (λ left right. left.level < right.level) levels

-- a level that isn't labelled by a bullet
abbrev pub IsNumberLevel : ListLevel → Type 0
IsNumberLevel level = of_what level.what where
  of_what : LevelWhat → Type 0
  of_what (Bullet c) = ⊥
  of_what (Number format prefix suffix start display) = Unit {0}

-- what stands in headers and footers: characters, tabs, breaks, and page number, page count and chapter fields
abbrev pub IsOfHeader : What → Type 0
IsOfHeader what = of_what (out-What what) where
  of_field : Field → Type 0
  of_field (fields.PageNumber select adjust format) = Unit {0}
  of_field (fields.PageCount format) = Unit {0}
  of_field (fields.Chapter display level) = (1 ≤ level) × (level ≤ 10)
  of_field _ = ⊥

  of_what : What-F What Item Note Par → Type 0
  of_what (What-F.Char c) = IsLegalText c
  of_what What-F.Tab = Unit {0}
  of_what What-F.Break = Unit {0}
  of_what (What-F.Field field) = of_field field
  of_what (What-F.Note note) = ⊥
  of_what (What-F.Mark mark) = ⊥

-- a field's declared names are there, its level is 1 to 10, and its value has legal characters from U+20 on
abbrev pub IsField : Document → Field → Type 0
IsField doc (fields.Sequence name refname format) = Any (λ other. other ≡ name) doc.sequences
IsField doc (fields.VarSet name value) = Any (λ other. other ≡ name) doc.variables × Each IsLegalText value
IsField doc (fields.VarGet name) = Any (λ other. other ≡ name) doc.variables
IsField doc (fields.Chapter display level) = (1 ≤ level) × (level ≤ 10)
IsField doc _ = Unit {0}

-- the reference name of a sequence field
abbrev pub refname_of : Field → List (List ℕ)
refname_of (fields.Sequence name refname format) = refname ∷ []
refname_of _ = []

-- a character of an item is legal and from U+20 on
abbrev pub IsItem : Item → Type 0
IsItem item = of_what (what_of item) × (length (out-Item item).spans ≤ 8) where
  of_what : What-F What Item Note Par → Type 0
  of_what (What-F.Char c) = IsLegalText c
  of_what _ = Unit {0}

-- a paragraph's styles are there, its level is at most 10, and that of its list place is 1 to 10
abbrev pub IsParagraph : Document → Par → Type 0
IsParagraph doc par = IsNoneOrStyle doc family.Paragraph (out-Par par).style × ((out-Par par).level ≤ 10) × of_list (out-Par par).list where
  of_list : Option ListPos → Type 0
  of_list None = Unit {0}
  of_list (Some place) = IsNoneOrGiven (map (λ list. list.name) doc.lists) place.style × (1 ≤ place.level) × (place.level ≤ 10)

-- a note has a paragraph and holds no note
abbrev pub IsNote : Note → Type 0
IsNote note = ((out-Note note).pars ≢ []) × Each (λ par. Each (λ item. of_what (what_of item)) (out-Par par).items) (out-Note note).pars where
  of_what : What-F What Item Note Par → Type 0
  of_what (What-F.Note note) = ⊥
  of_what _ = Unit {0}

-- the marks of a bookmark among those of a text
abbrev pub marks_named : List ℕ → List Item → List Mark
marks_named name text = filter (λ mark. bytes_eq (mark_name mark) name) (flat_map mark_of text)

-- a bookmark has one point, or one start and one end
abbrev pub AreMarksOf : List ℕ → List Mark → Type 0
AreMarksOf name marks = (marks ≡ Point name ∷ []) ⊎ (marks ≡ Start name ∷ End name ∷ []) ⊎ (marks ≡ End name ∷ Start name ∷ [])

-- the marks of a bookmark stand in one text, and are a point, or a start and an end
abbrev pub IsBookmark : Document → List ℕ → Type 0
IsBookmark doc name = (name ≢ []) × AreMarksOf name (marks_named name (all_items doc)) × Any (λ text. AreMarksOf name (marks_named name text)) (texts doc)

-- a section has a name and a block, and its style is there. Indexes and tables are not read or written yet, so each is a plain one
pub record IsSection (doc : Document) (section : SectionHead) : Type 0 where
  pub name : section.name ≢ []
  pub blocks : section.blocks ≢ 0
  pub style : IsNoneOrStyle doc family.Section section.style
  pub kind : section.kind ≡ Plain

-- a style that isn't automatic stands before those that are
abbrev pub AreInOrder : List Style → Type 0
AreInOrder styles = AllPairs (λ left right. right.auto ≡ false → left.auto ≡ false) styles

-- the document is valid
pub record IsValid (doc : Document) : Type 0 where
  -- what is there. Footnotes are counted through the document, since no other counting is read or written yet
  pub counting : doc.counting ≡ counting.Document
  pub body : doc.body ≢ []
  pub numbers : AllPairs (λ left right. left ≢ right) (map number_of (paragraphs doc))
  pub numbers_given : Each (λ par. 1 ≤ number_of par) (paragraphs doc)
  pub each_paragraph : Each (IsParagraph doc) (paragraphs doc)
  pub each_item : Each IsItem (all_items doc)
  pub each_note : Each IsNote (notes doc)
  pub each_field : Each (IsField doc) (all_fields doc)
  pub bookmarks : Each (λ mark. IsBookmark doc (mark_name mark)) (flat_map mark_of (all_items doc))
  pub each_section : Each (IsSection doc) (sections doc)
  -- styles, lists and pages
  pub default_tabs : StatesNoTabs doc.defaults
  pub styles : Each (IsStyle doc) doc.styles
  pub styles_in_order : AreInOrder doc.styles
  pub style_names : AllPairs (λ left right. left.family ≡ right.family → left.name ≢ right.name) doc.styles
  pub style_names_given : Each (λ style. style.name ≢ []) doc.styles
  pub style_loops : HasNoStyleLoop doc
  pub lists : Each (λ list. AreLevels list.levels) doc.lists
  pub outline : (doc.outline.name ≡ []) × AreLevels doc.outline.levels × Each IsNumberLevel doc.outline.levels
  pub layout_names_used : Each (λ master. IsNoneOrGiven (map (λ layout. layout.name) doc.layouts) master.layout) doc.masters
  pub next_masters : Each (λ master. IsNoneOrGiven (map (λ other. other.name) doc.masters) master.next) doc.masters
  pub headers : Each (λ master. (length master.header ≤ 16) × (length master.footer ≤ 16)) doc.masters
  pub header_items : Each (λ par. Each IsOfHeader par.items) (head_paragraphs doc)
  -- names
  pub list_names : AreNamesGiven (map (λ list. list.name) doc.lists)
  pub layout_names : AreNamesGiven (map (λ layout. layout.name) doc.layouts)
  pub master_names : AreNamesGiven (map (λ master. master.name) doc.masters)
  pub variables : AreNamesGiven doc.variables
  pub sequences : AreNamesGiven doc.sequences
  pub section_names : AreNamesOrNone (map (λ section. section.name) (sections doc))
  pub note_ids : AreNamesOrNone (map (λ note. (out-Note note).id) (notes doc))
  pub reference_names : AreNamesOrNone (flat_map refname_of (all_fields doc))
  pub span_styles : Each (λ name. (name ≢ []) × IsNoneOrStyle doc family.Text name) (span_names doc)
  pub legal_names : Each (λ name. Each IsLegal name) (names doc)
  pub limits : IsWithinLimits doc
