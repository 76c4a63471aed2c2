-- The names that a document has, those that an operation needs and brings, and the characters that they may have.
use Rattle.std.specs.Prelude.{ℕ, nat_le, ◌&&◌, ◌||◌, not, Bool, List, [], ◌∷◌, ◌++◌, map, filter, position, Option, option_to_list}
use Rattle.std.specs.List.{flat_map, list_any}
use Rattle.std.specs.Str.{bytes_eq}
use Rattle.doc_model.specs.declared.paragraph.Note.{out-Note}
use Rattle.doc_model.specs.declared.field.Field.{Field}
use Rattle.doc_model.specs.declared.field.Field.TheVariants as fields
use Rattle.doc_model.specs.declared.style.Family.{Family}
use Rattle.doc_model.specs.declared.style.Family.TheVariants as family
use Rattle.doc_model.specs.declared.style.Style.{Style}
use Rattle.doc_model.specs.declared.style.Prop.{Prop}
use Rattle.doc_model.specs.declared.edit.DeclKind.{DeclKind}
use Rattle.doc_model.specs.declared.edit.DeclKind.TheVariants as decl
use Rattle.doc_model.specs.declared.edit.EditOp.{EditOp}
use Rattle.doc_model.specs.declared.edit.EditOp.TheVariants.{InsertText, SetParStyle, SetSpan, SetList, InsertField, InsertNote, AddBookmark, RemoveBookmark, WrapSection, UnwrapSection, SetSection, DefineStyle, RemoveStyle, SetParent, SetProp, AddDecl}
use Rattle.doc_model.specs.declared.refusal.NameSort.{NameSort}
use Rattle.doc_model.specs.declared.refusal.NameSort.TheVariants as sort
use Rattle.doc_model.specs.declared.document.Document.{Document}
use Rattle.doc_model.specs.Chars.{can_be_typed}
use Rattle.doc_model.specs.Parts.{all_items, all_fields, mark_of, mark_name, notes, sections}
use Rattle.doc_model.specs.Valid.{refname_of}
use Rattle.style_model.specs.Lineage.{is_same_family}
use Rattle.edit_rules.specs.Styles.{stated_properties, has_property, property_word}

-- the names of the styles of a family
abbrev pub style_names : Document → Family → List (List ℕ)
style_names doc of = map (λ style. style.name) (filter (λ style. is_same_family style.family of) doc.styles)

-- the names of the list styles
abbrev pub list_names : Document → List (List ℕ)
list_names doc = map (λ list. list.name) doc.lists

-- the names of the masters
abbrev pub master_names : Document → List (List ℕ)
master_names doc = map (λ master. master.name) doc.masters

-- the names of the sections
abbrev pub section_names : Document → List (List ℕ)
section_names doc = map (λ section. section.name) (sections doc)

-- the names of the bookmarks, one for each mark
abbrev pub bookmark_names : Document → List (List ℕ)
bookmark_names doc = map mark_name (flat_map mark_of (all_items doc))

-- the reference names of the sequence fields
abbrev pub reference_names : Document → List (List ℕ)
reference_names doc = flat_map refname_of (all_fields doc)

-- the ids of the notes
abbrev pub note_ids : Document → List (List ℕ)
note_ids doc = map (λ note. (out-Note note).id) (notes doc)

-- the declared names of a kind
abbrev pub declared_names : Document → DeclKind → List (List ℕ)
declared_names doc decl.Sequence = doc.sequences
declared_names doc decl.Variable = doc.variables

-- what the name of a declaration names
abbrev pub declared_sort : DeclKind → NameSort
declared_sort decl.Sequence = sort.Sequence
declared_sort decl.Variable = sort.Variable

-- the empty name stands for none
abbrev pub is_none_name : List ℕ → Bool
is_none_name name = bytes_eq name []

-- whether a name is there among those given. The empty name never is
abbrev pub is_there : List (List ℕ) → List ℕ → Bool
is_there given name = not (is_none_name name) && list_any (λ other. bytes_eq other name) given

-- a name that an operation needs, and whether that need is met
pub record Need : Type 0 where
  pub sort : NameSort
  pub name : List ℕ
  pub is_met : Bool

-- a name that has to exist
abbrev pub existing : NameSort → List (List ℕ) → List ℕ → Need
existing of given name = record { sort = of; name = name; is_met = is_there given name }

-- a name that has to exist, or the empty name
abbrev pub existing_or_none : NameSort → List (List ℕ) → List ℕ → Need
existing_or_none of given name = record { sort = of; name = name; is_met = is_none_name name || is_there given name }

-- a new name, which can't be the empty one
abbrev pub not_empty : NameSort → List ℕ → Need
not_empty of name = record { sort = of; name = name; is_met = not (is_none_name name) }

-- a property, which the family has to have
abbrev pub owned : Family → Prop → Need
owned of prop = record { sort = sort.Property; name = property_word prop; is_met = has_property of prop }

-- what a new style needs: a name, a parent and a next style of its family, a master, and properties of its family
abbrev pub needs_of_style : Document → Style → List Need
needs_of_style doc style =
    not_empty sort.Style style.name ∷ existing_or_none sort.Style (style_names doc style.family) style.parent
    ∷ existing_or_none sort.Style (style_names doc style.family) style.next
    ∷ map (existing_or_none sort.Master (master_names doc)) (option_to_list style.master) ++ map (owned style.family) (stated_properties style.props)

-- what a new field needs: its sequence or variable. The names of reference fields need not exist
abbrev pub needs_of_field : Document → Field → List Need
needs_of_field doc (fields.Sequence name refname format) = existing sort.Sequence doc.sequences name ∷ []
needs_of_field doc (fields.VarSet name value) = existing sort.Variable doc.variables name ∷ []
needs_of_field doc (fields.VarGet name) = existing sort.Variable doc.variables name ∷ []
needs_of_field doc _ = []

-- the names and properties that an operation needs, in the order of its fields
abbrev pub needs : Document → EditOp → List Need
needs doc (SetParStyle par style) = existing_or_none sort.Style (style_names doc family.Paragraph) style ∷ []
needs doc (SetSpan par from to style) = existing_or_none sort.Style (style_names doc family.Text) style ∷ []
needs doc (SetList par list) = map (λ place. existing_or_none sort.ListStyle (list_names doc) place.style) (option_to_list list)
needs doc (InsertField par at field) = needs_of_field doc field
needs doc (AddBookmark name from to) = not_empty sort.Bookmark name ∷ []
needs doc (RemoveBookmark name) = existing sort.Bookmark (bookmark_names doc) name ∷ []
needs doc (WrapSection first last name style) = not_empty sort.Section name ∷ existing_or_none sort.Style (style_names doc family.Section) style ∷ []
needs doc (UnwrapSection name) = existing sort.Section (section_names doc) name ∷ []
needs doc (SetSection name protected hidden) = existing sort.Section (section_names doc) name ∷ []
needs doc (DefineStyle style) = needs_of_style doc style
needs doc (RemoveStyle of name) = existing sort.Style (style_names doc of) name ∷ []
needs doc (SetParent of name parent) = existing sort.Style (style_names doc of) name ∷ existing_or_none sort.Style (style_names doc of) parent ∷ []
needs doc (SetProp of name prop) = existing sort.Style (style_names doc of) name ∷ owned of prop ∷ []
needs doc (AddDecl kind name) = not_empty (declared_sort kind) name ∷ []
needs doc _ = []

-- a name that an operation brings, with those of its kind that are there
pub record Brought : Type 0 where
  pub sort : NameSort
  pub name : List ℕ
  pub given : List (List ℕ)

-- a new name among those of its kind
abbrev pub new_among : NameSort → List (List ℕ) → List ℕ → Brought
new_among of given name = record { sort = of; name = name; given = given }

-- the reference name that a new field brings
abbrev pub brought_by_field : Document → Field → List Brought
brought_by_field doc field = map (new_among sort.Reference (reference_names doc)) (refname_of field)

-- the new names that an operation brings
abbrev pub brought : Document → EditOp → List Brought
brought doc (InsertField par at field) = brought_by_field doc field
brought doc (InsertNote par at class id) = new_among sort.Note (note_ids doc) id ∷ []
brought doc (AddBookmark name from to) = new_among sort.Bookmark (bookmark_names doc) name ∷ []
brought doc (WrapSection first last name style) = new_among sort.Section (section_names doc) name ∷ []
brought doc (DefineStyle style) = new_among sort.Style (style_names doc style.family) style.name ∷ []
brought doc (AddDecl kind name) = new_among (declared_sort kind) (declared_names doc kind) name ∷ []
brought doc _ = []

-- the texts and new names of a field, and the names of reference fields
abbrev pub texts_of_field : Field → List (List ℕ)
texts_of_field (fields.Sequence name refname format) = refname ∷ []
texts_of_field (fields.VarSet name value) = value ∷ []
texts_of_field (fields.BookRef name form) = name ∷ []
texts_of_field (fields.SeqRef name form) = name ∷ []
texts_of_field (fields.NoteRef name class form) = name ∷ []
texts_of_field _ = []

-- the texts and new names of an operation, and the name of a reference field, in the order of its fields
abbrev pub texts_of : EditOp → List (List ℕ)
texts_of (InsertText par at text) = text ∷ []
texts_of (InsertField par at field) = texts_of_field field
texts_of (InsertNote par at class id) = id ∷ []
texts_of (AddBookmark name from to) = name ∷ []
texts_of (WrapSection first last name style) = name ∷ []
texts_of (DefineStyle style) = style.name ∷ []
texts_of (AddDecl kind name) = name ∷ []
texts_of _ = []

-- whether an operation may bring a character: a legal one from U+20 on, and in inserted text a tab or a line feed too
abbrev pub may_bring : EditOp → ℕ → Bool
may_bring (InsertText par at text) c = can_be_typed c
may_bring _ c = nat_le 0x20 c && can_be_typed c

-- how many characters stand before the first one of a text that an operation may not bring, if there is one
abbrev pub first_not_brought : EditOp → List ℕ → Option ℕ
first_not_brought op text = position (λ c. not (may_bring op c)) text
