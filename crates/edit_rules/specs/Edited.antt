-- The edited document. A document that is edited has the next paragraph number beside it.
use Rattle.std.specs.Prelude.{ℕ, ◌+◌, List, [], ◌∷◌, ◌++◌, map, None}
use Rattle.std.specs.List.{flat_map}
use Rattle.doc_model.specs.declared.paragraph.Par.{Par, out-Par, roll-Par}
use Rattle.doc_model.specs.declared.paragraph.Item.{Item}
use Rattle.doc_model.specs.declared.paragraph.What.{What}
use Rattle.doc_model.specs.declared.paragraph.What.TheOpen.{What-F}
use Rattle.doc_model.specs.declared.paragraph.Note.{Note, roll-Note}
use Rattle.doc_model.specs.declared.field.NoteClass.{NoteClass}
use Rattle.doc_model.specs.declared.style.Style.{Style}
use Rattle.doc_model.specs.declared.edit.DeclKind.{DeclKind}
use Rattle.doc_model.specs.declared.edit.DeclKind.TheVariants as decl
use Rattle.doc_model.specs.declared.edit.EditOp.{EditOp}
use Rattle.doc_model.specs.declared.edit.EditOp.TheVariants.{InsertText, DeleteRange, Split, Join, MovePars, SetParStyle, SetSpan, SetHeading, SetList, InsertField, InsertNote, AddBookmark, RemoveBookmark, WrapSection, UnwrapSection, SetSection, DefineStyle, RemoveStyle, SetParent, SetProp, AddDecl}
use Rattle.doc_model.specs.declared.document.Document.{Document}
use Rattle.edit_rules.specs.Texts.{with_paragraph, with_items, with_text, without_range, with_spans, spans_of, with_item, with_bookmark, without_bookmark}
use Rattle.edit_rules.specs.Blocks.{in_containers, at_paragraph, split_first, join_first, moved, wrap_through, unwrapped, with_section_set}
use Rattle.style_model.specs.Changes.{with_style, without_style, with_change, with_parent, with_style_prop}

-- a document and the least paragraph number that was never given
pub record Edited : Type 0 where
  pub document : Document
  pub next : ℕ

-- a paragraph of this number that holds nothing, without a style, a heading level and a list place
abbrev pub empty_paragraph : ℕ → Par
empty_paragraph number = roll-Par (record { id = record { 0 = number }; style = []; level = 0; list = None; items = [] })

-- a note with one empty paragraph of this number
abbrev pub new_note : NoteClass → List ℕ → ℕ → What-F What Item Note Par
new_note class id number = What-F.Note (roll-Note (record { id = id; class = class; pars = empty_paragraph number ∷ [] }))

-- the document with a change made to its styles
abbrev pub with_styles : (List Style → List Style) → Document → Document
with_styles change doc = record doc { styles = change doc.styles }

-- the document with one more declared name, the last of its kind
abbrev pub with_declared : DeclKind → List ℕ → Document → Document
with_declared decl.Sequence name doc = record doc { sequences = doc.sequences ++ name ∷ [] }
with_declared decl.Variable name doc = record doc { variables = doc.variables ++ name ∷ [] }

-- what an operation makes of a document that it can be done on, where the next paragraph number is the given one
abbrev pub edited_document : ℕ → EditOp → Document → Document
edited_document next (InsertText par at text) doc = with_items par.0 (with_text at text) doc
edited_document next (DeleteRange par from to) doc = with_items par.0 (without_range from to) doc
edited_document next (Split par at) doc = at_paragraph par (split_first doc.styles next at) doc
edited_document next (Join par) doc = at_paragraph par join_first doc
edited_document next (MovePars first last after) doc = moved first last after doc
edited_document next (SetParStyle par style) doc = with_paragraph par.0 (λ old. roll-Par (record (out-Par old) { style = style })) doc
edited_document next (SetSpan par from to style) doc = with_items par.0 (with_spans from to (spans_of style)) doc
edited_document next (SetHeading par level) doc = with_paragraph par.0 (λ old. roll-Par (record (out-Par old) { level = level })) doc
edited_document next (SetList par list) doc = with_paragraph par.0 (λ old. roll-Par (record (out-Par old) { list = list })) doc
edited_document next (InsertField par at field) doc = with_items par.0 (with_item at (What-F.Field field)) doc
edited_document next (InsertNote par at class id) doc = with_items par.0 (with_item at (new_note class id next)) doc
edited_document next (AddBookmark name from to) doc = with_bookmark name from to doc
edited_document next (RemoveBookmark name) doc = without_bookmark name doc
edited_document next (WrapSection first last name style) doc = at_paragraph first (wrap_through last name style) doc
edited_document next (UnwrapSection name) doc = in_containers (flat_map (unwrapped name)) doc
edited_document next (SetSection name protected hidden) doc = record doc { body = map (with_section_set name protected hidden) doc.body }
edited_document next (DefineStyle style) doc = with_styles (with_style style) doc
edited_document next (RemoveStyle family name) doc = with_styles (without_style family name) doc
edited_document next (SetParent family name parent) doc = with_styles (with_change family name (with_parent parent)) doc
edited_document next (SetProp family name prop) doc = with_styles (with_change family name (with_style_prop prop)) doc
edited_document next (AddDecl kind name) doc = with_declared kind name doc

-- how many paragraph numbers an operation gives
abbrev pub numbers_given : EditOp → ℕ
numbers_given (Split par at) = 1
numbers_given (InsertNote par at class id) = 1
numbers_given _ = 0

-- what an operation makes of a document and the next paragraph number, where it can be done
abbrev pub edited : Edited → EditOp → Edited
edited old op = record { document = edited_document old.next op old.document; next = old.next + numbers_given op }
