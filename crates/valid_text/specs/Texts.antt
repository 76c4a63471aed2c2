-- What it means that the parts of a document's text are valid, one by one.
use Rattle.std.specs.Prelude.{◌≡◌, ◌≢◌, ℕ, ◌≤◌, List, [], ◌++◌, map, length, Option, Some, None}
use Rattle.std.specs.List.{AllByRecursion as Each, flat_map}
use Rattle.doc_model.specs.declared.block.Kind.TheVariants.{Plain}
use Rattle.doc_model.specs.declared.paragraph.Item.{Item}
use Rattle.doc_model.specs.declared.paragraph.What.{What}
use Rattle.doc_model.specs.declared.paragraph.What.TheOpen.{What-F}
use Rattle.doc_model.specs.declared.paragraph.ListPos.{ListPos}
use Rattle.doc_model.specs.declared.paragraph.Note.{Note, out-Note}
use Rattle.doc_model.specs.declared.paragraph.Par.{Par, out-Par}
use Rattle.doc_model.specs.declared.style.Family.TheVariants as family
use Rattle.doc_model.specs.declared.document.Document.{Document}
use Rattle.doc_model.specs.Chars.{IsLegal}
use Rattle.doc_model.specs.Reading.{paragraphs}
use Rattle.doc_model.specs.Parts.{all_fields, all_items, mark_name, mark_of, names_of_field, names_of_paragraph, names_of_section, notes, SectionHead, sections, span_names, what_of}
use Rattle.doc_model.specs.Valid.{IsField, IsItem, IsNoneOrGiven, IsNoneOrStyle, IsNote, IsSection}

-- a list place names a list that is there or none, and its level is 1 at least
abbrev pub IsPlace : Document → Option ListPos → Type 0
IsPlace doc None = Unit {0}
IsPlace doc (Some place) = IsNoneOrGiven (map (λ list. list.name) doc.lists) place.style × (1 ≤ place.level)

-- a paragraph's styles are there, and its level is at most 10. Its list place may be within more than ten lists
abbrev pub IsDraftParagraph : Document → Par → Type 0
IsDraftParagraph doc par = IsNoneOrStyle doc family.Paragraph (out-Par par).style × ((out-Par par).level ≤ 10) × IsPlace doc (out-Par par).list

-- a section has a block, its style is there, and it is a plain one
pub record IsDraftSection (doc : Document) (section : SectionHead) : Type 0 where
  pub blocks : section.blocks ≢ 0
  pub style : IsNoneOrStyle doc family.Section section.style
  pub kind : section.kind ≡ Plain

-- the names that stand in the text: of sections, paragraphs, spans, fields, marks and notes
abbrev pub text_names : Document → List (List ℕ)
text_names doc =
    flat_map names_of_section (sections doc)
    ++ flat_map names_of_paragraph (paragraphs doc)
    ++ span_names doc
    ++ flat_map names_of_field (all_fields doc)
    ++ map mark_name (flat_map mark_of (all_items doc))
    ++ map (λ note. (out-Note note).id) (notes doc)

-- a name of legal characters that isn't too long
abbrev pub IsGoodName : List ℕ → Type 0
IsGoodName name = Each IsLegal name × (length name ≤ 1024)

-- no item is a note
abbrev pub IsNoNote : Item → Type 0
IsNoNote item = of_what (what_of item) where
  of_what : What-F What Item Note Par → Type 0
  of_what (What-F.Note note) = ⊥
  of_what _ = Unit {0}

-- a note holds no note
abbrev pub HoldsNoNote : Note → Type 0
HoldsNoNote note = Each (λ par. Each IsNoNote (out-Par par).items) (out-Note note).pars

-- each part of the text is valid, but for the names of sections, and that a note has a paragraph
pub record AreTextsGood (doc : Document) : Type 0 where
  pub body : doc.body ≢ []
  pub each_paragraph : Each (IsDraftParagraph doc) (paragraphs doc)
  pub each_item : Each IsItem (all_items doc)
  pub each_note : Each HoldsNoNote (notes doc)
  pub each_field : Each (IsField doc) (all_fields doc)
  pub each_section : Each (IsDraftSection doc) (sections doc)
  pub span_styles : Each (λ name. (name ≢ []) × IsNoneOrStyle doc family.Text name) (span_names doc)
  pub names : Each IsGoodName (text_names doc)

-- each part of the text is valid
pub record AreTextsValid (doc : Document) : Type 0 where
  pub body : doc.body ≢ []
  pub each_paragraph : Each (IsDraftParagraph doc) (paragraphs doc)
  pub each_item : Each IsItem (all_items doc)
  pub each_note : Each IsNote (notes doc)
  pub each_field : Each (IsField doc) (all_fields doc)
  pub mark_names : Each (λ mark. mark_name mark ≢ []) (flat_map mark_of (all_items doc))
  pub each_section : Each (IsSection doc) (sections doc)
  pub span_styles : Each (λ name. (name ≢ []) × IsNoneOrStyle doc family.Text name) (span_names doc)
  pub legal_names : Each (λ name. Each IsLegal name) (text_names doc)
  pub short_names : Each (λ name. length name ≤ 1024) (text_names doc)
