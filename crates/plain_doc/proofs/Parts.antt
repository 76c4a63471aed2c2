-- The parts of plain documents.
use Rattle.std.proofs.Common.{◌≡◌, ℕ, ◌+◌, List, [], ◌∷◌, ◌++◌, length, refl, ap, sym, ◌∙◌, arith, Option, None}
use Rattle.std.specs.Prelude.{map, sum_by, fold}
use Rattle.std.specs.List.{flat_map}
use Rattle.doc_model.specs.declared.paragraph.What.TheViews.{out-roll-Item, out-roll-What, out-roll-Par}
use Rattle.doc_model.specs.declared.paragraph.What.TheOpen.{Par-F}
use Rattle.doc_model.specs.declared.paragraph.What.{What}
use Rattle.doc_model.specs.declared.block.Block.TheFolds.{fold-roll-Block}
use Rattle.doc_model.specs.declared.block.Kind.{Kind}
use Rattle.doc_model.specs.declared.paragraph.Par.{Par}
use Rattle.doc_model.specs.declared.paragraph.Item.{Item}
use Rattle.doc_model.specs.declared.paragraph.Note.{Note}
use Rattle.doc_model.specs.declared.paragraph.Mark.{Mark}
use Rattle.doc_model.specs.declared.field.Field.{Field}
use Rattle.doc_model.specs.declared.block.Block.{Block}
use Rattle.doc_model.specs.Plain.{plain_item, plain_paragraph, plain_blocks, plain_document}
use Rattle.doc_model.specs.Reading.{block_paragraphs, body_paragraphs, note_of, notes_of, with_notes, paragraphs, number_of, upwards}
use Rattle.doc_model.specs.Parts.{items_of, all_items, notes, all_fields, field_of, mark_of, span_names, sections, block_sections, SectionHead, depth_of, names_of_paragraph}
use Rattle.plain_doc.specs.PlainParts.{plain_pars}

pub block_paragraphs-plain : (number : ℕ) (texts : List (List ℕ)) → flat_map block_paragraphs (plain_blocks number texts) ≡ plain_pars number texts
block_paragraphs-plain number [] = refl
block_paragraphs-plain number (text ∷ texts) = simp (fold-roll-Block, block_paragraphs-plain (number + 1) texts)

note_of-plain : (text : List ℕ) → flat_map note_of (map plain_item text) ≡ []
note_of-plain [] = refl
note_of-plain (c ∷ cs) = simp (out-roll-What, note_of-plain cs)

notes_of-plain : (number : ℕ) (texts : List (List ℕ)) → flat_map notes_of (plain_pars number texts) ≡ []
notes_of-plain number [] = refl
notes_of-plain number (text ∷ texts) = simp (out-roll-Par, note_of-plain text, notes_of-plain (number + 1) texts)

with_notes-plain : (number : ℕ) (texts : List (List ℕ)) → flat_map with_notes (plain_pars number texts) ≡ plain_pars number texts
with_notes-plain number [] = refl
with_notes-plain number (text ∷ texts) = simp (out-roll-Par, note_of-plain text, with_notes-plain (number + 1) texts)

pub body_paragraphs-plain : (texts : List (List ℕ)) → body_paragraphs (plain_document texts) ≡ plain_pars 1 texts
unfolding plain_document
body_paragraphs-plain texts = block_paragraphs-plain 1 texts

pub paragraphs-plain : (texts : List (List ℕ)) → paragraphs (plain_document texts) ≡ plain_pars 1 texts
paragraphs-plain texts = ap (λ (pars : List Par). flat_map with_notes pars) (body_paragraphs-plain texts) ∙ with_notes-plain 1 texts

pub notes-plain : (texts : List (List ℕ)) → notes (plain_document texts) ≡ []
notes-plain texts = ap (λ (pars : List Par). flat_map notes_of pars) (body_paragraphs-plain texts) ∙ notes_of-plain 1 texts

-- the items of a plain paragraph
pub items_of-plain_paragraph : (number : ℕ) (text : List ℕ) → items_of (plain_paragraph number text) ≡ map plain_item text
items_of-plain_paragraph number text = ap (λ (layer : Par-F What Item Note Par). layer.items) (out-roll-Par _)

-- the number of a plain paragraph
pub number_of-plain_paragraph : (number : ℕ) (text : List ℕ) → number_of (plain_paragraph number text) ≡ number
number_of-plain_paragraph number text = ap (λ (layer : Par-F What Item Note Par). layer.id.0) (out-roll-Par _)

-- the items of plain paragraphs
pub items_of-plain : (number : ℕ) (texts : List (List ℕ)) → flat_map items_of (plain_pars number texts) ≡ flat_map (λ text. map plain_item text) texts
items_of-plain number [] = refl
items_of-plain number (text ∷ texts) =
    ap (λ (found : List Item). found ++ flat_map items_of (plain_pars (number + 1) texts)) (items_of-plain_paragraph number text)
    ∙ ap (λ (found : List Item). map plain_item text ++ found) (items_of-plain (number + 1) texts)

pub items-plain : (texts : List (List ℕ)) → all_items (plain_document texts) ≡ flat_map (λ text. map plain_item text) texts
items-plain texts = ap (λ (pars : List Par). flat_map items_of pars) (paragraphs-plain texts) ∙ items_of-plain 1 texts

-- a function of items that is empty at a plain item is empty at plain items
none_of-plain : {X : Type 0} (f : Item → List X) → ((c : ℕ) → f (plain_item c) ≡ []) → (text : List ℕ) (more : List Item) → flat_map f (map plain_item text ++ more) ≡ flat_map f more
none_of-plain f none [] more = refl
none_of-plain f none (c ∷ cs) more = rw (none c) (none_of-plain f none cs more)

pub none_of : {X : Type 0} (f : Item → List X) → ((c : ℕ) → f (plain_item c) ≡ []) → (texts : List (List ℕ)) → flat_map f (flat_map (λ text. map plain_item text) texts) ≡ []
none_of f none [] = refl
none_of f none (text ∷ texts) = none_of-plain f none text (flat_map (λ text. map plain_item text) texts) ∙ none_of f none texts

pub fields_of-plain : (texts : List (List ℕ)) → all_fields (plain_document texts) ≡ []
fields_of-plain texts = ap (λ (found : List Item). flat_map field_of found) (items-plain texts) ∙ none_of field_of (λ c. simp out-roll-What) texts

pub marks-plain : (texts : List (List ℕ)) → flat_map mark_of (all_items (plain_document texts)) ≡ []
marks-plain texts = ap (λ (found : List Item). flat_map mark_of found) (items-plain texts) ∙ none_of mark_of (λ c. simp out-roll-What) texts

pub span_names-plain : (texts : List (List ℕ)) → span_names (plain_document texts) ≡ []
span_names-plain texts = ap (λ (found : List Item). flat_map (λ item. (Rattle.doc_model.specs.declared.paragraph.Item.out-Item item).spans) found) (items-plain texts)
    ∙ none_of (λ item. (Rattle.doc_model.specs.declared.paragraph.Item.out-Item item).spans) (λ c. refl) texts

sections_of-plain : (number : ℕ) (texts : List (List ℕ)) → flat_map (λ (block : Block). block_sections block) (plain_blocks number texts) ≡ []
sections_of-plain number [] = refl
sections_of-plain number (text ∷ texts) = simp (fold-roll-Block, sections_of-plain (number + 1) texts)

pub sections-plain : (texts : List (List ℕ)) → sections (plain_document texts) ≡ []
unfolding plain_document
sections-plain texts = sections_of-plain 1 texts
