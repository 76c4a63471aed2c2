-- What holds of each part of a text that is read.
use Rattle.std.proofs.Common.{◌≡◌, ◌≢◌, ℕ, ◌≤◌, Bool, true, false, List, [], ◌∷◌, map, length, Option, Some, None, sym, subst, inl, inr, arith}
use Rattle.std.specs.List.{AllByRecursion as Each}
use Rattle.doc_model.specs.declared.block.Block.{Block}
use Rattle.doc_model.specs.declared.document.Document.{Document}
use Rattle.doc_model.specs.declared.paragraph.Item.{Item, out-Item}
use Rattle.doc_model.specs.declared.paragraph.ListPos.{ListPos}
use Rattle.doc_model.specs.declared.paragraph.Note.{Note, out-Note}
use Rattle.doc_model.specs.declared.paragraph.Par.{Par, out-Par}
use Rattle.doc_model.specs.declared.paragraph.What.{What}
use Rattle.doc_model.specs.declared.paragraph.What.TheOpen.{Note-F, Par-F, What-F}
use Rattle.doc_model.specs.declared.paragraph.What.TheViews.{out-roll-What}
use Rattle.doc_model.specs.declared.style.Family.{Family}
use Rattle.doc_model.specs.declared.style.Family.TheVariants as family
use Rattle.doc_model.specs.Chars.{IsLegal, IsLegalText}
use Rattle.doc_model.specs.Parts.{block_sections, mark_name, names_of_field, names_of_section, SectionHead, what_of}
use Rattle.doc_model.specs.Reading.{block_paragraphs}
use Rattle.doc_model.specs.Valid.{IsField, IsNoneOrGiven, IsNoneOrStyle}
use Rattle.load_model.specs.Blocks.{Known, ReadBlocks, ReadSource, paragraphs_of}
use Rattle.load_model.specs.Content.{Raw, Blank, Read, item_in}
use Rattle.load_model.specs.Styles.{reference, style_reference}
use Rattle.valid_text.specs.Texts.{IsDraftSection, IsGoodName, IsPlace}

-- a text that is read: what is known, the document that it is of, and whether what is kept by its name has one
pub record Text : Type 0 where
  pub known : Known
  pub doc : Document
  pub strict : Bool

-- good references name what is there
pub record Fits (text : Text) : Type 0 where
  pub style : (of : Family) (value name : List ℕ) → Each IsLegal value → style_reference text.known.names of value ≡ Some name → (name ≢ []) × IsNoneOrStyle text.doc of name × IsGoodName name
  pub list : (value name : List ℕ) → Each IsLegal value → reference text.known.names.lists value ≡ Some name → IsNoneOrGiven (map (λ list. list.name) text.doc.lists) name × IsGoodName name

-- a name that is kept by it
abbrev pub IsKeptName : Text → List ℕ → Type 0
IsKeptName text name = IsGoodName name × (text.strict ≡ true → name ≢ [])

-- a span
abbrev pub IsSpan : Text → List ℕ → Type 0
IsSpan text name = (name ≢ []) × IsNoneOrStyle text.doc family.Text name × IsGoodName name

abbrev pub AreSpans : Text → List (List ℕ) → Type 0
AreSpans text spans = (length spans ≤ 8) × Each (IsSpan text) spans

-- what an item is, by what is asked of a note
abbrev pub IsGoodWhat : Text → (Note → Type 0) → What-F What Item Note Par → Type 0
IsGoodWhat text N (What-F.Char c) = IsLegalText c
IsGoodWhat text N What-F.Tab = Unit {0}
IsGoodWhat text N What-F.Break = Unit {0}
IsGoodWhat text N (What-F.Field field) = IsField text.doc field × Each IsGoodName (names_of_field field)
IsGoodWhat text N (What-F.Note note) = N note
IsGoodWhat text N (What-F.Mark mark) = IsKeptName text (mark_name mark)

abbrev pub IsGoodItem : Text → (Note → Type 0) → Item → Type 0
IsGoodItem text N item = AreSpans text (out-Item item).spans × IsGoodWhat text N (what_of item)

-- a paragraph by its layer
abbrev pub Layer : Type 0
Layer = Par-F What Item Note Par

abbrev pub place_names : Option ListPos → List (List ℕ)
place_names None = []
place_names (Some place) = place.style ∷ []

abbrev pub LayerIsGood : Text → (Note → Type 0) → Layer → Type 0
LayerIsGood text N x = (IsNoneOrStyle text.doc family.Paragraph x.style × (x.level ≤ 10) × IsPlace text.doc x.list) × Each IsGoodName (x.style ∷ place_names x.list) × Each (IsGoodItem text N) x.items

abbrev pub IsGoodPar : Text → (Note → Type 0) → Par → Type 0
IsGoodPar text N par = LayerIsGood text N (out-Par par)

-- a note holds no notes
abbrev pub IsNone : Note → Type 0
IsNone note = ⊥

abbrev pub NoteLayer : Type 0
NoteLayer = Note-F What Item Note Par

abbrev pub NoteLayerIsGood : Text → NoteLayer → Type 0
NoteLayerIsGood text x = IsGoodName x.id × (text.strict ≡ true → x.pars ≢ []) × Each (IsGoodPar text IsNone) x.pars

abbrev pub IsGoodNote : Text → Note → Type 0
IsGoodNote text note = NoteLayerIsGood text (out-Note note)

abbrev pub NoteOf : Text → Bool → Note → Type 0
NoteOf text true = IsNone
NoteOf text false = IsGoodNote text

-- a section
abbrev pub IsGoodSection : Text → SectionHead → Type 0
IsGoodSection text section = IsDraftSection text.doc section × (text.strict ≡ true → section.name ≢ []) × Each IsGoodName (names_of_section section)

-- a block, in a note or not: where what is kept by its name has one, a note holds no sections
abbrev pub IsGoodBlock : Text → Bool → Block → Type 0
IsGoodBlock text within block =
    Each (IsGoodPar text (NoteOf text within)) (block_paragraphs block) × Each (IsGoodSection text) (block_sections block)
    × (text.strict ≡ true → within ≡ true → paragraphs_of (block ∷ []) ≢ [])

-- what is read in a paragraph
abbrev pub IsGoodRaw : Text → Bool → Raw → Type 0
IsGoodRaw text within (Blank spans) = AreSpans text spans
IsGoodRaw text within (Read item) = IsGoodItem text (NoteOf text within) item

-- what is read where blocks are
abbrev pub IsGoodSource : ReadSource → Type 0
IsGoodSource read = IsGoodName read.source.href × IsGoodName read.source.section

abbrev pub AreGoodBlocks : Text → Bool → ReadBlocks → Type 0
AreGoodBlocks text within read = Each (IsGoodBlock text within) read.blocks × Each IsGoodSource read.sources

-- an item by what it is
pub item_good : (text : Text) (N : Note → Type 0) (spans : List (List ℕ)) (what : What-F What Item Note Par) → AreSpans text spans → IsGoodWhat text N what → IsGoodItem text N (item_in spans what)
item_good text N spans what are is = (are, subst (IsGoodWhat text N) (sym (out-roll-What what)) is)

-- a space
pub space_good : (text : Text) (N : Note → Type 0) (spans : List (List ℕ)) → AreSpans text spans → IsGoodItem text N (item_in spans (What-F.Char 0x20))
space_good text N spans are = item_good text N spans (What-F.Char 0x20) are (inr (inr (inr (inl (omega arith, omega arith)))), omega arith)
