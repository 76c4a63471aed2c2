-- Texts that are gathered are those of the paragraphs where they stand.
use Rattle.std.proofs.Common.{◌≡◌, ℕ, ◌+◌, Bool, true, false, List, [], ◌∷◌, ◌++◌, map, length, reverse, refl, sym, ap, ap₂, ◌∙◌, append_assoc, append-nil, length-append}
use Rattle.std.specs.List.{flat_map}
use Rattle.std.proofs.lemmas.List.{map-append, length-map, reverse-append}
use Rattle.std.proofs.lemmas.List.Concat.{flat_map-append}
use Rattle.doc_model.specs.declared.paragraph.Item.{Item}
use Rattle.doc_model.specs.declared.paragraph.What.{What}
use Rattle.doc_model.specs.declared.paragraph.What.TheOpen.{What-F}
use Rattle.doc_model.specs.declared.paragraph.Note.{Note, out-Note}
use Rattle.doc_model.specs.declared.paragraph.Par.{Par}
use Rattle.doc_model.specs.declared.document.Document.{Document}
use Rattle.doc_model.specs.Reading.{note_of, number_of, paragraphs, with_notes}
use Rattle.doc_model.specs.Parts.{items_of, what_of}
use Rattle.field_model.specs.Gathered.{GatheredPar}
use Rattle.field_model.specs.Labels.{head_of, label_in}
use Rattle.format_model.specs.Standing.{BodyPar, NoteAt, body_pars, is_item_shown, notes_from}
use Rattle.format_model.specs.Keys.{Standing, gathered_at, gathered_from, in_note, label_of, par_of, standing, standing_in_note, standing_with_notes}
use Rattle.doc_texts.specs.declared.texts.ParText.{ParText}
use Rattle.doc_texts.specs.Holds.{AreTexts, gathered_par}
use Rattle.round_pars.specs.Pairs.{Pairwise}
use Rattle.round_pars.specs.Pars.{AreNumbersDistinct, IsTextOf}
use Rattle.round_pars.proofs.Blocks.{blocks_read}
use Rattle.round_pars.proofs.Labels.{place_behind}

-- the paragraphs of a note
note_pars : (anchor : BodyPar) (note : NoteAt) (is_first : Bool) (pars : List Par) → map par_of (in_note anchor note is_first pars) ≡ pars
note_pars anchor note is_first [] = refl
note_pars anchor note is_first (par ∷ pars) = ap (λ more. par ∷ more) (note_pars anchor note false pars)

-- the notes that an item is, one level deep
abbrev notes_in : What-F What Item Note Par → List Note
notes_in (What-F.Char char) = []
notes_in What-F.Tab = []
notes_in What-F.Break = []
notes_in (What-F.Field field) = []
notes_in (What-F.Note note) = note ∷ []
notes_in (What-F.Mark mark) = []

abbrev note_at : Bool → ℕ → ℕ → Note → NoteAt
note_at is_shown at number note = record { note = note; number = number; item = at; is_shown = is_shown }

layer_pars : (anchor : BodyPar) (is_shown : Bool) (at number : ℕ) (layer : What-F What Item Note Par)
    → map par_of (flat_map (standing_in_note anchor) (map (note_at is_shown at number) (notes_in layer))) ≡ flat_map (λ note. (out-Note note).pars) (notes_in layer)
layer_pars anchor is_shown at number (What-F.Char char) = refl
layer_pars anchor is_shown at number What-F.Tab = refl
layer_pars anchor is_shown at number What-F.Break = refl
layer_pars anchor is_shown at number (What-F.Field field) = refl
layer_pars anchor is_shown at number (What-F.Note note) =
    ap (map par_of) (append-nil (standing_in_note anchor (note_at is_shown at number note))) ∙ note_pars anchor (note_at is_shown at number note) true (out-Note note).pars
    ∙ sym (append-nil (out-Note note).pars)
layer_pars anchor is_shown at number (What-F.Mark mark) = refl

-- those of the notes among items
notes_pars : (doc : Document) (anchor : BodyPar) (at number : ℕ) (items : List Item)
    → map par_of (flat_map (standing_in_note anchor) (notes_from doc anchor.par at number items)) ≡ flat_map (λ note. (out-Note note).pars) (flat_map note_of items)
notes_pars doc anchor at number [] = refl
notes_pars doc anchor at number (item ∷ items) =
    let here = map (note_at (is_item_shown doc anchor.par item) at number) (note_of item) in
    let later = notes_from doc anchor.par (at + 1) (number + length (note_of item)) items in
    let own : map par_of (flat_map (standing_in_note anchor) here) ≡ flat_map (λ note. (out-Note note).pars) (note_of item) = layer_pars anchor (is_item_shown doc anchor.par item) at number (what_of item) in
    ap (map par_of) (flat_map-append (standing_in_note anchor) here later)
    ∙ map-append par_of (flat_map (standing_in_note anchor) here) (flat_map (standing_in_note anchor) later)
    ∙ ap₂ (λ (front back : List Par). front ++ back) own (notes_pars doc anchor (at + 1) (number + length (note_of item)) items)
    ∙ sym (flat_map-append (λ (note : Note). (out-Note note).pars) (note_of item) (flat_map note_of items))

body_pars_with_notes : (doc : Document) (pars : List BodyPar) → map par_of (flat_map (standing_with_notes doc) pars) ≡ flat_map with_notes (map (λ one. one.par) pars)
body_pars_with_notes doc [] = refl
body_pars_with_notes doc (one ∷ more) =
    map-append par_of (standing_with_notes doc one) (flat_map (standing_with_notes doc) more)
    ∙ ap₂ (λ (front back : List Par). front ++ back) (ap (λ pars. one.par ∷ pars) (notes_pars doc one 0 1 (items_of one.par))) (body_pars_with_notes doc more)

-- all paragraphs as they stand are those that are read
pub all_standing : (doc : Document) → map par_of (standing doc) ≡ paragraphs doc
all_standing doc = body_pars_with_notes doc (body_pars doc) ∙ ap (flat_map with_notes) (blocks_read doc.body)

-- a paragraph as it is gathered, of which so many stand before it
abbrev gathered_one : Document → ℕ → Standing → GatheredPar
gathered_one doc at one = record { place = gathered_at one; head = head_of (par_of one); label = label_in doc at; items = items_of (par_of one) }

abbrev listed : Document → ℕ → List Standing → List GatheredPar
listed doc at [] = []
listed doc at (one ∷ more) = gathered_one doc at one ∷ listed doc (at + 1) more

reverse_gathered : (doc : Document) (at : ℕ) (before : List GatheredPar) (ones : List Standing) → reverse (gathered_from doc at before ones) ≡ reverse before ++ listed doc at ones
reverse_gathered doc at before [] = sym (append-nil (reverse before))
reverse_gathered doc at before (one ∷ more) =
    let next = gathered_one doc at one in
    reverse_gathered doc (at + 1) (next ∷ before) more
    ∙ ap (λ (front : List GatheredPar). front ++ listed doc (at + 1) more) (reverse-append (next ∷ []) before)
    ∙ append_assoc (reverse before) (next ∷ []) (listed doc (at + 1) more)

-- a text by its parts
text_is : (doc : Document) (at : ℕ) (one : Standing) (text : ParText) → gathered_par text ≡ gathered_one doc at one → label_in doc at ≡ label_of doc (par_of one) → IsTextOf doc one text
text_is doc at one text e label = record {
  place = ap (λ (par : GatheredPar). par.place) e;
  head = ap (λ (par : GatheredPar). par.head) e;
  label = ap (λ (par : GatheredPar). par.label) e ∙ label;
  items = ap (λ (par : GatheredPar). par.items) e;
}

-- the label of a paragraph behind others
label_behind : (doc : Document) (front : List Standing) (one : Standing) (more : List Standing) → standing doc ≡ front ++ one ∷ more → AreNumbersDistinct doc → label_in doc (length front) ≡ label_of doc (par_of one)
label_behind doc front one more e distinct =
    let pars : paragraphs doc ≡ map par_of front ++ par_of one ∷ map par_of more = sym (all_standing doc) ∙ ap (map par_of) e ∙ map-append par_of front (one ∷ more) in
    ap (label_in doc) (sym (place_behind number_of (paragraphs doc) (map par_of front) (par_of one) (map par_of more) pars distinct ∙ length-map front par_of))

abbrev tail_of : List GatheredPar → List GatheredPar
tail_of [] = []
tail_of (par ∷ pars) = pars

abbrev head_or : GatheredPar → List GatheredPar → GatheredPar
head_or otherwise [] = otherwise
head_or otherwise (par ∷ pars) = par

stand : (doc : Document) (front ones : List Standing) (texts : List ParText) → standing doc ≡ front ++ ones → AreNumbersDistinct doc → map gathered_par texts ≡ listed doc (length front) ones → Pairwise (IsTextOf doc) ones texts
stand doc front [] [] all distinct e = tt
stand doc front [] (text ∷ texts) all distinct e = absurd (cc)
stand doc front (one ∷ ones) [] all distinct e = absurd (cc)
stand doc front (one ∷ ones) (text ∷ texts) all distinct e =
    let longer : length (front ++ one ∷ []) ≡ length front + 1 = length-append front (one ∷ []) in (
      text_is doc (length front) one text (ap (head_or (gathered_par text)) e) (label_behind doc front one ones all distinct),
      stand doc (front ++ one ∷ []) ones texts (all ∙ sym (append_assoc front (one ∷ []) ones)) distinct (ap tail_of e ∙ ap (λ (at : ℕ). listed doc at ones) (sym longer)),
    )

-- all texts
pub all_stand : (doc : Document) (texts : List ParText) → AreTexts doc texts → AreNumbersDistinct doc → Pairwise (IsTextOf doc) (standing doc) texts
all_stand doc texts are distinct = stand doc [] (standing doc) texts refl distinct (are.all ∙ reverse_gathered doc 0 [] (standing doc))
