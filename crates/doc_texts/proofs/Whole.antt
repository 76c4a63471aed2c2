-- All paragraphs of a document, as they are gathered one after another.
use Rattle.std.proofs.Common.{◌≡◌, ℕ, ◌+◌, Bool, true, false, List, [], ◌∷◌, ◌++◌, map, take, length, Option, Some, None, refl, sym, ap, ap₂, subst, ◌∙◌, arith, append_assoc, append-nil, length-append}
use Rattle.std.specs.List.{flat_map, slice_get}
use Rattle.std.proofs.Math.Seq.{get_or-append_seam, take-append_seam}
use Rattle.std.proofs.lemmas.List.{map-append, length-map}
use Rattle.std.proofs.lemmas.List.Concat.{flat_map-append}
use Rattle.std.proofs.lemmas.Option.{slice_get_read}
use Rattle.doc_model.specs.declared.paragraph.Item.{Item}
use Rattle.doc_model.specs.declared.paragraph.What.{What}
use Rattle.doc_model.specs.declared.paragraph.What.TheOpen.{What-F}
use Rattle.doc_model.specs.declared.paragraph.Note.{Note, out-Note}
use Rattle.doc_model.specs.declared.paragraph.Par.{Par}
use Rattle.doc_model.specs.declared.paragraph.ParHead.{ParHead}
use Rattle.doc_model.specs.declared.list_style.ListStyle.{ListStyle}
use Rattle.doc_model.specs.declared.page.Label.{Label}
use Rattle.doc_model.specs.declared.document.Document.{Document}
use Rattle.doc_model.specs.Reading as reading
use Rattle.doc_model.specs.Reading.{block_paragraphs, note_of, paragraphs}
use Rattle.doc_model.specs.Parts.{items_of, what_of}
use Rattle.field_model.specs.declared.gathered.Gathered.TheVariants as place
use Rattle.field_model.specs.Gathered.{GatheredPar}
use Rattle.field_model.specs.Labels.{head_of, heads, label_at, label_behind, label_in, no_label}
use Rattle.format_model.specs.Standing.{BodyPar, NoteAt, body_pars, body_pars_in, is_item_shown, notes_from}
use Rattle.format_model.specs.Keys.{Standing, gathered_at, gathered_from, par_of, standing, standing_in_note, standing_with_notes}
use Rattle.format_model.specs.Keys as keys
use Rattle.doc_texts.specs.declared.places.BodyPlace.{BodyPlace}
use Rattle.doc_texts.specs.Places.{PlacedPar, body_par, in_note, in_notes, placed_at, with_notes}
use Rattle.doc_texts.specs.Behind.{all_behind, gathered_behind, heads_of}
use Rattle.doc_texts.specs.Order.{AreNext}
use Rattle.doc_texts.proofs.Numbers.{all_ordered}
use Rattle.doc_texts.proofs.Kept.{heads_more}
use Rattle.doc_texts.proofs.Parts.{in_notes-append}

-- a paragraph, and where it is gathered
abbrev placed_of : Standing → PlacedPar
placed_of one = placed_at (gathered_at one) (par_of one)

-- those of a note
note_placed : (anchor : BodyPar) (note : NoteAt) (is_first : Bool) (pars : List Par) → map placed_of (keys.in_note anchor note is_first pars) ≡ map (placed_at (place.Note note.number)) pars
note_placed anchor note is_first [] = refl
note_placed anchor note is_first (par ∷ pars) = ap (λ more. placed_at (place.Note note.number) par ∷ more) (note_placed anchor note false pars)

-- the notes that an item is, one level deep
abbrev notes_in : What-F What Item Note Par → List Note
notes_in (What-F.Char char) = []
notes_in What-F.Tab = []
notes_in What-F.Break = []
notes_in (What-F.Field field) = []
notes_in (What-F.Note note) = note ∷ []
notes_in (What-F.Mark mark) = []

-- a note of an item
abbrev note_at : Bool → ℕ → ℕ → Note → NoteAt
note_at is_shown at number note = record { note = note; number = number; item = at; is_shown = is_shown }

layer_placed : (anchor : BodyPar) (is_shown : Bool) (at number : ℕ) (layer : What-F What Item Note Par) → map placed_of (flat_map (standing_in_note anchor) (map (note_at is_shown at number) (notes_in layer))) ≡ in_notes number (notes_in layer)
layer_placed anchor is_shown at number (What-F.Char char) = refl
layer_placed anchor is_shown at number What-F.Tab = refl
layer_placed anchor is_shown at number What-F.Break = refl
layer_placed anchor is_shown at number (What-F.Field field) = refl
layer_placed anchor is_shown at number (What-F.Note note) =
    ap (map placed_of) (append-nil (standing_in_note anchor (note_at is_shown at number note))) ∙ note_placed anchor (note_at is_shown at number note) true (out-Note note).pars
    ∙ sym (append-nil (in_note number note))
layer_placed anchor is_shown at number (What-F.Mark mark) = refl

-- those of the notes among items
notes_placed : (doc : Document) (anchor : BodyPar) (at number : ℕ) (items : List Item) → map placed_of (flat_map (standing_in_note anchor) (notes_from doc anchor.par at number items)) ≡ in_notes number (flat_map note_of items)
notes_placed doc anchor at number [] = refl
notes_placed doc anchor at number (item ∷ items) =
    let here = map (note_at (is_item_shown doc anchor.par item) at number) (note_of item) in
    let later = notes_from doc anchor.par (at + 1) (number + length (note_of item)) items in
    let own : map placed_of (flat_map (standing_in_note anchor) here) ≡ in_notes number (note_of item) = layer_placed anchor (is_item_shown doc anchor.par item) at number (what_of item) in
    ap (map placed_of) (flat_map-append (standing_in_note anchor) here later)
    ∙ map-append placed_of (flat_map (standing_in_note anchor) here) (flat_map (standing_in_note anchor) later)
    ∙ ap₂ (λ (front back : List PlacedPar). front ++ back) own (notes_placed doc anchor (at + 1) (number + length (note_of item)) items)
    ∙ sym (in_notes-append number (note_of item) (flat_map note_of items))

-- a paragraph of the body with those of its notes
body_placed : (doc : Document) (one : BodyPar) → map placed_of (standing_with_notes doc one) ≡ with_notes one.par
body_placed doc one = ap (λ more. placed_at place.Body one.par ∷ more) (notes_placed doc one 0 1 (items_of one.par))

all_placed : (doc : Document) (pars : List BodyPar) → map placed_of (flat_map (standing_with_notes doc) pars) ≡ flat_map (λ one. with_notes one.par) pars
all_placed doc [] = refl
all_placed doc (one ∷ more) =
    map-append placed_of (standing_with_notes doc one) (flat_map (standing_with_notes doc) more)
    ∙ ap₂ (λ (front back : List PlacedPar). front ++ back) (body_placed doc one) (all_placed doc more)

-- the paragraphs alone
plain : (number : ℕ) (pars : List Par) → map (λ one. one.par) (map (placed_at (place.Note number)) pars) ≡ pars
plain number [] = refl
plain number (par ∷ pars) = ap (λ more. par ∷ more) (plain number pars)

plain_notes : (number : ℕ) (notes : List Note) → map (λ one. one.par) (in_notes number notes) ≡ flat_map (λ note. (out-Note note).pars) notes
plain_notes number [] = refl
plain_notes number (note ∷ notes) =
    map-append (λ (one : PlacedPar). one.par) (in_note number note) (in_notes (number + 1) notes)
    ∙ ap₂ (λ (front back : List Par). front ++ back) (plain number (out-Note note).pars) (plain_notes (number + 1) notes)

plain_body : (pars : List Par) → map (λ one. one.par) (flat_map with_notes pars) ≡ flat_map reading.with_notes pars
plain_body [] = refl
plain_body (par ∷ pars) =
    map-append (λ (one : PlacedPar). one.par) (with_notes par) (flat_map with_notes pars)
    ∙ ap₂ (λ (front back : List Par). front ++ back) (ap (λ more. par ∷ more) (plain_notes 1 (reading.notes_of par))) (plain_body pars)

-- a label at a place among heads
abbrev label_of_head : List ListStyle → ListStyle → List ParHead → ℕ → Option ParHead → Label
label_of_head lists outline all at None = no_label
label_of_head lists outline all at (Some head) = label_behind lists outline (take at all) head

there : (front : List ParHead) (head : ParHead) (back : List ParHead) → slice_get (front ++ head ∷ back) (length front) ≡ Some head
there front head back =
    let long : length (front ++ head ∷ back) ≡ length front + length (head ∷ back) = length-append front (head ∷ back) in
    slice_get_read (front ++ head ∷ back) (length (front ++ head ∷ back)) (length front) head refl (omega arith) (sym (get_or-append_seam front head back head))

label_there : (lists : List ListStyle) (outline : ListStyle) (all front : List ParHead) (head : ParHead) (back : List ParHead) → all ≡ front ++ head ∷ back → label_at lists outline all (length front) ≡ label_behind lists outline front head
label_there lists outline all front head back e =
    ap (λ (heads : List ParHead). label_at lists outline heads (length front)) e
    ∙ ap (label_of_head lists outline (front ++ head ∷ back) (length front)) (there front head back)
    ∙ ap (λ (before : List ParHead). label_behind lists outline before head) (take-append_seam front (head ∷ back))

-- the head of a paragraph
abbrev head_at : PlacedPar → ParHead
head_at one = head_of one.par

-- the labels of the document are those that are given one after another
gathered_all : (doc : Document) (front : List PlacedPar) (before : List GatheredPar) (more : List Standing) → heads doc ≡ map head_at (front ++ map placed_of more) → heads_of before ≡ map head_at front
    → all_behind doc.lists doc.outline before (map placed_of more) ≡ gathered_from doc (length front) before more
gathered_all doc front before [] e h = refl
gathered_all doc front before (one ∷ more) e h =
    let placed = placed_of one in
    let next = gathered_behind doc.lists doc.outline before placed in
    let split : heads doc ≡ map head_at front ++ head_at placed ∷ map head_at (map placed_of more) = e ∙ map-append head_at front (placed ∷ map placed_of more) in
    let place_is : length (map head_at front) ≡ length front = length-map front head_at in
    let label : label_behind doc.lists doc.outline (heads_of before) (head_at placed) ≡ label_in doc (length front) =
    ap (λ (heads : List ParHead). label_behind doc.lists doc.outline heads (head_at placed)) h
    ∙ sym (label_there doc.lists doc.outline (heads doc) (map head_at front) (head_at placed) (map head_at (map placed_of more)) split)
    ∙ ap (label_in doc) place_is in
    let longer : length (front ++ placed ∷ []) ≡ length front + 1 = length-append front (placed ∷ []) in
    gathered_all doc (front ++ placed ∷ []) (next ∷ before) more
    (e ∙ ap (map head_at) (sym (append_assoc front (placed ∷ []) (map placed_of more))))
    (heads_more next before ∙ ap (λ (heads : List ParHead). heads ++ head_at placed ∷ []) h ∙ sym (map-append head_at front (placed ∷ [])))
    ∙ ap (λ (at : ℕ). gathered_from doc at (next ∷ before) more) longer
    ∙ ap (λ (label : Label). gathered_from doc (length front + 1) (record { place = gathered_at one; head = head_of (par_of one); label = label; items = items_of (par_of one) } ∷ before) more) label

-- lent paragraphs of the body
lent_pars : (places : List BodyPlace) → flat_map (λ lent. with_notes lent.par.now) places ≡ flat_map (λ one. with_notes one.par) (map body_par places)
lent_pars [] = refl
lent_pars (lent ∷ more) = ap (λ rest. with_notes lent.par.now ++ rest) (lent_pars more)

lent_notes : (places : List BodyPlace) → flat_map (λ lent. with_notes lent.par.now) places ≡ flat_map with_notes (map (λ lent. lent.par.now) places)
lent_notes [] = refl
lent_notes (lent ∷ more) = ap (λ rest. with_notes lent.par.now ++ rest) (lent_notes more)

map_twice : (pars : List PlacedPar) → map head_at pars ≡ map head_of (map (λ one. one.par) pars)
map_twice [] = refl
map_twice (par ∷ pars) = ap (λ more. head_at par ∷ more) (map_twice pars)

-- paragraphs of a lent body are in order
pub lent_ordered : (lists : List ListStyle) (outline : ListStyle) (places : List BodyPlace) → AreNext (all_behind lists outline [] (flat_map (λ lent. with_notes lent.par.now) places))
lent_ordered lists outline places =
    subst (λ (pars : List PlacedPar). AreNext (all_behind lists outline [] pars)) (sym (lent_notes places)) (all_ordered lists outline (map (λ (lent : BodyPlace). lent.par.now) places) [] tt)

-- all paragraphs, where the body has these
pub all_gathered : (doc : Document) (places : List BodyPlace) → map body_par places ≡ flat_map body_pars_in doc.body → map (λ lent. lent.par.now) places ≡ flat_map block_paragraphs doc.body
    → all_behind doc.lists doc.outline [] (flat_map (λ lent. with_notes lent.par.now) places) ≡ gathered_from doc 0 [] (standing doc)
all_gathered doc places placed read =
    let lent = flat_map (λ (lent : BodyPlace). with_notes lent.par.now) places in
    let is : lent ≡ map placed_of (standing doc) =
    lent_pars places ∙ ap (flat_map (λ (one : BodyPar). with_notes one.par)) placed ∙ sym (all_placed doc (body_pars doc)) in
    let pars : paragraphs doc ≡ map (λ one. one.par) lent =
    ap (flat_map reading.with_notes) (sym read) ∙ sym (plain_body (map (λ (lent : BodyPlace). lent.par.now) places))
    ∙ ap (map (λ (one : PlacedPar). one.par)) (sym (lent_notes places)) in
    let all : heads doc ≡ map head_at (map placed_of (standing doc)) = ap (map head_of) pars ∙ sym (map_twice lent) ∙ ap (map head_at) is in
    ap (all_behind doc.lists doc.outline []) is ∙ gathered_all doc [] [] (standing doc) all refl
