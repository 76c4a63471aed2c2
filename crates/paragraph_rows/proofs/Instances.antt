-- Changes of rows that changes of paragraphs come to.
use Rattle.std.proofs.Common.{◌≡◌, ℕ, ◌≤◌, Bool, true, false, eqb, List, [], ◌∷◌, map, refl, ap, ap₂, sym, ◌∙◌, subst, arith, Option}
use Rattle.std.specs.Prelude.{◌==◌, if◌then◌else◌}
use Rattle.std.specs.List.{flat_map}
use Rattle.std.proofs.lemmas.Bool.{false≢true}
use Rattle.std.proofs.lemmas.Bool.Decides.{nat_tests}
use Rattle.doc_model.specs.declared.document.Document.{Document}
use Rattle.doc_model.specs.declared.edit.EditOp.TheVariants.{InsertText, SetParStyle, SetSpan, SetHeading, SetList, InsertField, AddBookmark, RemoveBookmark}
use Rattle.doc_model.specs.declared.edit.Pos.{Pos}
use Rattle.doc_model.specs.declared.field.Field.{Field}
use Rattle.doc_model.specs.declared.paragraph.Item.{Item}
use Rattle.doc_model.specs.declared.paragraph.ListPos.{ListPos}
use Rattle.doc_model.specs.declared.paragraph.Mark.{Mark}
use Rattle.doc_model.specs.declared.paragraph.Mark.TheVariants.{Point, Start, End}
use Rattle.doc_model.specs.declared.paragraph.Note.{Note}
use Rattle.doc_model.specs.declared.paragraph.Par.{Par, out-Par, roll-Par}
use Rattle.doc_model.specs.declared.paragraph.ParHead.{ParHead}
use Rattle.doc_model.specs.declared.paragraph.ParId.{ParId}
use Rattle.doc_model.specs.declared.paragraph.What.{What}
use Rattle.doc_model.specs.declared.paragraph.What.TheOpen.{What-F, Par-F}
use Rattle.doc_model.specs.declared.paragraph.What.TheViews.{out-roll-Par}
use Rattle.doc_model.specs.Reading.{number_of, note_of, notes_of}
use Rattle.edit_rules.specs.Texts.{with_paragraph, with_items, with_text, with_item, with_spans, spans_of, without_marks, is_same_place, with_mark}
use Rattle.edit_rules.specs.Edited.{edited_document}
use Rattle.node_array.specs.declared.row.Row.{Row}
use Rattle.node_array.specs.declared.row.Row.TheVariants as row
use Rattle.node_array.specs.Rows.{rows_of}
use Rattle.paragraph_rows.specs.OwnRow.{bare, head_of, own_row}
use Rattle.paragraph_rows.specs.Changes.{in_head, in_items, at_par, rows_with_mark, rows_with_bookmark, Follows}
use Rattle.paragraph_rows.specs.Flat.{has_flat_notes, AreFlat}
use Rattle.paragraph_rows.proofs.Changed.{rows_changed}
use Rattle.paragraph_rows.proofs.Items.{bare_text, notes_text, bare_item, bare_field, bare_mark, notes_field, notes_mark, bare_spans, notes_spans, bare_marks, notes_marks}

eqb_swap : (m n : ℕ) → eqb m n ≡ eqb n m
eqb_swap m n = grind (arith, nat_tests)

-- a change of the paragraph of a number
pub at_number : (par : ParId) (change : Par → Par) (later : Row → Row) → Follows change later → Follows (λ one. if number_of one == par.0 then change one else one) (at_par par later)
at_number par change later follows = record {
  own = λ one. own (number_of one == par.0) (par.0 == number_of one) (eqb_swap (number_of one) par.0) one;
  notes = λ one. notes (number_of one == par.0) one;
  start = λ head. refl;
  end = refl;
  note_text = refl;
} where
  own : (test other : Bool) → test ≡ other → (one : Par) → own_row (if test then change one else one) ≡ (if other then later (own_row one) else own_row one)
  own true true same one = follows.own one
  own true false same one = absurd (false≢true (sym same))
  own false true same one = absurd (false≢true same)
  own false false same one = refl

  notes : (test : Bool) (one : Par) → notes_of (if test then change one else one) ≡ notes_of one
  notes true one = follows.notes one
  notes false one = refl

-- a change of heads
pub follows_head : (change : Par → Par) (head : ParHead → ParHead) → ((par : Par) → head_of (change par) ≡ head (head_of par)) → ((par : Par) → (out-Par (change par)).items ≡ (out-Par par).items)
    → Follows change (in_head head)
follows_head change head heads same = record {
  own = λ par. ap₂ (λ (h : ParHead) (items : List Item). row.Par h (map bare items)) (heads par) (same par);
  notes = λ par. ap (flat_map note_of) (same par);
  start = λ section. refl;
  end = refl;
  note_text = refl;
}

-- a change of items
pub follows_items : (change later : List Item → List Item) → ((items : List Item) → map bare (change items) ≡ later (map bare items)) → ((items : List Item) → flat_map note_of (change items) ≡ flat_map note_of items)
    → Follows (λ par. roll-Par (record (out-Par par) { items = change (out-Par par).items })) (in_items later)
follows_items change later bares notes = record {
  own = λ par.
      ap (λ (layer : Par-F What Item Note Par). row.Par (record { id = layer.id; style = layer.style; level = layer.level; list = layer.list }) (map bare layer.items)) (out-roll-Par _)
      ∙ ap (λ (items : List Item). row.Par (head_of par) items) (bares (out-Par par).items);
  notes = λ par. ap (λ (layer : Par-F What Item Note Par). flat_map note_of layer.items) (out-roll-Par _) ∙ notes (out-Par par).items;
  start = λ section. refl;
  end = refl;
  note_text = refl;
}

pub heads_changed : (doc : Document) (par : ParId) (change : Par → Par) (head : ParHead → ParHead) → ((old : Par) → head_of (change old) ≡ head (head_of old))
    → ((old : Par) → (out-Par (change old)).items ≡ (out-Par old).items) → AreFlat (rows_of doc.body)
    → rows_of (with_paragraph par.0 change doc).body ≡ map (at_par par (in_head head)) (rows_of doc.body)
heads_changed doc par change head heads same flat =
    rows_changed doc (λ one. if number_of one == par.0 then change one else one) (at_par par (in_head head)) (at_number par change (in_head head) (follows_head change head heads same)) flat

pub items_changed : (doc : Document) (par : ParId) (change later : List Item → List Item) → ((items : List Item) → map bare (change items) ≡ later (map bare items))
    → ((items : List Item) → flat_map note_of (change items) ≡ flat_map note_of items) → AreFlat (rows_of doc.body)
    → rows_of (with_items par.0 change doc).body ≡ map (at_par par (in_items later)) (rows_of doc.body)
items_changed doc par change later bares notes flat =
    let changed : Par → Par = λ one. roll-Par (record (out-Par one) { items = change (out-Par one).items }) in
    rows_changed doc (λ one. if number_of one == par.0 then changed one else one) (at_par par (in_items later)) (at_number par changed (in_items later) (follows_items change later bares notes)) flat

-- the head of a paragraph with another layer
heads_roll : (layer : Par-F What Item Note Par) → head_of (roll-Par layer) ≡ record { id = layer.id; style = layer.style; level = layer.level; list = layer.list }
heads_roll layer = ap (λ (layer : Par-F What Item Note Par). record { id = layer.id; style = layer.style; level = layer.level; list = layer.list }) (out-roll-Par layer)

items_roll : (layer : Par-F What Item Note Par) → (out-Par (roll-Par layer)).items ≡ layer.items
items_roll layer = ap (λ (layer : Par-F What Item Note Par). layer.items) (out-roll-Par layer)

pub style_set : (next : ℕ) (doc : Document) (par : ParId) (style : List ℕ) → AreFlat (rows_of doc.body)
    → rows_of (edited_document next (SetParStyle par style) doc).body ≡ map (at_par par (in_head (λ head. record head { style = style }))) (rows_of doc.body)
style_set next doc par style flat =
    heads_changed doc par (λ old. roll-Par (record (out-Par old) { style = style })) (λ head. record head { style = style })
    (λ old. heads_roll (record (out-Par old) { style = style })) (λ old. items_roll (record (out-Par old) { style = style })) flat

pub level_set : (next : ℕ) (doc : Document) (par : ParId) (level : ℕ) → AreFlat (rows_of doc.body)
    → rows_of (edited_document next (SetHeading par level) doc).body ≡ map (at_par par (in_head (λ head. record head { level = level }))) (rows_of doc.body)
level_set next doc par level flat =
    heads_changed doc par (λ old. roll-Par (record (out-Par old) { level = level })) (λ head. record head { level = level })
    (λ old. heads_roll (record (out-Par old) { level = level })) (λ old. items_roll (record (out-Par old) { level = level })) flat

pub list_set : (next : ℕ) (doc : Document) (par : ParId) (list : Option ListPos) → AreFlat (rows_of doc.body)
    → rows_of (edited_document next (SetList par list) doc).body ≡ map (at_par par (in_head (λ head. record head { list = list }))) (rows_of doc.body)
list_set next doc par list flat =
    heads_changed doc par (λ old. roll-Par (record (out-Par old) { list = list })) (λ head. record head { list = list })
    (λ old. heads_roll (record (out-Par old) { list = list })) (λ old. items_roll (record (out-Par old) { list = list })) flat

pub text_inserted : (next : ℕ) (doc : Document) (par : ParId) (at : ℕ) (text : List ℕ) → AreFlat (rows_of doc.body)
    → rows_of (edited_document next (InsertText par at text) doc).body ≡ map (at_par par (in_items (with_text at text))) (rows_of doc.body)
text_inserted next doc par at text flat = items_changed doc par (with_text at text) (with_text at text) (bare_text at text) (notes_text at text) flat

pub span_set : (next : ℕ) (doc : Document) (par : ParId) (from to : ℕ) (style : List ℕ) → from ≤ to → AreFlat (rows_of doc.body)
    → rows_of (edited_document next (SetSpan par from to style) doc).body ≡ map (at_par par (in_items (with_spans from to (spans_of style)))) (rows_of doc.body)
span_set next doc par from to style order flat =
    items_changed doc par (with_spans from to (spans_of style)) (with_spans from to (spans_of style)) (bare_spans from to (spans_of style)) (λ items. notes_spans from to (spans_of style) items order) flat

pub field_inserted : (next : ℕ) (doc : Document) (par : ParId) (at : ℕ) (field : Field) → AreFlat (rows_of doc.body)
    → rows_of (edited_document next (InsertField par at field) doc).body ≡ map (at_par par (in_items (with_item at (What-F.Field field)))) (rows_of doc.body)
field_inserted next doc par at field flat =
    items_changed doc par (with_item at (What-F.Field field)) (with_item at (What-F.Field field)) (λ items. bare_item at (What-F.Field field) (What-F.Field field) items (λ spans. bare_field spans field)) (notes_field at field) flat

mark_put : (doc : Document) (place : Pos) (mark : Mark) → AreFlat (rows_of doc.body)
    → rows_of (with_mark place mark doc).body ≡ map (at_par place.par (in_items (with_item place.at (What-F.Mark mark)))) (rows_of doc.body)
mark_put doc place mark flat =
    items_changed doc place.par (with_item place.at (What-F.Mark mark)) (with_item place.at (What-F.Mark mark)) (λ items. bare_item place.at (What-F.Mark mark) (What-F.Mark mark) items (λ spans. bare_mark spans mark)) (notes_mark place.at mark) flat

-- changes of items leave rows flat
flat_one : (within : Bool) (par : ParId) (change : List Item → List Item) (rows : List Row) → has_flat_notes within (map (at_par par (in_items change)) rows) ≡ has_flat_notes within rows
flat_one within par change [] = refl
flat_one within par change (row.Start head ∷ rows) = flat_one within par change rows
flat_one within par change (row.End ∷ rows) = flat_one false par change rows
flat_one within par change (row.Par head items ∷ rows) = by_test (par.0 == head.id.0) (flat_one within par change rows) where
  by_test : (test : Bool) → has_flat_notes within (map (at_par par (in_items change)) rows) ≡ has_flat_notes within rows
      → has_flat_notes within ((if test then row.Par head (change items) else row.Par head items) ∷ map (at_par par (in_items change)) rows) ≡ has_flat_notes within rows
  by_test true rest = rest
  by_test false rest = rest
flat_one true par change (row.NoteText ∷ rows) = refl
flat_one false par change (row.NoteText ∷ rows) = flat_one true par change rows

pub flat_items : (par : ParId) (change : List Item → List Item) (rows : List Row) → AreFlat rows → AreFlat (map (at_par par (in_items change)) rows)
flat_items par change rows flat = flat_one false par change rows ∙ flat

flat_head_one : (within : Bool) (par : ParId) (change : ParHead → ParHead) (rows : List Row) → has_flat_notes within (map (at_par par (in_head change)) rows) ≡ has_flat_notes within rows
flat_head_one within par change [] = refl
flat_head_one within par change (row.Start head ∷ rows) = flat_head_one within par change rows
flat_head_one within par change (row.End ∷ rows) = flat_head_one false par change rows
flat_head_one within par change (row.Par head items ∷ rows) = by_test (par.0 == head.id.0) (flat_head_one within par change rows) where
  by_test : (test : Bool) → has_flat_notes within (map (at_par par (in_head change)) rows) ≡ has_flat_notes within rows
      → has_flat_notes within ((if test then row.Par (change head) items else row.Par head items) ∷ map (at_par par (in_head change)) rows) ≡ has_flat_notes within rows
  by_test true rest = rest
  by_test false rest = rest
flat_head_one true par change (row.NoteText ∷ rows) = refl
flat_head_one false par change (row.NoteText ∷ rows) = flat_head_one true par change rows

pub flat_head : (par : ParId) (change : ParHead → ParHead) (rows : List Row) → AreFlat rows → AreFlat (map (at_par par (in_head change)) rows)
flat_head par change rows flat = flat_head_one false par change rows ∙ flat

-- bookmarks
pub bookmark_added : (next : ℕ) (doc : Document) (name : List ℕ) (from to : Pos) → AreFlat (rows_of doc.body)
    → rows_of (edited_document next (AddBookmark name from to) doc).body ≡ rows_with_bookmark name from to (rows_of doc.body)
bookmark_added next doc name from to flat = by_test (is_same_place from to) where
  ended : rows_of (with_mark to (End name) doc).body ≡ rows_with_mark to (End name) (rows_of doc.body)
  ended = mark_put doc to (End name) flat

  still : AreFlat (rows_of (with_mark to (End name) doc).body)
  still = subst AreFlat (sym ended) (flat_items to.par (with_item to.at (What-F.Mark (End name))) (rows_of doc.body) flat)

  by_test : (same : Bool) → rows_of (if same then with_mark from (Point name) doc else with_mark from (Start name) (with_mark to (End name) doc)).body
      ≡ (if same then rows_with_mark from (Point name) (rows_of doc.body) else rows_with_mark from (Start name) (rows_with_mark to (End name) (rows_of doc.body)))
  by_test true = mark_put doc from (Point name) flat
  by_test false = mark_put (with_mark to (End name) doc) from (Start name) still ∙ ap (rows_with_mark from (Start name)) ended

pub bookmark_removed : (next : ℕ) (doc : Document) (name : List ℕ) → AreFlat (rows_of doc.body)
    → rows_of (edited_document next (RemoveBookmark name) doc).body ≡ map (in_items (without_marks name)) (rows_of doc.body)
bookmark_removed next doc name flat =
    rows_changed doc (λ one. roll-Par (record (out-Par one) { items = without_marks name (out-Par one).items })) (in_items (without_marks name))
    (follows_items (without_marks name) (without_marks name) (bare_marks name) (notes_marks name)) flat
