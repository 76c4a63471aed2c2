-- A note that is put in, and a range that is taken out.
use Rattle.std.proofs.Common.{◌≡◌, ◌≢◌, ℕ, ◌≤◌, Bool, true, false, cond, eqb, List, [], ◌∷◌, ◌++◌, map, filter, take, drop, refl, ap, ap₂, sym, ◌∙◌, subst, arith, append_assoc, append-nil, None}
use Rattle.std.specs.Prelude.{◌||◌}
use Rattle.std.specs.List.{flat_map, list_any, between, AllByRecursion as Each}
use Rattle.std.proofs.lemmas.Bool.{false≢true}
use Rattle.std.proofs.lemmas.Bool.Decides.{nat_tests}
use Rattle.std.proofs.lemmas.List.{take-append-drop}
use Rattle.std.proofs.lemmas.List.Concat.{flat_map-append}
use Rattle.std.proofs.lemmas.List.Folds.{drop_split}
use Rattle.doc_model.specs.declared.document.Document.{Document}
use Rattle.doc_model.specs.declared.edit.EditOp.TheVariants.{InsertNote, DeleteRange}
use Rattle.doc_model.specs.declared.field.NoteClass.{NoteClass}
use Rattle.doc_model.specs.declared.paragraph.Par.{Par, out-Par, roll-Par}
use Rattle.doc_model.specs.declared.paragraph.ParHead.{ParHead}
use Rattle.doc_model.specs.declared.paragraph.ParId.{ParId}
use Rattle.doc_model.specs.declared.paragraph.Item.{Item, out-Item}
use Rattle.doc_model.specs.declared.paragraph.What.{What, out-What}
use Rattle.doc_model.specs.declared.paragraph.Note.{Note, roll-Note}
use Rattle.doc_model.specs.declared.paragraph.What.TheOpen.{What-F, Note-F, Par-F}
use Rattle.doc_model.specs.declared.paragraph.What.TheViews.{out-roll-What, out-roll-Note, out-roll-Par}
use Rattle.doc_model.specs.Parts.{is_mark}
use Rattle.doc_model.specs.Reading.{note_of}
use Rattle.edit_rules.specs.Edited.{edited_document, empty_paragraph, new_note}
use Rattle.edit_rules.specs.Texts.{with_item, spans_before, without_range}
use Rattle.node_array.specs.declared.row.Row.{Row}
use Rattle.node_array.specs.declared.row.Row.TheVariants as row
use Rattle.node_array.specs.Places.{is_par}
use Rattle.node_array.specs.Rows.{par_rows, rows_of}
use Rattle.node_array.proofs.OneBody.{note_rows, note_opens}
use Rattle.paragraph_rows.specs.OwnRow.{bare, head_of, text_rows, rows_of_notes}
use Rattle.paragraph_rows.specs.Flat.{has_flat_notes, AreFlat}
use Rattle.paragraph_rows.specs.Standing.{Stands}
use Rattle.paragraph_rows.specs.Located.{Located}
use Rattle.paragraph_rows.specs.NoteRows.{note_count, through_notes, behind_notes, note_in_row, new_rows, with_note, with_range_gone}
use Rattle.paragraph_rows.proofs.Lists.{each_front, each_behind}
use Rattle.paragraph_rows.proofs.Opened.{item_of, item_is, bare_item_is, par_open}
use Rattle.paragraph_rows.proofs.Items.{bare_item, bare_range}
use Rattle.paragraph_rows.proofs.FlatPars.{IsFlatNote}
use Rattle.paragraph_rows.proofs.Located.{located, none_front, none_back, none_both}
use Rattle.paragraph_rows.proofs.NoteRows.{count_taken, count_between, through_all, behind_all, flat_old}

unequal : (m n : ℕ) → m ≢ n → eqb m n ≡ false
unequal m n other = grind (arith, nat_tests)

-- the parts of a paragraph's row
abbrev head_in : ParHead → Row → ParHead
head_in other (row.Start head) = other
head_in other row.End = other
head_in other (row.Par head items) = head
head_in other row.NoteText = other

abbrev items_in : Row → List Item
items_in (row.Start head) = []
items_in row.End = []
items_in (row.Par head items) = items
items_in row.NoteText = []

-- a paragraph with other items
abbrev refilled : (List Item → List Item) → Par → Par
refilled change par = roll-Par (record (out-Par par) { items = change (out-Par par).items })

refilled_rows : (change : List Item → List Item) (old : Par)
    → par_rows (refilled change old) ≡ row.Par (head_of old) (map bare (change (out-Par old).items)) ∷ flat_map text_rows (flat_map note_of (change (out-Par old).items))
refilled_rows change old =
    par_open (refilled change old)
    ∙ ap (λ (layer : Par-F What Item Note Par). row.Par (record { id = layer.id; style = layer.style; level = layer.level; list = layer.list }) (map bare layer.items) ∷ flat_map text_rows (flat_map note_of layer.items)) (out-roll-Par _)

refilled_notes : (change : List Item → List Item) (old : Par) → rows_of_notes (refilled change old) ≡ flat_map text_rows (flat_map note_of (change (out-Par old).items))
refilled_notes change old = ap (λ (layer : Par-F What Item Note Par). flat_map text_rows (flat_map note_of layer.items)) (out-roll-Par _)

-- the rows of notes of items that are cut in two
cut_rows : (some more : List Item) → flat_map text_rows (flat_map note_of (some ++ more)) ≡ flat_map text_rows (flat_map note_of some) ++ flat_map text_rows (flat_map note_of more)
cut_rows some more = ap (flat_map text_rows) (flat_map-append note_of some more) ∙ flat_map-append text_rows (flat_map note_of some) (flat_map note_of more)

cut_flat : (some more : List Item) → Each IsFlatNote (flat_map note_of (some ++ more)) → Each IsFlatNote (flat_map note_of some) × Each IsFlatNote (flat_map note_of more)
cut_flat some more flat =
    let both = subst (Each IsFlatNote) (flat_map-append note_of some more) flat in
    (each_front IsFlatNote (flat_map note_of some) (flat_map note_of more) both, each_behind IsFlatNote (flat_map note_of some) (flat_map note_of more) both)

-- a note with one empty paragraph
abbrev pub fresh_note : NoteClass → List ℕ → ℕ → Note
fresh_note class id number = roll-Note (record { id = id; class = class; pars = empty_paragraph number ∷ [] })

empty_rows : (number : ℕ) → par_rows (empty_paragraph number) ≡ row.Par (record { id = record { 0 = number }; style = []; level = 0; list = None }) [] ∷ []
empty_rows number =
    par_open (empty_paragraph number)
    ∙ ap (λ (layer : Par-F What Item Note Par). row.Par (record { id = layer.id; style = layer.style; level = layer.level; list = layer.list }) (map bare layer.items) ∷ flat_map text_rows (flat_map note_of layer.items)) (out-roll-Par _)

-- its rows
pub fresh_rows : (class : NoteClass) (id : List ℕ) (number : ℕ) → text_rows (fresh_note class id number) ≡ new_rows number
fresh_rows class id number =
    ap (λ (layer : Note-F What Item Note Par). row.NoteText ∷ (flat_map par_rows layer.pars ++ row.End ∷ [])) (out-roll-Note _)
    ∙ ap (λ (rows : List Row). row.NoteText ∷ ((rows ++ []) ++ row.End ∷ [])) (empty_rows number)

bare_fresh : (class : NoteClass) (id : List ℕ) (number : ℕ) (spans : List (List ℕ)) → bare (item_of spans (new_note class id number)) ≡ item_of spans (note_in_row class id)
bare_fresh class id number spans = opened ∙ ap (λ (note : Note). item_of spans (What-F.Note note)) (ap (λ (pair : Note × List Row). pair.0) (note_opens _)) where
  opened : bare (item_of spans (new_note class id number)) ≡ item_of spans (What-F.Note (note_rows (fresh_note class id number)).0)
  opened = bare_item_is spans (new_note class id number)

note_fresh : (class : NoteClass) (id : List ℕ) (number : ℕ) (spans : List (List ℕ)) → note_of (item_of spans (new_note class id number)) ≡ fresh_note class id number ∷ []
note_fresh class id number spans = simp out-roll-What

-- marks are no notes
mark_without_note : (spans : List (List ℕ)) (what : What-F What Item Note Par) → is_mark (item_of spans what) ≡ true → note_of (item_of spans what) ≡ []
mark_without_note spans (What-F.Char c) marked = simp out-roll-What
mark_without_note spans What-F.Tab marked = simp out-roll-What
mark_without_note spans What-F.Break marked = simp out-roll-What
mark_without_note spans (What-F.Field field) marked = simp out-roll-What
mark_without_note spans (What-F.Note note) marked = let none : is_mark (item_of spans (What-F.Note note)) ≡ false = simp out-roll-What in absurd (false≢true (sym none ∙ marked))
mark_without_note spans (What-F.Mark mark) marked = simp out-roll-What

mark_is_no_note : (item : Item) → is_mark item ≡ true → note_of item ≡ []
mark_is_no_note item marked =
    ap note_of (sym (item_is item)) ∙ mark_without_note (out-Item item).spans (out-What (out-Item item).what) (ap is_mark (item_is item) ∙ marked)

marks_without_notes : (items : List Item) → flat_map note_of (filter is_mark items) ≡ []
marks_without_notes [] = refl
marks_without_notes (item ∷ items) = by_test (is_mark item) refl (marks_without_notes items) where
  by_test : (test : Bool) → is_mark item ≡ test → flat_map note_of (filter is_mark items) ≡ [] → flat_map note_of (cond test (item ∷ filter is_mark items) (filter is_mark items)) ≡ []
  by_test true marked rest = ap₂ (λ (here more : List Note). here ++ more) (mark_is_no_note item marked) rest
  by_test false marked rest = rest

module _ (doc : Document) (par : ParId) (before : List Row) (head : ParHead) (items : List Item) (behind : List Row)
    (stands : Stands par (rows_of doc.body) before (row.Par head items) behind) (flat : AreFlat (rows_of doc.body)) where
  there : Located par doc before (row.Par head items) behind
  there = located par doc before (row.Par head items) behind stands flat

  abbrev held : List Item
  held = (out-Par there.old).items

  heads : head_of there.old ≡ head
  heads = ap (head_in head) there.own

  bares : map bare held ≡ items
  bares = ap items_in there.own

  flat_notes : Each IsFlatNote (flat_map note_of held)
  flat_notes = flat_old before there.old there.after
      (sym (ap (has_flat_notes false) (stands.rows_are ∙ ap₂ (λ (one : Row) (more : List Row). before ++ one ∷ more) (sym there.own) there.notes)) ∙ flat)

  -- the rows of the first notes, and those behind them
  first_rows : (some more : List Item) → some ++ more ≡ held → (behind ≡ flat_map text_rows (flat_map note_of some) ++ (flat_map text_rows (flat_map note_of more) ++ there.after))
  first_rows some more whole =
      there.notes ∙ ap (λ (is : List Item). flat_map text_rows (flat_map note_of is) ++ there.after) (sym whole)
      ∙ ap (λ (rows : List Row). rows ++ there.after) (cut_rows some more)
      ∙ append_assoc (flat_map text_rows (flat_map note_of some)) (flat_map text_rows (flat_map note_of more)) there.after

  first_flat : (some more : List Item) → some ++ more ≡ held → Each IsFlatNote (flat_map note_of some) × Each IsFlatNote (flat_map note_of more)
  first_flat some more whole = cut_flat some more (subst (λ (is : List Item). Each IsFlatNote (flat_map note_of is)) (sym whole) flat_notes)

  through_first : (some more : List Item) → some ++ more ≡ held → through_notes (note_count some) behind ≡ flat_map text_rows (flat_map note_of some)
  through_first some more whole =
      ap (through_notes (note_count some)) (first_rows some more whole)
      ∙ through_all (flat_map note_of some) (flat_map text_rows (flat_map note_of more) ++ there.after) (first_flat some more whole).0

  behind_first : (some more : List Item) → some ++ more ≡ held → behind_notes (note_count some) behind ≡ flat_map text_rows (flat_map note_of more) ++ there.after
  behind_first some more whole =
      ap (behind_notes (note_count some)) (first_rows some more whole)
      ∙ behind_all (flat_map note_of some) (flat_map text_rows (flat_map note_of more) ++ there.after) (first_flat some more whole).0

  none_of : (some more : List Item) → some ++ more ≡ held
      → (list_any (is_par par) (flat_map text_rows (flat_map note_of some)) ≡ false) × (list_any (is_par par) (flat_map text_rows (flat_map note_of more)) ≡ false)
  none_of some more whole =
      let none : list_any (is_par par) (flat_map text_rows (flat_map note_of some) ++ (flat_map text_rows (flat_map note_of more) ++ there.after)) ≡ false =
      ap (list_any (is_par par)) (sym (first_rows some more whole)) ∙ stands.none_behind in (
        none_front (is_par par) (flat_map text_rows (flat_map note_of some)) (flat_map text_rows (flat_map note_of more) ++ there.after) none,
        none_front (is_par par) (flat_map text_rows (flat_map note_of more)) there.after (none_back (is_par par) (flat_map text_rows (flat_map note_of some)) (flat_map text_rows (flat_map note_of more) ++ there.after) none),
      )

  -- behind the row stand the rows of the notes before a place, which hold no notes
  pub notes_before : (at : ℕ) → (some : List Note) × Each IsFlatNote some × (through_notes (note_count (take at items)) behind ≡ flat_map text_rows some)
  notes_before at =
      let whole : take at held ++ drop at held ≡ held = take-append-drop at held in
      let count : note_count (take at items) ≡ note_count (take at held) = ap (λ (is : List Item). note_count (take at is)) (sym bares) ∙ count_taken at held in (
        flat_map note_of (take at held),
        (first_flat (take at held) (drop at held) whole).0,
        ap (λ (n : ℕ). through_notes n behind) count ∙ through_first (take at held) (drop at held) whole,
      )

  -- and behind them those of the notes of a range
  pub notes_between : (from to : ℕ) → from ≤ to → (some : List Note) × Each IsFlatNote some
      × (through_notes (note_count (between from to items)) (behind_notes (note_count (take from items)) behind) ≡ flat_map text_rows some)
  notes_between from to order =
      let first : List Item = take from held in
      let middle : List Item = between from to held in
      let last : List Item = drop to held in
      let whole : first ++ (middle ++ last) ≡ held = ap (λ (is : List Item). first ++ is) (sym (drop_split held from to order)) ∙ take-append-drop from held in
      let gone : List Row = flat_map text_rows (flat_map note_of middle) in
      let back : List Row = flat_map text_rows (flat_map note_of last) in
      let counts : note_count (take from items) ≡ note_count first = ap (λ (is : List Item). note_count (take from is)) (sym bares) ∙ count_taken from held in
      let count_gone : note_count (between from to items) ≡ note_count middle = ap (λ (is : List Item). note_count (between from to is)) (sym bares) ∙ count_between from to held in
      let flat_middle = (cut_flat middle last (first_flat first (middle ++ last) whole).1).0 in (
        flat_map note_of middle,
        flat_middle,
        ap₂ (λ (m n : ℕ). through_notes n (behind_notes m behind)) counts count_gone
            ∙ ap (through_notes (note_count middle)) (behind_first first (middle ++ last) whole ∙ ap (λ (rows : List Row). rows ++ there.after) (cut_rows middle last) ∙ append_assoc gone back there.after)
            ∙ through_all (flat_map note_of middle) (back ++ there.after) flat_middle,
      )

  pub note_inserted : (next at : ℕ) (class : NoteClass) (id : List ℕ) → par.0 ≢ next
      → rows_of (edited_document next (InsertNote par at class id) doc).body ≡ before ++ with_note at class id next head items behind
  note_inserted next at class id other =
      there.changed (refilled change) fresh
      ∙ ap (λ (rows : List Row). before ++ (rows ++ there.after)) (refilled_rows change there.old)
      ∙ ap₂ (λ (one : Row) (rows : List Row). before ++ (one ∷ rows)) own (rows_here ∙ rows_there) where
        change : List Item → List Item
        change = with_item at (new_note class id next)

        whole : take at held ++ drop at held ≡ held
        whole = take-append-drop at held

        front : List Row
        front = flat_map text_rows (flat_map note_of (take at held))

        back : List Row
        back = flat_map text_rows (flat_map note_of (drop at held))

        note_item : Item
        note_item = item_of (spans_before at held) (new_note class id next)

        -- the rows of the notes with the new one
        new_texts : flat_map text_rows (flat_map note_of (change held)) ≡ front ++ (new_rows next ++ back)
        new_texts =
            cut_rows (take at held ++ note_item ∷ []) (drop at held)
            ∙ ap (λ (rows : List Row). rows ++ back)
            (cut_rows (take at held) (note_item ∷ [])
            ∙ ap (λ (notes : List Note). front ++ flat_map text_rows (notes ++ [])) (note_fresh class id next (spans_before at held))
            ∙ ap (λ (rows : List Row). front ++ (rows ++ [])) (fresh_rows class id next))
            ∙ append_assoc front (new_rows next) back

        fresh : list_any (is_par par) (rows_of_notes (refilled change there.old)) ≡ false
        fresh =
            ap (list_any (is_par par)) (refilled_notes change there.old ∙ new_texts)
            ∙ none_both (is_par par) front (new_rows next ++ back) (none_of (take at held) (drop at held) whole).0
            (ap (λ (b : Bool). b || list_any (is_par par) back) (unequal par.0 next other) ∙ (none_of (take at held) (drop at held) whole).1)

        own : row.Par (head_of there.old) (map bare (change held)) ≡ row.Par head (with_item at (note_in_row class id) items)
        own = ap₂ row.Par heads (bare_item at (new_note class id next) (note_in_row class id) held (bare_fresh class id next) ∙ ap (with_item at (note_in_row class id)) bares)

        rows_here : flat_map text_rows (flat_map note_of (change held)) ++ there.after ≡ front ++ (new_rows next ++ (back ++ there.after))
        rows_here = ap (λ (rows : List Row). rows ++ there.after) new_texts ∙ append_assoc front (new_rows next ++ back) there.after

        count : note_count (take at held) ≡ note_count (take at items)
        count = sym (count_taken at held) ∙ ap (λ (is : List Item). note_count (take at is)) bares

        rows_there : front ++ (new_rows next ++ (back ++ there.after))
            ≡ through_notes (note_count (take at items)) behind ++ (new_rows next ++ behind_notes (note_count (take at items)) behind)
        rows_there =
            ap₂ (λ (a b : List Row). a ++ (new_rows next ++ b)) (sym (through_first (take at held) (drop at held) whole)) (sym (behind_first (take at held) (drop at held) whole))
            ∙ ap (λ (n : ℕ). through_notes n behind ++ (new_rows next ++ behind_notes n behind)) count

  pub range_deleted : (next from to : ℕ) → from ≤ to
      → rows_of (edited_document next (DeleteRange par from to) doc).body ≡ before ++ with_range_gone from to head items behind
  range_deleted next from to order =
      there.changed (refilled change) fresh
      ∙ ap (λ (rows : List Row). before ++ (rows ++ there.after)) (refilled_rows change there.old)
      ∙ ap₂ (λ (one : Row) (rows : List Row). before ++ (one ∷ rows)) own (rows_here ∙ rows_there) where
        change : List Item → List Item
        change = without_range from to

        first : List Item
        first = take from held

        middle : List Item
        middle = between from to held

        last : List Item
        last = drop to held

        whole_front : first ++ (middle ++ last) ≡ held
        whole_front = ap (λ (is : List Item). first ++ is) (sym (drop_split held from to order)) ∙ take-append-drop from held

        whole_back : (first ++ middle) ++ last ≡ held
        whole_back = append_assoc first middle last ∙ whole_front

        front : List Row
        front = flat_map text_rows (flat_map note_of first)

        gone : List Row
        gone = flat_map text_rows (flat_map note_of middle)

        back : List Row
        back = flat_map text_rows (flat_map note_of last)

        left_texts : flat_map text_rows (flat_map note_of (change held)) ≡ front ++ back
        left_texts =
            cut_rows (first ++ filter is_mark middle) last
            ∙ ap (λ (rows : List Row). rows ++ back)
            (cut_rows first (filter is_mark middle) ∙ ap (λ (notes : List Note). front ++ flat_map text_rows notes) (marks_without_notes middle) ∙ append-nil front)

        fresh : list_any (is_par par) (rows_of_notes (refilled change there.old)) ≡ false
        fresh =
            ap (list_any (is_par par)) (refilled_notes change there.old ∙ left_texts)
            ∙ none_both (is_par par) front back (none_of first (middle ++ last) whole_front).0 (none_of (first ++ middle) last whole_back).1

        own : row.Par (head_of there.old) (map bare (change held)) ≡ row.Par head (without_range from to items)
        own = ap₂ row.Par heads (bare_range from to held ∙ ap (without_range from to) bares)

        rows_here : flat_map text_rows (flat_map note_of (change held)) ++ there.after ≡ front ++ (back ++ there.after)
        rows_here = ap (λ (rows : List Row). rows ++ there.after) left_texts ∙ append_assoc front back there.after

        count : note_count first ≡ note_count (take from items)
        count = sym (count_taken from held) ∙ ap (λ (is : List Item). note_count (take from is)) bares

        count_gone : note_count middle ≡ note_count (between from to items)
        count_gone = sym (count_between from to held) ∙ ap (λ (is : List Item). note_count (between from to is)) bares

        -- behind the first notes stand those that go
        behind_gone : behind_notes (note_count middle) (behind_notes (note_count first) behind) ≡ back ++ there.after
        behind_gone =
            ap (behind_notes (note_count middle))
            (behind_first first (middle ++ last) whole_front ∙ ap (λ (rows : List Row). rows ++ there.after) (cut_rows middle last) ∙ append_assoc gone back there.after)
            ∙ behind_all (flat_map note_of middle) (back ++ there.after) (cut_flat middle last (first_flat first (middle ++ last) whole_front).1).0

        rows_there : front ++ (back ++ there.after)
            ≡ through_notes (note_count (take from items)) behind ++ behind_notes (note_count (between from to items)) (behind_notes (note_count (take from items)) behind)
        rows_there =
            ap₂ (λ (a b : List Row). a ++ b) (sym (through_first first (middle ++ last) whole_front)) (sym behind_gone)
            ∙ ap₂ (λ (m n : ℕ). through_notes m behind ++ behind_notes n (behind_notes m behind)) count count_gone
