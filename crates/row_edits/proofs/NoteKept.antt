-- What edits of notes keep of rows.
use Rattle.std.proofs.Common.{◌≡◌, ◌≢◌, ℕ, ◌+◌, ◌<◌, ◌≤◌, Bool, true, false, List, [], ◌∷◌, ◌++◌, take, refl, arith, ap, ap₂, sym, ◌∙◌, subst, append_assoc}
use Rattle.std.specs.Prelude.{◌&&◌}
use Rattle.std.specs.List.{flat_map, between, AllByRecursion as Each}
use Rattle.std.proofs.lemmas.Bool.{false≢true}
use Rattle.std.proofs.lemmas.Bool.Decides.{Decides-eqb}
use Rattle.std.proofs.lemmas.List.Concat.{flat_map-append}
use Rattle.doc_model.specs.declared.document.Document.{Document}
use Rattle.doc_model.specs.declared.edit.EditOp.TheVariants.{InsertNote, DeleteRange}
use Rattle.doc_model.specs.declared.field.NoteClass.{NoteClass}
use Rattle.doc_model.specs.declared.paragraph.Item.{Item}
use Rattle.doc_model.specs.declared.paragraph.Note.{Note}
use Rattle.doc_model.specs.declared.paragraph.ParHead.{ParHead}
use Rattle.doc_model.specs.declared.paragraph.ParId.{ParId}
use Rattle.edit_rules.specs.Edited.{Edited, edited, edited_document}
use Rattle.edit_rules.specs.Texts.{with_item, without_range}
use Rattle.node_array.specs.declared.row.Row.{Row}
use Rattle.node_array.specs.declared.row.Row.TheVariants as row
use Rattle.node_array.specs.Rows.{rows_of}
use Rattle.paragraph_rows.specs.Flat.{has_flat_notes}
use Rattle.paragraph_rows.specs.OwnRow.{text_rows}
use Rattle.paragraph_rows.specs.NoteRows.{note_count, through_notes, behind_notes, note_in_row, new_rows}
use Rattle.paragraph_rows.specs.Standing.{number_in, Stands}
use Rattle.paragraph_rows.proofs.Lists.{each_behind}
use Rattle.paragraph_rows.proofs.FlatPars.{IsFlatNote, no_note_within}
use Rattle.paragraph_rows.proofs.NoteRows.{parts_by_notes}
use Rattle.paragraph_rows.proofs.NoteEdits.{notes_before, notes_between, note_inserted, range_deleted}
use Rattle.paragraph_rows.proofs.ValidRows.{flat_texts}
use Rattle.row_edits.specs.Sound.{AreSound, IsSound, is_note_open}
use Rattle.row_edits.proofs.Distinct.{Apart, Below, apart_more, apart_fewer, below_more, below_fewer}

-- rows behind others
flat_append : (within : Bool) (front behind : List Row) → has_flat_notes within (front ++ behind) ≡ (has_flat_notes within front && has_flat_notes (is_note_open within front) behind)
flat_append within [] behind = refl
flat_append within (row.Start head ∷ front) behind = flat_append within front behind
flat_append within (row.End ∷ front) behind = flat_append false front behind
flat_append within (row.Par head items ∷ front) behind = flat_append within front behind
flat_append true (row.NoteText ∷ front) behind = refl
flat_append false (row.NoteText ∷ front) behind = flat_append true front behind

both : (one other : Bool) → (one && other) ≡ true → (one ≡ true) × (other ≡ true)
both true other is = (refl, is)
both false other is = absurd (false≢true is)

-- other rows behind the same ones, flat where those behind them were
flat_changed : (before behind others : List Row) → has_flat_notes false (before ++ behind) ≡ true
    → (has_flat_notes (is_note_open false before) behind ≡ true → has_flat_notes (is_note_open false before) others ≡ true) → has_flat_notes false (before ++ others) ≡ true
flat_changed before behind others flat change =
    let was = both (has_flat_notes false before) (has_flat_notes (is_note_open false before) behind) (sym (flat_append false before behind) ∙ flat) in
    flat_append false before others ∙ ap₂ (λ (a b : Bool). a && b) was.0 (change was.1)

-- without the rows of some notes
gone_flat : (within : Bool) (first gone : List Note) (more : List Row) → Each IsFlatNote first → Each IsFlatNote gone
    → has_flat_notes within (flat_map text_rows first ++ (flat_map text_rows gone ++ more)) ≡ true → has_flat_notes within (flat_map text_rows first ++ more) ≡ true
gone_flat true first gone more one other flat =
    let front = no_note_within first (flat_map text_rows gone ++ more) flat in
    let back = no_note_within gone more front.1 in
    ap (λ (some : List Note). has_flat_notes true (flat_map text_rows some ++ more)) front.0 ∙ back.1
gone_flat false first gone more one other flat =
    flat_texts first more one ∙ sym (flat_texts gone more other) ∙ sym (flat_texts first (flat_map text_rows gone ++ more) one) ∙ flat

-- the numbers of rows in two parts
numbers_cut : (before front behind : List Row) (one : Row) → flat_map number_in (before ++ (one ∷ (front ++ behind))) ≡ flat_map number_in (before ++ (one ∷ front)) ++ flat_map number_in behind
numbers_cut before front behind one =
    ap (flat_map number_in) (sym (append_assoc before (one ∷ front) behind)) ∙ flat_map-append number_in (before ++ (one ∷ front)) behind

-- a paragraph's row counts by its head
numbers_head : (before front : List Row) (head : ParHead) (items others : List Item)
    → flat_map number_in (before ++ (row.Par head items ∷ front)) ≡ flat_map number_in (before ++ (row.Par head others ∷ front))
numbers_head before front head items others =
    flat_map-append number_in before (row.Par head items ∷ front) ∙ sym (flat_map-append number_in before (row.Par head others ∷ front))

abbrev numbers : List Row → List ℕ
numbers rows = flat_map number_in rows

no_equal : (m n k : ℕ) → m ≡ n → n < k → m ≢ k
no_equal m n k same below equal = omega (arith, same, below, equal)

module _ (old : Edited) (par : ParId) (before : List Row) (head : ParHead) (items : List Item) (behind : List Row)
    (stands : Stands par (rows_of old.document.body) before (row.Par head items) behind) (sound : IsSound old) where
  abbrev doc : Document
  doc = old.document

  abbrev next : ℕ
  next = old.next

  whole : AreSound next (before ++ (row.Par head items ∷ behind))
  whole = subst (AreSound next) stands.rows_are sound

  -- the number of the paragraph isn't the next one
  other : par.0 ≢ next
  other =
      let behind_it = each_behind (λ number. number < next) (numbers before) (numbers (row.Par head items ∷ behind)) (subst (Below next) (flat_map-append number_in before (row.Par head items ∷ behind)) whole.below) in
      no_equal par.0 head.id.0 next ((Decides-eqb par.0 head.id.0).0 stands.own) behind_it.0

  -- the numbers up to some rows of notes, and behind them
  cut : (front back : List Row) → behind ≡ front ++ back → numbers (before ++ (row.Par head items ∷ behind)) ≡ numbers (before ++ (row.Par head items ∷ front)) ++ numbers back
  cut front back parts = ap (λ (rows : List Row). numbers (before ++ (row.Par head items ∷ rows))) parts ∙ numbers_cut before front back (row.Par head items)

  cut_again : (others : List Item) (front back : List Row) → numbers (before ++ (row.Par head others ∷ (front ++ back))) ≡ numbers (before ++ (row.Par head items ∷ front)) ++ numbers back
  cut_again others front back =
      numbers_cut before front back (row.Par head others) ∙ ap (λ (some : List ℕ). some ++ numbers back) (numbers_head before front head others items)

  -- the rows with a note more
  more_sound : (others : List Item) (front back : List Row) (some : List Note) → behind ≡ front ++ back → Each IsFlatNote some → front ≡ flat_map text_rows some → is_note_open false before ≡ false
      → AreSound (next + 1) (before ++ (row.Par head others ∷ (front ++ (new_rows next ++ back))))
  more_sound others front back some parts flat is outside =
      let ahead : List ℕ = numbers (before ++ (row.Par head items ∷ front)) in
      let was : numbers (before ++ (row.Par head items ∷ behind)) ≡ ahead ++ numbers back = cut front back parts in
      let now : numbers (before ++ (row.Par head others ∷ (front ++ (new_rows next ++ back)))) ≡ ahead ++ next ∷ numbers back = cut_again others front (new_rows next ++ back) in
      let below : Below next (ahead ++ numbers back) = subst (Below next) was whole.below in
      record {
        flat = flat_changed before (row.Par head items ∷ behind) (row.Par head others ∷ (front ++ (new_rows next ++ back))) whole.flat
            (λ fits.
            ap (λ (b : Bool). has_flat_notes b (front ++ (new_rows next ++ back))) outside
            ∙ ap (λ (rows : List Row). has_flat_notes false (rows ++ (new_rows next ++ back))) is ∙ flat_texts some (new_rows next ++ back) flat
            ∙ sym (flat_texts some back flat) ∙ ap (λ (rows : List Row). has_flat_notes false (rows ++ back)) (sym is) ∙ ap (has_flat_notes false) (sym parts)
            ∙ ap (λ (b : Bool). has_flat_notes b behind) (sym outside) ∙ fits);
        apart = subst Apart (sym now) (apart_more next ahead (numbers back) (subst Apart was whole.apart) below);
        below = subst (Below (next + 1)) (sym now) (below_more next ahead (numbers back) below);
      }

  pub note_kept : is_note_open false before ≡ false → (at : ℕ) (class : NoteClass) (id : List ℕ) → IsSound (edited old (InsertNote par at class id))
  note_kept outside at class id =
      let count : ℕ = note_count (take at items) in
      let here = notes_before doc par before head items behind stands sound.flat at in
      subst (AreSound (next + 1)) (sym (note_inserted doc par before head items behind stands sound.flat next at class id other))
      (more_sound (with_item at (note_in_row class id) items) (through_notes count behind) (behind_notes count behind) here.0 (sym (parts_by_notes count behind)) here.1 here.2 outside)

  -- the rows with some notes fewer
  fewer_sound : (others : List Item) (front gone back : List Row) (first taken : List Note) → behind ≡ front ++ (gone ++ back) → Each IsFlatNote first → front ≡ flat_map text_rows first
      → Each IsFlatNote taken → gone ≡ flat_map text_rows taken → AreSound next (before ++ (row.Par head others ∷ (front ++ back)))
  fewer_sound others front gone back first taken parts flat is flat_taken was_taken =
      let ahead : List ℕ = numbers (before ++ (row.Par head items ∷ front)) in
      let was : numbers (before ++ (row.Par head items ∷ behind)) ≡ ahead ++ (numbers gone ++ numbers back) =
      cut front (gone ++ back) parts ∙ ap (λ (some : List ℕ). ahead ++ some) (flat_map-append number_in gone back) in
      let now : numbers (before ++ (row.Par head others ∷ (front ++ back))) ≡ ahead ++ numbers back = cut_again others front back in
      let within : Bool = is_note_open false before in
      record {
        flat = flat_changed before (row.Par head items ∷ behind) (row.Par head others ∷ (front ++ back)) whole.flat
            (λ fits.
            ap (λ (rows : List Row). has_flat_notes within (rows ++ back)) is
            ∙ gone_flat within first taken back flat flat_taken
            (ap₂ (λ (a b : List Row). has_flat_notes within (a ++ (b ++ back))) (sym is) (sym was_taken) ∙ ap (has_flat_notes within) (sym parts) ∙ fits));
        apart = subst Apart (sym now) (apart_fewer ahead (numbers gone) (numbers back) (subst Apart was whole.apart));
        below = subst (Below next) (sym now) (below_fewer next ahead (numbers gone) (numbers back) (subst (Below next) was whole.below));
      }

  pub range_kept : (from to : ℕ) → from ≤ to → IsSound (edited old (DeleteRange par from to))
  range_kept from to order =
      let first : ℕ = note_count (take from items) in
      let second : ℕ = note_count (between from to items) in
      let front : List Row = through_notes first behind in
      let gone : List Row = through_notes second (behind_notes first behind) in
      let back : List Row = behind_notes second (behind_notes first behind) in
      let parts : behind ≡ front ++ (gone ++ back) = sym (parts_by_notes first behind) ∙ ap (λ (rows : List Row). front ++ rows) (sym (parts_by_notes second (behind_notes first behind))) in
      let here = notes_before doc par before head items behind stands sound.flat from in
      let taken = notes_between doc par before head items behind stands sound.flat from to order in
      let same : next ≡ next + 0 = omega arith in
      subst (λ (n : ℕ). AreSound n (rows_of (edited_document next (DeleteRange par from to) doc).body)) same
      (subst (AreSound next) (sym (range_deleted doc par before head items behind stands sound.flat next from to order))
      (fewer_sound (without_range from to items) front gone back here.0 taken.0 parts here.1 here.2 taken.1 taken.2))
