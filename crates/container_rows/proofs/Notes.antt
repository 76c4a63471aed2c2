-- A change that is made in the notes of paragraphs, from the paragraph of a number on.
use Rattle.std.proofs.Common.{◌≡◌, ℕ, Bool, true, false, List, [], ◌∷◌, ◌++◌, map, take, drop, refl, ap, ap₂, sym, ◌∙◌, subst, arith, append-nil, length}
use Rattle.std.specs.Prelude.{if◌then◌else◌}
use Rattle.std.specs.List.{flat_map, list_any, position_or_len, before_first, AllByRecursion as Each}
use Rattle.std.proofs.lemmas.List.{take-map, drop-map, map-append}
use Rattle.std.proofs.lemmas.List.Concat.{flat_map-append}
use Rattle.std.proofs.lemmas.List.Folds.{flat_map-map}
use Rattle.doc_model.specs.declared.block.Block.{Block}
use Rattle.doc_model.specs.declared.paragraph.Par.{Par, out-Par, roll-Par}
use Rattle.doc_model.specs.declared.paragraph.Item.{Item, roll-Item}
use Rattle.doc_model.specs.declared.paragraph.What.{What, roll-What}
use Rattle.doc_model.specs.declared.paragraph.Note.{Note, out-Note, roll-Note}
use Rattle.doc_model.specs.declared.paragraph.What.TheOpen.{What-F, Note-F}
use Rattle.doc_model.specs.declared.paragraph.What.TheViews.{out-roll-What, out-roll-Note, roll-out-Par, roll-out-Note}
use Rattle.doc_model.specs.Reading.{note_of, notes_of}
use Rattle.edit_rules.specs.Places.{as_block, paragraph_of, is_paragraph, from_first, holds, note_container}
use Rattle.edit_rules.specs.Blocks.{in_note_of, in_notes_of, of_paragraphs, from_paragraph}
use Rattle.node_array.specs.declared.row.Row.{Row}
use Rattle.node_array.specs.declared.row.Row.TheVariants as row
use Rattle.node_array.specs.Rows.{par_rows, block_rows, rows_of}
use Rattle.node_array.proofs.OneBody.{note_rows}
use Rattle.container_rows.specs.Standing.{KeepsParagraphs, HoldsNoNotes}
use Rattle.container_rows.proofs.Spots.{times, times_both, Spot, Inner, spot_then, spot_behind, inner_behind, one_in_all}
use Rattle.container_rows.proofs.Parts.{NoNote, plain_text, head_row, bare, text_rows, rolled_rows, own_rows, block_is, blocks_are, by_what, note_is, note_item, with_pars, changed_note}
use Rattle.container_rows.proofs.Firsts.{First, first_found, cut_at_first, each_part, each_first}
use Rattle.container_rows.proofs.Tests.{block_notes, par_notes, pars_back, HasNoTexts, IsAt, paragraph_at, holds_is, some_held, none_held}

-- what is no note
no_note_of : (spans : List (List ℕ)) (what : What-F What Item Note Par) → NoNote what → note_of (roll-Item (record { spans = spans; what = roll-What what })) ≡ []
no_note_of spans (What-F.Char c) other = simp out-roll-What
no_note_of spans What-F.Tab other = simp out-roll-What
no_note_of spans What-F.Break other = simp out-roll-What
no_note_of spans (What-F.Field field) other = simp out-roll-What
no_note_of spans (What-F.Note note) other = absurd other
no_note_of spans (What-F.Mark mark) other = simp out-roll-What

pub no_note_by : (spans : List (List ℕ)) (what : What-F What Item Note Par) → NoNote what → (P : List Row → List Note → Type 0) → P [] []
    → P (text_rows (roll-Item (record { spans = spans; what = roll-What what }))) (note_of (roll-Item (record { spans = spans; what = roll-What what })))
no_note_by spans what other P here =
    let item : Item = roll-Item (record { spans = spans; what = roll-What what }) in
    subst (λ (rows : List Row). P rows (note_of item)) (sym (plain_text spans what other)) (subst (λ (notes : List Note). P [] notes) (sym (no_note_of spans what other)) here)

pub note_alone : (spans : List (List ℕ)) (note : Note) → note_of (roll-Item (record { spans = spans; what = roll-What (What-F.Note note) })) ≡ note ∷ []
note_alone spans note = simp out-roll-What

-- their rows are none
text_by : (spans : List (List ℕ)) (what : What-F What Item Note Par) → note_of (roll-Item (record { spans = spans; what = roll-What what })) ≡ [] → text_rows (roll-Item (record { spans = spans; what = roll-What what })) ≡ []
text_by spans (What-F.Char c) none = plain_text spans (What-F.Char c) tt
text_by spans What-F.Tab none = plain_text spans What-F.Tab tt
text_by spans What-F.Break none = plain_text spans What-F.Break tt
text_by spans (What-F.Field field) none = plain_text spans (What-F.Field field) tt
text_by spans (What-F.Note note) none = absurd (let long = ap (length {A = Note}) (sym (note_alone spans note) ∙ none) in omega (arith, long))
text_by spans (What-F.Mark mark) none = plain_text spans (What-F.Mark mark) tt

no_text : (item : Item) → note_of item ≡ [] → text_rows item ≡ []
no_text = by_what (λ item. note_of item ≡ [] → text_rows item ≡ []) text_by

both_none : (some more : List Note) → some ++ more ≡ [] → (some ≡ []) × (more ≡ [])
both_none [] more e = (refl, e)
both_none (note ∷ some) more e = absurd (let long = ap (length {A = Note}) e in omega (arith, long))

no_texts : (items : List Item) → flat_map note_of items ≡ [] → flat_map text_rows items ≡ []
no_texts [] none = refl
no_texts (item ∷ items) none = let both = both_none (note_of item) (flat_map note_of items) none in ap₂ (λ a b. a ++ b) (no_text item both.0) (no_texts items both.1)

all_bare : (pars : List Par) → Each (λ par. notes_of par ≡ []) pars → Each HasNoTexts pars
all_bare [] none = tt
all_bare (par ∷ pars) none = (no_texts (out-Par par).items none.0, all_bare pars none.1)

pub bare_pars : (note : Note) → HoldsNoNotes note → Each HasNoTexts (out-Note note).pars
bare_pars note holds_none = all_bare (out-Note note).pars holds_none

valid_pars : (pars : List Par) → Each (λ par. notes_of par ≡ []) pars → Each (λ block. Each HoldsNoNotes (block_notes block)) (map as_block pars)
valid_pars [] none = tt
valid_pars (par ∷ pars) none = (subst (Each HoldsNoNotes) (sym (par_notes par ∙ none.0)) tt, valid_pars pars none.1)

module _ (change : List Block → List Block) (number : ℕ) where
  -- the change of a container
  abbrev pub cut : List Block → List Block
  cut = from_paragraph number change

  pub not_here : (blocks : List Block) → list_any (is_paragraph number) blocks ≡ false → cut blocks ≡ blocks
  not_here blocks e =
      ap (λ (b : Bool). if b then before_first (is_paragraph number) blocks ++ change (from_first (is_paragraph number) blocks) else blocks) e

  pub here_cut : (blocks : List Block) → list_any (is_paragraph number) blocks ≡ true → cut blocks ≡ before_first (is_paragraph number) blocks ++ change (from_first (is_paragraph number) blocks)
  here_cut blocks e =
      ap (λ (b : Bool). if b then before_first (is_paragraph number) blocks ++ change (from_first (is_paragraph number) blocks) else blocks) e

  pub direct : (blocks : List Block) → Each (λ block. Each HoldsNoNotes (block_notes block)) blocks → list_any (is_paragraph number) blocks ≡ true → Spot change number (rows_of blocks) (rows_of (cut blocks)) []
  direct blocks valid e =
      let first : First (is_paragraph number) blocks = first_found (is_paragraph number) blocks e in
      let at : IsAt number first.x = paragraph_at number first.x first.passes in
      let before : List Block = before_first (is_paragraph number) blocks in
      let from : from_first (is_paragraph number) blocks ≡ as_block at.par ∷ first.more = first.from ∙ ap (λ (b : Block). b ∷ first.more) at.is in
      record {
        front = rows_of before;
        par = at.par;
        blocks = first.more;
        numbered = at.numbered;
        notes = subst (Each HoldsNoNotes) (ap block_notes at.is ∙ par_notes at.par) (each_first (λ block. Each HoldsNoNotes (block_notes block)) (is_paragraph number) blocks first valid);
        was =
            ap rows_of (sym (cut_at_first (is_paragraph number) blocks)) ∙ flat_map-append block_rows before (from_first (is_paragraph number) blocks)
            ∙ ap (λ (bs : List Block). rows_of before ++ rows_of bs) from
            ∙ ap₂ (λ (own rest : List Row). rows_of before ++ (own ++ rest)) (block_is at.par) (sym (append-nil (rows_of first.more)));
        is =
            ap rows_of (here_cut blocks e) ∙ flat_map-append block_rows before (change (from_first (is_paragraph number) blocks))
            ∙ ap (λ (bs : List Block). rows_of before ++ rows_of (change bs)) from
            ∙ ap (λ (rows : List Row). rows_of before ++ rows) (sym (append-nil (rows_of (change (as_block at.par ∷ first.more)))));
      }

  -- the paragraphs of a note
  abbrev pub in_pars : List Par → List Par
  in_pars = of_paragraphs cut

  pub pars_stay : (pars : List Par) → times number (flat_map par_rows pars) ≡ 0 → in_pars pars ≡ pars
  pars_stay pars none = ap (flat_map paragraph_of) (not_here (map as_block pars) (none_held number pars none)) ∙ pars_back pars

  kept : KeepsParagraphs change → (pars : List Par) → list_any (is_paragraph number) (map as_block pars) ≡ true → map as_block (in_pars pars) ≡ cut (map as_block pars)
  kept keeps pars e =
      let at : ℕ = position_or_len (is_paragraph number) (map as_block pars) in
      let some : List Par = take at pars ++ of_paragraphs change (drop at pars) in
      let is : cut (map as_block pars) ≡ map as_block some =
      here_cut (map as_block pars) e
      ∙ ap₂ (λ (a b : List Block). a ++ change b) (take-map as_block at pars) (drop-map as_block at pars)
      ∙ ap (λ (b : List Block). map as_block (take at pars) ++ b) (keeps (drop at pars))
      ∙ sym (map-append as_block (take at pars) (of_paragraphs change (drop at pars)))
      in
      ap (λ (bs : List Block). map as_block (flat_map paragraph_of bs)) is ∙ ap (map as_block) (pars_back some) ∙ sym is

  pars_spot : KeepsParagraphs change → (pars : List Par) → Each (λ block. Each HoldsNoNotes (block_notes block)) (map as_block pars) → list_any (is_paragraph number) (map as_block pars) ≡ true
      → Spot change number (flat_map par_rows pars) (flat_map par_rows (in_pars pars)) []
  pars_spot keeps pars valid e =
      let new : rows_of (cut (map as_block pars)) ≡ flat_map par_rows (in_pars pars) = ap rows_of (sym (kept keeps pars e)) ∙ blocks_are (in_pars pars) in
      subst (λ (rows : List Row). Spot change number rows (flat_map par_rows (in_pars pars)) []) (blocks_are pars)
      (subst (λ (rows : List Row). Spot change number (rows_of (map as_block pars)) rows []) new (direct (map as_block pars) valid e))

  -- what has to hold of a note
  abbrev pub Good : Note → Type 0
  Good note = HoldsNoNotes note × (holds number (note_container note) ≡ true → KeepsParagraphs change)

  note_spot : (note : Note) → Good note → times number (flat_map par_rows (out-Note note).pars) ≡ 1
      → Spot change number (flat_map par_rows (out-Note note).pars) (flat_map par_rows (in_pars (out-Note note).pars)) []
  note_spot note good one =
      let held = some_held number (out-Note note).pars (bare_pars note good.0) (omega (arith, one)) in
      pars_spot (good.1 (holds_is number (out-Note note).pars ∙ held)) (out-Note note).pars (valid_pars (out-Note note).pars good.0) held

  -- items
  pub record Changed (item : Item) : Type 0 where
    pub bare_stays : bare (in_note_of in_pars item) ≡ bare item
    pub none : times number (text_rows item) ≡ 0 → in_note_of in_pars item ≡ item
    pub one : Each Good (note_of item) → times number (text_rows item) ≡ 1 → Inner change number (text_rows item) (text_rows (in_note_of in_pars item))

  no_note : (item : Item) → in_note_of in_pars item ≡ item → text_rows item ≡ [] → Changed item
  no_note item same other =
      record {
        bare_stays = ap bare same;
        none = λ h. same;
        one = λ good h. absurd (omega (arith, ap (times number) other, h));
      }

  abbrev note_as : List (List ℕ) → Note → Item
  note_as spans note = roll-Item (record { spans = spans; what = roll-What (What-F.Note note) })

  texts_are : (spans : List (List ℕ)) (note : Note) → text_rows (note_as spans note) ≡ row.NoteText ∷ (flat_map par_rows (out-Note note).pars ++ row.End ∷ [])
  texts_are spans note = ap (λ (p : Item × List Row). p.1) (note_item spans note) ∙ ap (λ (p : Note × List Row). p.1) (note_is note)

  pars_with : (note : Note) (pars : List Par) → (out-Note (with_pars note pars)).pars ≡ pars
  pars_with note pars = ap (λ (n : Note-F What Item Note Par). n.pars) (out-roll-Note (record (out-Note note) { pars = pars }))

  texts_changed : (spans : List (List ℕ)) (note : Note) → text_rows (in_note_of in_pars (note_as spans note))
      ≡ row.NoteText ∷ (flat_map par_rows (in_pars (out-Note note).pars) ++ row.End ∷ [])
  texts_changed spans note =
      ap text_rows (changed_note in_pars spans note) ∙ texts_are spans (with_pars note (in_pars (out-Note note).pars))
      ∙ ap (λ (pars : List Par). row.NoteText ∷ (flat_map par_rows pars ++ row.End ∷ [])) (pars_with note (in_pars (out-Note note).pars))

  bare_note : (note : Note) (pars : List Par) → (note_rows (with_pars note pars)).0 ≡ (note_rows note).0
  bare_note note pars =
      ap (λ (p : Note × List Row). p.0) (note_is (with_pars note pars))
      ∙ ap (λ (n : Note-F What Item Note Par). roll-Note (record { id = n.id; class = n.class; pars = [] })) (out-roll-Note (record (out-Note note) { pars = pars }))
      ∙ sym (ap (λ (p : Note × List Row). p.0) (note_is note))

  framed : (old new : List Row) → Spot change number old new [] → Inner change number (row.NoteText ∷ (old ++ row.End ∷ [])) (row.NoteText ∷ (new ++ row.End ∷ []))
  framed old new spot =
      record { tail = []; spot = spot_behind change number (old ++ row.End ∷ []) (new ++ row.End ∷ []) (row.End ∷ []) (row.NoteText ∷ []) (spot_then change number old new [] (row.End ∷ []) spot) }

  framed_times : (rows : List Row) → times number (row.NoteText ∷ (rows ++ row.End ∷ [])) ≡ times number rows
  framed_times rows = omega (arith, times_both number rows (row.End ∷ []))

  note_changed : (spans : List (List ℕ)) (note : Note) → Changed (note_as spans note)
  note_changed spans note =
      let pars : List Par = (out-Note note).pars in
      let count : times number (text_rows (note_as spans note)) ≡ times number (flat_map par_rows pars) = ap (times number) (texts_are spans note) ∙ framed_times (flat_map par_rows pars) in
      record {
        bare_stays =
            ap bare (changed_note in_pars spans note) ∙ ap (λ (p : Item × List Row). p.0) (note_item spans (with_pars note (in_pars pars)))
            ∙ ap (λ (n : Note). roll-Item (record { spans = spans; what = roll-What (What-F.Note n) })) (bare_note note (in_pars pars))
            ∙ sym (ap (λ (p : Item × List Row). p.0) (note_item spans note));
        none = λ h.
            changed_note in_pars spans note
            ∙ ap (λ (ps : List Par). note_as spans (with_pars note ps)) (pars_stay pars (sym count ∙ h)) ∙ ap (note_as spans) (roll-out-Note note);
        one = λ good h.
            subst (λ (rows : List Row). Inner change number rows (text_rows (in_note_of in_pars (note_as spans note)))) (sym (texts_are spans note))
            (subst (λ (rows : List Row). Inner change number (row.NoteText ∷ (flat_map par_rows pars ++ row.End ∷ [])) rows) (sym (texts_changed spans note))
            (framed (flat_map par_rows pars) (flat_map par_rows (in_pars pars)) (note_spot note (own_note spans note good) (sym count ∙ h))));
      } where
        own_note : (spans : List (List ℕ)) (note : Note) → Each Good (note_of (note_as spans note)) → Good note
        own_note spans note good = (subst (Each Good) (note_alone spans note) good).0

  changed_by : (spans : List (List ℕ)) (what : What-F What Item Note Par) → Changed (roll-Item (record { spans = spans; what = roll-What what }))
  changed_by spans (What-F.Char c) = no_note _ (simp out-roll-What) (plain_text spans (What-F.Char c) tt)
  changed_by spans What-F.Tab = no_note _ (simp out-roll-What) (plain_text spans What-F.Tab tt)
  changed_by spans What-F.Break = no_note _ (simp out-roll-What) (plain_text spans What-F.Break tt)
  changed_by spans (What-F.Field field) = no_note _ (simp out-roll-What) (plain_text spans (What-F.Field field) tt)
  changed_by spans (What-F.Note note) = note_changed spans note
  changed_by spans (What-F.Mark mark) = no_note _ (simp out-roll-What) (plain_text spans (What-F.Mark mark) tt)

  item_changed : (item : Item) → Changed item
  item_changed = by_what Changed changed_by

  -- paragraphs
  items_stay : (items : List Item) → times number (flat_map text_rows items) ≡ 0 → map (in_note_of in_pars) items ≡ items
  items_stay [] none = refl
  items_stay (item ∷ items) none =
      let sum = times_both number (text_rows item) (flat_map text_rows items) in
      ap₂ (λ (i : Item) (is : List Item). i ∷ is) ((item_changed item).none (omega (arith, sum, none))) (items_stay items (omega (arith, sum, none)))

  pub par_stays : (par : Par) → times number (flat_map text_rows (out-Par par).items) ≡ 0 → in_notes_of in_pars par ≡ par
  par_stays par none = ap (λ (items : List Item). roll-Par (record (out-Par par) { items = items })) (items_stay (out-Par par).items none) ∙ roll-out-Par par

  bare_stay : (items : List Item) → map bare (map (in_note_of in_pars) items) ≡ map bare items
  bare_stay [] = refl
  bare_stay (item ∷ items) = ap₂ (λ (i : Item) (is : List Item). i ∷ is) ((item_changed item).bare_stays) (bare_stay items)

  abbrev new_texts : Item → List Row
  new_texts item = text_rows (in_note_of in_pars item)

  par_changed : (par : Par) → par_rows (in_notes_of in_pars par) ≡ row.Par (head_row par) (map bare (out-Par par).items) ∷ flat_map new_texts (out-Par par).items
  par_changed par =
      rolled_rows (record (out-Par par) { items = map (in_note_of in_pars) (out-Par par).items })
      ∙ ap₂ (λ (items : List Item) (rows : List Row). row.Par (head_row par) items ∷ rows) (bare_stay (out-Par par).items) (flat_map-map text_rows (in_note_of in_pars) (out-Par par).items)

  pub par_inner : (par : Par) → Each Good (notes_of par) → times number (flat_map text_rows (out-Par par).items) ≡ 1 → Inner change number (par_rows par) (par_rows (in_notes_of in_pars par))
  par_inner par good one =
      let items : List Item = (out-Par par).items in
      let own : List Row = row.Par (head_row par) (map bare items) ∷ [] in
      let texts : Inner change number (flat_map text_rows items) (flat_map new_texts items) =
      one_in_all change number Item text_rows new_texts (λ item. Each Good (note_of item)) (λ item h. ap text_rows ((item_changed item).none h)) (λ item g h. (item_changed item).one g h) items (each_part Good note_of items good) one
      in
      subst (λ (rows : List Row). Inner change number rows (par_rows (in_notes_of in_pars par))) (sym (own_rows par))
      (subst (λ (rows : List Row). Inner change number (own ++ flat_map text_rows items) rows) (sym (par_changed par))
      (inner_behind change number (flat_map text_rows items) (flat_map new_texts items) own texts))
