-- The row of a paragraph stands once among the rows of a body, where no two paragraphs have one number.
use Rattle.std.proofs.Common.{◌≡◌, ◌≢◌, ℕ, suc, ◌+◌, ◌≤◌, ◌<◌, Bool, cond, eqb, List, [], ◌∷◌, ◌++◌, map, length, get_or, refl, ap, sym, ◌∙◌, subst, arith}
use Rattle.std.specs.Prelude.{AllPairs}
use Rattle.std.specs.List.{flat_map, AllByRecursion as Each}
use Rattle.std.proofs.lemmas.Bool.{eqb-true}
use Rattle.std.proofs.lemmas.List.Concat.{flat_map-append}
use Rattle.doc_model.specs.declared.block.Block.{Block, roll-Block}
use Rattle.doc_model.specs.declared.block.Block.TheOpen.{Block-F, Section-F}
use Rattle.doc_model.specs.declared.block.Block.TheFolds.{fold-roll-Block, ind-Block, map-Block, map-Section}
use Rattle.doc_model.specs.declared.block.Section.{Section, roll-Section}
use Rattle.doc_model.specs.declared.paragraph.Par.{Par, out-Par}
use Rattle.doc_model.specs.declared.paragraph.Item.{Item, roll-Item}
use Rattle.doc_model.specs.declared.paragraph.What.{What, roll-What}
use Rattle.doc_model.specs.declared.paragraph.Note.{Note, out-Note}
use Rattle.doc_model.specs.declared.paragraph.What.TheOpen.{What-F}
use Rattle.doc_model.specs.declared.document.Document.{Document}
use Rattle.doc_model.specs.Parts.{notes}
use Rattle.doc_model.specs.Reading.{number_of, note_of, notes_of, with_notes, block_paragraphs, paragraphs}
use Rattle.edit_rules.specs.Places.{as_block}
use Rattle.node_array.specs.declared.row.Row.{Row}
use Rattle.node_array.specs.declared.row.Row.TheVariants as row
use Rattle.node_array.specs.Rows.{par_rows, block_rows, rows_of}
use Rattle.container_rows.specs.Standing.{IsApart, HoldsNoNotes}
use Rattle.container_rows.proofs.Spots.{times, times_both}
use Rattle.container_rows.proofs.Parts.{text_rows, block_is, section_is, by_what, note_is, note_item}
use Rattle.container_rows.proofs.Firsts.{by_test, each_both}
use Rattle.container_rows.proofs.Tests.{block_notes, par_notes, HasNoTexts, par_times}
use Rattle.container_rows.proofs.Notes.{bare_pars, no_note_by, note_alone}
use Rattle.container_rows.proofs.Containers.{section_pars, section_notes, twice}

-- how many paragraphs have a number
abbrev pub tally : ℕ → List Par → ℕ
tally number [] = 0
tally number (par ∷ pars) = cond (eqb (number_of par) number) 1 0 + tally number pars

module _ (number : ℕ) where
  pub tally_both : (some more : List Par) → tally number (some ++ more) ≡ tally number some + tally number more
  tally_both [] more = omega arith
  tally_both (par ∷ some) more = omega (arith, tally_both some more)

  -- rows of notes
  bare_times : (pars : List Par) → Each HasNoTexts pars → times number (flat_map par_rows pars) ≡ tally number pars
  bare_times [] bare = refl
  bare_times (par ∷ pars) bare =
      let own_times : times number (par_rows par) ≡ cond (eqb (number_of par) number) 1 0 + 0 = par_times number par ∙ ap (λ (rows : List Row). cond (eqb (number_of par) number) 1 0 + times number rows) bare.0 in
      omega (arith, times_both number (par_rows par) (flat_map par_rows pars), own_times, bare_times pars bare.1)

  abbrev pars_in : Item → List Par
  pars_in item = flat_map (λ note. (out-Note note).pars) (note_of item)

  abbrev Counts : Item → Type 0
  Counts item = Each HoldsNoNotes (note_of item) → times number (text_rows item) ≡ tally number (pars_in item)

  note_counts : (spans : List (List ℕ)) (note : Note) → Counts (roll-Item (record { spans = spans; what = roll-What (What-F.Note note) }))
  note_counts spans note good =
      let pars : List Par = (out-Note note).pars in
      let valid : HoldsNoNotes note = (subst (Each HoldsNoNotes) (note_alone spans note) good).0 in
      let rows : text_rows (roll-Item (record { spans = spans; what = roll-What (What-F.Note note) })) ≡ row.NoteText ∷ (flat_map par_rows pars ++ row.End ∷ []) =
      ap (λ (p : Item × List Row). p.1) (note_item spans note) ∙ ap (λ (p : Note × List Row). p.1) (note_is note)
      in
      let alone : tally number (flat_map (λ note. (out-Note note).pars) (note_of (roll-Item (record { spans = spans; what = roll-What (What-F.Note note) })))) ≡ tally number (pars ++ []) =
      ap (λ (notes : List Note). tally number (flat_map (λ note. (out-Note note).pars) notes)) (note_alone spans note)
      in
      omega (arith, ap (times number) rows, times_both number (flat_map par_rows pars) (row.End ∷ []), bare_times pars (bare_pars note valid), alone, tally_both pars [])

  counts_by : (spans : List (List ℕ)) (what : What-F What Item Note Par) → Counts (roll-Item (record { spans = spans; what = roll-What what }))
  counts_by spans (What-F.Char c) good = no_note_by spans (What-F.Char c) tt (λ rows notes. times number rows ≡ tally number (flat_map (λ note. (out-Note note).pars) notes)) refl
  counts_by spans What-F.Tab good = no_note_by spans What-F.Tab tt (λ rows notes. times number rows ≡ tally number (flat_map (λ note. (out-Note note).pars) notes)) refl
  counts_by spans What-F.Break good = no_note_by spans What-F.Break tt (λ rows notes. times number rows ≡ tally number (flat_map (λ note. (out-Note note).pars) notes)) refl
  counts_by spans (What-F.Field field) good = no_note_by spans (What-F.Field field) tt (λ rows notes. times number rows ≡ tally number (flat_map (λ note. (out-Note note).pars) notes)) refl
  counts_by spans (What-F.Note note) good = note_counts spans note good
  counts_by spans (What-F.Mark mark) good = no_note_by spans (What-F.Mark mark) tt (λ rows notes. times number rows ≡ tally number (flat_map (λ note. (out-Note note).pars) notes)) refl

  item_counts : (item : Item) → Counts item
  item_counts = by_what Counts counts_by

  items_count : (items : List Item) → Each HoldsNoNotes (flat_map note_of items) → times number (flat_map text_rows items) ≡ tally number (flat_map (λ note. (out-Note note).pars) (flat_map note_of items))
  items_count [] good = refl
  items_count (item ∷ items) good =
      let both = each_both HoldsNoNotes (note_of item) (flat_map note_of items) good in
      let apart : tally number (flat_map (λ note. (out-Note note).pars) (note_of item ++ flat_map note_of items)) ≡ tally number (pars_in item ++ flat_map (λ note. (out-Note note).pars) (flat_map note_of items)) =
      ap (tally number) (flat_map-append (λ note. (out-Note note).pars) (note_of item) (flat_map note_of items))
      in
      omega (
        arith,
        times_both number (text_rows item) (flat_map text_rows items),
        tally_both (pars_in item) (flat_map (λ note. (out-Note note).pars) (flat_map note_of items)),
        apart,
        item_counts item both.0,
        items_count items both.1,
      )

  par_count : (par : Par) → Each HoldsNoNotes (notes_of par) → times number (par_rows par) ≡ tally number (with_notes par)
  par_count par good = par_times number par ∙ ap (λ (n : ℕ). cond (eqb (number_of par) number) 1 0 + n) (items_count (out-Par par).items good)

  -- blocks
  abbrev block_pars : Block → List Par
  block_pars block = flat_map with_notes (block_paragraphs block)

  abbrev Counted : Block → Type 0
  Counted block = Each HoldsNoNotes (block_notes block) → times number (block_rows block) ≡ tally number (block_pars block)

  par_counted : (par : Par) → Counted (as_block par)
  par_counted par good =
      let alone : block_paragraphs (as_block par) ≡ par ∷ [] = simp fold-roll-Block in
      let pars : tally number (block_pars (as_block par)) ≡ tally number (with_notes par ++ []) = ap (λ (ps : List Par). tally number (flat_map with_notes ps)) alone in
      omega (arith, ap (times number) (block_is par), par_count par (subst (Each HoldsNoNotes) (par_notes par) good), pars, tally_both (with_notes par) [])

  abbrev Block-Known : Type 0
  Block-Known = (block : Block) × Counted block

  abbrev Section-Known : Type 0
  Section-Known = (section : Section) × Counted (roll-Block (Block-F.Section section))

  blocks_counted : (ks : List Block-Known) → Each HoldsNoNotes (flat_map block_notes (map (λ k. k.0) ks)) → times number (rows_of (map (λ k. k.0) ks)) ≡ tally number (flat_map block_pars (map (λ k. k.0) ks))
  blocks_counted [] good = refl
  blocks_counted (k ∷ ks) good =
      let blocks : List Block = map (λ k. k.0) ks in
      let both = each_both HoldsNoNotes (block_notes k.0) (flat_map block_notes blocks) good in
      omega (arith, times_both number (block_rows k.0) (rows_of blocks), tally_both (block_pars k.0) (flat_map block_pars blocks), k.1 both.0, blocks_counted ks both.1)

  section_counted : (x : Section-F Block Section) (ks : List Block-Known) → Counted (roll-Block (Block-F.Section (roll-Section (record x { blocks = map (λ k. k.0) ks }))))
  section_counted x ks good =
      let blocks : List Block = map (λ k. k.0) ks in
      let whole : Section-F Block Section = record x { blocks = blocks } in
      let pars : tally number (block_pars (roll-Block (Block-F.Section (roll-Section whole)))) ≡ tally number (flat_map block_pars blocks) =
      ap (λ (ps : List Par). tally number (flat_map with_notes ps)) (section_pars whole) ∙ ap (tally number) (twice with_notes block_paragraphs blocks)
      in
      omega (arith, ap (times number) (section_is whole), times_both number (rows_of blocks) (row.End ∷ []), blocks_counted ks (subst (Each HoldsNoNotes) (section_notes whole) good), pars)

  block_step : (x : Block-F Block Section) (y : Block-F Block-Known Section-Known) → map-Block Block-Known Section-Known Block Section (λ k. k.0) (λ k. k.0) y ≡ x → Counted (roll-Block x)
  block_step x (Block-F.Par par) is = subst (λ (z : Block-F Block Section). Counted (roll-Block z)) is (par_counted par)
  block_step x (Block-F.Section known) is = subst (λ (z : Block-F Block Section). Counted (roll-Block z)) is known.1

  section_step : (x : Section-F Block Section) (y : Section-F Block-Known Section-Known) → map-Section Block-Known Section-Known Block Section (λ k. k.0) (λ k. k.0) y ≡ x
      → Counted (roll-Block (Block-F.Section (roll-Section x)))
  section_step x y is =
      subst (λ (z : Section-F Block Section). Counted (roll-Block (Block-F.Section (roll-Section z)))) is
      (section_counted (record { kind = y.kind; name = y.name; style = y.style; protected = y.protected; hidden = y.hidden; source = y.source; blocks = [] }) y.blocks)

  block_counted : (block : Block) → Counted block
  block_counted = ind-Block Counted (λ section. Counted (roll-Block (Block-F.Section section))) block_step section_step

  body_counted : (body : List Block) → Each HoldsNoNotes (flat_map block_notes body) → times number (rows_of body) ≡ tally number (flat_map block_pars body)
  body_counted [] good = refl
  body_counted (block ∷ body) good =
      let both = each_both HoldsNoNotes (block_notes block) (flat_map block_notes body) good in
      omega (arith, times_both number (block_rows block) (rows_of body), tally_both (block_pars block) (flat_map block_pars body), block_counted block both.0, body_counted body both.1)

  -- numbers that differ
  none_there : (pars : List Par) → ((k : ℕ) (d : ℕ) → k < length pars → number ≢ get_or (map number_of pars) k d) → tally number pars ≡ 0
  none_there [] differ = refl
  none_there (par ∷ pars) differ =
      by_test (eqb (number_of par) number)
      (λ is_so. absurd (differ 0 0 (omega arith) (sym (eqb-true (number_of par) number is_so))))
      (λ other.
      let more = none_there pars (λ k d within. differ (suc k) d (omega (arith, within))) in
      omega (arith, ap {B = ℕ} (λ (b : Bool). cond b 1 0) other, more))

  -- where the numbers differ, one paragraph at the most has it
  pub at_most_one : (pars : List Par) → AllPairs (λ left right. left ≢ right) (map number_of pars) → tally number pars ≤ 1
  at_most_one [] pairs = omega arith
  at_most_one (par ∷ pars) pairs =
      by_test (eqb (number_of par) number)
      (λ is_so.
      let none = none_there pars (λ k d within. subst (λ (n : ℕ). n ≢ get_or (map number_of pars) k d) (eqb-true (number_of par) number is_so) (pairs 0 (suc k) d (omega arith) (omega (arith, within, long pars)))) in
      omega (arith, ap {B = ℕ} (λ (b : Bool). cond b 1 0) is_so, none))
      (λ other.
      let more = at_most_one pars (λ i j d before within. pairs (suc i) (suc j) d (omega (arith, before)) (omega (arith, within))) in
      omega (arith, ap {B = ℕ} (λ (b : Bool). cond b 1 0) other, more)) where
        long : (pars : List Par) → length (map number_of pars) ≡ length pars
        long [] = refl
        long (par ∷ pars) = ap suc (long pars)

  pub at_most_once : (doc : Document) → IsApart doc → times number (rows_of doc.body) ≤ 1
  at_most_once doc apart =
      let valid : Each HoldsNoNotes (flat_map block_notes doc.body) = subst (Each HoldsNoNotes) (twice notes_of block_paragraphs doc.body) apart.notes in
      let pars : tally number (paragraphs doc) ≡ tally number (flat_map block_pars doc.body) = ap (tally number) (twice with_notes block_paragraphs doc.body) in
      omega (arith, body_counted doc.body valid, pars, at_most_one (paragraphs doc) apart.numbers)
