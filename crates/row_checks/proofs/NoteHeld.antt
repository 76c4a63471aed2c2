-- Paragraphs of notes by their rows.
use Rattle.std.proofs.Common.{◌≡◌, Bool, true, false, List, [], ◌∷◌, ◌++◌, map, refl, ap, ap₂, sym, ◌∙◌, subst, append_assoc, append-nil, arith, Some}
use Rattle.std.specs.Prelude.{◌==◌, ◌&&◌, ◌||◌}
use Rattle.std.specs.List.{flat_map, list_any, AllByRecursion as Each}
use Rattle.std.proofs.lemmas.Bool.{false≢true}
use Rattle.std.proofs.lemmas.Bool.Decides.{nat_tests}
use Rattle.std.proofs.lemmas.List.Concat.{flat_map-append}
use Rattle.doc_model.specs.declared.block.Block.{Block}
use Rattle.doc_model.specs.declared.block.Block.TheOpen.{Section-F}
use Rattle.doc_model.specs.declared.block.Section.{Section}
use Rattle.doc_model.specs.declared.document.Document.{Document}
use Rattle.doc_model.specs.declared.paragraph.Note.{Note, out-Note}
use Rattle.doc_model.specs.declared.paragraph.Par.{Par}
use Rattle.doc_model.specs.declared.paragraph.ParId.{ParId}
use Rattle.doc_model.specs.Reading.{block_paragraphs, notes_of, number_of}
use Rattle.edit_rules.specs.Places.{is_held, holds, note_container, is_in_note}
use Rattle.node_array.specs.declared.row.Row.{Row}
use Rattle.node_array.specs.declared.row.Row.TheVariants as row
use Rattle.node_array.specs.Places.{is_par}
use Rattle.node_array.specs.Rows.{par_rows, block_rows, rows_of}
use Rattle.paragraph_rows.specs.Flat.{AreFlat}
use Rattle.paragraph_rows.specs.OwnRow.{own_row, text_rows}
use Rattle.paragraph_rows.specs.Standing.{Stands}
use Rattle.paragraph_rows.proofs.Lists.{each_front, each_behind}
use Rattle.paragraph_rows.proofs.Opened.{par_open}
use Rattle.block_facts.proofs.Blocks.{par_block, section_block, of_blocks, par_reads, section_reads}
use Rattle.paragraph_rows.proofs.Blocks.{par_block_rows, section_block_rows}
use Rattle.paragraph_rows.proofs.FlatPars.{IsFlatNote, IsFlatPar, IsFlatBlock, flat_pars}
use Rattle.paragraph_rows.proofs.NoteRows.{alone_rows, grouped}
use Rattle.row_edits.specs.Sound.{is_note_open}
use Rattle.row_checks.specs.NoteHeld.{is_held_in_note}

or_assoc : (a b c : Bool) → (a || b || c) ≡ (a || (b || c))
or_assoc true b c = refl
or_assoc false b c = refl

or_none : (a : Bool) → (a || false) ≡ a
or_none true = refl
or_none false = refl

any_append : {X : Type 0} (test : X → Bool) (xs ys : List X) → list_any test (xs ++ ys) ≡ (list_any test xs || list_any test ys)
any_append test [] ys = refl
any_append test (x ∷ xs) ys = ap (λ (b : Bool). test x || b) (any_append test xs ys) ∙ sym (or_assoc (test x) (list_any test xs) (list_any test ys))

module _ (par : ParId) where
  -- whether the note has the paragraph
  abbrev has : Note → Bool
  has note = holds par.0 (note_container note)

  swapped : (one : Par) → is_par par (own_row one) ≡ (number_of one == par.0)
  swapped one = grind (arith, nat_tests)

  held_pars : (pars : List Par) (more : List Row) → Each (λ one. notes_of one ≡ []) pars
      → is_held_in_note par true (flat_map par_rows pars ++ more) ≡ (list_any (is_held par.0) (map Some pars) || is_held_in_note par true more)
  held_pars [] more none = refl
  held_pars (one ∷ pars) more none =
      ap (λ (rows : List Row). is_held_in_note par true ((rows ++ flat_map par_rows pars) ++ more)) (alone_rows one none.0)
      ∙ ap₂ (λ (a b : Bool). a || b) (swapped one) (held_pars pars more none.1)
      ∙ sym (or_assoc (number_of one == par.0) (list_any (is_held par.0) (map Some pars)) (is_held_in_note par true more))

  held_texts : (some : List Note) (more : List Row) → Each IsFlatNote some
      → is_held_in_note par false (flat_map text_rows some ++ more) ≡ (list_any has some || is_held_in_note par false more)
  held_texts [] more flat = refl
  held_texts (note ∷ some) more flat =
      ap (is_held_in_note par false) (grouped note some more)
      ∙ held_pars (out-Note note).pars (row.End ∷ (flat_map text_rows some ++ more)) flat.0
      ∙ ap (λ (b : Bool). has note || b) (held_texts some more flat.1)
      ∙ sym (or_assoc (has note) (list_any has some) (is_held_in_note par false more))

  abbrev Held-Block : Block → Type 0
  Held-Block block = IsFlatBlock block → (more : List Row) → is_held_in_note par false (block_rows block ++ more) ≡ (list_any has (flat_map notes_of (block_paragraphs block)) || is_held_in_note par false more)

  held_blocks : (blocks : List Block) → Each Held-Block blocks → Each IsFlatPar (flat_map block_paragraphs blocks) → (more : List Row)
      → is_held_in_note par false (rows_of blocks ++ more) ≡ (list_any has (flat_map notes_of (flat_map block_paragraphs blocks)) || is_held_in_note par false more)
  held_blocks [] known flat more = refl
  held_blocks (block ∷ blocks) known flat more =
      let here : List Par = block_paragraphs block in
      let rest : List Par = flat_map block_paragraphs blocks in
      ap (is_held_in_note par false) (append_assoc (block_rows block) (rows_of blocks) more)
      ∙ known.0 (each_front IsFlatPar here rest flat) (rows_of blocks ++ more)
      ∙ ap (λ (b : Bool). list_any has (flat_map notes_of here) || b) (held_blocks blocks known.1 (each_behind IsFlatPar here rest flat) more)
      ∙ sym (or_assoc (list_any has (flat_map notes_of here)) (list_any has (flat_map notes_of rest)) (is_held_in_note par false more))
      ∙ ap (λ (b : Bool). b || is_held_in_note par false more) (sym (any_append has (flat_map notes_of here) (flat_map notes_of rest)) ∙ ap (list_any has) (sym (flat_map-append notes_of here rest)))

  held_par : (one : Par) → Held-Block (par_block one)
  held_par one flat more =
      ap (λ (rows : List Row). is_held_in_note par false (rows ++ more)) (par_block_rows one ∙ par_open one)
      ∙ held_texts (notes_of one) more (subst (Each IsFlatPar) (par_reads one) flat).0
      ∙ ap (λ (some : List Note). list_any has some || is_held_in_note par false more) (sym (append-nil (notes_of one)) ∙ ap (flat_map notes_of) (sym (par_reads one)))

  held_section : (x : Section-F Block Section) → Each Held-Block x.blocks → Held-Block (section_block x)
  held_section x known flat more =
      ap (λ (rows : List Row). is_held_in_note par false (rows ++ more)) (section_block_rows x)
      ∙ ap (is_held_in_note par false) (append_assoc (rows_of x.blocks) (row.End ∷ []) more)
      ∙ held_blocks x.blocks known (subst (Each IsFlatPar) (section_reads x) flat) (row.End ∷ more)
      ∙ ap (λ (pars : List Par). list_any has (flat_map notes_of pars) || is_held_in_note par false more) (sym (section_reads x))

  -- rows among which the paragraph isn't
  none_held : (within : Bool) (rows : List Row) → list_any (is_par par) rows ≡ false → is_held_in_note par within rows ≡ false
  none_held within [] none = refl
  none_held within (row.Start head ∷ rows) none = none_held within rows none
  none_held within (row.End ∷ rows) none = none_held false rows none
  none_held within (row.Par head items ∷ rows) none = by_test within (is_par par (row.Par head items)) none (none_held within rows) where
    by_test : (inside test : Bool) → (test || list_any (is_par par) rows) ≡ false → (list_any (is_par par) rows ≡ false → is_held_in_note par within rows ≡ false) → (inside && test || is_held_in_note par within rows) ≡ false
    by_test inside true none rest = absurd (false≢true (sym none))
    by_test true false none rest = rest none
    by_test false false none rest = rest none
  none_held within (row.NoteText ∷ rows) none = none_held true rows none

  here : (within : Bool) (one : Row) (behind : List Row) → is_par par one ≡ true → list_any (is_par par) behind ≡ false → is_held_in_note par within (one ∷ behind) ≡ within
  here within (row.Start head) behind own none = absurd (false≢true own)
  here within row.End behind own none = absurd (false≢true own)
  here within (row.Par head items) behind own none =
      ap₂ (λ (test rest : Bool). within && test || rest) own (none_held within behind none) ∙ or_none (within && true) ∙ and_true within where
        and_true : (b : Bool) → (b && true) ≡ b
        and_true true = refl
        and_true false = refl
  here within row.NoteText behind own none = absurd (false≢true own)

  there : (within : Bool) (before : List Row) (one : Row) (behind : List Row) → list_any (is_par par) before ≡ false → is_par par one ≡ true → list_any (is_par par) behind ≡ false
      → is_held_in_note par within (before ++ one ∷ behind) ≡ is_note_open within before
  there within [] one behind front own none = here within one behind own none
  there within (row.Start head ∷ before) one behind front own none = there within before one behind front own none
  there within (row.End ∷ before) one behind front own none = there false before one behind front own none
  there within (row.Par head items ∷ before) one behind front own none = by_test within (is_par par (row.Par head items)) front (λ more. there within before one behind more own none) where
    by_test : (inside test : Bool) → (test || list_any (is_par par) before) ≡ false → (list_any (is_par par) before ≡ false → is_held_in_note par within (before ++ one ∷ behind) ≡ is_note_open within before)
        → (inside && test || is_held_in_note par within (before ++ one ∷ behind)) ≡ is_note_open within before
    by_test inside true front rest = absurd (false≢true (sym front))
    by_test true false front rest = rest front
    by_test false false front rest = rest front
  there within (row.NoteText ∷ before) one behind front own none = there true before one behind front own none

pub held_row : (doc : Document) (par : ParId) → AreFlat (rows_of doc.body) → is_in_note doc par ≡ is_held_in_note par false (rows_of doc.body)
held_row doc par flat =
    sym (ap (is_held_in_note par false) (sym (append-nil (rows_of doc.body)))
    ∙ held_blocks par doc.body (of_blocks (Held-Block par) (held_par par) (held_section par) doc.body) (flat_pars doc.body flat) []
    ∙ or_none (list_any (has par) (flat_map notes_of (flat_map block_paragraphs doc.body))))

pub open_row : (doc : Document) (par : ParId) (before : List Row) (one : Row) (behind : List Row) → AreFlat (rows_of doc.body) → Stands par (rows_of doc.body) before one behind
    → is_in_note doc par ≡ is_note_open false before
open_row doc par before one behind flat stands =
    held_row doc par flat ∙ ap (is_held_in_note par false) stands.rows_are ∙ there par false before one behind stands.none_before stands.own stands.none_behind
