-- Rows outside notes, and rows of sections among them.
use Rattle.std.proofs.Common.{◌≡◌, ℕ, zero, suc, Bool, true, false, eqb, ◌||◌, List, [], ◌∷◌, ◌++◌, map, refl, ap, ap₂, sym, ◌∙◌, arith, append_assoc, eq-eqb}
use Rattle.std.specs.List.{flat_map, list_any, AllByRecursion as Each}
use Rattle.std.proofs.lemmas.Bool.{false≢true}
use Rattle.std.proofs.lemmas.Bool.Decides.{nat_tests}
use Rattle.doc_model.specs.declared.block.Block.{Block}
use Rattle.doc_model.specs.declared.block.Block.TheOpen.{Section-F}
use Rattle.doc_model.specs.declared.block.Section.{Section}
use Rattle.doc_model.specs.declared.document.Document.{Document}
use Rattle.doc_model.specs.declared.paragraph.Par.{Par}
use Rattle.doc_model.specs.declared.paragraph.ParHead.{ParHead}
use Rattle.doc_model.specs.declared.paragraph.ParId.{ParId}
use Rattle.doc_model.specs.declared.paragraph.Item.{Item}
use Rattle.doc_model.specs.declared.paragraph.Note.{Note, out-Note}
use Rattle.doc_model.specs.Reading.{notes_of}
use Rattle.edit_rules.specs.Places.{is_in_note}
use Rattle.name_index.specs.declared.names.NameKind.{NameKind}
use Rattle.node_array.specs.declared.row.Row.{Row}
use Rattle.node_array.specs.declared.row.SectionHead.{SectionHead}
use Rattle.node_array.specs.declared.row.Row.TheVariants as row
use Rattle.node_array.specs.Places.{is_par}
use Rattle.node_array.specs.Rows.{par_rows, block_rows, rows_of}
use Rattle.paragraph_rows.specs.OwnRow.{own_row, text_rows}
use Rattle.paragraph_rows.specs.Standing.{number_in}
use Rattle.paragraph_rows.proofs.Opened.{par_open}
use Rattle.block_facts.proofs.Blocks.{par_block, section_block, of_block}
use Rattle.paragraph_rows.proofs.Blocks.{section_head, par_block_rows, section_block_rows}
use Rattle.row_checks.proofs.NoteHeld.{open_row}
use Rattle.row_edits.specs.Sound.{AreSound, is_note_open}
use Rattle.names_change.proofs.Lead.{Pairs}
use Rattle.names_change.proofs.Reading.{State, state, next, after, read, read_both}
use Rattle.names_change.proofs.Others.{Differs}
use Rattle.names_change.proofs.SectionStarts.{first_in, starts}
use Rattle.names_change.proofs.Found.{start, is_within}

pub after_both : (front more : List Row) (s : State) → after (front ++ more) s ≡ after more (after front s)
after_both [] more s = refl
after_both (r ∷ front) more s = after_both front more (next r s)

-- an End row closes a note
ended : (head : Row) (rows : List Row) (s : State) → (after (head ∷ (rows ++ row.End ∷ [])) s).within ≡ false
ended head rows s = ap (λ (t : State). t.within) (after_both rows (row.End ∷ []) (next head s))

texts_outside : (notes : List Note) (s : State) → s.within ≡ false → (after (flat_map text_rows notes) s).within ≡ false
texts_outside [] s out = out
texts_outside (note ∷ notes) s out =
    ap (λ (t : State). t.within) (after_both (text_rows note) (flat_map text_rows notes) s)
    ∙ texts_outside notes (after (text_rows note) s) (ended row.NoteText (flat_map par_rows (out-Note note).pars) s)

abbrev Outside : Block → Type 0
Outside block = (s : State) → s.within ≡ false → (after (block_rows block) s).within ≡ false

par_outside : (par : Par) → Outside (par_block par)
par_outside par s out =
    ap (λ (rows : List Row). (after rows s).within) (par_block_rows par ∙ par_open par) ∙ texts_outside (notes_of par) (next (own_row par) s) out

section_outside : (x : Section-F Block Section) → Each Outside x.blocks → Outside (section_block x)
section_outside x known s out = ap (λ (rows : List Row). (after rows s).within) (section_block_rows x) ∙ ended (row.Start (section_head x)) (rows_of x.blocks) s

pub blocks_outside : (blocks : List Block) (s : State) → s.within ≡ false → (after (rows_of blocks) s).within ≡ false
blocks_outside [] s out = out
blocks_outside (block ∷ blocks) s out =
    ap (λ (t : State). t.within) (after_both (block_rows block) (rows_of blocks) s)
    ∙ blocks_outside blocks (after (block_rows block) s) (of_block Outside par_outside section_outside block s out)

-- before a paragraph that isn't in a note
within_is : (rows : List Row) (s : State) → (after rows s).within ≡ is_note_open s.within rows
within_is [] s = refl
within_is (row.Start head ∷ rows) s = within_is rows s
within_is (row.End ∷ rows) s = within_is rows (next row.End s)
within_is (row.Par head items ∷ rows) s = within_is rows (next (row.Par head items) s)
within_is (row.NoteText ∷ rows) s = within_is rows (next row.NoteText s)

either_way : (one other : ℕ) → eqb one other ≡ false → eqb other one ≡ false
either_way one other differ = grind (arith, nat_tests)

none_of : (par : ParId) (rows : List Row) → Each (Differs par.0) (flat_map number_in rows) → list_any (is_par par) rows ≡ false
none_of par [] differ = refl
none_of par (row.Start head ∷ rows) differ = none_of par rows differ
none_of par (row.End ∷ rows) differ = none_of par rows differ
none_of par (row.Par head items ∷ rows) differ = ap₂ (λ (a b : Bool). a || b) (either_way head.id.0 par.0 differ.0) (none_of par rows differ.1)
none_of par (row.NoteText ∷ rows) differ = none_of par rows differ

pub body_outside : (doc : Document) (before : List Row) (head : ParHead) (items : List Item) (rest : List Row) (next : ℕ) → AreSound next (rows_of doc.body) → rows_of doc.body ≡ before ++ row.Par head items ∷ rest
    → Each (Differs head.id.0) (flat_map number_in before) → Each (Differs head.id.0) (flat_map number_in rest) → is_in_note doc head.id ≡ false → is_within before ≡ false
body_outside doc before head items rest next sound is ahead behind out =
    within_is before start
    ∙ sym (open_row doc head.id before (row.Par head items) rest sound.flat
    (record { rows_are = is; own = eq-eqb head.id.0 head.id.0 refl; none_before = none_of head.id before ahead; none_behind = none_of head.id rest behind }))
    ∙ out

-- names of items are read as if no section's rows were there
module _ (kind : NameKind) where
  end_read : (within : Bool) (s : State) (more : List Row) → s.within ≡ within → within ≡ false → read kind (row.End ∷ more) s ≡ read kind more s
  end_read true s more is out = absurd (false≢true (sym out))
  end_read false s more is out = ap (λ (b : Bool). read kind (row.End ∷ more) (state b s.held)) is ∙ ap (λ (b : Bool). read kind more (state b s.held)) (sym is)

  pub end_neutral : (before more : List Row) (s : State) → (after before s).within ≡ false → read kind (before ++ row.End ∷ more) s ≡ read kind (before ++ more) s
  end_neutral before more s out =
      read_both kind before (row.End ∷ more) s ∙ ap (λ (some : Pairs). read kind before s ++ some) (end_read (after before s).within (after before s) more refl out) ∙ sym (read_both kind before more s)

  pub start_neutral : (before : List Row) (head : SectionHead) (more : List Row) (s : State) → read kind (before ++ row.Start head ∷ more) s ≡ read kind (before ++ more) s
  start_neutral before head more s = read_both kind before (row.Start head ∷ more) s ∙ sym (read_both kind before more s)

-- the sections of rows with one more section before a paragraph's row
first_put : (before : List Row) (begin : SectionHead) (head : ParHead) (items : List Item) (rows others : List Row) (depth : ℕ)
    → first_in (before ++ row.Start begin ∷ row.Par head items ∷ others) depth ≡ first_in (before ++ row.Par head items ∷ rows) depth
first_put [] begin head items rows others depth = refl
first_put (row.Start one ∷ before) begin head items rows others depth = first_put before begin head items rows others (suc depth)
first_put (row.End ∷ before) begin head items rows others zero = refl
first_put (row.End ∷ before) begin head items rows others (suc depth) = first_put before begin head items rows others depth
first_put (row.Par one some ∷ before) begin head items rows others depth = refl
first_put (row.NoteText ∷ before) begin head items rows others depth = first_put before begin head items rows others (suc depth)

pub record Put (name : List ℕ) (id : ParId) (old new : Pairs) : Type 0 where
  pub front : Pairs
  pub behind : Pairs
  pub was : old ≡ front ++ behind
  pub is : new ≡ front ++ (name, id) ∷ behind

pub starts_put : (before : List Row) (begin : SectionHead) (head : ParHead) (items : List Item) (rows others : List Row) → starts others ≡ starts rows
    → Put begin.name head.id (starts (before ++ row.Par head items ∷ rows)) (starts (before ++ row.Start begin ∷ row.Par head items ∷ others))
starts_put [] begin head items rows others same = record { front = []; behind = starts rows; was = refl; is = ap (λ (some : Pairs). (begin.name, head.id) ∷ some) same }
starts_put (row.Start one ∷ before) begin head items rows others same =
    let it = starts_put before begin head items rows others same in
    let first : List ParId = first_in (before ++ row.Par head items ∷ rows) 0 in
    let own : Pairs = map (λ number. (one.name, number)) first in
    record {
      front = own ++ it.front;
      behind = it.behind;
      was = ap (λ (some : Pairs). own ++ some) it.was ∙ sym (append_assoc own it.front it.behind);
      is =
          ap₂ (λ (numbers : List ParId) (some : Pairs). map (λ number. (one.name, number)) numbers ++ some) (first_put before begin head items rows others 0) it.is
          ∙ sym (append_assoc own it.front ((begin.name, head.id) ∷ it.behind));
    }
starts_put (row.End ∷ before) begin head items rows others same = starts_put before begin head items rows others same
starts_put (row.Par one some ∷ before) begin head items rows others same = starts_put before begin head items rows others same
starts_put (row.NoteText ∷ before) begin head items rows others same = starts_put before begin head items rows others same
