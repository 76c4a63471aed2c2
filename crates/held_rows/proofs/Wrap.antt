-- Blocks that are wrapped, among the rows of a body.
use Rattle.std.proofs.Common.{◌≡◌, ℕ, true, false, List, [], ◌∷◌, ◌++◌, take, drop, map, None, Some, ap, ap₂, sym, ◌∙◌, append_assoc, append-nil}
use Rattle.std.specs.List.{flat_map, list_any}
use Rattle.std.proofs.lemmas.Bool.{false≢true}
use Rattle.std.proofs.lemmas.List.Concat.{flat_map-append}
use Rattle.doc_model.specs.declared.block.Block.{Block}
use Rattle.doc_model.specs.declared.paragraph.Par.{Par, out-Par}
use Rattle.doc_model.specs.declared.paragraph.ParHead.{ParHead}
use Rattle.doc_model.specs.declared.paragraph.Item.{Item}
use Rattle.doc_model.specs.declared.edit.EditOp.TheVariants.{WrapSection}
use Rattle.doc_model.specs.declared.block.Kind.TheVariants.{Plain}
use Rattle.doc_model.specs.declared.document.Document.{Document}
use Rattle.edit_rules.specs.Places.{WithContainers, as_block, is_paragraph, is_in_note, are_in_order, holds}
use Rattle.edit_rules.specs.Blocks.{section_of, wrap_through}
use Rattle.edit_rules.specs.Edited.{edited_document}
use Rattle.node_array.specs.declared.row.Row.{Row}
use Rattle.node_array.specs.declared.row.Row.TheVariants as row
use Rattle.node_array.specs.Rows.{block_rows, rows_of}
use Rattle.container_rows.specs.Standing.{IsApart, IsChangedFrom}
use Rattle.container_rows.specs.Texts.{note_count, through_ends}
use Rattle.container_rows.proofs.Parts.{head_row, bare, text_rows, own_rows, block_is, section_is}
use Rattle.container_rows.proofs.Heads.{Opened}
use Rattle.container_rows.proofs.Join.{notes_taken, notes_dropped}
use Rattle.container_rows.proofs.Changed.{changed_from}
use Rattle.held_rows.specs.HeldFrom.{held_of, IsHeldFrom}
use Rattle.held_rows.specs.Wrapping.{wrapping}
use Rattle.held_rows.proofs.Stands.{par_containers, holds_blocks}
use Rattle.held_rows.proofs.Unique.{one_tail}
use Rattle.held_rows.proofs.HeldFrom.{held_from_row}
use Rattle.held_rows.proofs.Runs.{first_block, Run, run_to}

-- what a container holds, as a test on its blocks
pub held_is : (par : Par) (blocks : List Block) (number : ℕ) → holds number (Some par ∷ map held_of blocks) ≡ list_any (is_paragraph number) (as_block par ∷ blocks)
held_is par blocks number =
    ap (λ (w : WithContainers). holds number (w.held ∷ map held_of blocks)) (sym (par_containers par)) ∙ holds_blocks number (as_block par ∷ blocks)

wrapped_rows : (name style : List ℕ) (front : List Block) (par : Par) (rest : List Block) (behind : List Row) → rows_of (section_of name style (front ++ as_block par ∷ []) ∷ rest) ++ behind
    ≡ row.Start (wrapping name style) ∷ (rows_of front ++ row.Par (head_row par) (map bare (out-Par par).items) ∷ (flat_map text_rows (out-Par par).items ++ row.End ∷ (rows_of rest ++ behind)))
wrapped_rows name style front par rest behind =
    let start : Row = row.Start (wrapping name style) in
    let texts : List Row = flat_map text_rows (out-Par par).items in
    let own : Row = row.Par (head_row par) (map bare (out-Par par).items) in
    let inner : rows_of (front ++ as_block par ∷ []) ≡ rows_of front ++ own ∷ texts =
    flat_map-append block_rows front (as_block par ∷ []) ∙ ap (λ (rows : List Row). rows_of front ++ rows) (append-nil (block_rows (as_block par)) ∙ (block_is par ∙ own_rows par))
    in
    ap (λ (rows : List Row). (rows ++ rows_of rest) ++ behind) (section_is (record { kind = Plain; name = name; style = style; protected = false; hidden = false; source = None; blocks = front ++ as_block par ∷ [] }))
    ∙ ap (λ (rows : List Row). start ∷ (((rows ++ row.End ∷ []) ++ rows_of rest) ++ behind)) inner
    ∙ ap (λ (rows : List Row). start ∷ rows)
    (ap (λ (rows : List Row). rows ++ behind) (append_assoc (rows_of front ++ own ∷ texts) (row.End ∷ []) (rows_of rest))
    ∙ append_assoc (rows_of front ++ own ∷ texts) (row.End ∷ rows_of rest) behind
    ∙ append_assoc (rows_of front) (own ∷ texts) (row.End ∷ (rows_of rest ++ behind)))

pub wrap_among : (next : ℕ) (doc : Document) (before : List Row) (head : ParHead) (items : List Item) (rest inside : List Row) (other : ParHead) (others : List Item) (more : List Row) (name style : List ℕ)
    → IsApart doc → is_in_note doc head.id ≡ false → are_in_order doc head.id other.id ≡ true
    → rows_of doc.body ≡ before ++ row.Par head items ∷ rest → row.Par head items ∷ rest ≡ inside ++ row.Par other others ∷ more
    → rows_of (edited_document next (WrapSection head.id other.id name style) doc).body
    ≡ before ++ row.Start (wrapping name style) ∷ (inside ++ row.Par other others ∷ (take (through_ends (note_count others) more) more ++ row.End ∷ drop (through_ends (note_count others) more) more))
wrap_among next doc before head items rest inside other others more name style apart not_in ordered is to =
    let change : List Block → List Block = wrap_through other.id name style in
    let from : List Row = row.Par head items ∷ rest in
    let it : IsChangedFrom change before from (rows_of (edited_document next (WrapSection head.id other.id name style) doc).body) =
    changed_from change doc before head items rest apart (λ in_note. absurd (false≢true (sym not_in ∙ in_note))) is
    in
    let held : IsHeldFrom doc head.id from = held_from_row doc before head items rest apart is in
    let blocks : List Block = as_block it.par ∷ it.blocks in
    let same = one_tail blocks (as_block held.par ∷ held.blocks) it.behind held.behind it.ends held.ends (first_block it.par it.blocks it.behind ∙ (sym it.old ∙ (held.rows ∙ sym (first_block held.par held.blocks held.behind)))) in
    let holds_it : list_any (is_paragraph other.id.0) blocks ≡ true =
    ap (list_any (is_paragraph other.id.0)) same.0 ∙ (sym (held_is held.par held.blocks other.id.0) ∙ (sym (ap (holds other.id.0) held.held) ∙ ordered))
    in
    let run : Run other.id.0 blocks inside other others more it.behind =
    run_to doc before from blocks it.behind inside other others more apart it.ends is (it.old ∙ sym (first_block it.par it.blocks it.behind)) to holds_it
    in
    let tail : List Row = rows_of run.rest ++ it.behind in
    let texts : List Row = flat_map text_rows (out-Par run.par).items in
    let goal : List Row → ParHead → List Item → List Row → List Row → List Row = λ i h o t d. before ++ row.Start (wrapping name style) ∷ (i ++ row.Par h o ∷ (t ++ row.End ∷ d)) in
    let own : Opened other others more run.par tail = run.opened in
    it.new
    ∙ ap₂ (λ (a b : List Block). before ++ (rows_of (section_of name style a ∷ b) ++ it.behind)) run.through_is run.after_is
    ∙ ap (λ (rows : List Row). before ++ rows) (wrapped_rows name style run.front run.par run.rest it.behind)
    ∙ ap (λ (i : List Row). goal i (head_row run.par) (map bare (out-Par run.par).items) texts tail) (sym run.inside_is)
    ∙ ap₂ (λ (h : ParHead) (o : List Item). goal inside h o texts tail) (sym own.head_is) (sym own.items_are)
    ∙ ap₂ (λ (t d : List Row). goal inside other others t d) (sym (notes_taken other others more run.par tail own run.notes)) (sym (notes_dropped other others more run.par tail own run.notes))
