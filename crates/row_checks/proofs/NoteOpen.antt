-- The container of a paragraph's row is a note where one is open before the row.
use Rattle.std.proofs.Common.{◌≡◌, ℕ, ◌+◌, Bool, true, false, List, [], ◌∷◌, ◌++◌, take, drop, refl, ap, sym, ◌∙◌, subst, append_assoc, append-nil, Option, Some, None}
use Rattle.std.specs.Prelude.{◌&&◌, not, fold, slice_get, position}
use Rattle.std.specs.List.{flat_map, AllByRecursion as Each}
use Rattle.std.specs.Option.{option_map_or}
use Rattle.std.proofs.lemmas.Bool.{false≢true}
use Rattle.std.proofs.lemmas.List.{take-append-drop}
use Rattle.doc_model.specs.declared.block.Block.{Block}
use Rattle.doc_model.specs.declared.block.Block.TheOpen.{Section-F}
use Rattle.doc_model.specs.declared.block.Section.{Section}
use Rattle.doc_model.specs.declared.document.Document.{Document}
use Rattle.doc_model.specs.declared.paragraph.Note.{Note, out-Note}
use Rattle.doc_model.specs.declared.paragraph.Par.{Par}
use Rattle.doc_model.specs.declared.paragraph.ParId.{ParId}
use Rattle.doc_model.specs.Reading.{block_paragraphs, notes_of}
use Rattle.edit_rules.specs.Places.{is_in_note}
use Rattle.node_array.specs.declared.row.Row.{Row}
use Rattle.node_array.specs.declared.row.Row.TheVariants as row
use Rattle.node_array.specs.Containers.{containers_of}
use Rattle.node_array.specs.Places.{is_par}
use Rattle.node_array.specs.Rows.{par_rows, block_rows, rows_of}
use Rattle.paragraph_rows.specs.Flat.{AreFlat}
use Rattle.paragraph_rows.specs.OwnRow.{text_rows}
use Rattle.paragraph_rows.specs.Standing.{AreApart, Stands}
use Rattle.paragraph_rows.proofs.Lists.{each_front, each_behind}
use Rattle.paragraph_rows.proofs.Opened.{par_open}
use Rattle.block_facts.proofs.Blocks.{par_block, section_block, of_blocks, par_reads, section_reads}
use Rattle.paragraph_rows.proofs.Blocks.{par_block_rows, section_block_rows}
use Rattle.paragraph_rows.proofs.FlatPars.{IsFlatNote, IsFlatPar, IsFlatBlock, flat_pars}
use Rattle.paragraph_rows.proofs.NoteRows.{alone_rows, grouped}
use Rattle.paragraph_rows.proofs.Standing.{row_found}
use Rattle.row_edits.specs.Sound.{is_note_open}
use Rattle.row_facts.specs.Around.{Opened, without_innermost, open_behind, open_before, begins, is_end, IsOpenBy}
use Rattle.row_facts.proofs.Containers.{container_opens}
use Rattle.row_checks.specs.NoteHeld.{begins_note, is_note}
use Rattle.row_checks.proofs.NoteHeld.{open_row}

-- whether neither a note nor a section begins within a note
abbrev is_plain : Bool → List Row → Bool
is_plain within [] = true
is_plain within (row.Start head ∷ rows) = not within && is_plain within rows
is_plain within (row.End ∷ rows) = is_plain false rows
is_plain within (row.Par head items ∷ rows) = is_plain within rows
is_plain within (row.NoteText ∷ rows) = not within && is_plain true rows

plain_pars : (pars : List Par) (more : List Row) → Each (λ par. notes_of par ≡ []) pars → is_plain true (flat_map par_rows pars ++ more) ≡ is_plain true more
plain_pars [] more none = refl
plain_pars (par ∷ pars) more none =
    ap (λ (rows : List Row). is_plain true ((rows ++ flat_map par_rows pars) ++ more)) (alone_rows par none.0) ∙ plain_pars pars more none.1

plain_texts : (some : List Note) (more : List Row) → Each IsFlatNote some → is_plain false (flat_map text_rows some ++ more) ≡ is_plain false more
plain_texts [] more flat = refl
plain_texts (note ∷ some) more flat =
    ap (is_plain false) (grouped note some more) ∙ plain_pars (out-Note note).pars (row.End ∷ (flat_map text_rows some ++ more)) flat.0 ∙ plain_texts some more flat.1

abbrev Plain : Block → Type 0
Plain block = IsFlatBlock block → (more : List Row) → is_plain false (block_rows block ++ more) ≡ is_plain false more

plain_blocks : (blocks : List Block) → Each Plain blocks → Each IsFlatPar (flat_map block_paragraphs blocks) → (more : List Row) → is_plain false (rows_of blocks ++ more) ≡ is_plain false more
plain_blocks [] known flat more = refl
plain_blocks (block ∷ blocks) known flat more =
    ap (is_plain false) (append_assoc (block_rows block) (rows_of blocks) more)
    ∙ known.0 (each_front IsFlatPar (block_paragraphs block) (flat_map block_paragraphs blocks) flat) (rows_of blocks ++ more)
    ∙ plain_blocks blocks known.1 (each_behind IsFlatPar (block_paragraphs block) (flat_map block_paragraphs blocks) flat) more

plain_par : (par : Par) → Plain (par_block par)
plain_par par flat more =
    ap (λ (rows : List Row). is_plain false (rows ++ more)) (par_block_rows par ∙ par_open par)
    ∙ plain_texts (notes_of par) more (subst (Each IsFlatPar) (par_reads par) flat).0

plain_section : (x : Section-F Block Section) → Each Plain x.blocks → Plain (section_block x)
plain_section x known flat more =
    ap (λ (rows : List Row). is_plain false (rows ++ more)) (section_block_rows x)
    ∙ ap (is_plain false) (append_assoc (rows_of x.blocks) (row.End ∷ []) more)
    ∙ plain_blocks x.blocks known (subst (Each IsFlatPar) (section_reads x) flat) (row.End ∷ more)

plain_rows : (body : List Block) → AreFlat (rows_of body) → is_plain false (rows_of body) ≡ true
plain_rows body flat =
    ap (is_plain false) (sym (append-nil (rows_of body))) ∙ plain_blocks body (of_blocks Plain plain_par plain_section body) (flat_pars body flat) []

-- only sections are open, or one note within sections
AreSections : Opened → Type 0
AreSections [] = Unit {0}
AreSections (None ∷ outer) = ⊥
AreSections (Some head ∷ outer) = AreSections outer

Fits : Bool → Opened → Type 0
Fits false opened = AreSections opened
Fits true [] = ⊥
Fits true (None ∷ outer) = AreSections outer
Fits true (Some head ∷ outer) = ⊥

-- whether the innermost that is open is a note
abbrev is_innermost_note : Opened → Bool
is_innermost_note [] = false
is_innermost_note (None ∷ outer) = true
is_innermost_note (Some head ∷ outer) = false

told : (within : Bool) (opened : Opened) → Fits within opened → is_innermost_note opened ≡ within
unfolding Fits AreSections
told true [] fits = absurd fits
told true (None ∷ outer) fits = refl
told true (Some head ∷ outer) fits = absurd fits
told false [] fits = refl
told false (None ∷ outer) fits = absurd fits
told false (Some head ∷ outer) fits = refl

closed : (within : Bool) (opened : Opened) → Fits within opened → Fits false (without_innermost opened)
unfolding Fits AreSections
closed true [] fits = absurd fits
closed true (None ∷ outer) fits = fits
closed true (Some head ∷ outer) fits = absurd fits
closed false [] fits = tt
closed false (None ∷ outer) fits = absurd fits
closed false (Some head ∷ outer) fits = fits

innermost : (within : Bool) (opened : Opened) (front behind : List Row) → is_plain within (front ++ behind) ≡ true → Fits within opened
    → is_innermost_note (fold open_behind opened front) ≡ is_note_open within front
unfolding Fits AreSections
innermost within opened [] behind plain fits = told within opened fits
innermost true opened (row.Start head ∷ front) behind plain fits = absurd (false≢true plain)
innermost false opened (row.Start head ∷ front) behind plain fits = innermost false (Some head ∷ opened) front behind plain fits
innermost within opened (row.End ∷ front) behind plain fits = innermost false (without_innermost opened) front behind plain (closed within opened fits)
innermost within opened (row.Par head items ∷ front) behind plain fits = innermost within opened front behind plain fits
innermost true opened (row.NoteText ∷ front) behind plain fits = absurd (false≢true plain)
innermost false opened (row.NoteText ∷ front) behind plain fits = innermost true (None ∷ opened) front behind plain fits

-- what the row that begins a container is
first_told : (first : Row) (opened : Opened) → begins first ≡ true → is_innermost_note (open_behind opened first) ≡ begins_note first
first_told (row.Start head) opened begun = refl
first_told row.End opened begun = absurd (false≢true begun)
first_told (row.Par head items) opened begun = absurd (false≢true begun)
first_told row.NoteText opened begun = refl

by_container : (rows : List Row) (at : ℕ) (container : Option ℕ) → IsOpenBy rows at container → is_innermost_note (open_before at rows) ≡ is_note rows container
by_container rows at None is = ap is_innermost_note is
by_container rows at (Some place) is =
    ap is_innermost_note is.opened ∙ first_told is.first (open_before place rows) is.beginning ∙ ap (λ (o : Option Row). option_map_or begins_note o false) (sym is.stands)

no_end : (par : ParId) (one : Row) → is_par par one ≡ true → is_end one ≡ false
no_end par (row.Start head) own = refl
no_end par row.End own = absurd (false≢true own)
no_end par (row.Par head items) own = refl
no_end par row.NoteText own = refl

pub container_told : (doc : Document) (par : ParId) (at : ℕ) (one : Row) (container : Option ℕ) → AreFlat (rows_of doc.body) → AreApart (rows_of doc.body)
    → position (is_par par) (rows_of doc.body) ≡ Some at → slice_get (rows_of doc.body) at ≡ Some one → slice_get (containers_of doc.body) at ≡ Some container
    → is_in_note doc par ≡ is_note (rows_of doc.body) container
unfolding Fits AreSections
container_told doc par at one container flat apart found there around =
    let rows : List Row = rows_of doc.body in
    let stands : Stands par rows (take at rows) one (drop (at + 1) rows) = row_found par rows at one found there apart in
    let plain : is_plain false (take at rows ++ drop at rows) ≡ true = ap (is_plain false) (take-append-drop at rows) ∙ plain_rows doc.body flat in
    open_row doc par (take at rows) one (drop (at + 1) rows) flat stands
    ∙ sym (innermost false [] (take at rows) (drop at rows) plain tt)
    ∙ by_container rows at container (container_opens doc.body at one container there (no_end par one stands.own) around)
