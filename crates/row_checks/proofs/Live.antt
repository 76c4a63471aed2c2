-- Live paragraphs by their rows.
use Rattle.std.proofs.Common.{◌≡◌, ℕ, Bool, true, false, cond, ltb, List, [], ◌∷◌, ◌++◌, map, length, refl, ap, ap₂, sym, ◌∙◌, subst, append-nil, arith, Option, Some, None}
use Rattle.std.specs.Prelude.{◌==◌, slice_get, position, find, option_map, unwrap_or}
use Rattle.std.specs.List.{flat_map, position_or_len, AllByRecursion as Each}
use Rattle.std.specs.Option.{option_map_or}
use Rattle.std.proofs.lemmas.Bool.{false≢true, ltb-false}
use Rattle.std.proofs.lemmas.Bool.Decides.{nat_tests}
use Rattle.std.proofs.lemmas.List.{map-append, length-map}
use Rattle.std.proofs.lemmas.List.Concat.{flat_map-append}
use Rattle.std.proofs.lemmas.List.Folds.{find_at}
use Rattle.std.proofs.lemmas.Option.{none-some, slice_get_past}
use Rattle.doc_model.specs.declared.block.Block.{Block}
use Rattle.doc_model.specs.declared.block.Block.TheOpen.{Section-F}
use Rattle.doc_model.specs.declared.block.Section.{Section}
use Rattle.doc_model.specs.declared.document.Document.{Document}
use Rattle.doc_model.specs.declared.paragraph.Item.{Item}
use Rattle.doc_model.specs.declared.paragraph.Note.{Note, out-Note}
use Rattle.doc_model.specs.declared.paragraph.Par.{Par}
use Rattle.doc_model.specs.declared.paragraph.ParHead.{ParHead}
use Rattle.doc_model.specs.declared.paragraph.ParId.{ParId}
use Rattle.doc_model.specs.Parts.{items_of}
use Rattle.doc_model.specs.Reading.{block_paragraphs, notes_of, number_of, with_notes, paragraphs}
use Rattle.edit_rules.specs.Places.{live_paragraph, item_count}
use Rattle.node_array.specs.declared.row.Row.{Row}
use Rattle.node_array.specs.declared.row.Row.TheVariants as row
use Rattle.node_array.specs.Places.{is_par}
use Rattle.node_array.specs.Rows.{par_rows, block_rows, rows_of}
use Rattle.paragraph_rows.specs.Flat.{AreFlat}
use Rattle.paragraph_rows.specs.OwnRow.{bare, own_row, text_rows}
use Rattle.paragraph_rows.proofs.Lists.{each_front, each_behind}
use Rattle.paragraph_rows.proofs.Opened.{par_open}
use Rattle.block_facts.proofs.Blocks.{par_block, section_block, of_blocks, par_reads, section_reads}
use Rattle.paragraph_rows.proofs.Blocks.{par_block_rows, section_block_rows}
use Rattle.paragraph_rows.proofs.FlatPars.{IsFlatNote, IsFlatPar, IsFlatBlock, flat_pars}
use Rattle.paragraph_rows.proofs.NoteRows.{alone_rows}

-- the row, if it is that of a paragraph
abbrev pub par_row : Row → List Row
par_row (row.Start head) = []
par_row row.End = []
par_row (row.Par head items) = row.Par head items ∷ []
par_row row.NoteText = []

rows_alone : (pars : List Par) → Each (λ par. notes_of par ≡ []) pars → flat_map par_row (flat_map par_rows pars) ≡ map own_row pars
rows_alone [] none = refl
rows_alone (par ∷ pars) none =
    ap (λ (rows : List Row). flat_map par_row (rows ++ flat_map par_rows pars)) (alone_rows par none.0) ∙ ap (λ (more : List Row). own_row par ∷ more) (rows_alone pars none.1)

rows_texts : (some : List Note) → Each IsFlatNote some → flat_map par_row (flat_map text_rows some) ≡ map own_row (flat_map (λ note. (out-Note note).pars) some)
rows_texts [] flat = refl
rows_texts (note ∷ some) flat =
    let pars : List Par = (out-Note note).pars in
    flat_map-append par_row (text_rows note) (flat_map text_rows some)
    ∙ ap₂ (λ (here more : List Row). here ++ more)
    (flat_map-append par_row (flat_map par_rows pars) (row.End ∷ []) ∙ append-nil (flat_map par_row (flat_map par_rows pars)) ∙ rows_alone pars flat.0)
    (rows_texts some flat.1)
    ∙ sym (map-append own_row pars (flat_map (λ note. (out-Note note).pars) some))

abbrev Rows : Block → Type 0
Rows block = IsFlatBlock block → flat_map par_row (block_rows block) ≡ map own_row (flat_map with_notes (block_paragraphs block))

rows_blocks : (blocks : List Block) → Each Rows blocks → Each IsFlatPar (flat_map block_paragraphs blocks)
    → flat_map par_row (rows_of blocks) ≡ map own_row (flat_map with_notes (flat_map block_paragraphs blocks))
rows_blocks [] known flat = refl
rows_blocks (block ∷ blocks) known flat =
    let here : List Par = block_paragraphs block in
    let rest : List Par = flat_map block_paragraphs blocks in
    flat_map-append par_row (block_rows block) (rows_of blocks)
    ∙ ap₂ (λ (front behind : List Row). front ++ behind) (known.0 (each_front IsFlatPar here rest flat)) (rows_blocks blocks known.1 (each_behind IsFlatPar here rest flat))
    ∙ sym (map-append own_row (flat_map with_notes here) (flat_map with_notes rest)) ∙ ap (map own_row) (sym (flat_map-append with_notes here rest))

rows_par : (par : Par) → Rows (par_block par)
rows_par par flat =
    ap (flat_map par_row) (par_block_rows par ∙ par_open par)
    ∙ ap (λ (more : List Row). own_row par ∷ more) (rows_texts (notes_of par) (subst (Each IsFlatPar) (par_reads par) flat).0)
    ∙ ap (map own_row) (sym (append-nil (with_notes par)))
    ∙ ap (λ (pars : List Par). map own_row (flat_map with_notes pars)) (sym (par_reads par))

rows_section : (x : Section-F Block Section) → Each Rows x.blocks → Rows (section_block x)
rows_section x known flat =
    ap (flat_map par_row) (section_block_rows x) ∙ flat_map-append par_row (rows_of x.blocks) (row.End ∷ []) ∙ append-nil (flat_map par_row (rows_of x.blocks))
    ∙ rows_blocks x.blocks known (subst (Each IsFlatPar) (section_reads x) flat)
    ∙ ap (λ (pars : List Par). map own_row (flat_map with_notes pars)) (sym (section_reads x))

-- the rows of paragraphs are those of the paragraphs in reading order
pub own_rows : (doc : Document) → AreFlat (rows_of doc.body) → flat_map par_row (rows_of doc.body) ≡ map own_row (paragraphs doc)
own_rows doc flat = rows_blocks doc.body (of_blocks Rows rows_par rows_section doc.body) (flat_pars doc.body flat)

-- the first row of a number is that of a paragraph
found_row : (par : ParId) (rows : List Row) → find (is_par par) (flat_map par_row rows) ≡ find (is_par par) rows
found_row par [] = refl
found_row par (row.Start head ∷ rows) = found_row par rows
found_row par (row.End ∷ rows) = found_row par rows
found_row par (row.Par head items ∷ rows) = ap (λ (more : Option Row). cond (par.0 == head.id.0) (Some (row.Par head items)) more) (found_row par rows)
found_row par (row.NoteText ∷ rows) = found_row par rows

swapped : (par : ParId) (one : Par) → (number_of one == par.0) ≡ is_par par (own_row one)
swapped par one = grind (arith, nat_tests)

found_par : (par : ParId) (pars : List Par) → find (is_par par) (map own_row pars) ≡ option_map own_row (find (λ one. number_of one == par.0) pars)
found_par par [] = refl
found_par par (one ∷ pars) = by_test (is_par par (own_row one)) (number_of one == par.0) (swapped par one) (found_par par pars) where
  by_test : (test other : Bool) → other ≡ test → find (is_par par) (map own_row pars) ≡ option_map own_row (find (λ one. number_of one == par.0) pars)
      → cond test (Some (own_row one)) (find (is_par par) (map own_row pars)) ≡ option_map own_row (cond other (Some one) (find (λ one. number_of one == par.0) pars))
  by_test true true same rest = refl
  by_test true false same rest = absurd (false≢true same)
  by_test false true same rest = absurd (false≢true (sym same))
  by_test false false same rest = rest

pub live_row : (doc : Document) (par : ParId) → AreFlat (rows_of doc.body) → option_map own_row (live_paragraph doc par) ≡ find (is_par par) (rows_of doc.body)
live_row doc par flat = sym (found_par par (paragraphs doc)) ∙ ap (find (is_par par)) (sym (own_rows doc flat)) ∙ found_row par (rows_of doc.body)

-- what is found is what stands at the position
at_position : (par : ParId) (rows : List Row) (at : ℕ) → position (is_par par) rows ≡ Some at → find (is_par par) rows ≡ slice_get rows at
at_position par rows at found =
    let k : ℕ = position_or_len (is_par par) rows in
    find_at (is_par par) rows ∙ ap (slice_get rows) (place k (ltb k (length rows)) found) where
      place : (k : ℕ) (test : Bool) → cond test (Some k) None ≡ Some at → k ≡ at
      place k true found = ap (λ (o : Option ℕ). unwrap_or o k) found
      place k false found = absurd (none-some at found)

no_position : (par : ParId) (rows : List Row) → position (is_par par) rows ≡ None → find (is_par par) rows ≡ None
no_position par rows none =
    let k : ℕ = position_or_len (is_par par) rows in
    find_at (is_par par) rows ∙ slice_get_past rows k (ltb-false k (length rows) (past k (ltb k (length rows)) none)) where
      past : (k : ℕ) (test : Bool) → cond test (Some k) None ≡ None → test ≡ false
      past k true none = absurd (none-some k (sym none))
      past k false none = refl

no_row : (live : Option Par) → option_map own_row live ≡ None → live ≡ None
no_row None none = refl
no_row (Some one) none = absurd (none-some (own_row one) (sym none))

pub absent_row : (doc : Document) (par : ParId) → AreFlat (rows_of doc.body) → position (is_par par) (rows_of doc.body) ≡ None → live_paragraph doc par ≡ None
absent_row doc par flat none = no_row (live_paragraph doc par) (live_row doc par flat ∙ no_position par (rows_of doc.body) none)

abbrev items_in : Row → List Item
items_in (row.Start head) = []
items_in row.End = []
items_in (row.Par head items) = items
items_in row.NoteText = []

count_live : (live : Option Par) (head : ParHead) (items : List Item) → option_map own_row live ≡ Some (row.Par head items) → option_map_or (λ one. length (items_of one)) live 0 ≡ length items
count_live None head items is = absurd (none-some (row.Par head items) is)
count_live (Some one) head items is =
    let same : map bare (items_of one) ≡ items = ap (λ (o : Option Row). items_in (unwrap_or o row.End)) is in
    sym (length-map (items_of one) bare) ∙ ap (length {A = Item}) same

pub count_row : (doc : Document) (par : ParId) (at : ℕ) (head : ParHead) (items : List Item) → AreFlat (rows_of doc.body)
    → position (is_par par) (rows_of doc.body) ≡ Some at → slice_get (rows_of doc.body) at ≡ Some (row.Par head items) → item_count doc par ≡ length items
count_row doc par at head items flat found there =
    count_live (live_paragraph doc par) head items (live_row doc par flat ∙ at_position par (rows_of doc.body) at found ∙ there)
