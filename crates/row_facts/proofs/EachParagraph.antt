-- The paragraphs of a document are those of its rows.
use Rattle.std.proofs.Common.{◌≡◌, List, [], ◌∷◌, ◌++◌, map, refl, ap, sym, ◌∙◌, append-nil}
use Rattle.std.specs.List.{AllByRecursion as Each, flat_map}
use Rattle.std.proofs.lemmas.List.Concat.{flat_map_single}
use Rattle.std.proofs.lemmas.List.Folds.{flat_map-map}
use Rattle.doc_model.specs.declared.block.Block.{Block, roll-Block}
use Rattle.doc_model.specs.declared.block.Block.TheOpen.{Block-F, Section-F}
use Rattle.doc_model.specs.declared.block.Block.TheFolds.{fold-roll-Block, fold-roll-Section}
use Rattle.doc_model.specs.declared.block.Section.{Section, roll-Section}
use Rattle.doc_model.specs.declared.paragraph.Par.{Par}
use Rattle.doc_model.specs.declared.document.Document.{Document}
use Rattle.doc_model.specs.Reading.{block_paragraphs, with_notes, paragraphs}
use Rattle.doc_model.specs.Parts.{notes}
use Rattle.doc_model.specs.Valid.{IsNote}
use Rattle.node_array.specs.declared.row.Row.{Row}
use Rattle.node_array.specs.Rows.{rows_of}
use Rattle.row_facts.specs.Paragraphs.{BarePar, bare_of, paragraph_in}
use Rattle.row_facts.specs.Around.{Opened, open_behind}
use Rattle.paragraph_rows.specs.OwnRow.{own_row}
use Rattle.row_facts.proofs.Lists.{map_flat, flat_flat}
use Rattle.row_facts.proofs.Told.{told, Passes, rows_tell}

-- one level of blocks
par_paragraphs : (par : Par) → block_paragraphs (roll-Block (Block-F.Par par)) ≡ par ∷ []
par_paragraphs par = simp fold-roll-Block

section_paragraphs : (x : Section-F Block Section) → block_paragraphs (roll-Block (Block-F.Section (roll-Section x))) ≡ flat_map (λ pars. pars) (map block_paragraphs x.blocks)
section_paragraphs x = simp (fold-roll-Block, fold-roll-Section)

abbrev tell : Opened → Row → List BarePar
tell opened r = paragraph_in r

passes : Passes tell
passes = record { end = λ opened. refl; note = λ opened. refl; within = λ opened r. refl }

abbrev tells : Opened → Block → List BarePar
tells opened block = map bare_of (flat_map with_notes (block_paragraphs block))

along : (opened : Opened) (rows : List Row) → told tell opened rows ≡ flat_map paragraph_in rows
along opened [] = refl
along opened (r ∷ rows) = ap (λ (behind : List BarePar). paragraph_in r ++ behind) (along (open_behind opened r) rows)

of_par : (par : Par) (opened : Opened) → flat_map (λ p. tell opened (own_row p)) (with_notes par) ≡ tells opened (roll-Block (Block-F.Par par))
of_par par opened =
    flat_map_single bare_of (with_notes par)
    ∙ ap (map bare_of) (sym (append-nil (with_notes par)) ∙ ap (flat_map with_notes) (sym (par_paragraphs par)))

of_section : (x : Section-F Block Section) (opened : Opened) → flat_map (λ block. map bare_of (flat_map with_notes (block_paragraphs block))) x.blocks ≡ tells opened (roll-Block (Block-F.Section (roll-Section x)))
of_section x opened =
    sym (map_flat bare_of (λ block. flat_map with_notes (block_paragraphs block)) x.blocks)
    ∙ ap (map bare_of) (sym (flat_flat with_notes block_paragraphs x.blocks)
    ∙ ap (flat_map with_notes) (sym (flat_map-map (λ (ps : List Par). ps) block_paragraphs x.blocks) ∙ sym (section_paragraphs x)))

pub each_paragraph : (doc : Document) → Each IsNote (notes doc) → map bare_of (paragraphs doc) ≡ flat_map paragraph_in (rows_of doc.body)
each_paragraph doc is =
    ap (map bare_of) (flat_flat with_notes block_paragraphs doc.body) ∙ map_flat bare_of (λ block. flat_map with_notes (block_paragraphs block)) doc.body
    ∙ sym (rows_tell tell passes tells of_par of_section doc.body is) ∙ along [] (rows_of doc.body)
