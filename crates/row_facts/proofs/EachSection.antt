-- The sections of a document are those that its rows begin.
use Rattle.std.proofs.Common.{◌≡◌, List, [], ◌∷◌, ◌++◌, map, refl, ap, sym, ◌∙◌}
use Rattle.std.proofs.lemmas.List.{length-map}
use Rattle.std.specs.List.{AllByRecursion as Each, flat_map}
use Rattle.std.proofs.lemmas.List.Folds.{flat_map-map}
use Rattle.doc_model.specs.declared.block.Block.{Block, roll-Block}
use Rattle.doc_model.specs.declared.block.Block.TheOpen.{Block-F, Section-F}
use Rattle.doc_model.specs.declared.block.Block.TheFolds.{fold-roll-Block, fold-roll-Section}
use Rattle.doc_model.specs.declared.block.Section.{Section, roll-Section}
use Rattle.doc_model.specs.declared.paragraph.Par.{Par}
use Rattle.doc_model.specs.declared.document.Document.{Document}
use Rattle.doc_model.specs.Reading.{with_notes}
use Rattle.doc_model.specs.Parts.{SectionHead, notes, block_sections, sections}
use Rattle.doc_model.specs.Valid.{IsNote}
use Rattle.edit_rules.specs.Places.{head_of}
use Rattle.node_array.specs.declared.row.SectionHead.{SectionHead as RowHead}
use Rattle.node_array.specs.declared.row.Row.{Row}
use Rattle.node_array.specs.Rows.{rows_of}
use Rattle.row_facts.specs.Paragraphs.{section_in, row_head}
use Rattle.row_facts.specs.Around.{Opened, open_behind}
use Rattle.paragraph_rows.specs.OwnRow.{own_row}
use Rattle.row_facts.proofs.Lists.{map_flat, none_flat}
use Rattle.row_facts.proofs.Told.{told, Passes, rows_tell}

-- one level of blocks
par_sections : (par : Par) → block_sections (roll-Block (Block-F.Par par)) ≡ []
par_sections par = simp fold-roll-Block

section_sections : (x : Section-F Block Section) → block_sections (roll-Block (Block-F.Section (roll-Section x))) ≡ head_of x ∷ flat_map (λ sections. sections) (map block_sections x.blocks)
section_sections x = simp (fold-roll-Block, fold-roll-Section, length-map x.blocks block_sections)

abbrev tell : Opened → Row → List RowHead
tell opened r = section_in r

passes : Passes tell
passes = record { end = λ opened. refl; note = λ opened. refl; within = λ opened r. refl }

abbrev tells : Opened → Block → List RowHead
tells opened block = map row_head (block_sections block)

along : (opened : Opened) (rows : List Row) → told tell opened rows ≡ flat_map section_in rows
along opened [] = refl
along opened (r ∷ rows) = ap (λ (behind : List RowHead). section_in r ++ behind) (along (open_behind opened r) rows)

of_par : (par : Par) (opened : Opened) → flat_map (λ p. tell opened (own_row p)) (with_notes par) ≡ tells opened (roll-Block (Block-F.Par par))
of_par par opened = none_flat (with_notes par) ∙ ap (map row_head) (sym (par_sections par))

of_section : (x : Section-F Block Section) (opened : Opened)
    → row_head (head_of x) ∷ flat_map (λ block. map row_head (block_sections block)) x.blocks ≡ tells opened (roll-Block (Block-F.Section (roll-Section x)))
of_section x opened =
    ap (λ (behind : List RowHead). row_head (head_of x) ∷ behind) (sym (map_flat row_head block_sections x.blocks))
    ∙ ap (λ (behind : List SectionHead). map row_head (head_of x ∷ behind)) (sym (flat_map-map (λ (sections : List SectionHead). sections) block_sections x.blocks))
    ∙ ap (map row_head) (sym (section_sections x))

pub each_section : (doc : Document) → Each IsNote (notes doc) → map row_head (sections doc) ≡ flat_map section_in (rows_of doc.body)
each_section doc is =
    map_flat row_head block_sections doc.body ∙ sym (rows_tell tell passes tells of_par of_section doc.body is) ∙ along [] (rows_of doc.body)
