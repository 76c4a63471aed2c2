-- The sections round each paragraph are those that are open before its row.
use Rattle.std.proofs.Common.{◌≡◌, List, [], ◌∷◌, ◌++◌, map, refl, ap, sym, ◌∙◌, append_assoc, append-nil, Some}
use Rattle.std.proofs.lemmas.List.{length-map}
use Rattle.std.specs.List.{AllByRecursion as Each, flat_map}
use Rattle.std.proofs.lemmas.List.{map-append}
use Rattle.std.proofs.lemmas.List.Concat.{flat_map_single}
use Rattle.std.proofs.lemmas.List.Folds.{flat_map-map}
use Rattle.doc_model.specs.declared.block.Block.{Block, roll-Block}
use Rattle.doc_model.specs.declared.block.Block.TheOpen.{Block-F, Section-F}
use Rattle.doc_model.specs.declared.block.Block.TheFolds.{fold-roll-Block, fold-roll-Section}
use Rattle.doc_model.specs.declared.block.Section.{Section, roll-Section}
use Rattle.doc_model.specs.declared.paragraph.Par.{Par}
use Rattle.doc_model.specs.declared.document.Document.{Document}
use Rattle.doc_model.specs.Reading.{with_notes}
use Rattle.doc_model.specs.Parts.{SectionHead, notes}
use Rattle.doc_model.specs.Valid.{IsNote}
use Rattle.edit_rules.specs.Places.{Placed, placed_in, placed_paragraphs, placed_within, unplaced, head_of}
use Rattle.node_array.specs.declared.row.SectionHead.{SectionHead as RowHead}
use Rattle.node_array.specs.declared.row.Row.{Row}
use Rattle.node_array.specs.Rows.{rows_of}
use Rattle.row_facts.specs.Paragraphs.{bare_of, paragraph_in, row_head}
use Rattle.row_facts.specs.Around.{Opened, open_behind, sections_open, PlacedRow, paragraphs_placed}
use Rattle.paragraph_rows.specs.OwnRow.{own_row}
use Rattle.row_facts.proofs.Lists.{map_flat, map_map, map_same}
use Rattle.row_facts.proofs.Told.{told, Passes, rows_tell}

-- one level of blocks
par_placed : (par : Par) → placed_in (roll-Block (Block-F.Par par)) ≡ map unplaced (with_notes par)
par_placed par = simp fold-roll-Block

section_placed : (x : Section-F Block Section) → placed_in (roll-Block (Block-F.Section (roll-Section x))) ≡ map (placed_within (head_of x)) (flat_map (λ placed. placed) (map placed_in x.blocks))
section_placed x = simp (fold-roll-Block, fold-roll-Section, length-map x.blocks placed_in)

abbrev tell : Opened → Row → List PlacedRow
tell opened r = map (λ par. record { par = par; around = sections_open opened }) (paragraph_in r)

passes : Passes tell
passes = record { end = λ opened. refl; note = λ opened. refl; within = λ opened r. refl }

-- a paragraph that so much more is open round
abbrev within_opened : Opened → Placed → PlacedRow
within_opened opened placed = record { par = bare_of placed.par; around = map row_head placed.around ++ sections_open opened }

abbrev tells : Opened → Block → List PlacedRow
tells opened block = map (within_opened opened) (placed_in block)

along : (opened : Opened) (rows : List Row) → told tell opened rows ≡ paragraphs_placed opened rows
along opened [] = refl
along opened (r ∷ rows) = ap (λ (behind : List PlacedRow). tell opened r ++ behind) (along (open_behind opened r) rows)

of_par : (par : Par) (opened : Opened) → flat_map (λ p. tell opened (own_row p)) (with_notes par) ≡ tells opened (roll-Block (Block-F.Par par))
of_par par opened =
    flat_map_single (λ p. within_opened opened (unplaced p)) (with_notes par) ∙ sym (map_map (within_opened opened) unplaced (with_notes par))
    ∙ ap (map (within_opened opened)) (sym (par_placed par))

one_within : (opened : Opened) (head : SectionHead) (placed : Placed) → within_opened (Some (row_head head) ∷ opened) placed ≡ within_opened opened (placed_within head placed)
one_within opened head placed =
    ap (λ (around : List RowHead). record { par = bare_of placed.par; around = around })
    (sym (append_assoc (map row_head placed.around) (row_head head ∷ []) (sections_open opened)) ∙ ap (λ (around : List RowHead). around ++ sections_open opened) (sym (map-append row_head placed.around (head ∷ []))))

of_section : (x : Section-F Block Section) (opened : Opened)
    → flat_map (tells (Some (row_head (head_of x)) ∷ opened)) x.blocks ≡ tells opened (roll-Block (Block-F.Section (roll-Section x)))
of_section x opened =
    sym (map_flat (within_opened (Some (row_head (head_of x)) ∷ opened)) placed_in x.blocks)
    ∙ map_same (within_opened (Some (row_head (head_of x)) ∷ opened)) (λ placed. within_opened opened (placed_within (head_of x) placed)) (one_within opened (head_of x)) (flat_map placed_in x.blocks)
    ∙ sym (map_map (within_opened opened) (placed_within (head_of x)) (flat_map placed_in x.blocks))
    ∙ ap (λ (placed : List Placed). map (within_opened opened) (map (placed_within (head_of x)) placed)) (sym (flat_map-map (λ (placed : List Placed). placed) placed_in x.blocks))
    ∙ ap (map (within_opened opened)) (sym (section_placed x))

alone : (placed : Placed) → record { par = bare_of placed.par; around = map row_head placed.around } ≡ within_opened [] placed
alone placed = ap (λ (around : List RowHead). record { par = bare_of placed.par; around = around }) (sym (append-nil (map row_head placed.around)))

pub each_placed : (doc : Document) → Each IsNote (notes doc)
    → map (λ placed. record { par = bare_of placed.par; around = map row_head placed.around }) (placed_paragraphs doc) ≡ paragraphs_placed [] (rows_of doc.body)
each_placed doc is =
    map_same (λ (placed : Placed). record { par = bare_of placed.par; around = map row_head placed.around }) (within_opened []) alone (placed_paragraphs doc)
    ∙ map_flat (within_opened []) placed_in doc.body ∙ sym (rows_tell tell passes tells of_par of_section doc.body is) ∙ along [] (rows_of doc.body)
