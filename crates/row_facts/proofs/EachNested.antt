-- The sections round each section are those that are open before its row.
use Rattle.std.proofs.Common.{◌≡◌, List, [], ◌∷◌, ◌++◌, map, refl, ap, sym, ◌∙◌, append_assoc, append-nil, Some}
use Rattle.std.proofs.lemmas.List.{length-map}
use Rattle.std.specs.List.{AllByRecursion as Each, flat_map}
use Rattle.std.proofs.lemmas.List.{map-append}
use Rattle.std.proofs.lemmas.List.Folds.{flat_map-map}
use Rattle.doc_model.specs.declared.block.Block.{Block, roll-Block}
use Rattle.doc_model.specs.declared.block.Block.TheOpen.{Block-F, Section-F}
use Rattle.doc_model.specs.declared.block.Block.TheFolds.{fold-roll-Block, fold-roll-Section}
use Rattle.doc_model.specs.declared.block.Section.{Section, roll-Section}
use Rattle.doc_model.specs.declared.paragraph.Par.{Par}
use Rattle.doc_model.specs.declared.document.Document.{Document}
use Rattle.doc_model.specs.Reading.{with_notes}
use Rattle.doc_model.specs.Parts.{SectionHead, notes}
use Rattle.doc_model.specs.Valid.{IsNote}
use Rattle.edit_rules.specs.Places.{nested_in, nested_sections, head_of}
use Rattle.node_array.specs.declared.row.SectionHead.{SectionHead as RowHead}
use Rattle.node_array.specs.declared.row.Row.{Row}
use Rattle.node_array.specs.Rows.{rows_of}
use Rattle.row_facts.specs.Paragraphs.{section_in, row_head}
use Rattle.row_facts.specs.Around.{Opened, open_behind, sections_open, sections_nested}
use Rattle.paragraph_rows.specs.OwnRow.{own_row}
use Rattle.row_facts.proofs.Lists.{map_flat, map_map, map_same, none_flat}
use Rattle.row_facts.proofs.Told.{told, Passes, rows_tell}

-- one level of blocks
par_nested : (par : Par) → nested_in (roll-Block (Block-F.Par par)) ≡ []
par_nested par = simp fold-roll-Block

section_nested : (x : Section-F Block Section) → nested_in (roll-Block (Block-F.Section (roll-Section x))) ≡ map (λ nested. nested ++ head_of x ∷ []) ([] ∷ flat_map (λ nested. nested) (map nested_in x.blocks))
section_nested x =
    simp (fold-roll-Block, fold-roll-Section)
    (ap (λ count. map (λ nested. nested ++ (record { kind = x.kind; name = x.name; style = x.style; protected = x.protected; hidden = x.hidden; source = x.source; blocks = count }) ∷ []) ([] ∷ flat_map (λ nested. nested) (map nested_in x.blocks))) (length-map x.blocks nested_in))

abbrev tell : Opened → Row → List (List RowHead)
tell opened r = map (λ head. head ∷ sections_open opened) (section_in r)

passes : Passes tell
passes = record { end = λ opened. refl; note = λ opened. refl; within = λ opened r. refl }

-- sections that so much more is open round
abbrev within_opened : Opened → List SectionHead → List RowHead
within_opened opened nested = map row_head nested ++ sections_open opened

abbrev tells : Opened → Block → List (List RowHead)
tells opened block = map (within_opened opened) (nested_in block)

along : (opened : Opened) (rows : List Row) → told tell opened rows ≡ sections_nested opened rows
along opened [] = refl
along opened (r ∷ rows) = ap (λ (behind : List (List RowHead)). tell opened r ++ behind) (along (open_behind opened r) rows)

of_par : (par : Par) (opened : Opened) → flat_map (λ p. tell opened (own_row p)) (with_notes par) ≡ tells opened (roll-Block (Block-F.Par par))
of_par par opened = none_flat (with_notes par) ∙ ap (map (within_opened opened)) (sym (par_nested par))

one_within : (opened : Opened) (head : SectionHead) (nested : List SectionHead) → within_opened (Some (row_head head) ∷ opened) nested ≡ within_opened opened (nested ++ head ∷ [])
one_within opened head nested =
    sym (append_assoc (map row_head nested) (row_head head ∷ []) (sections_open opened)) ∙ ap (λ (around : List RowHead). around ++ sections_open opened) (sym (map-append row_head nested (head ∷ [])))

of_section : (x : Section-F Block Section) (opened : Opened)
    → (row_head (head_of x) ∷ sections_open opened) ∷ flat_map (tells (Some (row_head (head_of x)) ∷ opened)) x.blocks ≡ tells opened (roll-Block (Block-F.Section (roll-Section x)))
of_section x opened =
    ap (λ (behind : List (List RowHead)). (row_head (head_of x) ∷ sections_open opened) ∷ behind)
    (sym (map_flat (within_opened (Some (row_head (head_of x)) ∷ opened)) nested_in x.blocks)
    ∙ map_same (within_opened (Some (row_head (head_of x)) ∷ opened)) (λ nested. within_opened opened (nested ++ head_of x ∷ [])) (one_within opened (head_of x)) (flat_map nested_in x.blocks)
    ∙ sym (map_map (within_opened opened) (λ nested. nested ++ head_of x ∷ []) (flat_map nested_in x.blocks))
    ∙ ap (λ (nested : List (List SectionHead)). map (within_opened opened) (map (λ n. n ++ head_of x ∷ []) nested)) (sym (flat_map-map (λ (nested : List (List SectionHead)). nested) nested_in x.blocks)))
    ∙ ap (map (within_opened opened)) (sym (section_nested x))

pub each_nested : (doc : Document) → Each IsNote (notes doc) → map (map row_head) (nested_sections doc) ≡ sections_nested [] (rows_of doc.body)
each_nested doc is =
    map_same (map row_head) (within_opened []) (λ nested. sym (append-nil (map row_head nested))) (nested_sections doc)
    ∙ map_flat (within_opened []) nested_in doc.body ∙ sym (rows_tell tell passes tells of_par of_section doc.body is) ∙ along [] (rows_of doc.body)
