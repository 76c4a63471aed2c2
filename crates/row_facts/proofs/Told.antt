-- What is told along the rows of a document, row by row, where what is told at a row depends on what is open there.
use Rattle.std.proofs.Common.{◌≡◌, List, [], ◌∷◌, ◌++◌, map, refl, ap, ap₂, sym, subst, ◌∙◌, append_assoc, append-nil, Some, None}
use Rattle.std.specs.List.{AllByRecursion as Each, flat_map}
use Rattle.std.proofs.lemmas.List.Concat.{flat_map-append}
use Rattle.std.proofs.lemmas.List.Folds.{flat_map-map}
use Rattle.doc_model.specs.declared.block.Block.{Block, roll-Block, fold-Block}
use Rattle.doc_model.specs.declared.block.Block.TheOpen.{Block-F, Section-F}
use Rattle.doc_model.specs.declared.block.Block.TheFolds.{fold-roll-Block, fold-roll-Section, ind-Block, map-Block, map-Section}
use Rattle.doc_model.specs.declared.block.Section.{Section, roll-Section}
use Rattle.doc_model.specs.declared.paragraph.Par.{Par}
use Rattle.doc_model.specs.declared.paragraph.Note.{Note, out-Note}
use Rattle.doc_model.specs.Reading.{block_paragraphs, notes_of, with_notes}
use Rattle.doc_model.specs.Valid.{IsNote}
use Rattle.node_array.specs.declared.row.SectionHead.{SectionHead as RowHead}
use Rattle.node_array.specs.declared.row.Row.{Row}
use Rattle.node_array.specs.declared.row.Row.TheVariants as row
use Rattle.node_array.specs.Rows.{par_rows, block_rows, rows_of}
use Rattle.node_array.proofs.OneBody.{section_rows, section_opens}
use Rattle.paragraph_rows.specs.OwnRow.{own_row}
use Rattle.row_facts.specs.Around.{Opened, open_behind}
use Rattle.row_facts.proofs.Flat.{note_text, par_is_text, each_front, each_rest}

-- what is told along rows
abbrev pub told : {X : Type 0} → (Opened → Row → List X) → Opened → List Row → List X
told tell opened [] = []
told tell opened (r ∷ rows) = tell opened r ++ told tell (open_behind opened r) rows

-- nothing is told where a note begins and where something ends, and a note is nothing round what it holds
pub record Passes {X : Type 0} (tell : Opened → Row → List X) : Type 0 where
  pub end : (opened : Opened) → tell opened row.End ≡ []
  pub note : (opened : Opened) → tell opened row.NoteText ≡ []
  pub within : (opened : Opened) (r : Row) → tell (None ∷ opened) r ≡ tell opened r

module _ {X : Type 0} (tell : Opened → Row → List X) (passes : Passes tell) where
  -- what is told at the row of a paragraph
  abbrev at_par : Opened → Par → List X
  at_par opened par = tell opened (own_row par)

  pars_told : (opened : Opened) (pars : List Par) (more : List Row) → told tell (None ∷ opened) (map own_row pars ++ more) ≡ flat_map (at_par opened) pars ++ told tell (None ∷ opened) more
  pars_told opened [] more = refl
  pars_told opened (par ∷ pars) more =
      ap₂ (λ (front behind : List X). front ++ behind) (passes.within opened (own_row par)) (pars_told opened pars more)
      ∙ sym (append_assoc (at_par opened par) (flat_map (at_par opened) pars) (told tell (None ∷ opened) more))

  note_told : (opened : Opened) (note : Note) (more : List Row) → told tell opened (note_text note ++ more) ≡ flat_map (at_par opened) (out-Note note).pars ++ told tell opened more
  note_told opened note more =
      ap (λ (front : List X). front ++ told tell (None ∷ opened) ((map own_row (out-Note note).pars ++ row.End ∷ []) ++ more)) (passes.note opened)
      ∙ ap (told tell (None ∷ opened)) (append_assoc (map own_row (out-Note note).pars) (row.End ∷ []) more)
      ∙ pars_told opened (out-Note note).pars (row.End ∷ more)
      ∙ ap (λ (front : List X). flat_map (at_par opened) (out-Note note).pars ++ (front ++ told tell opened more)) (passes.end (None ∷ opened))

  notes_told : (opened : Opened) (notes : List Note) (more : List Row) → told tell opened (flat_map note_text notes ++ more) ≡ flat_map (at_par opened) (flat_map (λ note. (out-Note note).pars) notes) ++ told tell opened more
  notes_told opened [] more = refl
  notes_told opened (note ∷ notes) more =
      ap (told tell opened) (append_assoc (note_text note) (flat_map note_text notes) more)
      ∙ note_told opened note (flat_map note_text notes ++ more)
      ∙ ap (λ (behind : List X). flat_map (at_par opened) (out-Note note).pars ++ behind) (notes_told opened notes more)
      ∙ sym (append_assoc (flat_map (at_par opened) (out-Note note).pars) (flat_map (at_par opened) (flat_map (λ n. (out-Note n).pars) notes)) (told tell opened more))
      ∙ ap (λ (front : List X). front ++ told tell opened more) (sym (flat_map-append (at_par opened) (out-Note note).pars (flat_map (λ n. (out-Note n).pars) notes)))

  par_told : (opened : Opened) (par : Par) (more : List Row) → Each IsNote (notes_of par) → told tell opened (par_rows par ++ more) ≡ flat_map (at_par opened) (with_notes par) ++ told tell opened more
  par_told opened par more each =
      ap (λ (rows : List Row). told tell opened (rows ++ more)) (par_is_text par each)
      ∙ ap (λ (behind : List X). at_par opened par ++ behind) (notes_told opened (notes_of par) more)
      ∙ sym (append_assoc (at_par opened par) (flat_map (at_par opened) (flat_map (λ note. (out-Note note).pars) (notes_of par))) (told tell opened more))

  -- what is told along the rows of a block
  abbrev tells_of_block : Block-F (Opened → List X) (Opened → List X) → Opened → List X
  tells_of_block (Block-F.Par par) = λ opened. flat_map (at_par opened) (with_notes par)
  tells_of_block (Block-F.Section section) = section

  abbrev tells_of_section : Section-F (Opened → List X) (Opened → List X) → Opened → List X
  tells_of_section section = λ opened. tell opened (row.Start (record { kind = section.kind; name = section.name; style = section.style; protected = section.protected; hidden = section.hidden; source = section.source }))
      ++ flat_map (λ tells. tells (Some (record { kind = section.kind; name = section.name; style = section.style; protected = section.protected; hidden = section.hidden; source = section.source }) ∷ opened)) section.blocks

  abbrev pub block_tells : Block → Opened → List X
  block_tells = fold-Block (Opened → List X) (Opened → List X) tells_of_block tells_of_section

  abbrev head_of : Section-F Block Section → RowHead
  head_of x = record { kind = x.kind; name = x.name; style = x.style; protected = x.protected; hidden = x.hidden; source = x.source }

  section_tells_opens : (x : Section-F Block Section) → block_tells (roll-Block (Block-F.Section (roll-Section x))) ≡ (λ opened. tell opened (row.Start (head_of x)) ++ flat_map (λ tells. tells (Some (head_of x) ∷ opened)) (map block_tells x.blocks))
  section_tells_opens x = simp (fold-roll-Block, fold-roll-Section)

  par_tells_opens : (par : Par) → block_tells (roll-Block (Block-F.Par par)) ≡ (λ opened. flat_map (at_par opened) (with_notes par))
  par_tells_opens par = simp fold-roll-Block

  -- it is what the block's paragraphs and sections tell
  abbrev BlockTold : Block → Type 0
  BlockTold block = (opened : Opened) (more : List Row) → Each IsNote (flat_map notes_of (block_paragraphs block)) → told tell opened (block_rows block ++ more) ≡ block_tells block opened ++ told tell opened more

  abbrev section_tells : RowHead → List Block → Opened → List X
  section_tells head blocks opened = tell opened (row.Start head) ++ flat_map (λ block. block_tells block (Some head ∷ opened)) blocks

  abbrev SectionTold : Section → Type 0
  SectionTold section = (opened : Opened) (more : List Row) → Each IsNote (flat_map notes_of (block_paragraphs (roll-Block (Block-F.Section section)))) → told tell opened (section_rows section ++ more) ≡ block_tells (roll-Block (Block-F.Section section)) opened ++ told tell opened more

  abbrev Block-Known : Type 0
  Block-Known = (block : Block) × BlockTold block

  abbrev Section-Known : Type 0
  Section-Known = (section : Section) × SectionTold section

  abbrev blocks_in : List Block-Known → List Block
  blocks_in ks = map (λ k. k.0) ks

  blocks_told : (ks : List Block-Known) (opened : Opened) (more : List Row) → Each IsNote (flat_map notes_of (flat_map block_paragraphs (blocks_in ks)))
      → told tell opened (flat_map block_rows (blocks_in ks) ++ more) ≡ flat_map (λ block. block_tells block opened) (blocks_in ks) ++ told tell opened more
  blocks_told [] opened more each = refl
  blocks_told (k ∷ ks) opened more each =
      let parts : Each IsNote (flat_map notes_of (block_paragraphs k.0) ++ flat_map notes_of (flat_map block_paragraphs (blocks_in ks))) = subst (λ (notes : List Note). Each IsNote notes) (flat_map-append notes_of (block_paragraphs k.0) (flat_map block_paragraphs (blocks_in ks))) each in
      ap (told tell opened) (append_assoc (block_rows k.0) (flat_map block_rows (blocks_in ks)) more)
      ∙ k.1 opened (flat_map block_rows (blocks_in ks) ++ more) (each_front IsNote (flat_map notes_of (block_paragraphs k.0)) (flat_map notes_of (flat_map block_paragraphs (blocks_in ks))) parts)
      ∙ ap (λ (behind : List X). block_tells k.0 opened ++ behind) (blocks_told ks opened more (each_rest IsNote (flat_map notes_of (block_paragraphs k.0)) (flat_map notes_of (flat_map block_paragraphs (blocks_in ks))) parts))
      ∙ sym (append_assoc (block_tells k.0 opened) (flat_map (λ block. block_tells block opened) (blocks_in ks)) (told tell opened more))

  block_step : (x : Block-F Block Section) (y : Block-F Block-Known Section-Known) → map-Block Block-Known Section-Known Block Section (λ k. k.0) (λ k. k.0) y ≡ x → BlockTold (roll-Block x)
  block_step x (Block-F.Par par) is = subst (λ (z : Block-F Block Section). BlockTold (roll-Block z)) is of_par where
    of_par : BlockTold (roll-Block (Block-F.Par par))
    of_par opened more each =
        let rows : block_rows (roll-Block (Block-F.Par par)) ≡ par_rows par = simp fold-roll-Block in
        let tells : block_tells (roll-Block (Block-F.Par par)) opened ≡ flat_map (at_par opened) (with_notes par) = ap (λ (f : Opened → List X). f opened) (par_tells_opens par) in
        let pars : flat_map notes_of (block_paragraphs (roll-Block (Block-F.Par par))) ≡ notes_of par = simp (fold-roll-Block, append-nil (notes_of par)) in
        ap (λ (rs : List Row). told tell opened (rs ++ more)) rows
        ∙ par_told opened par more (subst (λ (notes : List Note). Each IsNote notes) pars each)
        ∙ ap (λ (front : List X). front ++ told tell opened more) (sym tells)
  block_step x (Block-F.Section known) is = subst (λ (z : Block-F Block Section). BlockTold (roll-Block z)) is of_section where
    of_section : BlockTold (roll-Block (Block-F.Section known.0))
    of_section opened more each =
        let rows : block_rows (roll-Block (Block-F.Section known.0)) ≡ section_rows known.0 = simp fold-roll-Block in
        ap (λ (rs : List Row). told tell opened (rs ++ more)) rows ∙ known.1 opened more each

  section_told : (x : Section-F Block Section) (ks : List Block-Known) → SectionTold (roll-Section (record x { blocks = blocks_in ks }))
  section_told x ks opened more each =
      let blocks : List Block = blocks_in ks in
      let made : Section-F Block Section = record x { blocks = blocks } in
      let inner : Opened = Some (head_of x) ∷ opened in
      let flat : List Row = flat_map (λ rs. rs) (map block_rows blocks) in
      let tells : block_tells (roll-Block (Block-F.Section (roll-Section made))) opened ≡ tell opened (row.Start (head_of x)) ++ flat_map (λ tells. tells inner) (map block_tells blocks) = ap (λ (f : Opened → List X). f opened) (section_tells_opens made) in
      let pars : block_paragraphs (roll-Block (Block-F.Section (roll-Section made))) ≡ flat_map (λ ps. ps) (map block_paragraphs blocks) = simp (fold-roll-Block, fold-roll-Section) in
      let notes : Each IsNote (flat_map notes_of (flat_map block_paragraphs blocks)) = subst (λ (ps : List Par). Each IsNote (flat_map notes_of ps)) (pars ∙ flat_map-map (λ (ps : List Par). ps) block_paragraphs blocks) each in
      ap (λ (rs : List Row). told tell opened (rs ++ more)) (section_opens made)
      ∙ ap (λ (rs : List Row). tell opened (row.Start (head_of x)) ++ told tell inner rs) (append_assoc flat (row.End ∷ []) more ∙ ap (λ (rs : List Row). rs ++ row.End ∷ more) (flat_map-map (λ (rs : List Row). rs) block_rows blocks))
      ∙ ap (λ (behind : List X). tell opened (row.Start (head_of x)) ++ behind) (blocks_told ks inner (row.End ∷ more) notes)
      ∙ ap (λ (end : List X). tell opened (row.Start (head_of x)) ++ (flat_map (λ block. block_tells block inner) blocks ++ (end ++ told tell opened more))) (passes.end inner)
      ∙ sym (append_assoc (tell opened (row.Start (head_of x))) (flat_map (λ block. block_tells block inner) blocks) (told tell opened more))
      ∙ ap (λ (front : List X). front ++ told tell opened more) (ap (λ (behind : List X). tell opened (row.Start (head_of x)) ++ behind) (sym (flat_map-map (λ (tells : Opened → List X). tells inner) block_tells blocks)) ∙ sym tells)

  section_step : (x : Section-F Block Section) (y : Section-F Block-Known Section-Known) → map-Section Block-Known Section-Known Block Section (λ k. k.0) (λ k. k.0) y ≡ x → SectionTold (roll-Section x)
  section_step x y is = subst (λ (z : Section-F Block Section). SectionTold (roll-Section z)) is (section_told (record { kind = y.kind; name = y.name; style = y.style; protected = y.protected; hidden = y.hidden; source = y.source; blocks = [] }) y.blocks)

  pub block_told : (block : Block) → BlockTold block
  block_told = ind-Block BlockTold SectionTold block_step section_step

  body_told : (body : List Block) (opened : Opened) (more : List Row) → Each IsNote (flat_map notes_of (flat_map block_paragraphs body))
      → told tell opened (rows_of body ++ more) ≡ flat_map (λ block. block_tells block opened) body ++ told tell opened more
  body_told [] opened more each = refl
  body_told (block ∷ body) opened more each =
      let parts : Each IsNote (flat_map notes_of (block_paragraphs block) ++ flat_map notes_of (flat_map block_paragraphs body)) = subst (λ (notes : List Note). Each IsNote notes) (flat_map-append notes_of (block_paragraphs block) (flat_map block_paragraphs body)) each in
      ap (told tell opened) (append_assoc (block_rows block) (rows_of body) more)
      ∙ block_told block opened (rows_of body ++ more) (each_front IsNote (flat_map notes_of (block_paragraphs block)) (flat_map notes_of (flat_map block_paragraphs body)) parts)
      ∙ ap (λ (behind : List X). block_tells block opened ++ behind) (body_told body opened more (each_rest IsNote (flat_map notes_of (block_paragraphs block)) (flat_map notes_of (flat_map block_paragraphs body)) parts))
      ∙ sym (append_assoc (block_tells block opened) (flat_map (λ b. block_tells b opened) body) (told tell opened more))

  -- what blocks tell, by what a paragraph and a section tell
  module _ (tells : Opened → Block → List X)
      (of_par : (par : Par) (opened : Opened) → flat_map (at_par opened) (with_notes par) ≡ tells opened (roll-Block (Block-F.Par par)))
      (of_section : (x : Section-F Block Section) (opened : Opened) → tell opened (row.Start (head_of x)) ++ flat_map (tells (Some (head_of x) ∷ opened)) x.blocks ≡ tells opened (roll-Block (Block-F.Section (roll-Section x)))) where
    abbrev BlockTells : Block → Type 0
    BlockTells block = (opened : Opened) → block_tells block opened ≡ tells opened block

    abbrev SectionTells : Section → Type 0
    SectionTells section = BlockTells (roll-Block (Block-F.Section section))

    each_tells : (ks : List ((block : Block) × BlockTells block)) (opened : Opened) → flat_map (λ block. block_tells block opened) (map (λ k. k.0) ks) ≡ flat_map (tells opened) (map (λ k. k.0) ks)
    each_tells [] opened = refl
    each_tells (k ∷ ks) opened = ap₂ (λ (front behind : List X). front ++ behind) (k.1 opened) (each_tells ks opened)

    section_tells_so : (x : Section-F Block Section) (ks : List ((block : Block) × BlockTells block)) → SectionTells (roll-Section (record x { blocks = map (λ k. k.0) ks }))
    section_tells_so x ks opened =
        let blocks : List Block = map (λ k. k.0) ks in
        let made : Section-F Block Section = record x { blocks = blocks } in
        let inner : Opened = Some (head_of x) ∷ opened in
        ap (λ (f : Opened → List X). f opened) (section_tells_opens made)
        ∙ ap (λ (behind : List X). tell opened (row.Start (head_of x)) ++ behind) (flat_map-map (λ (f : Opened → List X). f inner) block_tells blocks ∙ each_tells ks inner)
        ∙ of_section made opened

    tells_block_step : (x : Block-F Block Section) (y : Block-F ((block : Block) × BlockTells block) ((section : Section) × SectionTells section)) → map-Block ((block : Block) × BlockTells block) ((section : Section) × SectionTells section) Block Section (λ k. k.0) (λ k. k.0) y ≡ x → BlockTells (roll-Block x)
    tells_block_step x (Block-F.Par par) is = subst (λ (z : Block-F Block Section). BlockTells (roll-Block z)) is (λ opened. ap (λ (f : Opened → List X). f opened) (par_tells_opens par) ∙ of_par par opened)
    tells_block_step x (Block-F.Section known) is = subst (λ (z : Block-F Block Section). BlockTells (roll-Block z)) is known.1

    tells_section_step : (x : Section-F Block Section) (y : Section-F ((block : Block) × BlockTells block) ((section : Section) × SectionTells section)) → map-Section ((block : Block) × BlockTells block) ((section : Section) × SectionTells section) Block Section (λ k. k.0) (λ k. k.0) y ≡ x → SectionTells (roll-Section x)
    tells_section_step x y is = subst (λ (z : Section-F Block Section). SectionTells (roll-Section z)) is (section_tells_so (record { kind = y.kind; name = y.name; style = y.style; protected = y.protected; hidden = y.hidden; source = y.source; blocks = [] }) y.blocks)

    block_tells_so : (block : Block) → BlockTells block
    block_tells_so = ind-Block BlockTells SectionTells tells_block_step tells_section_step

    bodies_tell : (body : List Block) (opened : Opened) → flat_map (λ block. block_tells block opened) body ≡ flat_map (tells opened) body
    bodies_tell [] opened = refl
    bodies_tell (block ∷ body) opened = ap₂ (λ (front behind : List X). front ++ behind) (block_tells_so block opened) (bodies_tell body opened)

    -- what is told along the rows of a body is what its blocks tell
    pub rows_tell : (body : List Block) → Each IsNote (flat_map notes_of (flat_map block_paragraphs body)) → told tell [] (rows_of body) ≡ flat_map (tells []) body
    rows_tell body each =
        ap (told tell []) (sym (append-nil (rows_of body))) ∙ body_told body [] [] each ∙ append-nil (flat_map (λ block. block_tells block []) body) ∙ bodies_tell body []
