-- What is read of a text, without the places of its elements.
use Rattle.std.specs.Prelude.{Bool, true, false, List, map}
use Rattle.doc_model.specs.Alike.{in_note, in_paragraph}
use Rattle.doc_model.specs.declared.block.Block.{Block, fold-Block, roll-Block}
use Rattle.doc_model.specs.declared.block.Block.TheOpen.{Block-F, Section-F}
use Rattle.doc_model.specs.declared.block.Section.{Section, roll-Section}
use Rattle.doc_model.specs.declared.paragraph.Par.{Par, out-Par, roll-Par}
use Rattle.load_model.specs.Blocks.{Declared, ReadBlocks, ReadContent, ReadDeclarations}
use Rattle.load_model.specs.Content.{Raw, Blank, Read}

-- the paragraph with the number 0
abbrev pub unnumbered_par : Par → Par
unnumbered_par par = roll-Par (record (out-Par par) { id = record { 0 = 0 } })

-- in the body with the paragraphs of its notes: in a note stands none
abbrev pub bare_par : Bool → Par → Par
bare_par true par = unnumbered_par par
bare_par false par = in_paragraph unnumbered_par par

-- what is read in a paragraph, with the number 0 for each paragraph of a note
abbrev pub bare_raw : Raw → Raw
bare_raw (Blank spans) = Blank spans
bare_raw (Read item) = Read (in_note unnumbered_par item)

abbrev pub bare_raws : Bool → List Raw → List Raw
bare_raws true raws = raws
bare_raws false raws = map bare_raw raws

abbrev pub bare_content : Bool → ReadContent → ReadContent
bare_content within content = record content { raws = bare_raws within content.raws }

-- a block with a change made to each paragraph that is a block
abbrev pub at_paragraphs : (Par → Par) → Block → Block
at_paragraphs change = fold-Block Block Section of_block of_section where
  of_block : Block-F Block Section → Block
  of_block (Block-F.Par par) = roll-Block (Block-F.Par (change par))
  of_block (Block-F.Section section) = roll-Block (Block-F.Section section)

  of_section : Section-F Block Section → Section
  of_section section = roll-Section section

-- a declaration with the place 0, and several of them
abbrev pub bare_declared : Declared → Declared
bare_declared declared = record declared { place = 0 }

abbrev pub bare_declarations : ReadDeclarations → ReadDeclarations
bare_declarations part = record part { declared = map bare_declared part.declared }

-- what is read where blocks are, in a note or not: each paragraph has the number 0, and each declaration the place 0
abbrev pub bare_blocks : Bool → ReadBlocks → ReadBlocks
bare_blocks within read = record read { blocks = map (at_paragraphs (bare_par within)) read.blocks; declarations = map bare_declarations read.declarations }
