-- Blocks as they are kept: their list places have at most ten levels.
use Rattle.std.specs.Prelude.{Bool, true, false, List, [], ◌∷◌, map, Option, Some, None}
use Rattle.std.specs.Option.{option_map}
use Rattle.doc_model.specs.Alike.{in_note}
use Rattle.doc_model.specs.declared.block.Block.{Block, fold-Block, roll-Block}
use Rattle.doc_model.specs.declared.block.Block.TheOpen.{Block-F, Section-F}
use Rattle.doc_model.specs.declared.block.Section.{Section, roll-Section}
use Rattle.doc_model.specs.declared.paragraph.Item.{Item}
use Rattle.doc_model.specs.declared.paragraph.Par.{Par, out-Par, roll-Par}
use Rattle.load_model.specs.Blocks.{with_place}
use Rattle.load_model.specs.Content.{Raw, Blank, Read}
use Rattle.load_model.specs.Loaded.{at_most_ten}

-- a paragraph with a list place of at most ten levels
abbrev pub at_ten : Par → Par
at_ten = with_place at_most_ten

-- items with those of their notes' paragraphs; in a note there are no notes
abbrev pub kept_items : Bool → List Item → List Item
kept_items true items = items
kept_items false items = map (in_note at_ten) items

-- a paragraph with its own list place and those in its notes
abbrev pub kept_par : Bool → Par → Par
kept_par is_in_note par = roll-Par (record (out-Par par) { list = option_map at_most_ten (out-Par par).list; items = kept_items is_in_note (out-Par par).items })

-- a block with a change made to each paragraph
abbrev pub with_pars : (Par → Par) → Block-F Block Section → Block
with_pars change (Block-F.Par par) = roll-Block (Block-F.Par (change par))
with_pars change (Block-F.Section section) = roll-Block (Block-F.Section section)

-- a block with the list places of its paragraphs
abbrev pub kept_block : Bool → Block → Block
kept_block is_in_note = fold-Block Block Section (with_pars (kept_par is_in_note)) of_section where
  of_section : Section-F Block Section → Section
  of_section section = roll-Section section

-- what is read in a paragraph, with the list places in its notes
abbrev pub kept_raw : Raw → Raw
kept_raw (Blank spans) = Blank spans
kept_raw (Read item) = Read (in_note at_ten item)

abbrev pub kept_raws : Bool → List Raw → List Raw
kept_raws true raws = raws
kept_raws false raws = map kept_raw raws

-- the first of some things, if there is one
abbrev pub first_of : {X : Type 0} → List X → Option X
first_of [] = None
first_of (x ∷ xs) = Some x
