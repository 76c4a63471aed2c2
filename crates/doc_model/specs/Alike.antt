-- A change that is made to every paragraph, and what it means that two documents differ in numbers alone.
use Rattle.std.specs.Prelude.{◌≡◌, map}
use Rattle.doc_model.specs.declared.block.Block.{Block, fold-Block, roll-Block}
use Rattle.doc_model.specs.declared.block.Block.TheOpen.{Block-F, Section-F}
use Rattle.doc_model.specs.declared.block.Section.{Section, roll-Section}
use Rattle.doc_model.specs.declared.paragraph.Par.{Par, out-Par, roll-Par}
use Rattle.doc_model.specs.declared.paragraph.Item.{Item, out-Item, roll-Item}
use Rattle.doc_model.specs.declared.paragraph.What.{What, out-What, roll-What}
use Rattle.doc_model.specs.declared.paragraph.What.TheOpen.{What-F}
use Rattle.doc_model.specs.declared.paragraph.Note.{Note, out-Note, roll-Note}
use Rattle.doc_model.specs.declared.document.Document.{Document}

-- the item with a change made to each paragraph of its note, if it is one
abbrev pub in_note : (Par → Par) → Item → Item
in_note change item = roll-Item (record (out-Item item) { what = of_what (out-What (out-Item item).what) }) where
  of_what : What-F What Item Note Par → What
  of_what (What-F.Note note) = roll-What (What-F.Note (roll-Note (record (out-Note note) { pars = map change (out-Note note).pars })))
  of_what other = roll-What other

-- the paragraph with a change made to it and to the paragraphs of its notes
abbrev pub in_paragraph : (Par → Par) → Par → Par
in_paragraph change par = roll-Par (record (out-Par (change par)) { items = map (in_note change) (out-Par (change par)).items })

-- the block with a change made to each of its paragraphs
abbrev pub in_block : (Par → Par) → Block → Block
in_block change = fold-Block Block Section of_block of_section where
  of_block : Block-F Block Section → Block
  of_block (Block-F.Par par) = roll-Block (Block-F.Par (in_paragraph change par))
  of_block (Block-F.Section section) = roll-Block (Block-F.Section section)

  of_section : Section-F Block Section → Section
  of_section section = roll-Section section

-- the document with a change made to each paragraph, those of notes too
abbrev pub in_document : (Par → Par) → Document → Document
in_document change doc = record doc { body = map (in_block change) doc.body }

-- the document with the number 0 for each paragraph
abbrev pub unnumbered : Document → Document
unnumbered doc = in_document (λ par. roll-Par (record (out-Par par) { id = record { 0 = 0 } })) doc

-- two documents are alike where they differ in the numbers of their paragraphs alone
abbrev pub IsAlike : Document → Document → Type 0
IsAlike left right = unnumbered left ≡ unnumbered right
