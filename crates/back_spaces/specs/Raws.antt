-- What is read of the pieces of a paragraph.
use Rattle.std.specs.Prelude.{List, [], ◌∷◌, replicate}
use Rattle.doc_model.specs.declared.paragraph.Par.{Par}
use Rattle.doc_model.specs.declared.paragraph.Item.{Item, out-Item}
use Rattle.doc_model.specs.declared.paragraph.Note.{Note}
use Rattle.doc_model.specs.declared.paragraph.What.{What}
use Rattle.doc_model.specs.declared.paragraph.What.TheOpen.{What-F}
use Rattle.doc_model.specs.Parts.{what_of}
use Rattle.load_model.specs.Content.{Raw, Read, item_in, raw_character}
use Rattle.spelling_model.specs.Spelling.{Piece, As, Spaces}

-- what an item that stands for itself is read as: a character by its rule, and any other as that item
abbrev pub raw_of : Item → Raw
raw_of item = of_what (what_of item) where
  of_what : What-F What Item Note Par → Raw
  of_what (What-F.Char c) = raw_character (out-Item item).spans c
  of_what _ = Read item

-- what a piece is read as
abbrev pub raws_of : Piece → List Raw
raws_of (As item) = raw_of item ∷ []
raws_of (Spaces spans count) = replicate count (Read (item_in spans (What-F.Char 0x20)))
