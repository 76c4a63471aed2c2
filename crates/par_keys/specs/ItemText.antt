-- The text that an item shows.
use Rattle.std.specs.Prelude.{ℕ, List, [], ◌∷◌}
use Rattle.doc_model.specs.declared.paragraph.Par.{Par}
use Rattle.doc_model.specs.declared.paragraph.Item.{Item}
use Rattle.doc_model.specs.declared.paragraph.What.{What}
use Rattle.doc_model.specs.declared.paragraph.What.TheOpen.{What-F}
use Rattle.doc_model.specs.declared.paragraph.Note.{Note}
use Rattle.doc_model.specs.Parts.{what_of}

-- the characters of an item: its own, U+9 for a tab and U+A for a break, and none for others
abbrev pub text_of_item : Item → List ℕ
text_of_item item = of_what (what_of item) where
  of_what : What-F What Item Note Par → List ℕ
  of_what (What-F.Char c) = c ∷ []
  of_what What-F.Tab = 0x9 ∷ []
  of_what What-F.Break = 0xa ∷ []
  of_what _ = []
