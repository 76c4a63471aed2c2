-- Which items are marks.
use Rattle.std.specs.Prelude.{Bool, true, false}
use Rattle.doc_model.specs.declared.paragraph.Item.{Item}
use Rattle.doc_model.specs.declared.paragraph.Par.{Par}
use Rattle.doc_model.specs.declared.paragraph.Note.{Note}
use Rattle.doc_model.specs.declared.paragraph.What.{What, out-What}
use Rattle.doc_model.specs.declared.paragraph.What.TheOpen.{What-F}

-- whether what an item is is a mark
abbrev pub is_mark_what : What → Bool
is_mark_what what = of_what (out-What what) where
  of_what : What-F What Item Note Par → Bool
  of_what (What-F.Mark mark) = true
  of_what _ = false
