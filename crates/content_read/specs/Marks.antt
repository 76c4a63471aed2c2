-- Marks by what they are.
use Rattle.std.specs.Prelude.{ℕ, List}
use Rattle.doc_model.specs.declared.paragraph.Mark.{Mark}
use Rattle.doc_model.specs.declared.paragraph.Mark.TheVariants.{Point, Start, End}
use Rattle.met_read.specs.declared.things.MarkKind.{MarkKind}
use Rattle.met_read.specs.declared.things.MarkKind.TheVariants as kind

-- a mark of the bookmark of a name
abbrev pub mark_of : MarkKind → List ℕ → Mark
mark_of kind.Whole name = Point name
mark_of kind.Start name = Start name
mark_of kind.End name = End name
