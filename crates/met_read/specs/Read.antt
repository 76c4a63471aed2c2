-- What is met, as it is kept: a section has the innermost of those around it.
use Rattle.std.specs.Prelude.{List, [], ◌∷◌, chars, Option, Some, None, option_to_list}
use Rattle.load_model.specs.Met as met
use Rattle.load_model.specs.Met.{MetName as Named, MetMark as Marked, MetSection as Sectioned, MarkKind as Kind}
use Rattle.met_read.specs.declared.things.MarkKind.{MarkKind}
use Rattle.met_read.specs.declared.things.MarkKind.TheVariants as kind
use Rattle.met_read.specs.declared.things.MetName.{MetName}
use Rattle.met_read.specs.declared.things.MetMark.{MetMark}
use Rattle.met_read.specs.declared.things.MetSection.{MetSection}
use Rattle.met_read.specs.declared.things.Met.{Met}
use Rattle.met_read.specs.declared.things.Met.TheVariants as read

-- the last of a list, if there is one
abbrev pub last : {X : Type 0} → List X → Option X
last [] = None
last (x ∷ []) = Some x
last (x ∷ y ∷ ys) = last (y ∷ ys)

-- of the sections around one the innermost alone
abbrev pub outlined : met.Met → met.Met
outlined (met.Section section) = met.Section (record section { around = option_to_list (last section.around) })
outlined other = other

-- a kind of mark
abbrev pub kind_of : MarkKind → Kind
kind_of kind.Whole = met.Whole
kind_of kind.Start = met.Start
kind_of kind.End = met.End

-- a thing with a name
abbrev pub name_of : MetName → Named
name_of one = record { place = one.place; name = chars one.name.now }

-- a mark
abbrev pub mark_of : MetMark → Marked
mark_of mark = record { place = mark.place; text = mark.text; kind = kind_of mark.kind; name = chars mark.name.now }

-- a section
abbrev pub section_of : MetSection → Sectioned
section_of section = record { place = section.place; name = chars section.name.now; around = option_to_list section.within }

-- what is met
abbrev pub met_of : Met → met.Met
met_of (read.Section section) = met.Section (section_of section)
met_of (read.Mark mark) = met.Mark (mark_of mark)
met_of (read.Note note) = met.Note (name_of note)
met_of (read.Reference field) = met.Reference (name_of field)
met_of (read.Sequence field) = met.Sequence (name_of field)
met_of (read.Variable field) = met.Variable (name_of field)
met_of (read.Table place) = met.Table place
