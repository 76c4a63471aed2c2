-- What is met and kept.
use Rattle.std.specs.Prelude.{◌≡◌, true}
use Rattle.load_model.specs.Met.{Kept, Met, Section, Mark, Note, Reference, is_at}

-- what is met is kept where it has a name of its own
abbrev pub IsKept : Kept → Met → Type 0
IsKept kept (Section section) = is_at kept.sections section.place ≡ true
IsKept kept (Mark mark) = is_at kept.marks mark.place ≡ true
IsKept kept (Note note) = is_at kept.notes note.place ≡ true
IsKept kept (Reference field) = is_at kept.references field.place ≡ true
IsKept kept _ = Unit {0}
