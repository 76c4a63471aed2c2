-- The first of each name.
use Rattle.std.specs.Prelude.{◌≡◌, ℕ, List, map, filter_map, chars, Option, Some, None}
use Rattle.std.specs.List.{list_any}
use Rattle.std.specs.Str.{bytes_eq, IsUtf8}
use Rattle.load_model.specs.Met.{Met, MetName, Section, Note, Reference, first_of_each_name}
use Rattle.kept_names.specs.declared.firsts.Kind.{Kind}
use Rattle.kept_names.specs.declared.firsts.Kind.TheVariants as kind
use Rattle.kept_names.specs.declared.firsts.Firsts.{Firsts}
use Rattle.kept_names.specs.Places.{AreSame}

-- what is met with its name, if it is of a kind
abbrev pub name_met : Kind → Met → Option MetName
name_met kind.Sections (Section section) = Some (record { place = section.place; name = section.name })
name_met kind.Notes (Note note) = Some note
name_met kind.References (Reference field) = Some field
name_met _ _ = None

-- the things of a kind
abbrev pub named : Kind → List Met → List MetName
named kind met = filter_map (name_met kind) met

-- the places of the first ones of some things
abbrev pub first_places : List MetName → List ℕ
first_places names = map (λ one. one.place) (first_of_each_name names)

-- the places of the first ones of a kind
abbrev pub first_places_met : Kind → List Met → List ℕ
first_places_met kind met = first_places (named kind met)

-- the names of some things are known, and the places of the first ones
pub record Holds (firsts : Firsts) (before : List MetName) : Type 0 where
  pub names : (text : List ℕ) → IsUtf8 text → list_any (λ name. bytes_eq text name.now) firsts.names.keys ≡ list_any (λ one. bytes_eq one.name (chars text)) before
  pub places : AreSame firsts.places (first_places before)
