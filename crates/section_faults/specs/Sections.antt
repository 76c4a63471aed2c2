-- Sections among what is met.
use Rattle.std.specs.Prelude.{ℕ, if◌then◌else◌, List, filter_map, Option, Some, None, option_to_list}
use Rattle.load_model.specs.Met.{Met, MetSection, Section, is_at}
use Rattle.met_read.specs.Read.{last}

-- a section with the innermost of those around it alone
abbrev pub outline : MetSection → MetSection
outline section = record section { around = option_to_list (last section.around) }

-- the section that is met, if it is one
abbrev pub section_in : Met → Option MetSection
section_in (Section section) = Some section
section_in _ = None

-- the place of the section that is met, if it is one of these places
abbrev pub kept_place : List ℕ → Met → Option ℕ
kept_place kept (Section section) = if is_at kept section.place then Some section.place else None
kept_place kept _ = None

-- the places of sections that are among these, in the order in which they are met
abbrev pub kept_places : List ℕ → List Met → List ℕ
kept_places kept met = filter_map (kept_place kept) met
