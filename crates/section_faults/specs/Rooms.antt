-- How many more sections can stand in a section.
use Rattle.std.specs.Prelude.{◌≡◌, ℕ, ◌-◌, ◌&&◌, nat_le, Bool, List, [], ◌∷◌, ◌++◌, map, filter, length, All, Option, Some, unwrap_or}
use Rattle.std.specs.Option.{option_map_or}
use Rattle.doc_model.specs.Limits.{limit_number}
use Rattle.doc_model.specs.declared.refusal.Limit.TheVariants as limit
use Rattle.load_model.specs.Met.{MetSection, is_at}
use Rattle.section_faults.specs.Nested.{AreNested}

-- how many sections may stand in one another
abbrev pub depth : ℕ
depth = limit_number limit.SectionDepth

-- how many of some places are kept
abbrev pub kept_among : List ℕ → List ℕ → ℕ
kept_among kept places = length (filter (is_at kept) places)

-- how many more kept sections can stand where these are around
abbrev pub room_within : List ℕ → List ℕ → ℕ
room_within kept around = depth - kept_among kept around

-- how many more can stand in a section
abbrev pub room_in : List ℕ → MetSection → ℕ
room_in kept section = room_within kept (section.around ++ section.place ∷ [])

-- the room that is known of the innermost section around one
abbrev pub room_at : (ℕ → Option ℕ) → Option ℕ → ℕ
room_at rooms within = option_map_or (λ place. unwrap_or (rooms place) depth) within depth

-- whether a section is kept and stands in too many others
abbrev pub is_deep : List ℕ → MetSection → Bool
is_deep kept section = is_at kept section.place && nat_le depth (kept_among kept section.around)

-- the room in each section is known, and the places of those that stand in too many others are told
pub record Holds (kept : List ℕ) (rooms : ℕ → Option ℕ) (places : List ℕ) (sections : List MetSection) : Type 0 where
  pub rooms_are : All (λ section. rooms section.place ≡ Some (room_in kept section)) sections
  pub places_are : places ≡ map (λ section. section.place) (filter (is_deep kept) sections)

-- the same, if the sections are nested
abbrev pub Follows : List ℕ → (ℕ → Option ℕ) → List ℕ → List MetSection → Type 0
Follows kept rooms places sections = AreNested sections → Holds kept rooms places sections
