-- Where sections stand in one another.
use Rattle.std.specs.Prelude.{◌≡◌, ◌≢◌, ◌⊎◌, List, [], ◌∷◌, ◌++◌, Any, AllPairs}
use Rattle.load_model.specs.Met.{Met, MetSection, sections_met}

-- no two sections stand at one place
abbrev pub AreApart : List MetSection → Type 0
AreApart sections = AllPairs (λ section other. section.place ≢ other.place) sections

-- around a section there is none, or there are those around one that stands before it, and that one
abbrev pub StandsIn : List MetSection → MetSection → Type 0
StandsIn before section = (section.around ≡ []) ⊎ Any (λ outer. section.around ≡ outer.around ++ outer.place ∷ []) before

-- no two sections stand at one place, and around each there is none, or there are those around one that stands before it, and that one
pub record AreNested (sections : List MetSection) : Type 0 where
  pub apart : AreApart sections
  pub inside : (before : List MetSection) (section : MetSection) (behind : List MetSection) → sections ≡ before ++ section ∷ behind → StandsIn before section

-- the sections that are met are nested
abbrev pub IsNested : List Met → Type 0
IsNested met = AreNested (sections_met met)
