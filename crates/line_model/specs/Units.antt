-- The units of a text: its extended grapheme clusters in order.
use Rattle.std.specs.Prelude.{ℕ, ◌+◌, ◌||◌, Bool, false, true, if◌then◌else◌, List, [], ◌∷◌, length, chars, codes}
use Rattle.std.specs.Str.{bytes_eq}
use Rattle.unicode_segmentation.specs.Grapheme.{graphemes}
use Rattle.unicode_width.specs.Width.{str_width}
use Rattle.line_model.specs.declared.unit.TextUnit.{TextUnit}
use Rattle.line_model.specs.declared.unit.UnitClass.{UnitClass}
use Rattle.line_model.specs.declared.unit.UnitClass.TheVariants.{Space, Hyphen, Other}

-- the class of a cluster: a space is U+20 or U+9 alone, a hyphen is `-` alone
abbrev pub class_of : List ℕ → UnitClass
class_of cluster = if bytes_eq cluster (codes " ") || bytes_eq cluster (codes "\t") then Space else if bytes_eq cluster (codes "-") then Hyphen else Other

-- the unit that a cluster is at a place
abbrev pub unit_at : ℕ → List ℕ → TextUnit
unit_at from cluster = record { from = from; to = from + length cluster; columns = str_width false (chars cluster); class = class_of cluster }

-- the units of clusters that follow one another from a place on
abbrev pub units_from : ℕ → List (List ℕ) → List TextUnit
units_from from [] = []
units_from from (cluster ∷ clusters) = unit_at from cluster ∷ units_from (from + length cluster) clusters

-- the units of a text, whose first byte is at this place
abbrev pub units_at : ℕ → List ℕ → List TextUnit
units_at from text = units_from from (graphemes true text)

-- whether a unit is a space
abbrev pub is_space : TextUnit → Bool
is_space unit = of_class unit.class where
  of_class : UnitClass → Bool
  of_class Space = true
  of_class _ = false

-- whether a line may end behind a unit that another one than a space follows
abbrev pub ends_word : TextUnit → Bool
ends_word unit = of_class unit.class where
  of_class : UnitClass → Bool
  of_class Other = false
  of_class _ = true
