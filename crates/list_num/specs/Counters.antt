-- The counters of one style.
use Rattle.std.specs.Prelude.{ℕ, ◌+◌, Bool, true, false, if◌then◌else◌, List, [], ◌∷◌, slice_index, slice_get, Option, None, Some}
use Rattle.doc_model.specs.declared.paragraph.ListPos.{ListPos}
use Rattle.doc_model.specs.declared.list_style.ListStyle.{ListStyle}
use Rattle.field_model.specs.Labels.{clears, is_item_of}
use Rattle.list_num.specs.declared.counters.Step.{Step}

-- how many items of a level count, by the counters from level 1 on. No other level has any
abbrev pub count_in : List ℕ → ℕ → ℕ
count_in counters level = slice_index (0 ∷ counters) level

-- a step as a place of a list. Whose places are counted doesn't matter to a counter
abbrev pub place_of : Step → ListPos
place_of step = record { style = []; level = step.level; item = step.item; fresh = step.fresh }

-- how many items of a level count behind one more place: none from before where it clears the level, and itself where it is one
abbrev pub count_behind : ℕ → ListPos → ℕ → ℕ
count_behind level place count = (if clears level place then 0 else count) + (if is_item_of level place then 1 else 0)

-- what stands before a number
abbrev pub separator : Bool → List ℕ
separator true = []
separator false = 46 ∷ []

-- the list style at a place, if there is one
abbrev pub style_at : List ListStyle → Option ℕ → Option ListStyle
style_at lists None = None
style_at lists (Some at) = slice_get lists at
