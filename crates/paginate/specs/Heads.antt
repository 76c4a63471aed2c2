-- The last headings of each level, row by row.
use Rattle.std.specs.Prelude.{ℕ, nat_le, if◌then◌else◌, List, [], ◌∷◌, suc, Option, Some, None, replicate}
use Rattle.std.specs.Option.{option_map_or}
use Rattle.page_model.specs.declared.body.HeadText.{HeadText}
use Rattle.page_model.specs.declared.row.Row.{Row}
use Rattle.page_model.specs.declared.row.Heading.{Heading}
use Rattle.page_model.specs.Bodies.{heading_at}

-- no heading of any of the ten levels
abbrev pub no_heads : List (Option HeadText)
no_heads = replicate 10 None

-- the last headings of levels, of which the first is given, behind these and one more
abbrev pub raised : Heading → ℕ → List (Option HeadText) → List (Option HeadText)
raised heading level [] = []
raised heading level (head ∷ heads) = (if nat_le heading.level level then Some heading.text else head) ∷ raised heading (suc level) heads

-- the last headings behind these and a row
abbrev pub raised_by : List (Option HeadText) → Row → List (Option HeadText)
raised_by heads row = option_map_or (λ heading. raised heading 1 heads) (heading_at row) heads

-- the last headings behind these and some rows
abbrev pub heads_behind : List (Option HeadText) → List Row → List (Option HeadText)
heads_behind heads [] = heads
heads_behind heads (row ∷ rows) = heads_behind (raised_by heads row) rows
