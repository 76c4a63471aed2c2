-- The first of some rows and the one behind it.
use Rattle.std.specs.Prelude.{ℕ, Bool, true, List, [], ◌∷◌}
use Rattle.page_model.specs.declared.row.Row.{Row}
use Rattle.page_model.specs.Breaking.{must_end_between, blanks_between}

-- whether a page must end behind the first row; the end of the rows is such a place
abbrev pub must_end_first : List Row → Bool
must_end_first [] = true
must_end_first (row ∷ []) = true
must_end_first (row ∷ next ∷ more) = must_end_between row next

-- the blank rows behind the first row
abbrev pub blanks_first : List Row → ℕ
blanks_first [] = 0
blanks_first (row ∷ []) = 0
blanks_first (row ∷ next ∷ more) = blanks_between row next
