-- Lists by name, as contracts see them.
use Rattle.std.specs.Prelude.{ℕ, Bool, true, false, List, [], Option, Some, None, Vec}
use Rattle.std.specs.Str.{bytes_eq}
use Rattle.indexmap.specs.IndexMap.{IndexMap, get}
use Rattle.field_model.specs.declared.gathered.Piece.{Piece}
use Rattle.field_walk.specs.declared.groups.Groups.{Groups}
use Rattle.field_walk.specs.declared.groups.Texts.{Texts}
use Rattle.field_walk.specs.declared.runs.Runs.{Runs}

-- the list of a name in a map: the empty one where there is none
abbrev pub list_at : {T Z S : Type 0} → IndexMap (List ℕ) (Vec T Z) S → List ℕ → List T
list_at lists name = items_of (get bytes_eq lists name) where
  items_of : {T Z : Type 0} → Option (Vec T Z) → List T
  items_of None = []
  items_of (Some list) = list.items

-- the list of a name
abbrev pub list_of : {T : Type 0} → Groups T → List ℕ → List T
list_of groups name = list_at groups.lists name

-- the list of a name in the body, or in all notes
abbrev pub list_in : {T : Type 0} → Texts T → Bool → List ℕ → List T
list_in texts false name = list_of texts.body name
list_in texts true name = list_of texts.notes name

-- the pieces of the body, or of all notes
abbrev pub run_in : Runs → Bool → List Piece
run_in runs false = runs.body.items
run_in runs true = runs.notes.items
