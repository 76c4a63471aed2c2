-- The two lists of groups of primitives, and what a step does to them.
use Rattle.std.specs.Prelude.{◌≡◌, ℕ, ◌+◌, ◌-◌, ◌≤◌, List, [], ◌∷◌, ◌++◌, drop, length}
use Rattle.undo_groups.specs.declared.way.Way.{Way}
use Rattle.undo_groups.specs.declared.way.Way.TheVariants.{Run, Undo, Redo}
use Rattle.undo_groups.specs.declared.way.TheConstants.{MOST_GROUPS}

-- The groups that lead back to the earlier values, and those that lead on to the undone ones. In both
-- lists the oldest group stands first, and the one that is applied next stands last.
pub record Lists (P : Type 0) : Type 0 where
  pub earlier : List (List P)
  pub undone : List (List P)

-- The last n of a list, or all where there are no more.
abbrev pub newest : {A : Type 0} → ℕ → List A → List A
newest n xs = drop (length xs - n) xs

-- The group that a step applies is the one that stands last in its list; a run may apply any.
abbrev pub IsNext : {P : Type 0} → Way → List P → Lists P → Type 0
IsNext Run prims lists = Unit {0}
IsNext Undo prims lists = (rest : List (List _)) × (lists.earlier ≡ rest ++ prims ∷ [])
IsNext Redo prims lists = (rest : List (List _)) × (lists.undone ≡ rest ++ prims ∷ [])

-- What a step that applies prims and keeps the group kept makes of the lists.
abbrev pub Moves : {P : Type 0} → Way → List P → List P → Lists P → Lists P → Type 0
-- a run appends the kept group, drops the oldest of 257, and empties the undone list
Moves Run prims kept old new = (new.earlier ≡ newest MOST_GROUPS (old.earlier ++ kept ∷ [])) × (new.undone ≡ [])
-- an undo takes the last earlier group, and appends the kept one to the undone list
Moves Undo prims kept old new = (old.earlier ≡ new.earlier ++ prims ∷ []) × (new.undone ≡ old.undone ++ kept ∷ [])
-- a redo is the converse
Moves Redo prims kept old new = (old.undone ≡ new.undone ++ prims ∷ []) × (new.earlier ≡ old.earlier ++ kept ∷ [])

-- The two lists together have no more than the most groups.
abbrev pub IsFew : {P : Type 0} → Lists P → Type 0
IsFew lists = length lists.earlier + length lists.undone ≤ MOST_GROUPS

-- Both lists have room for the most groups, and no more than so many stand in the two together.
pub record HasRoom (count room_earlier room_undone : ℕ) : Type 0 where
  pub few : count ≤ MOST_GROUPS
  pub earlier : MOST_GROUPS ≤ room_earlier
  pub undone : MOST_GROUPS ≤ room_undone
