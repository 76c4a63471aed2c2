-- A run of steps on a target: what each is replied, and what becomes of the target and its groups.
use Rattle.std.specs.Prelude.{◌≡◌, ◌<◌, ◌^◌, List, [], ◌∷◌, length, Result, Ok, Err}
use Rattle.undo_groups.specs.declared.way.Way.{Way}
use Rattle.undo_groups.specs.declared.way.Way.TheVariants as way
use Rattle.undo_groups.specs.declared.playback.Step.{Step}
use Rattle.undo_groups.specs.declared.playback.Step.TheVariants.{Run, Undo, Redo}
use Rattle.undo_groups.specs.declared.playback.Reply.{Reply}
use Rattle.undo_groups.specs.declared.playback.Reply.TheVariants.{Done, Refused, NothingToUndo, NothingToRedo}
use Rattle.undo_groups.specs.Expansion.{expanded}
use Rattle.undo_groups.specs.Lists.{Lists}
use Rattle.undo_groups.specs.Meaning.{Meaning}
use Rattle.undo_groups.specs.Step.{Applies}
use Rattle.undo_groups.specs.Past.{Steps, past_of}

-- A group of a step has fewer operations than a u32 counts.
abbrev pub IsCountable : {O : Type 0} → Step O → Type 0
IsCountable (Run ops) = length ops.items < 2 ^ 32
IsCountable Undo = Unit {0}
IsCountable Redo = Unit {0}

-- A target and its groups.
pub record Scene (S P : Type 0) : Type 0 where
  pub target : S
  pub lists : Lists P

-- A target with no groups.
abbrev pub opening : {S P : Type 0} → S → Scene S P
opening s = record { target = s; lists = record { earlier = []; undone = [] } }

-- A step of this way applies these primitives, and the past that the groups stand for takes such a step.
pub record Goes {S V P : Type 0} (after : S → P → S) (value : S → V) (m : Meaning V P) (way : Way) (prims : List P) (old new : Scene S P) : Type 0 where
  pub applies : Applies after value m way prims old.target new.target old.lists new.lists
  pub past : Steps way (past_of m (value old.target) old.lists) (past_of m (value new.target) new.lists)

module _ {S O P W V : Type 0} (expansion : S → O → Result (List P) W) (after : S → P → S) (value : S → V) (m : Meaning V P) where
  -- A step may be replied so, and leave the target and its groups so.
  abbrev pub Takes : Step O → Reply W → Scene S P → Scene S P → Type 0
  -- a group none of whose operations is refused is run
  Takes (Run ops) Done old new = (prims : List P) × (expanded expansion after old.target ops.items ≡ Ok prims) × Goes after value m way.Run prims old new
  -- else its first refusal is replied, and nothing changes
  Takes (Run ops) (Refused index why) old new = (expanded expansion after old.target ops.items ≡ Err (record { index = index; why = why })) × (new ≡ old)
  -- undo applies the last earlier group, redo the last undone one, and they are refused where there is none
  Takes Undo Done old new = (prims : List P) × Goes after value m way.Undo prims old new
  Takes Undo NothingToUndo old new = (old.lists.earlier ≡ []) × (new ≡ old)
  Takes Redo Done old new = (prims : List P) × Goes after value m way.Redo prims old new
  Takes Redo NothingToRedo old new = (old.lists.undone ≡ []) × (new ≡ old)
  -- no other reply is given
  Takes (Run ops) NothingToUndo old new = ⊥
  Takes (Run ops) NothingToRedo old new = ⊥
  Takes Undo (Refused index why) old new = ⊥
  Takes Undo NothingToRedo old new = ⊥
  Takes Redo (Refused index why) old new = ⊥
  Takes Redo NothingToUndo old new = ⊥

  -- The steps may be replied so one after another, and lead from the old target and groups to the new.
  abbrev pub Plays : List (Step O) → List (Reply W) → Scene S P → Scene S P → Type 0
  Plays [] [] old new = new ≡ old
  Plays (step ∷ steps) (reply ∷ replies) old new = (next : Scene S P) × Takes step reply old next × Plays steps replies next new
  Plays [] (reply ∷ replies) old new = ⊥
  Plays (step ∷ steps) [] old new = ⊥
