-- A step on a target and its two lists: what is made ready, and what is done.
use Rattle.std.specs.Prelude.{◌≡◌, List, fold}
use Rattle.undo_groups.specs.declared.way.Way.{Way}
use Rattle.undo_groups.specs.Meaning.{Meaning, FitInOrder, inverse}
use Rattle.undo_groups.specs.Lists.{Lists, IsNext, Moves}

-- A step that is ready: its way, the target after it, the primitives that it applies and the group that it keeps.
pub record Prepared (S P : Type 0) : Type 0 where
  pub way : Way
  pub target : S
  pub prims : List P
  pub kept : List P

-- The step was made ready for the target s: it has what its primitives leave of s, and the group kept of them.
pub record WasReadied {S V P : Type 0} (after : S → P → S) (value : S → V) (m : Meaning V P) (s : S) (ready : Prepared S P) : Type 0 where
  pub fits : FitInOrder m (value s) ready.prims
  pub target : ready.target ≡ fold after s ready.prims
  pub kept : ready.kept ≡ inverse m (value s) ready.prims

-- It was made ready for the target s and these lists.
pub record IsReadyFor {S V P : Type 0} (after : S → P → S) (value : S → V) (m : Meaning V P) (s : S) (lists : Lists P) (ready : Prepared S P) : Type 0 where
  pub readied : WasReadied after value m s ready
  pub next : IsNext ready.way ready.prims lists

-- The step applies prims: the target becomes what they leave, and the group kept of them goes into the lists.
pub record Applies {S V P : Type 0} (after : S → P → S) (value : S → V) (m : Meaning V P) (way : Way) (prims : List P) (s s' : S) (old new : Lists P) : Type 0 where
  pub target : s' ≡ fold after s prims
  pub lists : Moves way prims (inverse m (value s) prims) old new
