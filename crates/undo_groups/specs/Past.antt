-- The past of a target: its present value, the earlier ones and the undone ones; and the past that two lists
-- of groups stand for.
use Rattle.std.specs.Prelude.{◌≡◌, ℕ, List, [], ◌∷◌, ◌++◌, fold}
use Rattle.std.proofs.Common.{zero, suc}
use Rattle.undo_groups.specs.declared.way.Way.{Way}
use Rattle.undo_groups.specs.declared.way.Way.TheVariants.{Run, Undo, Redo}
use Rattle.undo_groups.specs.declared.way.TheConstants.{MOST_GROUPS}
use Rattle.undo_groups.specs.Meaning.{Meaning, FitInOrder}
use Rattle.undo_groups.specs.Lists.{Lists, newest}

-- A present value, the values before it, and the undone ones. In both lists the oldest stands first, and the
-- one that undo or redo makes present next stands last.
pub record Past (V : Type 0) : Type 0 where
  pub present : V
  pub earlier : List V
  pub undone : List V

-- Undo makes the last earlier value the present one, and puts the present one on the undone ones.
pub record Undoes {V : Type 0} (old new : Past V) : Type 0 where
  pub earlier : old.earlier ≡ new.earlier ++ new.present ∷ []
  pub undone : new.undone ≡ old.undone ++ old.present ∷ []

-- A run of a group appends the present value to the earlier ones, drops the oldest of 257, and empties the undone ones.
pub record Follows {V : Type 0} (old new : Past V) : Type 0 where
  pub earlier : new.earlier ≡ newest MOST_GROUPS (old.earlier ++ old.present ∷ [])
  pub undone : new.undone ≡ []

-- The past after a step: redo is the converse of undo.
abbrev pub Steps : {V : Type 0} → Way → Past V → Past V → Type 0
Steps Run old new = Follows old new
Steps Undo old new = Undoes old new
Steps Redo old new = Undoes new old

-- The value that groups lead to from v, the last of them applied first.
abbrev pub value_behind : {V P : Type 0} → Meaning V P → V → List (List P) → V
value_behind m v [] = v
value_behind m v (group ∷ later) = fold m.changed (value_behind m v later) group

-- The values that groups give one after another from v; that of the group applied last stands first.
abbrev pub values_behind : {V P : Type 0} → Meaning V P → V → List (List P) → List V
values_behind m v [] = []
values_behind m v (group ∷ later) = value_behind m v (group ∷ later) ∷ values_behind m v later

-- The groups, applied from v one after another, the last one first, fit.
abbrev pub FitFromLast : {V P : Type 0} → Meaning V P → V → List (List P) → Type 0
FitFromLast m v [] = Unit {0}
FitFromLast m v (group ∷ later) = FitInOrder m (value_behind m v later) group × FitFromLast m v later

-- The lists are of a target with value v: each of the two, applied from v as undo and as redo would, fits.
pub record AreOf {V P : Type 0} (m : Meaning V P) (v : V) (lists : Lists P) : Type 0 where
  pub earlier : FitFromLast m v lists.earlier
  pub undone : FitFromLast m v lists.undone

-- The past that the lists stand for at a target with value v.
abbrev pub past_of : {V P : Type 0} → Meaning V P → V → Lists P → Past V
past_of m v lists = record { present = v; earlier = values_behind m v lists.earlier; undone = values_behind m v lists.undone }

-- A step taken n times.
abbrev pub Repeated : {V : Type 0} → ℕ → (Past V → Past V → Type 0) → Past V → Past V → Type 0
Repeated zero step old new = new ≡ old
Repeated {V} (suc n) step old new = (next : Past V) × step old next × Repeated n step next new
