-- What a list of operations comes to: its primitives, or the first refusal.
use Rattle.std.specs.Prelude.{ℕ, ◌+◌, ◌≡◌, List, [], ◌∷◌, ◌++◌, fold, Result, Ok, Err, IsOk}
use Rattle.undo_groups.specs.declared.fault.ExpandFault.{ExpandFault}
use Rattle.undo_groups.specs.declared.fault.ExpandFault.TheVariants as expand
use Rattle.undo_groups.specs.declared.fault.GroupFault.{GroupFault}
use Rattle.undo_groups.specs.declared.fault.GroupFault.TheVariants as group
use Rattle.std.specs.Global.{Vec}

-- The refusal of an operation, with its place in the list from 0.
pub record Refusal (W : Type 0) : Type 0 where
  pub index : ℕ
  pub why : W

-- What a whole list comes to, where its first n operations come to ps and the others to rest.
abbrev pub continued : {P W : Type 0} → ℕ → List P → Result (List P) (Refusal W) → Result (List P) (Refusal W)
continued n ps (Ok more) = Ok (ps ++ more)
continued n ps (Err refusal) = Err (record { index = n + refusal.index; why = refusal.why })

-- What a list comes to, where its first operation expands to the first answer, and the others to rest of its primitives.
abbrev pub begun : {P W : Type 0} → Result (List P) W → (List P → Result (List P) (Refusal W)) → Result (List P) (Refusal W)
begun (Ok ps) rest = continued 1 ps (rest ps)
begun (Err why) rest = Err (record { index = 0; why = why })

-- The primitives of the operations, each expanded against the target that the earlier ones leave; or the
-- first operation that is refused there.
abbrev pub expanded : {S O P W : Type 0} → (S → O → Result (List P) W) → (S → P → S) → S → List O → Result (List P) (Refusal W)
expanded expansion after s [] = Ok []
expanded expansion after s (op ∷ ops) = begun (expansion s op) (λ ps. expanded expansion after (fold after s ps) ops)

-- What a target answers for an operation whose meaning is this; want of memory says nothing.
abbrev pub Expands : {P W : Type 0} → Result (List P) W → Result (Vec P) (ExpandFault W) → Type 0
Expands meant (Ok prims) = meant ≡ Ok prims.items
Expands meant (Err (expand.Refused why)) = meant ≡ Err why
Expands meant (Err expand.NoMemory) = Unit {0}

-- What a call on operations answers that come to this: it is done where none is refused, and else refused with
-- the first refusal; want of memory says nothing.
abbrev pub AnswersGroup : {A P W : Type 0} → Result (List P) (Refusal W) → Result A (GroupFault W) → Type 0
AnswersGroup meant (Ok done) = IsOk meant
AnswersGroup meant (Err (group.Refused index why)) = meant ≡ Err (record { index = index; why = why })
AnswersGroup meant (Err group.NoMemory) = Unit {0}
