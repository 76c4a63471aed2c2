-- What lists of commands keep.
use Rattle.std.proofs.Common.{◌≡◌, ℕ, ◌≤◌, true, false, List, [], ◌∷◌, ap, sym, ◌∙◌, arith}
use Rattle.doc_model.specs.declared.document.Document.{Document}
use Rattle.edit_model.specs.Past.{Past}
use Rattle.spelling_model.specs.Spelling.{canonical}
use Rattle.desk_model.specs.declared.command.Command.{Command}
use Rattle.desk_model.specs.declared.reply.Reply.{Reply}
use Rattle.desk_model.specs.declared.reply.Reply.TheVariants as reply
use Rattle.round_model.specs.Stops.{paragraph_count, full_debt}
use Rattle.desk_model.specs.Desk.{State, present, start_at, step}
use Rattle.desk_laws.specs.Steps.{reply_to, after, after_all, ShowSame}
use Rattle.desk_laws.specs.Changes.{is_change, HasNoChange}
use Rattle.desk_laws.proofs.Kept.{IsKept, IsKept-same}
use Rattle.desk_laws.proofs.StepCases.{StepCase, step_case}

-- a change is answered as one
no_clash : (old : State) (command : Command) (version : ℕ) (new : State) → step old command ≡ (reply.Changed version, new) → is_change (reply_to old command) ≡ false → ⊥
no_clash old command version new e told = let clash : true ≡ false = sym (ap (λ (t : Reply × State). is_change t.0) e) ∙ told in cc

pub IsKept-other : (old : State) (command : Command) → is_change (reply_to old command) ≡ false → IsKept old (after old command)
IsKept-other old command told = elim (step_case old command) [ StepCase.Stays other kept same turn ↦ kept | StepCase.Changes past next more e ↦ absurd (no_clash old command _ _ e told) ]

IsKept-then : (one two three : State) → IsKept one two → IsKept two three → IsKept one three
IsKept-then one two three first second = record {
  past = second.past ∙ first.past;
  next = second.next ∙ first.next;
  version = second.version ∙ first.version;
  epoch = second.epoch ∙ first.epoch;
  debt = omega (arith, first.debt, second.debt);
  revisions = λ number. second.revisions number ∙ first.revisions number;
  each = λ bound each. second.each bound (first.each bound each);
}

pub IsKept-all : (state : State) (commands : List Command) → HasNoChange state commands → IsKept state (after_all state commands)
IsKept-all state [] told = IsKept-same state
IsKept-all state (command ∷ more) told = IsKept-then state (after state command) (after_all (after state command) more) (IsKept-other state command told.0) (IsKept-all (after state command) more told.1)

pub ShowSame-past : (state other : State) → other.past ≡ state.past → ShowSame state other
ShowSame-past state other e = record { document = ap (λ (past : Past). past.present) e; bytes = ap (λ (past : Past). reply.Saved (canonical past.present)) e }

next-step : (old : State) (command : Command) → old.next ≤ (after old command).next
next-step old command = elim (step_case old command) [ StepCase.Stays other kept same turn ↦ omega (arith, kept.next) | StepCase.Changes past next more e ↦ omega (arith, more, ap (λ (t : Reply × State). t.1.next) e) ]

pub next-all : (state : State) (commands : List Command) → state.next ≤ (after_all state commands).next
next-all state [] = omega arith
next-all state (command ∷ more) = omega (arith, next-step state command, next-all (after state command) more)

-- the debt is at most the full one
abbrev pub OwesAtMost : State → Type 0
OwesAtMost state = state.idle.debt ≤ full_debt (paragraph_count (present state))

OwesAtMost-step : (old : State) (command : Command) → OwesAtMost old → OwesAtMost (after old command)
OwesAtMost-step old command owed = elim (step_case old command) [
  | StepCase.Stays other kept same turn ↦ omega (arith, owed, kept.debt, ap (λ (past : Past). full_debt (paragraph_count past.present)) kept.past)
  | StepCase.Changes past next more e ↦ omega (arith, ap (λ (t : Reply × State). t.1.idle.debt) e, ap (λ (t : Reply × State). full_debt (paragraph_count (present t.1))) e)
]

pub OwesAtMost-all : (state : State) (commands : List Command) → OwesAtMost state → OwesAtMost (after_all state commands)
OwesAtMost-all state [] owed = owed
OwesAtMost-all state (command ∷ more) owed = OwesAtMost-all (after state command) more (OwesAtMost-step state command owed)

pub OwesAtMost-reached : (doc : Document) (version : ℕ) (commands : List Command) → OwesAtMost (after_all (start_at doc version) commands)
OwesAtMost-reached doc version commands = OwesAtMost-all (start_at doc version) commands (omega arith)
