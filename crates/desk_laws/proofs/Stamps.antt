-- Stamps are past in every state that is reached.
use Rattle.std.proofs.Common.{ℕ, ◌+◌, ◌≤◌, Bool, List, [], ◌∷◌, ap, sym, subst, arith}
use Rattle.std.specs.Prelude.{map}
use Rattle.std.specs.List.{AllByRecursion as Each}
use Rattle.std.proofs.lemmas.Bool.{cond_both}
use Rattle.doc_model.specs.declared.document.Document.{Document}
use Rattle.doc_model.specs.declared.paragraph.Par.{Par}
use Rattle.edit_model.specs.Past.{Past}
use Rattle.doc_model.specs.Reading.{paragraphs, number_of}
use Rattle.desk_model.specs.declared.command.Command.{Command}
use Rattle.desk_model.specs.declared.reply.Reply.{Reply}
use Rattle.round_model.specs.Idle.{Live, restarted}
use Rattle.desk_model.specs.Desk.{State, start_at}
use Rattle.desk_laws.specs.Steps.{after, after_all}
use Rattle.desk_laws.specs.Changes.{touched_at, is_restyling_at}
use Rattle.desk_laws.specs.Promises.{AreStampsPast}
use Rattle.desk_laws.proofs.Kept.{IsKept}
use Rattle.desk_laws.proofs.StepCases.{StepCase, step_case}
use Rattle.round_model.proofs.LiveLemmas.{Each-live_after}

Each-more : (bound more : ℕ) → bound ≤ more → (lives : List Live) → Each (λ live. live.revision ≤ bound) lives → Each (λ live. live.revision ≤ more) lives
Each-more bound more h [] each = tt
Each-more bound more h (live ∷ lives) each = (omega (arith, each.0), Each-more bound more h lives each.1)

of_kept : (old new : State) → IsKept old new → AreStampsPast old → AreStampsPast new
of_kept old new kept past = record {
  epoch = omega (arith, kept.epoch, kept.version, past.epoch);
  revisions = kept.each new.version (Each-more old.version new.version (omega (arith, kept.version)) old.idle.live past.revisions);
}

of_change : (old : State) (past : Past) (next : ℕ) (touched : List ℕ) (restyling : Bool) → AreStampsPast old
    → AreStampsPast (record { past = past; next = next; version = old.version + 1; idle = restarted old.idle past.present touched restyling (old.version + 1) })
of_change old past next touched restyling stamps = record {
  epoch = cond_both restyling (old.version + 1) old.idle.epoch (λ (epoch : ℕ). epoch ≤ old.version + 1) (λ b. omega arith) (λ b. omega (arith, stamps.epoch));
  revisions = Each-live_after old.idle.live past.present touched (old.version + 1) (old.version + 1) (omega arith)
      (Each-more old.version (old.version + 1) (omega arith) old.idle.live stamps.revisions);
}

pub AreStampsPast-step : (old : State) (command : Command) → AreStampsPast old → AreStampsPast (after old command)
AreStampsPast-step old command stamps = elim (step_case old command) [
  | StepCase.Stays other kept same turn ↦ of_kept old (after old command) kept stamps
  | StepCase.Changes past next more e ↦ subst (λ (new : State). AreStampsPast new) (sym (ap (λ (t : Reply × State). t.1) e))
      (of_change old past next (touched_at old command) (is_restyling_at old command) stamps)
]

AreStampsPast-all : (state : State) (commands : List Command) → AreStampsPast state → AreStampsPast (after_all state commands)
AreStampsPast-all state [] stamps = stamps
AreStampsPast-all state (command ∷ more) stamps = AreStampsPast-all (after state command) more (AreStampsPast-step state command stamps)

at_start : (version : ℕ) (pars : List Par) → Each (λ live. live.revision ≤ version) (map (λ (par : Par). let live : Live = record { par = number_of par; revision = version; keys = [] } in live) pars)
at_start version [] = tt
at_start version (par ∷ pars) = (omega arith, at_start version pars)

pub AreStampsPast-reached : (doc : Document) (version : ℕ) (commands : List Command) → AreStampsPast (after_all (start_at doc version) commands)
AreStampsPast-reached doc version commands = AreStampsPast-all (start_at doc version) commands (record { epoch = omega arith; revisions = at_start version (paragraphs doc) })
