-- Which jobs are stale.
use Rattle.std.proofs.Common.{◌≡◌, ℕ, ◌+◌, ◌≤◌, ◌<◌, ◌⊎◌, inl, inr, Bool, true, false, List, [], ◌∷◌, refl, ap, sym, ◌∙◌, subst, arith, Option, Some, None}
use Rattle.std.specs.Prelude.{◌==◌, ◌||◌, ◌&&◌, not, if◌then◌else◌}
use Rattle.std.specs.List.{list_any}
use Rattle.std.specs.Option.{option_map}
use Rattle.std.proofs.lemmas.Bool.{eqb-true, eq-eqb, and_from, and_parts, or_cases}
use Rattle.doc_model.specs.declared.document.Document.{Document}
use Rattle.edit_model.specs.Past.{Past}
use Rattle.line_model.specs.declared.job.Job.{Job}
use Rattle.line_model.specs.declared.job.Stamp.{Stamp}
use Rattle.desk_model.specs.declared.command.Command.{Command}
use Rattle.desk_model.specs.declared.command.Command.TheVariants as command
use Rattle.desk_model.specs.declared.reply.Reply.{Reply}
use Rattle.desk_model.specs.declared.reply.Reply.TheVariants as reply
use Rattle.round_model.specs.declared.turn.Published.{Published}
use Rattle.round_model.specs.Idle.{Idle, Live, live_at, live_after, stamp_of, is_same_stamp, restarted}
use Rattle.desk_model.specs.Desk.{State, present, published_reply}
use Rattle.desk_laws.specs.Steps.{reply_to, after, after_all}
use Rattle.desk_laws.specs.Changes.{is_change, has_paragraph, touched_at, is_restyling_at, is_outdating, are_outdated_by}
use Rattle.desk_laws.specs.Promises.{AreStampsPast, present_stamp, are_kept}
use Rattle.desk_laws.proofs.Kept.{revision_at}
use Rattle.round_model.proofs.PublishCases.{PublishCase, publish_case}
use Rattle.desk_laws.proofs.StepCases.{StepCase, step_case}
use Rattle.round_model.proofs.LiveLemmas.{renewed, live_at-live_after, Each-found}
use Rattle.desk_laws.proofs.Asked.{IsAsked, asked}

-- the state after a change
abbrev new_state : State → Past → ℕ → List ℕ → Bool → State
new_state old past next touched restyling = record { past = past; next = next; version = old.version + 1; idle = restarted old.idle past.present touched restyling (old.version + 1) }

-- the tests of a command that outdates nothing
nothing_outdated : (change touched restyling has : Bool) → change ≡ true → (change && (touched || restyling || not has)) ≡ false → (touched ≡ false) × (restyling ≡ false) × (has ≡ true)
nothing_outdated true false false true e h = (refl, refl, refl)
nothing_outdated true false false false e h = absurd (cc)
nothing_outdated true false true has e h = absurd (cc)
nothing_outdated true true restyling has e h = absurd (cc)
nothing_outdated false touched restyling has e h = absurd (cc)

neither : (one other : Bool) → (one || other) ≡ false → (one ≡ false) × (other ≡ false)
neither false other h = (refl, h)
neither true other h = absurd (cc)

-- the stamp is the present one of the paragraph
abbrev pub IsCurrent : Stamp → ℕ → State → Type 0
IsCurrent stamp number state = (revision_at number state.idle.live ≡ Some stamp.revision) × (state.idle.epoch ≡ stamp.epoch)

-- a paragraph that stays and isn't touched keeps its revision
revision_stays : (old : List Live) (doc : Document) (touched : List ℕ) (version number revision : ℕ) → list_any (λ other. other == number) touched ≡ false → has_paragraph doc number ≡ true
    → (live : Option Live) → live_at number old ≡ live → option_map (λ (found : Live). found.revision) live ≡ Some revision → revision_at number (live_after old doc touched version) ≡ Some revision
revision_stays old doc touched version number revision untouched has None is e = absurd (let clash : None ≡ Some revision = e in cc)
revision_stays old doc touched version number revision untouched has (Some live) is e =
    ap (λ (found : Option Live). option_map (λ (found : Live). found.revision) found) (live_at-live_after old doc touched version number
    ∙ ap (λ (there : Bool). if there then Some (renewed touched version number (live_at number old)) else None) has
    ∙ ap (λ (found : Option Live). Some (renewed touched version number found)) is)
    ∙ ap (λ (test : Bool). Some (if test then version else live.revision)) untouched ∙ e

IsCurrent-change : (stamp : Stamp) (number : ℕ) (old : State) (past : Past) (next : ℕ) (touched : List ℕ) (restyling : Bool) → IsCurrent stamp number old
    → list_any (λ other. other == number) touched ≡ false → restyling ≡ false → has_paragraph past.present number ≡ true → IsCurrent stamp number (new_state old past next touched restyling)
IsCurrent-change stamp number old past next touched restyling current untouched unstyled has = (
  revision_stays old.idle.live past.present touched (old.version + 1) number stamp.revision untouched has (live_at number old.idle.live) refl current.0,
  ap (λ (styled : Bool). if styled then old.version + 1 else old.idle.epoch) unstyled ∙ current.1,
)

IsCurrent-step : (stamp : Stamp) (number : ℕ) (old : State) (command : Command) → IsCurrent stamp number old → is_outdating old command number ≡ false → IsCurrent stamp number (after old command)
IsCurrent-step stamp number old command current told = elim (step_case old command) [
  | StepCase.Stays other kept same turn ↦ (kept.revisions number ∙ current.0, kept.epoch ∙ current.1)
  | StepCase.Changes past next more e ↦
      let tests = nothing_outdated (is_change (reply_to old command)) (list_any (λ other. other == number) (touched_at old command)) (is_restyling_at old command) (has_paragraph (present (after old command)) number)
      (ap (λ (t : Reply × State). is_change t.0) e) told in
      subst (λ (new : State). IsCurrent stamp number new) (sym (ap (λ (t : Reply × State). t.1) e))
      (IsCurrent-change stamp number old past next (touched_at old command) (is_restyling_at old command) current tests.0 tests.1
      (sym (ap (λ (t : Reply × State). has_paragraph (present t.1) number) e) ∙ tests.2))
]

IsCurrent-all : (stamp : Stamp) (number : ℕ) (state : State) (commands : List Command) → IsCurrent stamp number state → are_outdated_by state commands number ≡ false → IsCurrent stamp number (after_all state commands)
IsCurrent-all stamp number state [] current told = current
IsCurrent-all stamp number state (command ∷ more) current told =
    let both = neither (is_outdating state command number) (are_outdated_by (after state command) more number) told in
    IsCurrent-all stamp number (after state command) more (IsCurrent-step stamp number state command current both.0) both.1

same_number : (a b : ℕ) → Some a ≡ Some b → a ≡ b
same_number a b e = cc

kept_if_current : (state : State) (job : Job) → IsCurrent job.stamp job.par.0 state → are_kept (reply_to state (command.Publish job)) ≡ true
kept_if_current state job current = elim (publish_case (present state) state.idle job) [
  | PublishCase.Gone e f ↦ absurd (let clash : None ≡ Some job.stamp.revision = sym (ap (λ (found : Option Live). option_map (λ (found : Live). found.revision) found) e) ∙ current.0 in cc)
  | PublishCase.Outdated live e s f ↦
      let revision : live.revision ≡ job.stamp.revision = same_number _ _ (sym (ap (λ (found : Option Live). option_map (λ (found : Live). found.revision) found) e) ∙ current.0) in
      let clash : false ≡ true = sym s ∙ and_from (job.stamp.revision == live.revision) (job.stamp.epoch == state.idle.epoch) (eq-eqb _ _ (sym revision)) (eq-eqb _ _ (sym current.1)) in
      absurd (cc)
  | PublishCase.Kept live e s k f ↦ ap (λ (t : Published × Idle). are_kept (published_reply t.0)) f
  | PublishCase.Fresh live e s k f ↦ ap (λ (t : Published × Idle). are_kept (published_reply t.0)) f
]

current_if_asked : (state : State) (job : Job) → IsAsked state job → IsCurrent job.stamp job.par.0 state
current_if_asked state job is =
    (ap (λ (found : Option Live). option_map (λ (found : Live). found.revision) found) is.found ∙ ap (λ (stamp : Stamp). Some stamp.revision) (sym is.stamp), ap (λ (stamp : Stamp). stamp.epoch) (sym is.stamp))

pub fresh_lines : (state : State) (job : Job) (commands : List Command) → reply_to state command.Take ≡ reply.Job job
    → are_outdated_by (after state command.Take) commands job.par.0 ≡ false → are_kept (reply_to (after_all (after state command.Take) commands) (command.Publish job)) ≡ true
fresh_lines state job commands told fresh =
    let is = asked state job told in
    kept_if_current (after_all (after state command.Take) commands) job
    (IsCurrent-all job.stamp job.par.0 (after state command.Take) commands (subst (λ (other : State). IsCurrent job.stamp job.par.0 other) (sym is.same) (current_if_asked state job is)) fresh)

-- the stamp is that of a version that is past
abbrev IsPast : Stamp → State → Type 0
IsPast stamp state = (stamp.revision ≤ state.version) × (stamp.epoch ≤ state.version)

-- the paragraph, if it is live, or the styles changed after the stamp
abbrev IsOutdated : Stamp → ℕ → State → Type 0
IsOutdated stamp number state = (revision : ℕ) → revision_at number state.idle.live ≡ Some revision → (stamp.revision < revision) ⊎ (stamp.epoch < state.idle.epoch)

renewed_touched : (touched : List ℕ) (version number : ℕ) → list_any (λ other. other == number) touched ≡ true → (live : Option Live) → (renewed touched version number live).revision ≡ version
renewed_touched touched version number is None = refl
renewed_touched touched version number is (Some live) = ap (λ (test : Bool). if test then version else live.revision) is

-- the revision of a paragraph after a change
revision_after : (old : List Live) (doc : Document) (touched : List ℕ) (version number revision : ℕ) → (has : Bool) → has_paragraph doc number ≡ has → revision_at number (live_after old doc touched version) ≡ Some revision
    → (has ≡ true) × (revision ≡ (renewed touched version number (live_at number old)).revision)
revision_after old doc touched version number revision has is e = of_test has (sym (ap (λ (found : Option Live). option_map (λ (found : Live). found.revision) found) (live_at-live_after old doc touched version number
    ∙ ap (λ (there : Bool). if there then Some (renewed touched version number (live_at number old)) else None) is)) ∙ e) where
      of_test : (has : Bool) → option_map (λ (found : Live). found.revision) (if has then Some (renewed touched version number (live_at number old)) else None) ≡ Some revision
          → (has ≡ true) × (revision ≡ (renewed touched version number (live_at number old)).revision)
      of_test true e = (refl, sym (same_number _ _ e))
      of_test false e = absurd (let clash : None ≡ Some revision = e in cc)

-- a change that touches the paragraph, changes styles or leaves it out outdates the stamp
outdated_now : (stamp : Stamp) (number : ℕ) (old : State) (past : Past) (next : ℕ) (touched : List ℕ) (restyling : Bool) → IsPast stamp old
    → (list_any (λ other. other == number) touched ≡ true) ⊎ ((restyling ≡ true) ⊎ (has_paragraph past.present number ≡ false)) → IsOutdated stamp number (new_state old past next touched restyling)
outdated_now stamp number old past next touched restyling is why revision e =
    let known = revision_after old.idle.live past.present touched (old.version + 1) number revision (has_paragraph past.present number) refl e in
    elim why [
      | inl touches ↦ inl (omega (arith, is.0, known.1, renewed_touched touched (old.version + 1) number touches (live_at number old.idle.live)))
      | inr (inl styles) ↦ inr (omega (arith, is.1, ap (λ (styled : Bool). if styled then old.version + 1 else old.idle.epoch) styles))
      | inr (inr none) ↦ absurd (let clash : true ≡ false = sym known.0 ∙ none in cc)
    ]

later_epoch : (stamp : Stamp) (old : State) (restyling : Bool) → IsPast stamp old → stamp.epoch < old.idle.epoch → stamp.epoch < (if restyling then old.version + 1 else old.idle.epoch)
later_epoch stamp old true is later = omega (arith, is.1)
later_epoch stamp old false is later = later

later_revision : (stamp : Stamp) (number : ℕ) (old : State) (touched : List ℕ) → IsPast stamp old → IsOutdated stamp number old → (live : Option Live) → live_at number old.idle.live ≡ live
    → (stamp.revision < (renewed touched (old.version + 1) number live).revision) ⊎ (stamp.epoch < old.idle.epoch)
later_revision stamp number old touched is outdated None e = inl (omega (arith, is.0))
later_revision stamp number old touched is outdated (Some live) e = of_test (list_any (λ other. other == number) touched) where
  of_test : (test : Bool) → (stamp.revision < (if test then old.version + 1 else live.revision)) ⊎ (stamp.epoch < old.idle.epoch)
  of_test true = inl (omega (arith, is.0))
  of_test false = outdated live.revision (ap (λ (found : Option Live). option_map (λ (found : Live). found.revision) found) e)

-- an outdated stamp stays one after a change
IsOutdated-change : (stamp : Stamp) (number : ℕ) (old : State) (past : Past) (next : ℕ) (touched : List ℕ) (restyling : Bool) → IsPast stamp old → IsOutdated stamp number old
    → IsOutdated stamp number (new_state old past next touched restyling)
IsOutdated-change stamp number old past next touched restyling is outdated revision e =
    let known = revision_after old.idle.live past.present touched (old.version + 1) number revision (has_paragraph past.present number) refl e in
    elim (later_revision stamp number old touched is outdated (live_at number old.idle.live) refl) [
      | inl later ↦ inl (omega (arith, later, known.1))
      | inr later ↦ inr (later_epoch stamp old restyling is later)
    ]

IsPast-step : (stamp : Stamp) (old : State) (command : Command) → IsPast stamp old → IsPast stamp (after old command)
IsPast-step stamp old command is = elim (step_case old command) [
  | StepCase.Stays other kept same turn ↦ (omega (arith, is.0, kept.version), omega (arith, is.1, kept.version))
  | StepCase.Changes past next more e ↦
      let version : (after old command).version ≡ old.version + 1 = ap (λ (t : Reply × State). t.1.version) e in
      (omega (arith, is.0, version), omega (arith, is.1, version))
]

IsOutdated-step : (stamp : Stamp) (number : ℕ) (old : State) (command : Command) → IsPast stamp old → IsOutdated stamp number old → IsOutdated stamp number (after old command)
IsOutdated-step stamp number old command is outdated = elim (step_case old command) [
  | StepCase.Stays other kept same turn ↦ λ revision e. subst (λ (epoch : ℕ). (stamp.revision < revision) ⊎ (stamp.epoch < epoch)) (sym kept.epoch) (outdated revision (sym (kept.revisions number) ∙ e))
  | StepCase.Changes past next more e ↦
      subst (λ (new : State). IsOutdated stamp number new) (sym (ap (λ (t : Reply × State). t.1) e))
      (IsOutdated-change stamp number old past next (touched_at old command) (is_restyling_at old command) is outdated)
]

IsOutdated-all : (stamp : Stamp) (number : ℕ) (state : State) (commands : List Command) → IsPast stamp state → IsOutdated stamp number state → IsOutdated stamp number (after_all state commands)
IsOutdated-all stamp number state [] is outdated = outdated
IsOutdated-all stamp number state (command ∷ more) is outdated =
    IsOutdated-all stamp number (after state command) more (IsPast-step stamp state command is) (IsOutdated-step stamp number state command is outdated)

-- why a command outdates
why_outdated : (change touched restyling has : Bool) → (change && (touched || restyling || not has)) ≡ true → (change ≡ true) × ((touched ≡ true) ⊎ ((restyling ≡ true) ⊎ (has ≡ false)))
why_outdated true true restyling has h = (refl, inl refl)
why_outdated true false true has h = (refl, inr (inl refl))
why_outdated true false false false h = (refl, inr (inr refl))
why_outdated true false false true h = absurd (cc)
why_outdated false touched restyling has h = absurd (cc)

IsOutdated-now : (stamp : Stamp) (number : ℕ) (old : State) (command : Command) → IsPast stamp old → is_outdating old command number ≡ true → IsOutdated stamp number (after old command)
IsOutdated-now stamp number old command is told =
    let why = why_outdated (is_change (reply_to old command)) (list_any (λ other. other == number) (touched_at old command)) (is_restyling_at old command) (has_paragraph (present (after old command)) number) told in
    elim (step_case old command) [
      | StepCase.Stays other kept same turn ↦ absurd (let clash : false ≡ true = sym other ∙ why.0 in cc)
      | StepCase.Changes past next more e ↦
          subst (λ (new : State). IsOutdated stamp number new) (sym (ap (λ (t : Reply × State). t.1) e))
          (outdated_now stamp number old past next (touched_at old command) (is_restyling_at old command) is
          (subst (λ (has : Bool). (list_any (λ other. other == number) (touched_at old command) ≡ true) ⊎ ((is_restyling_at old command ≡ true) ⊎ (has ≡ false)))
          (ap (λ (t : Reply × State). has_paragraph (present t.1) number) e) why.1))
    ]

IsOutdated-since : (stamp : Stamp) (number : ℕ) (state : State) (commands : List Command) → IsPast stamp state → are_outdated_by state commands number ≡ true → IsOutdated stamp number (after_all state commands)
IsOutdated-since stamp number state [] is told = absurd (let clash : false ≡ true = told in cc)
IsOutdated-since stamp number state (command ∷ more) is told = elim (or_cases (is_outdating state command number) (are_outdated_by (after state command) more number) told) [
  | inl now ↦ IsOutdated-all stamp number (after state command) more (IsPast-step stamp state command is) (IsOutdated-now stamp number state command is now)
  | inr later ↦ IsOutdated-since stamp number (after state command) more (IsPast-step stamp state command is) later
]

-- a stamp that is the present one isn't outdated
not_both : (stamp : Stamp) (number : ℕ) (state : State) (live : Live) → live_at number state.idle.live ≡ Some live → is_same_stamp stamp (stamp_of state.idle live) ≡ true → IsOutdated stamp number state → ⊥
not_both stamp number state live e s outdated =
    let both = and_parts (stamp.revision == live.revision) (stamp.epoch == state.idle.epoch) s in
    let revision : stamp.revision ≡ live.revision = eqb-true stamp.revision live.revision both.0 in
    let epoch : stamp.epoch ≡ state.idle.epoch = eqb-true stamp.epoch state.idle.epoch both.1 in
    elim (outdated live.revision (ap (λ (found : Option Live). option_map (λ (found : Live). found.revision) found) e)) [ inl later ↦ omega (arith, later, revision) | inr later ↦ omega (arith, later, epoch) ]

stale_if_outdated : (state : State) (job : Job) → IsOutdated job.stamp job.par.0 state → reply_to state (command.Publish job) ≡ reply.Stale job.stamp (present_stamp state.idle job.par.0)
stale_if_outdated state job outdated = elim (publish_case (present state) state.idle job) [
  | PublishCase.Gone e f ↦ ap (λ (t : Published × Idle). published_reply t.0) f ∙ ap (λ (found : Option Live). reply.Stale job.stamp (option_map (stamp_of state.idle) found)) (sym e)
  | PublishCase.Outdated live e s f ↦ ap (λ (t : Published × Idle). published_reply t.0) f ∙ ap (λ (found : Option Live). reply.Stale job.stamp (option_map (stamp_of state.idle) found)) (sym e)
  | PublishCase.Kept live e s k f ↦ absurd (not_both job.stamp job.par.0 state live e s outdated)
  | PublishCase.Fresh live e s k f ↦ absurd (not_both job.stamp job.par.0 state live e s outdated)
]

past_if_asked : (state : State) (job : Job) → AreStampsPast state → IsAsked state job → IsPast job.stamp state
past_if_asked state job stamps is = (
  omega (arith, ap (λ (stamp : Stamp). stamp.revision) is.stamp, Each-found (λ live. live.revision ≤ state.version) job.par.0 state.idle.live is.live stamps.revisions is.found),
  omega (arith, ap (λ (stamp : Stamp). stamp.epoch) is.stamp, stamps.epoch),
)

pub stale_lines : (state : State) (job : Job) (commands : List Command) → AreStampsPast state → reply_to state command.Take ≡ reply.Job job
    → are_outdated_by (after state command.Take) commands job.par.0 ≡ true
    → reply_to (after_all (after state command.Take) commands) (command.Publish job) ≡ reply.Stale job.stamp (present_stamp (after_all (after state command.Take) commands).idle job.par.0)
stale_lines state job commands stamps told stale =
    let is = asked state job told in
    stale_if_outdated (after_all (after state command.Take) commands) job
    (IsOutdated-since job.stamp job.par.0 (after state command.Take) commands (IsPast-step job.stamp state command.Take (past_if_asked state job stamps is)) stale)
