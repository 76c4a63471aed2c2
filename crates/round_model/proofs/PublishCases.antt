-- What the lines of a job are answered, case by case.
use Rattle.std.proofs.Common.{◌≡◌, ℕ, ◌≤◌, Bool, true, false, refl, arith, zero, suc, Option, Some, None}
use Rattle.std.specs.Prelude.{if◌then◌else◌}
use Rattle.std.proofs.lemmas.Bool.{cond_both}
use Rattle.doc_model.specs.declared.document.Document.{Document}
use Rattle.line_model.specs.declared.job.Job.{Job}
use Rattle.round_model.specs.declared.turn.Published.TheVariants.{Stale, Already, Entered}
use Rattle.round_model.specs.Stops.{stop_at, paragraph_count, debt_behind}
use Rattle.round_model.specs.Idle.{Idle, Live, live_at, keeps, stamp_of, is_same_stamp, is_form_stop_of, is_in_use, with_key, with_live, publish}
use Rattle.round_model.proofs.StopLemmas.{debt_behind-lt}

-- the debt after lines are entered
abbrev pub debt_after : Document → Idle → Job → ℕ
debt_after doc old job = if is_form_stop_of doc (stop_at (paragraph_count doc) old.debt) job.par.0 job.key then debt_behind doc old.debt else old.debt

-- a paragraph after the lines of a job are entered
abbrev pub entered : Document → Idle → Job → Live → Live
entered doc old job live = record live { keys = with_key (is_in_use doc (debt_after doc old job) job.par.0) live.keys job.key }

-- what the lines of a job are answered
pub data PublishCase (doc : Document) (old : Idle) (job : Job) : Type 0 where
  Gone : live_at job.par.0 old.live ≡ None → publish doc old job ≡ (Stale job.stamp None, old) → PublishCase doc old job
  Outdated : (live : Live) → live_at job.par.0 old.live ≡ Some live → is_same_stamp job.stamp (stamp_of old live) ≡ false
      → publish doc old job ≡ (Stale job.stamp (Some (stamp_of old live)), old) → PublishCase doc old job
  Kept : (live : Live) → live_at job.par.0 old.live ≡ Some live → is_same_stamp job.stamp (stamp_of old live) ≡ true → keeps live job.key ≡ true
      → publish doc old job ≡ (Already, old) → PublishCase doc old job
  Fresh : (live : Live) → live_at job.par.0 old.live ≡ Some live → is_same_stamp job.stamp (stamp_of old live) ≡ true → keeps live job.key ≡ false
      → publish doc old job ≡ (Entered (debt_after doc old job), record old { debt = debt_after doc old job; live = with_live job.par.0 (entered doc old job) old.live }) → PublishCase doc old job

of_stamp : (doc : Document) (old : Idle) (job : Job) (live : Live) → live_at job.par.0 old.live ≡ Some live
    → (same kept : Bool) → is_same_stamp job.stamp (stamp_of old live) ≡ same → keeps live job.key ≡ kept → PublishCase doc old job
of_stamp doc old job live e false kept s k = Outdated live e s (rw (e, publish) (rw s))
of_stamp doc old job live e true true s k = Kept live e s k (rw (e, publish) (rw s (rw k)))
of_stamp doc old job live e true false s k = Fresh live e s k (rw (e, publish) (rw s (rw k)))

pub publish_case : (doc : Document) (old : Idle) (job : Job) → PublishCase doc old job
publish_case doc old job = of_live (live_at job.par.0 old.live) refl where
  of_live : (live : Option Live) → live_at job.par.0 old.live ≡ live → PublishCase doc old job
  of_live None e = Gone e (rw (e, publish))
  of_live (Some live) e = of_stamp doc old job live e (is_same_stamp job.stamp (stamp_of old live)) (keeps live job.key) refl refl

pub debt_behind-le : (doc : Document) (debt : ℕ) → debt_behind doc debt ≤ debt
debt_behind-le doc zero = omega arith
debt_behind-le doc (suc debt) = omega (arith, debt_behind-lt doc (suc debt) (omega arith))

pub debt_after-le : (doc : Document) (old : Idle) (job : Job) → debt_after doc old job ≤ old.debt
debt_after-le doc old job =
    cond_both (is_form_stop_of doc (stop_at (paragraph_count doc) old.debt) job.par.0 job.key) (debt_behind doc old.debt) old.debt (λ (debt : ℕ). debt ≤ old.debt)
    (λ e. debt_behind-le doc old.debt) (λ e. omega arith)
