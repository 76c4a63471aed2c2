-- What the status and the line of a stop that was told say.
use Rattle.std.proofs.Common.{◌≡◌, ◌≢◌, ℕ, ◌⊎◌, List, Option, Some, None, Err, IsSomeAnd, refl, sym, ap, ◌∙◌, inl, inr, arith}
use Rattle.quill_io.specs.Shelf.{Files}
use Rattle.quill_top.specs.Words.{Task, accepted}
use Rattle.quill_top.specs.Stop.{Stop, no_memory}
use Rattle.quill_top.specs.Outcome.{Outcome, IsOutcome}
use Rattle.quill_top.specs.Answer.{Only, IsFault, IsFileRefusal, HasStatus, IsStop, Tells}
use Rattle.quill_top.specs.Ending.{IsTold}

status_is : (stop other : Stop) → stop ≡ other → stop.status ≡ other.status
status_is stop other e = ap (λ (s : Stop). s.status) e

-- a stop for what files are has another status than 2
no_usage : (stop : Stop) (asked : Option Task) → IsSomeAnd asked (λ (task : Task). IsFileRefusal task stop) → stop.status ≡ 2 → ⊥
no_usage stop None none two = none
no_usage stop (Some task) (inl plain) two = omega (arith, two, status_is stop _ plain)
no_usage stop (Some task) (inr (inl refused)) two = omega (arith, two, status_is stop _ refused.1)
no_usage stop (Some task) (inr (inr (inl bad))) two = omega (arith, two, status_is stop _ bad.1)
no_usage stop (Some task) (inr (inr (inr (name, named, inl absent)))) two = omega (arith, two, status_is stop _ absent)
no_usage stop (Some task) (inr (inr (inr (name, named, inr long)))) two = omega (arith, two, status_is stop _ long)

-- a stop with status 2 is for words that aren't accepted
stop_is_usage : (files : Option Files) (words : List (List ℕ)) (stop : Stop) → IsStop files words stop → stop.status ≡ 2 → accepted words ≡ None
stop_is_usage files words stop (inl (inl fault)) two = absurd (omega (arith, two, status_is stop _ fault.2))
stop_is_usage files words stop (inl (inr (inl output))) two = absurd (omega (arith, two, status_is stop _ output))
stop_is_usage files words stop (inl (inr (inr memory))) two = absurd (omega (arith, two, status_is stop _ memory))
stop_is_usage files words stop (inr (inl usage, _)) two = usage.0
stop_is_usage files words stop (inr (inr why, _)) two = absurd (no_usage stop (accepted words) why two)

-- status 2 is answered for words that aren't accepted
pub told_usage : (files : Option Files) (words : List (List ℕ)) (stop : Stop) (status : ℕ) (old new : Option (List ℕ)) (before now : ℕ)
    → IsStop files words stop → IsTold stop status old new before now → status ≡ 2 → accepted words ≡ None
told_usage files words stop status old new before now is (inl (e, tells)) two = stop_is_usage files words stop is (sym e ∙ two)
told_usage files words stop status old new before now is (inr (e, tells)) two = absurd (omega (arith, e, two))

-- status 6 is answered for its own stop alone
pub told_six : (stop : Stop) (status : ℕ) (old new : Option (List ℕ)) (before now : ℕ) → IsTold stop status old new before now → stop.status ≢ 6 → status ≢ 6
told_six stop status old new before now (inl (e, tells)) other six = other (sym e ∙ six)
told_six stop status old new before now (inr (e, tells)) other six = omega (arith, e, six)

-- where files are told, a stop before the output is a fault or their outcome
pub told_known : (files : Option Files) (words : List (List ℕ)) (stop : Stop) (status : ℕ) (old new : Option (List ℕ)) (before now : ℕ) (at : Files)
    → IsStop files words stop → IsTold stop status old new before now → stop.status ≢ 6 → files ≡ Some at
    → IsFault status ⊎ ((outcome : Outcome) × Only (IsOutcome at words) outcome × HasStatus outcome status)
told_known files words stop status old new before now at is (inr (e, tells)) other told = inl (inr e)
told_known files words stop status old new before now at (inl (inl fault)) (inl (e, tells)) other told = inl (inl (e ∙ status_is stop _ fault.2))
told_known files words stop status old new before now at (inl (inr (inl output))) (inl (e, tells)) other told = absurd (other (status_is stop _ output))
told_known files words stop status old new before now at (inl (inr (inr memory))) (inl (e, tells)) other told = inl (inr (e ∙ status_is stop _ memory))
told_known files words stop status old new before now at (inr (why, found)) (inl (e, tells)) other told = inr (Err stop, found at told, e)

-- the stop whose line was put
pub told_line : (files : Option Files) (words : List (List ℕ)) (stop : Stop) (status : ℕ) (old new : Option (List ℕ)) (before now : ℕ)
    → IsStop files words stop → IsTold stop status old new before now → (other : Stop) × (status ≡ other.status) × IsStop files words other × Tells other.line old new before now
told_line files words stop status old new before now is (inl (e, tells)) = (stop, e, is, tells)
told_line files words stop status old new before now is (inr (e, tells)) = (no_memory, e, inl (inr (inr refl)), tells)
