-- What a take is answered, case by case.
use Rattle.std.proofs.Common.{◌≡◌, ◌≢◌, ℕ, ◌+◌, ◌-◌, ◌*◌, ◌/◌, ◌%◌, Bool, true, false, refl, sym, ◌∙◌, subst, arith, Option, Some, None}
use Rattle.doc_model.specs.declared.document.Document.{Document}
use Rattle.round_model.specs.declared.turn.Taken.TheVariants as took
use Rattle.round_model.specs.Rounds.{SetPar}
use Rattle.round_model.specs.Stops.{Stop, stop_at, paragraph_count, full_debt, debt_behind}
use Rattle.round_model.specs.Idle.{Idle, Live, live_at, set_at, job_at, keeps, stamp_of, take}
use Rattle.round_model.proofs.StopLemmas.{StopCase, stop_case}
use Rattle.round_model.proofs.StopLemmas.StopCase.{at_settled, at_finish, at_gather, at_form, at_place}

-- whether there is a job at a form stop, and which
pub data JobCase (doc : Document) (old : Idle) (round place : ℕ) : Type 0 where
  NoJob : job_at doc old round place ≡ None → JobCase doc old round place
  HasJob : (set : SetPar) (live : Live) → set_at doc round place ≡ Some set → live_at set.par old.live ≡ Some live → keeps live set.key ≡ false
      → job_at doc old round place ≡ Some (record { par = record { 0 = set.par }; stamp = stamp_of old live; key = set.key }) → JobCase doc old round place

job_case_of_live : (doc : Document) (old : Idle) (round place : ℕ) (set : SetPar) → set_at doc round place ≡ Some set → (live : Option Live) → live_at set.par old.live ≡ live → JobCase doc old round place
job_case_of_live doc old round place set is None e = NoJob (rw (is, job_at) (rw e))
job_case_of_live doc old round place set is (Some live) e = of_kept (keeps live set.key) refl where
  of_kept : (kept : Bool) → keeps live set.key ≡ kept → JobCase doc old round place
  of_kept true k = NoJob (rw (is, job_at) (rw e (rw k)))
  of_kept false k = HasJob set live is e k (rw (is, job_at) (rw e (rw k)))

pub job_case : (doc : Document) (old : Idle) (round place : ℕ) → JobCase doc old round place
job_case doc old round place = of_set (set_at doc round place) refl where
  of_set : (set : Option SetPar) → set_at doc round place ≡ set → JobCase doc old round place
  of_set None e = NoJob (rw (e, job_at))
  of_set (Some set) e = job_case_of_live doc old round place set e (live_at set.par old.live) refl

-- what a take is answered
pub data TakeCase (doc : Document) (old : Idle) : Type 0 where
  Done : old.debt ≡ 0 → take doc old ≡ (took.Settled, old) → TakeCase doc old
  Passed : old.debt ≢ 0 → ((round place : ℕ) → stop_at (paragraph_count doc) old.debt ≡ Stop.Form round place → job_at doc old round place ≡ None)
      → take doc old ≡ (took.Moved (debt_behind doc old.debt), record old { debt = debt_behind doc old.debt }) → TakeCase doc old
  Asked : (round place : ℕ) (set : SetPar) (live : Live) → old.debt ≢ 0 → stop_at (paragraph_count doc) old.debt ≡ Stop.Form round place → set_at doc round place ≡ Some set
      → live_at set.par old.live ≡ Some live → keeps live set.key ≡ false
      → take doc old ≡ (took.Job (record { par = record { 0 = set.par }; stamp = stamp_of old live; key = set.key }), old) → TakeCase doc old

same_stop : (doc : Document) (old : Idle) (round place round' place' : ℕ) → Stop.Form round place ≡ Stop.Form round' place' → job_at doc old round place ≡ None → job_at doc old round' place' ≡ None
same_stop doc old round place round' place' same none =
    let rounds : round ≡ round' = cc in
    let places : place ≡ place' = cc in
    subst (λ (round : ℕ). job_at doc old round place' ≡ None) rounds (subst (λ (place : ℕ). job_at doc old round place ≡ None) places none)

take_case-form : (doc : Document) (old : Idle) (round place : ℕ) → old.debt ≢ 0 → stop_at (paragraph_count doc) old.debt ≡ Stop.Form round place → JobCase doc old round place → TakeCase doc old
take_case-form doc old round place some at (NoJob e) = Passed some (λ round' place' at'. same_stop doc old round place round' place' (sym at ∙ at') e) (rw (at, take) (rw e (rw (at, debt_behind))))
take_case-form doc old round place some at (HasJob set live is lives keeps-no e) = Asked round place set live some at is lives keeps-no (rw (at, take) (rw e))

no_form : (doc : Document) (old : Idle) (stop : Stop) → stop_at (paragraph_count doc) old.debt ≡ stop → ((round place : ℕ) → stop ≡ Stop.Form round place → ⊥)
    → (round place : ℕ) → stop_at (paragraph_count doc) old.debt ≡ Stop.Form round place → job_at doc old round place ≡ None
no_form doc old stop e apart round place at = absurd (apart round place (sym e ∙ at))

pub take_case : (doc : Document) (old : Idle) → TakeCase doc old
take_case doc old = of_case (stop_case (paragraph_count doc) old.debt) where
  of_case : StopCase (paragraph_count doc) old.debt → TakeCase doc old
  of_case (at_settled none at) = Done none (rw (at, take))
  of_case (at_finish one at) = Passed (omega arith) (no_form doc old Stop.Finish at (λ round place e. cc)) (rw (at, take) (rw (at, debt_behind)))
  of_case (at_gather many at) = Passed (omega arith) (no_form doc old (Stop.Gather (full_debt (paragraph_count doc) - old.debt)) at (λ round place e. cc)) (rw (at, take) (rw (at, debt_behind)))
  of_case (at_form more few even at) =
      let round : ℕ = (18 * paragraph_count doc + 1 - old.debt) / (2 * paragraph_count doc) in
      let place : ℕ = (18 * paragraph_count doc + 1 - old.debt) % (2 * paragraph_count doc) / 2 in
      take_case-form doc old round place (omega arith) at (job_case doc old round place)
  of_case (at_place more few odd at) =
      let round : ℕ = (18 * paragraph_count doc + 1 - old.debt) / (2 * paragraph_count doc) in
      let place : ℕ = (18 * paragraph_count doc + 1 - old.debt) % (2 * paragraph_count doc) / 2 in
      Passed (omega arith) (no_form doc old (Stop.Place round place) at (λ round' place' e. cc)) (rw (at, take) (rw (at, debt_behind)))

-- where a form stop has no job, the key of its paragraph is kept
pub no_job_keeps : (doc : Document) (old : Idle) (round place : ℕ) (set : SetPar) (live : Live) → job_at doc old round place ≡ None → set_at doc round place ≡ Some set
    → live_at set.par old.live ≡ Some live → keeps live set.key ≡ true
no_job_keeps doc old round place set live none is e = of_kept (keeps live set.key) refl where
  of_kept : (kept : Bool) → keeps live set.key ≡ kept → kept ≡ true
  of_kept true k = refl
  of_kept false k =
      let job : job_at doc old round place ≡ Some (record { par = record { 0 = set.par }; stamp = stamp_of old live; key = set.key }) = rw (is, job_at) (rw e (rw k)) in
      let clash = sym none ∙ job in
      absurd (cc)
