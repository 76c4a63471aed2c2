use Rattle.std.proofs.Common.{◌∙◌, ap, sym, arith, ◌-◌}
use Rattle.std.specs.Prelude.{slice_get}
use Rattle.std.specs.Option.{option_copied}
use Rattle.line_model.specs.declared.job.Job.{Job}
use Rattle.round_model.specs.Stops.{full_debt, stop_at}
use Rattle.idle_queue.specs.FormTest.{is_form_at}
use Rattle.idle_queue.proofs.PlainPlaces.{few_items}
use Rattle.idle_queue.proofs.Turns.{live_count}
use Rattle.idle_queue.proofs.Publishing.{placed, debt_if-le, entering, publish-entering}
use Rattle.idle_queue.proofs.agenda.Agenda.enter.Goals as goal

pub overflow_sub-place : goal.overflow_sub-place
overflow_sub-place c =
    omega (
      arith,
      ap (λ (job : Job). job.par.0) c.job-job.ensures,
      (placed c.args.doc.now c.args.self.now c.requires.plain c.requires.reached c.args.formed.now.par.0 c.requires.may.0 c.requires.may.1.found).some,
    )

pub par_at-requires-clause-within : goal.par_at-requires-clause-within
par_at-requires-clause-within c =
    omega (
      arith,
      ap (λ (job : Job). job.par.0 - 1) c.job-job.ensures,
      (placed c.args.doc.now c.args.self.now c.requires.plain c.requires.reached c.args.formed.now.par.0 c.requires.may.0 c.requires.may.1.found).within,
    )

pub key_of-requires : goal.key_of-requires
key_of-requires c = record { few = few_items c.args.doc.now c.requires.plain (c.job-job.result.now.par.0 - 1) c.par_at.result.now c.par_at.ensures }

pub in_use-used-requires-clause-owed : goal.in_use-used-requires-clause-owed
in_use-used-requires-clause-owed c =
    omega (
      arith,
      c.debt_entered-debt.ensures c.args.doc.now (sym c.paragraph_count-count.ensures.count),
      debt_if-le c.args.doc.now c.debt.result (is_form_at (c.job-job.result.now.par.0 - 1) c.is_same_key-is_present.result (stop_at c.paragraph_count-count.result c.debt.result)),
      c.requires.reached.owed,
      c.debt.ensures,
      ap full_debt c.paragraph_count-count.ensures.count,
    )

pub keep-requires : goal.keep-requires
keep-requires c =
    omega (
      arith,
      ap (λ (job : Job). job.par.0 - 1) c.job-job.ensures,
      (placed c.args.doc.now c.args.self.now c.requires.plain c.requires.reached c.args.formed.now.par.0 c.requires.may.0 c.requires.may.1.found).within,
      live_count c.args.doc.now c.args.self.now c.requires.plain c.requires.reached,
    )

pub returns : goal.returns
returns c =
    let doc = c.args.doc.now in
    let old = c.args.self.now in
    let live = c.requires.may.0 in
    let place = placed doc old c.requires.plain c.requires.reached c.args.formed.now.par.0 live c.requires.may.1.found in
    let here = ap (λ (job : Job). slice_get old.live (job.par.0 - 1)) c.job-job.ensures ∙ place.here in
    let both = publish-entering doc old c.requires.plain c.requires.reached c.args.formed.now live c.requires.may.1 (c.job-job.result.now.par.0 - 1) c.debt_entered-debt.result c.par_at.result.now
    c.in_ok-current.current (option_copied c.in_use-used.result) c.keep.new.self
    (entering doc old c.args.formed.now c.job-job.result.now c.in_ok-copy.field-0 live c.paragraph_count-count.result c.debt.result c.debt_entered-debt.result c.par_at.result.now
    c.in_ok-current.current c.is_same_key-is_present.result (option_copied c.in_use-used.result) c.keep.new.self c.job-job.ensures c.in_ok-copy.ensures c.paragraph_count-count.ensures.count
    c.debt.ensures place.some c.par_at.ensures c.in_ok-current.ensures c.is_same_key-is_present.ensures (c.debt_entered-debt.ensures doc (sym c.paragraph_count-count.ensures.count))
    c.in_use-used.ensures (c.in_ok-keep.ensures.ok live here)) in
    record { ok = both.0; err = tt; reached = both.1 }
