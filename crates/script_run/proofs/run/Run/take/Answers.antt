-- A job that is answered is kept under the name.
use Rattle.std.proofs.Common.{◌≡◌, ℕ, List, ap, subst, ◌∙◌}
use Rattle.std.specs.Str.{bytes_eq}
use Rattle.indexmap.specs.IndexMap.{insert_entry}
use Rattle.line_model.specs.declared.job.Job.{Job}
use Rattle.round_model.specs.declared.turn.Taken.{Taken}
use Rattle.desk_model.specs.declared.command.Command.TheVariants as desk
use Rattle.desk_model.specs.Desk.{step, taken_reply}
use Rattle.script_run.proofs.Jobs.{took_job}
use Rattle.script_run.proofs.run.Run.take.Goals as goal

pub returns-in_ok-insert-in-Job : goal.returns-in_ok-insert-in-Job
returns-in_ok-insert-in-Job c =
    let jobs : List (List ℕ × Job) = c.self.inside.jobs.entries in
    let steps = subst (λ (taken : Taken). (taken_reply taken, c.take.new.self) ≡ step c.self.inside.desk desk.Take) c.in-Job.is c.in_ok-passed.ensures.ok in
    let put : c.insert.new.self.entries ≡ insert_entry bytes_eq jobs c.args.name.now c.in-Job.job =
    c.in_ok-insert-in-Job.ensures.entries
    ∙ ap (λ (name : List ℕ). insert_entry bytes_eq jobs name c.in_ok-copy-in-Job-2.field-0) c.in_ok-copy-in-Job.ensures
    ∙ ap (λ (job : Job). insert_entry bytes_eq jobs c.args.name.now job) c.in_ok-copy-in-Job-2.ensures in
    took_job c.args.self.now c.self.inside.desk c.take.new.self jobs c.insert.new.self.entries c.args.name.now c.in-Job.job c.self.view_is steps put
