-- Where no job is kept under the name, nothing is published, else that job.
use Rattle.std.proofs.Common.{◌≡◌, ◌++◌, ℕ, List, Some, None, sym, ap, ◌∙◌, subst}
use Rattle.std.specs.Prelude.{OnOk}
use Rattle.std.specs.Option.{option_copied}
use Rattle.desk_model.specs.declared.command.Command.TheVariants as desk
use Rattle.desk_model.specs.declared.script.ScriptCommand.TheVariants as script
use Rattle.desk_model.specs.declared.reply.Reply.{Reply}
use Rattle.desk_model.specs.Desk.{step}
use Rattle.desk_model.specs.Replies.{reply_words, numbered_words}
use Rattle.desk_model.specs.Runs.{Run, job_under, after_command}
use Rattle.script_run.proofs.Jobs.{no_job, published_job, always}
use Rattle.script_run.proofs.run.Run.answer_publish.Goals as goal

pub returns-in_default-clause-printed : goal.returns-in_default-clause-printed
returns-in_default-clause-printed c =
    let none : job_under c.args.name.now c.args.self.now.jobs ≡ None =
    subst (λ (run : Run). job_under c.args.name.now run.jobs ≡ None) c.self.view_is (sym c.get.ensures.value ∙ ap option_copied c.in_default.is) in
    subst (λ (answer : List ℕ × Run). OnOk c.push_no_job.result (c.push_no_job.new.out.items ≡ c.args.text.now.items ++ numbered_words c.args.line answer.0))
    (sym (no_job c.args.self.now c.args.name.now none)) c.push_no_job.ensures.ok

pub returns-in_default-clause-after : goal.returns-in_default-clause-after
returns-in_default-clause-after c =
    let none : job_under c.args.name.now c.args.self.now.jobs ≡ None =
    subst (λ (run : Run). job_under c.args.name.now run.jobs ≡ None) c.self.view_is (sym c.get.ensures.value ∙ ap option_copied c.in_default.is) in
    always c.push_no_job.result (ap (λ (answer : List ℕ × Run). answer.1) (sym (no_job c.args.self.now c.args.name.now none)))

pub returns : goal.returns
returns c =
    let found : job_under c.args.name.now c.self.inside.jobs.entries ≡ Some c.in-Some.job.now = sym c.get.ensures.value ∙ ap option_copied c.in-Some.is in
    let steps : (c.of_published-reply.result, c.publish.new.self) ≡ step c.self.inside.desk (desk.Publish c.in_ok-formed.formed) =
    ap (λ (reply : Reply). (reply, c.publish.new.self)) c.of_published-reply.ensures ∙ c.in_ok-publish.ensures.ok in
    let made : (reply_words c.of_published-reply.result, record { state = c.publish.new.self; jobs = c.self.inside.jobs.entries }) ≡ after_command c.args.self.now (script.Publish c.args.name.now) =
    published_job c.args.self.now c.self.inside.desk c.publish.new.self c.self.inside.jobs.entries c.args.name.now c.in-Some.job.now c.in_ok-formed.formed c.of_published-reply.result
    c.self.view_is found c.in_ok-formed.ensures steps in
    record {
      printed = subst (λ (answer : List ℕ × Run). OnOk c.push_reply.result (c.push_reply.new.out.items ≡ c.args.text.now.items ++ numbered_words c.args.line answer.0)) made c.push_reply.ensures.ok;
      after = always c.push_reply.result (ap (λ (answer : List ℕ × Run). answer.1) made);
    }
