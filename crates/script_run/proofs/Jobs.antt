-- What a take and a publish are answered, and the run after them.
use Rattle.std.proofs.Common.{◌≡◌, ℕ, List, [], ◌∷◌, Some, None, refl, sym, ap, subst, ◌∙◌}
use Rattle.std.specs.Prelude.{Result, OnOk, Ok, Err, if◌then◌else◌}
use Rattle.std.specs.Str.{bytes_eq}
use Rattle.indexmap.specs.IndexMap.{insert_entry}
use Rattle.line_model.specs.declared.job.Job.{Job}
use Rattle.desk_model.specs.declared.command.Command.TheVariants as desk
use Rattle.desk_model.specs.declared.script.ScriptCommand.TheVariants as script
use Rattle.desk_model.specs.declared.reply.Reply.{Reply}
use Rattle.desk_model.specs.declared.reply.Reply.TheVariants as reply
use Rattle.desk_model.specs.Desk.{State, step}
use Rattle.desk_model.specs.Replies.{no_job_words, reply_words}
use Rattle.desk_model.specs.Runs.{Run, job_under, with_job, with_reply, of_desk, after_command}

-- a map puts a job under a name as a run does
pub insert_entry-with_job : (name : List ℕ) (job : Job) (jobs : List (List ℕ × Job)) → insert_entry bytes_eq jobs name job ≡ with_job name job jobs
insert_entry-with_job name job [] = refl
insert_entry-with_job name job (kept ∷ more) = ap (λ (rest : List (List ℕ × Job)). if bytes_eq name kept.0 then (kept.0, job) ∷ more else kept ∷ rest) (insert_entry-with_job name job more)

-- a job that is answered is kept under the name
pub took_job : (run : Run) (state next : State) (jobs later : List (List ℕ × Job)) (name : List ℕ) (job : Job) → record { state = state; jobs = jobs } ≡ run
    → (reply.Job job, next) ≡ step state desk.Take → later ≡ insert_entry bytes_eq jobs name job
    → (reply_words (reply.Job job), record { state = next; jobs = later }) ≡ after_command run (script.Take name)
took_job run state next jobs later name job is steps put =
    subst (λ (run : Run). (reply_words (reply.Job job), record { state = next; jobs = later }) ≡ after_command run (script.Take name)) is
    (ap (λ (rest : List (List ℕ × Job)). (reply_words (reply.Job job), record { state = next; jobs = rest })) (put ∙ insert_entry-with_job name job jobs)
    ∙ ap (λ (answer : Reply × State). (reply_words answer.0, record { state = answer.1; jobs = with_reply name answer.0 jobs })) steps)

-- nothing is published under a name that no job is kept under
pub no_job : (run : Run) (name : List ℕ) → job_under name run.jobs ≡ None → after_command run (script.Publish name) ≡ (no_job_words, run)
no_job run name e = rw e refl

-- the job under a name is published
a_job : (run : Run) (name : List ℕ) (job : Job) → job_under name run.jobs ≡ Some job → after_command run (script.Publish name) ≡ of_desk run (desk.Publish job)
a_job run name job e = rw e refl

-- the lines of the job under a name are published
pub published_job : (run : Run) (state next : State) (jobs : List (List ℕ × Job)) (name : List ℕ) (job formed : Job) (answer : Reply) → record { state = state; jobs = jobs } ≡ run
    → job_under name jobs ≡ Some job → formed ≡ job → (answer, next) ≡ step state (desk.Publish formed)
    → (reply_words answer, record { state = next; jobs = jobs }) ≡ after_command run (script.Publish name)
published_job run state next jobs name job formed answer is found same steps =
    subst (λ (run : Run). (reply_words answer, record { state = next; jobs = jobs }) ≡ after_command run (script.Publish name)) is
    (ap (λ (answer : Reply × State). (reply_words answer.0, record { state = answer.1; jobs = jobs })) (steps ∙ ap (λ (job : Job). step state (desk.Publish job)) same)
    ∙ sym (a_job (record { state = state; jobs = jobs }) name job found))

-- a fact holds on success, whatever that gives
pub always : {T E P : Type 0} (r : Result T E) → P → OnOk r P
always (Ok x) p = p
always (Err e) p = tt
