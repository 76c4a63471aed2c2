use Rattle.std.proofs.Common.{sym, ap, ◌∙◌}
use Rattle.line_model.specs.declared.job.Job.{Job}
use Rattle.line_model.specs.declared.key.Key.{Key}
use Rattle.line_model.specs.Lines.{lines_of}
use Rattle.line_model.proofs.KeyLemmas.{is_same_key-true}
use Rattle.idle_queue.proofs.kept.LivePar.lines.Goals as goal

pub returns-then-is_same_key : goal.returns-then-is_same_key
returns-then-is_same_key c =
    c.lines.ensures
    ∙ ap (λ (job : Job). lines_of job.key) (sym c.job.ensures)
    ∙ ap (λ (key : Key). lines_of key) (sym (is_same_key-true c.args.key.now c.job.result.now.key (sym c.is_same_key.ensures ∙ c.if-is_same_key.true)))
