use Rattle.std.proofs.Common.{sym, ap, ◌∙◌, List}
use Rattle.std.specs.List.{list_any}
use Rattle.line_model.specs.declared.job.Job.{Job}
use Rattle.line_model.specs.Keys.{is_same_key}
use Rattle.round_model.specs.Idle.{Live, keeps}
use Rattle.idle_queue.proofs.Rows.{keys_of, kept_at}
use Rattle.idle_queue.proofs.kept.LivePar.keeps.Goals as goal

pub returns-then-is_same_key : goal.returns-then-is_same_key
returns-then-is_same_key c =
    sym
    (ap (λ (live : Live). keeps live c.args.key.now) (sym c.self.view_is)
    ∙ ap (λ (rows : List Job). list_any (is_same_key c.args.key.now) (keys_of rows)) (sym c.deref-row-items.ensures.value)
    ∙ kept_at (is_same_key c.args.key.now) c.deref-row-items.result.now c.rows.row-index c.row-item.result c.rows-test.true
    (ap (λ (job : Job). is_same_key c.args.key.now job.key) (sym (c.job.ensures ∙ c.row-item.is)) ∙ sym c.is_same_key.ensures ∙ c.if-is_same_key.true))
