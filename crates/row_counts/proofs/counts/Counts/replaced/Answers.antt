use Rattle.std.proofs.Common.{◌≡◌, ◌∙◌, ap}
use Rattle.std.specs.List.{splice}
use Rattle.row_counts.specs.declared.counts.Counts.{Counts}
use Rattle.row_counts.specs.Counts.{counts_of}
use Rattle.row_counts.proofs.Replaced.{both, replaced, if_ok}
use Rattle.row_counts.proofs.counts.Counts.replaced.Goals as goal

pub returns : goal.returns
returns c = λ rows from to order known out.
    if_ok c.plus.result (λ (counts : Counts). counts ≡ both c.minus.result c.in_ok-put.put) (λ (counts : Counts). counts ≡ counts_of (splice rows from to c.args.put.now))
    (λ counts sum. replaced rows c.args.put.now c.args.removed.now from to c.args.self c.in_ok-removed.removed c.in_ok-put.put counts order known out c.in_ok-removed.ensures c.in_ok-put.ensures
    (sum ∙ ap (λ (left : Counts). both left c.in_ok-put.put) c.minus.ensures))
    c.plus.ensures
