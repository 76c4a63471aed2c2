use Rattle.std.proofs.Common.{[], ◌∷◌, ◌++◌, Bool, ap, sym}
use Rattle.field_model.specs.Labels.{shown_level}
use Rattle.list_num.specs.Counters.{count_in, separator}
use Rattle.number_text.proofs.CutLemmas.{cut_last}
use Rattle.list_num.proofs.labels.push_next.Goals as goal

pub returns : goal.returns
returns c =
    let shown = shown_level (count_in c.args.counters.now) c.args.level.now in
    cut_last c.push_level-2.result c.args.out.now c.push.new.self c.push_level-2.new.out (46 ∷ []) shown (separator c.args.is_first ++ shown)
    c.in_ok-push.ensures.ok (ap (λ (first : Bool). separator first ++ shown) (sym c.if-is_first.false)) c.push_level-2.ensures
