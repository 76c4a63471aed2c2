use Rattle.std.proofs.Common.{List, map, take, sym, subst}
use Rattle.load_model.specs.declared.element.Element.{Element}
use Rattle.sheet_values.proofs.Steps.{next_behind}
use Rattle.head_read.specs.Masters.{KeptAre}
use Rattle.head_read.proofs.kept_masters.read_kept.Goals as goal

pub kept-preserved : goal.kept-preserved
kept-preserved c = λ known knows.
    let before : List Element = map (λ one. one.now) (take c.kept.element-index c.args.kept.now) in
    let P : List Element → Type 0 = λ all. KeptAre c.in_ok-read.read known all in
    subst P (sym (next_behind (λ one. one.now) c.args.kept.now c.kept.element-index c.element-item.result c.kept-test.true c.element-item.is))
    (c.in_ok-read.ensures known knows before (c.kept.invariant known knows))
