use Rattle.std.proofs.Common.{List, map, take, sym, subst}
use Rattle.load_model.specs.declared.element.Element.{Element}
use Rattle.sheet_values.proofs.Steps.{next_behind}
use Rattle.head_read.specs.Heads.{ParagraphsAre}
use Rattle.head_read.proofs.paragraphs.read_paragraphs.Goals as goal

pub elements-init : goal.elements-init
elements-init c = λ known knows. c.none-read.ensures known

pub elements-preserved : goal.elements-preserved
elements-preserved c = λ known knows.
    let before : List Element = map (λ one. one.now) (take c.elements.element-index c.args.elements.now) in
    let P : List Element → Type 0 = λ all. ParagraphsAre c.in_ok-read.read known all in
    subst P (sym (next_behind (λ one. one.now) c.args.elements.now c.elements.element-index c.element-item.result c.elements-test.true c.element-item.is))
    (c.in_ok-read.ensures known knows before (c.elements.invariant known knows))
