use Rattle.std.proofs.Common.{◌<◌, ◌∙◌, length, get_or, take, ap, sym, arith}
use Rattle.load_model.specs.Left.{nothing, all_of}
use Rattle.element_parts.specs.Shown.{shown}
use Rattle.declared_names.proofs.LeftLemmas.{left_more, left_at, as_many}
use Rattle.declared_names.proofs.left.all_left.Goals as goal

pub kept-preserved : goal.kept-preserved
kept-preserved c = λ lefts same.
    let at = c.kept.one-index in
    let kept = c.args.kept.now in
    let many = as_many kept lefts same in
    let within = c.kept-test.true in
    let inside : at < length lefts = omega (arith, many, within) in
    c.with_left-total.ensures (all_of (take at lefts)) (get_or lefts at nothing) (c.kept.invariant lefts same) (left_at kept lefts same at _ within)
    ∙ ap shown (sym (left_more lefts at inside))
