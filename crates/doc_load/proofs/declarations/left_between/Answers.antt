use Rattle.std.proofs.Common.{◌<◌, ◌∙◌, length, get_or, take, ap, sym, arith}
use Rattle.load_model.specs.Left.{nothing, all_of}
use Rattle.element_parts.specs.Shown.{shown}
use Rattle.declared_names.proofs.LeftLemmas.{left_more}
use Rattle.doc_load.proofs.LeftLemmas.{left_at, as_many}
use Rattle.read_blocks.specs.declared.read.ReadDeclarations.{ReadDeclarations}
use Rattle.doc_load.proofs.declarations.left_between.Goals as goal

pub declarations-preserved : goal.declarations-preserved
declarations-preserved c = λ lefts same.
    let at = c.declarations.part-index in
    let parts = c.args.declarations.now in
    let many = as_many parts lefts same in
    let within = c.declarations-test.true in
    let inside : at < length lefts = omega (arith, many, within) in
    c.with_left-total.ensures (all_of (take at lefts)) (get_or lefts at nothing) (c.declarations.invariant lefts same) (ap (λ (part : ReadDeclarations). part.left) c.part-item.is ∙ left_at parts lefts same at c.part-item.result within)
    ∙ ap shown (sym (left_more lefts at inside))
