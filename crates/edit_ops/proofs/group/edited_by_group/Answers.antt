use Rattle.std.proofs.Common.{◌∙◌, ap, sym, arith, ℕ, List, length, get_or}
use Rattle.doc_model.specs.declared.edit.EditOp.{EditOp}
use Rattle.edit_ops.proofs.Runs.{run-made, run-refused, run-done, group-few}
use Rattle.edit_ops.proofs.group.edited_by_group.Goals as goal

pub returns-in-Some-clause-refused : goal.returns-in-Some-clause-refused
returns-in-Some-clause-refused c = λ next.
    group-few (record { document = c.args.doc.now; next = next }) c.args.group.now.0 (omega (arith, ap (length {A = EditOp}) c.get-ops.ensures))
    ∙ sym (c.ops.invariant.left next)
    ∙ run-refused (record { document = c.ops.draft.document; next = next }) c.args.group.now.0 c.ops.index c.index-ops-index.result c.in-Some.why
    (omega (arith, ap (length {A = EditOp}) c.get-ops.ensures))
    (c.index-ops-index.is ∙ ap (λ (ops : List EditOp). get_or ops c.ops.index c.index-ops-index.result) c.get-ops.ensures)
    (sym (c.in-Some.ensures next))

pub ops-preserved : goal.ops-preserved
ops-preserved c =
    let left = λ (next : ℕ). sym (run-made (record { document = c.ops.draft.document; next = next }) (record { document = c.make.new.self.document; next = next }) c.args.group.now.0 c.ops.index c.index-ops-index.result
    (omega (arith, ap (length {A = EditOp}) c.get-ops.ensures))
    (c.index-ops-index.is ∙ ap (λ (ops : List EditOp). get_or ops c.ops.index c.index-ops-index.result) c.get-ops.ensures)
    (sym (c.in_default.ensures next)) (c.in_ok-make.ensures.made next)) ∙ c.ops.invariant.left next in
    record { plain = c.in_ok-make.ensures.plain; counted = c.in_ok-make.ensures.counted; left = left }

pub returns-clause-done : goal.returns-clause-done
returns-clause-done c = λ next.
    group-few (record { document = c.args.doc.now; next = next }) c.args.group.now.0 (omega (arith, ap (length {A = EditOp}) c.get-ops.ensures))
    ∙ sym (c.ops.invariant.left next)
    ∙ run-done (record { document = c.ops.draft.document; next = next }) c.args.group.now.0 c.ops.index (omega (arith, ap (length {A = EditOp}) c.get-ops.ensures))
