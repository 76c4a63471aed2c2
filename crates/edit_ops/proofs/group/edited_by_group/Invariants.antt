use Rattle.std.proofs.Common.{◌≡◌, ℕ, drop}
use Rattle.doc_model.specs.declared.refusal.Limit.TheVariants as limit
use Rattle.edit_model.specs.Edit.{edited_by}
use Rattle.doc_model.specs.Limits.{measure}
use Rattle.doc_model.specs.Plain.{IsPlain}
use Rattle.edit_ops.proofs.group.edited_by_group.Given as goal

-- what is left to do on the draft is what the whole group does on the document
abbrev pub invariant-ops : goal.invariant-ops
invariant-ops l = record {
  plain : IsPlain l.draft.document;
  counted : l.draft.items ≡ measure l.draft.document limit.Items;
  left : (next : ℕ) → edited_by (record { document = l.draft.document; next = next }) l.index (drop l.index l.fn.group.0) ≡ edited_by (record { document = l.fn.doc; next = next }) 0 l.fn.group.0;
}
