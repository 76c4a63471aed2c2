-- The next paragraph number never falls.
use Rattle.std.proofs.Common.{ℕ, ◌+◌, ◌≤◌, List, [], ◌∷◌, Option, None, Some, arith}
use Rattle.std.specs.Prelude.{IfOk, Err}
use Rattle.std.specs.Option.{option_map_or}
use Rattle.doc_model.specs.declared.edit.EditOp.{EditOp}
use Rattle.doc_model.specs.declared.refusal.Refusal.{Refusal}
use Rattle.edit_rules.specs.Edited.{Edited, edited}
use Rattle.edit_rules.specs.Refusals.{first_refusal}
use Rattle.edit_rules.specs.Group.{edited_by}

kept : (old : Edited) (ops : List EditOp) (index : ℕ) (start : ℕ) → start ≤ old.next → IfOk (edited_by old index ops) (λ new. start ≤ new.next)
kept old [] index start below = below
kept old (op ∷ ops) index start below = by_refusal (first_refusal old op) (kept (edited old op) ops (index + 1) start (omega (arith, below))) where
  by_refusal : (why : Option Refusal) → IfOk (edited_by (edited old op) (index + 1) ops) (λ new. start ≤ new.next)
      → IfOk (option_map_or (λ why. Err (index, why)) why (edited_by (edited old op) (index + 1) ops)) (λ new. start ≤ new.next)
  by_refusal None later = later
  by_refusal (Some why) later = tt

pub never_falls : (old : Edited) (index : ℕ) (ops : List EditOp) → IfOk (edited_by old index ops) (λ new. old.next ≤ new.next)
never_falls old index ops = kept old ops index old.next (omega arith)
