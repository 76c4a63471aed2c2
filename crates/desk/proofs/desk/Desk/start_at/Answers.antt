use Rattle.std.proofs.Common.{ℕ, ◌+◌, ◌∙◌, ap, sym, subst, arith}
use Rattle.edit_model.specs.Past.{Past, no_past}
use Rattle.round_model.specs.Idle.{Idle, idle_at}
use Rattle.desk_model.specs.Desk.{State}
use Rattle.desk.specs.DeskState.{IsDeskState}
use Rattle.desk.proofs.Numbers.{greatest_number-plain, length_body-bound}
use Rattle.desk.proofs.desk.Desk.start_at.Goals as goal

pub overflow_cast-next : goal.overflow_cast-next
overflow_cast-next c = omega (arith, length_body-bound c.args.doc c.requires, c.len.ensures)

pub overflow_add-next : goal.overflow_add-next
overflow_add-next c = omega (arith, length_body-bound c.args.doc c.requires, c.len.ensures)

pub returns : goal.returns
returns c =
    let state : Past → ℕ → Idle → State = λ past next idle. record { past = past; next = next; version = c.args.version; idle = idle } in
    let count = c.len.ensures ∙ sym (greatest_number-plain c.args.doc c.requires) in
    ap (λ (past : Past). state past (c.len.result + 1) c.in_ok-agenda.agenda) c.of_document.ensures
    ∙ ap (λ (idle : Idle). state (no_past c.args.doc) (c.len.result + 1) idle) c.in_ok-agenda.ensures.start
    ∙ ap (λ (greatest : ℕ). state (no_past c.args.doc) (greatest + 1) (idle_at c.args.doc c.args.version)) count

pub invariant_of-result : goal.invariant_of-result
invariant_of-result c =
    subst (λ (past : Past). IsDeskState past c.in_ok-agenda.agenda) (sym c.of_document.ensures)
    (record { plain = record { present = c.requires; earlier = tt; undone = tt }; counts = record { earlier = tt; undone = tt }; reached = c.in_ok-agenda.ensures.reached })
