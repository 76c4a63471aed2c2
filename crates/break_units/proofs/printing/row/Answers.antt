use Rattle.std.proofs.Common.{◌≡◌, List, ℕ, subst, chars, IfOk}
use Rattle.break_units.proofs.Printed.{printed_row-text}
use Rattle.break_units.proofs.printing.row.Goals as goal

pub returns : goal.returns
returns c =
    let e = printed_row-text c.args.key.now c.args.line.now c.line_text.result.now c.line_text.ensures.text in
    subst (λ (bytes : List ℕ). IfOk c.row_of_text.result (λ row. row ≡ chars bytes)) e c.row_of_text.ensures
