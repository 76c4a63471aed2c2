use Rattle.script_lang.proofs.LineLemmas.{no_deletion, no_range, no_end}
use Rattle.script_lang.proofs.edits.read_deletion.Goals as goal

pub returns-in_err-par : goal.returns-in_err-par
returns-in_err-par c = rw c.from_residual.ensures (no_deletion c.args.bytes.now (λ par from to h. c.in_err-par.ensures par h.0 h.2))

pub returns-in_err-from : goal.returns-in_err-from
returns-in_err-from c =
    let bytes = c.args.bytes.now in
    rw c.from_residual-in_err-from.ensures (no_deletion bytes
    (λ par from to h. no_range bytes c.in_ok-par.rest.now c.in_ok-par.par par from to c.in_ok-par.ensures c.in_err-from.ensures h))

pub returns-in_err-to : goal.returns-in_err-to
returns-in_err-to c =
    let bytes = c.args.bytes.now in
    rw c.from_residual-in_err-to.ensures (no_deletion bytes
    (λ par from to h. no_end bytes c.in_ok-par.rest.now c.in_ok-from.rest.now c.in_ok-par.par par c.in_ok-from.from from to c.in_ok-par.ensures c.in_ok-from.ensures c.in_err-to.ensures h))
