use Rattle.script_lang.proofs.LineLemmas.{no_place, no_quotes}
use Rattle.script_lang.proofs.edits.insertion_parts.Goals as goal

pub returns-in_err-par : goal.returns-in_err-par
returns-in_err-par c = rw c.from_residual.ensures (λ par at inside h. c.in_err-par.ensures par h.0 h.2)

pub returns-in_err-at : goal.returns-in_err-at
returns-in_err-at c =
    let bytes = c.args.bytes.now in
    rw c.from_residual-in_err-at.ensures
    (λ par at inside h. no_place bytes c.in_ok-par.rest.now inside c.in_ok-par.par par at c.in_ok-par.ensures c.in_err-at.ensures h)

pub returns-in_err-inside : goal.returns-in_err-inside
returns-in_err-inside c =
    let bytes = c.args.bytes.now in
    rw c.from_residual-in_err-inside.ensures
    (λ par at inside h. no_quotes bytes c.in_ok-par.rest.now c.in_ok-at.rest.now inside c.in_ok-par.par par c.in_ok-at.at at c.in_ok-par.ensures c.in_ok-at.ensures c.in_err-inside.ensures h)
