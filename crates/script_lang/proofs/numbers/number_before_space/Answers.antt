use Rattle.script_lang.proofs.CutLemmas.{no_cut, no_number_then}
use Rattle.script_lang.proofs.numbers.number_before_space.Goals as goal

pub returns-in_err-digits : goal.returns-in_err-digits
returns-in_err-digits c = rw c.from_residual.ensures (λ number rest h. no_cut 32 c.args.bytes.now h.0 rest c.in_err-digits.ensures h.2)

pub returns-in_err-number : goal.returns-in_err-number
returns-in_err-number c =
    let cut = c.in_ok-digits in
    rw c.from_residual-in_err-number.ensures (no_number_then c.args.bytes.now cut.digits.now cut.rest.now cut.ensures.0 cut.ensures.1 c.in_err-number.ensures)
