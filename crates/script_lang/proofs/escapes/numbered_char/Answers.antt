use Rattle.std.proofs.Common.{◌≡◌, ℕ, List, ◌++◌, ap, sym, ◌∙◌, arith}
use Rattle.std.specs.Prelude.{codes}
use Rattle.script_lang.proofs.SpellLemmas.{code_then, no_code, code_digits}
use Rattle.script_lang.proofs.escapes.numbered_char.Goals as goal
use Rattle.script_lang.proofs.escapes.numbered_char.Goals.{in_default-via-then-branch-lt32, in_default-via-else-branch-lt32+else-this-lt127}

pub returns-in_err-digits : goal.returns-in_err-digits
returns-in_err-digits c = rw c.from_residual.ensures (λ d rest h. no_code c.args.bytes.now rest d c.in_err-digits.ensures h)

pub returns-in_err-c : goal.returns-in_err-c
returns-in_err-c c =
    let cut = c.in_ok-digits in
    rw c.from_residual-in_err-c.ensures (λ d rest h. c.in_err-c.ensures d (code_digits c.args.bytes.now cut.digits.now cut.rest.now rest d cut.ensures.0 cut.ensures.1 h).0)

pub returns-in-32-to-126 : goal.returns-in-32-to-126
returns-in-32-to-126 c =
    let cut = c.in_ok-digits in
    code_then (codes "\\u{" ++ c.args.bytes.now) cut.rest.now c.in_ok-c.c (omega arith, omega arith)
    (cut.digits.now, c.in_ok-c.ensures, ap (λ (bytes : List ℕ). codes "\\u{" ++ bytes) cut.ensures.1)

pub returns-in_default : goal.returns-in_default
returns-in_default c = λ d rest h.
    let cut = c.in_ok-digits in
    let found = code_digits c.args.bytes.now cut.digits.now cut.rest.now rest d cut.ensures.0 cut.ensures.1 h in
    let same : d ≡ c.in_ok-c.c = sym found.0.2.1 ∙ c.in_ok-c.ensures.2.1 in
    let low = found.1.0 in
    let high = found.1.1 in
    elim c.in_default.branch [ in_default-via-then-branch-lt32 w ↦ absurd (omega arith) | in_default-via-else-branch-lt32+else-this-lt127 w ↦ absurd (omega arith) ]
