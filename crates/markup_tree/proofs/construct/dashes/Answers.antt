-- Two hyphens, and a comment behind them.
use Rattle.std.proofs.Common.{codes, sym, arith}
use Rattle.std.proofs.lemmas.Result.{err_from_is_err_and}
use Rattle.std.specs.Str.{chars}
use Rattle.markup_parts.specs.Outcomes.{Found, Stopped}
use Rattle.markup_parts.proofs.LiteralLemmas.{not_nil}
use Rattle.markup_parts.proofs.ReadsLemmas.{reads_on}
use Rattle.markup_tree.proofs.ConstructLemmas.{behind_on, behind_stop, comment_done, text_is}
use Rattle.markup_tree.specs.Pieces.{silent}
use Rattle.markup_tree.proofs.construct.dashes.Goals as goal

pub returns-in_err-body-clause-read : goal.returns-in_err-body-clause-read
unfolding chars
returns-in_err-body-clause-read c =
    let p = err_from_is_err_and c.from_residual.result c.from_residual.ensures.1 in
    rw (p.1, p.2) (behind_stop silent (codes "--") (chars c.args.text.now) comment_done c.in_err-body.field-0.0 c.in_err-body.ensures.read)

pub returns-in_err-rest-clause-read : goal.returns-in_err-rest-clause-read
unfolding chars
returns-in_err-rest-clause-read c =
    let p = err_from_is_err_and c.from_residual-in_err-rest.result c.from_residual-in_err-rest.ensures.1 in
    rw (p.1, p.2) (reads_on (behind_on (codes "--") (text_is (codes "--") c.in_ok-body.ensures.read)) (Stopped c.in_err-rest.field-0.0) c.in_err-rest.ensures.read)

pub returns-clause-read : goal.returns-clause-read
unfolding chars
returns-clause-read c = reads_on (behind_on (codes "--") (text_is (codes "--") c.in_ok-body.ensures.read)) (Found tt (chars c.in_ok-rest.rest.now)) c.in_ok-rest.ensures.read

pub returns-clause-shorter : goal.returns-clause-shorter
unfolding chars
returns-clause-shorter c = omega (arith, c.in_ok-rest.ensures.shorter, c.in_ok-body.ensures.shorter.1 (λ e. not_nil (sym e)))
