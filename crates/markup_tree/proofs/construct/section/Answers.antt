-- A mark, and the characters up to the end behind it.
use Rattle.std.proofs.Common.{codes, sym, arith}
use Rattle.std.proofs.lemmas.Result.{err_from_is_err_and}
use Rattle.std.specs.Str.{chars}
use Rattle.markup_parts.specs.Outcomes.{Found, Stopped}
use Rattle.markup_parts.proofs.LiteralLemmas.{not_nil}
use Rattle.markup_parts.proofs.ReadsLemmas.{reads_on}
use Rattle.markup_tree.proofs.ConstructLemmas.{behind_on, behind_stop, section_done, text_is}
use Rattle.markup_tree.specs.Pieces.{Holds, line_ends}
use Rattle.markup_tree.proofs.construct.section.Goals as goal

pub returns-in_err-body-clause-read : goal.returns-in_err-body-clause-read
unfolding chars
returns-in_err-body-clause-read c =
    let p = err_from_is_err_and c.from_residual.result c.from_residual.ensures.1 in
    rw (p.1, p.2) (behind_stop (λ body. Holds (line_ends body)) (codes "[CDATA[") (chars c.args.text.now) section_done c.in_err-body.field-0.0 c.in_err-body.ensures.read)

pub returns-in_err-section-clause-read : goal.returns-in_err-section-clause-read
unfolding chars
returns-in_err-section-clause-read c =
    let p = err_from_is_err_and c.from_residual-in_err-section.result c.from_residual-in_err-section.ensures.1 in
    rw (p.1, p.2) (reads_on (behind_on (codes "[CDATA[") (text_is (codes "[CDATA[") c.in_ok-body.ensures.read)) (Stopped c.in_err-section.field-0.0) c.in_err-section.ensures.read)

pub returns-clause-read : goal.returns-clause-read
unfolding chars
returns-clause-read c = reads_on (behind_on (codes "[CDATA[") (text_is (codes "[CDATA[") c.in_ok-body.ensures.read)) (Found (chars c.in_ok-section.section.now) (chars c.in_ok-section.rest.now)) c.in_ok-section.ensures.read

pub returns-clause-shorter : goal.returns-clause-shorter
unfolding chars
returns-clause-shorter c = omega (arith, c.in_ok-section.ensures.shorter, c.in_ok-body.ensures.shorter.1 (λ e. not_nil (sym e)))
