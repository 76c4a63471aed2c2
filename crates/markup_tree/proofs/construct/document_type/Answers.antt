-- The word.
use Rattle.std.proofs.Common.{[], codes, refl, sym}
use Rattle.std.proofs.lemmas.Result.{err_from_is_err_and}
use Rattle.std.specs.Str.{chars}
use Rattle.markup_parts.specs.Outcomes.{Found}
use Rattle.markup_parts.proofs.LiteralLemmas.{not_nil}
use Rattle.markup_parts.proofs.ReadsLemmas.{reads_on}
use Rattle.markup_parts.proofs.TextLemmas.{text_read}
use Rattle.markup_tree.specs.Pieces.{Declares}
use Rattle.markup_tree.proofs.ConstructLemmas.{behind_on, behind_stop, nothing_done, text_is}
use Rattle.markup_tree.proofs.construct.document_type.Goals as goal

pub returns-in_err-rest-clause-read : goal.returns-in_err-rest-clause-read
unfolding chars
returns-in_err-rest-clause-read c =
    let p = err_from_is_err_and c.from_residual.result c.from_residual.ensures.1 in
    rw (p.1, p.2) (behind_stop (λ (unit : Unit {0}). Declares) (codes "DOCTYPE") (chars c.args.text.now) nothing_done c.in_err-rest.field-0.0 c.in_err-rest.ensures.read)

pub returns-clause-read : goal.returns-clause-read
unfolding chars
returns-clause-read c =
    let rest = chars c.in_ok-rest.rest.now in
    reads_on (behind_on (codes "DOCTYPE") (text_is (codes "DOCTYPE") c.in_ok-rest.ensures.read)) (Found tt rest) (text_read [] rest rest refl)

pub returns-clause-shorter : goal.returns-clause-shorter
unfolding chars
returns-clause-shorter c = c.in_ok-rest.ensures.shorter.1 (λ e. not_nil (sym e))
