-- An equals sign and a quotation mark, and the value behind them.
use Rattle.std.proofs.Common.{chars}
use Rattle.std.proofs.lemmas.Result.{err_from_is_err_and}
use Rattle.std.specs.String.{string_bytes}
use Rattle.markup_tags.specs.Attempts.{attempt}
use Rattle.markup_tags.proofs.AttemptLemmas.{attempt_same}
use Rattle.markup_tags.proofs.TagLemmas.{rest_on, rest_stop}
use Rattle.markup_tags.proofs.tags.attribute_rest.Goals as goal

pub returns-in_err-quote-clause-read : goal.returns-in_err-quote-clause-read
returns-in_err-quote-clause-read c =
    let p = err_from_is_err_and c.from_residual.result c.from_residual.ensures.1 in
    rw (p.1, p.2) (rest_stop (chars c.args.text.now) c.in_err-quote.field-0.0 c.in_err-quote.ensures.read)

pub returns-clause-read : goal.returns-clause-read
returns-clause-read c =
    attempt_same (rest_on c.in_ok-quote.ensures.read) (attempt (λ found. chars (string_bytes found.0)) (λ found. chars found.1.now) c.value.result) c.value.ensures.read
