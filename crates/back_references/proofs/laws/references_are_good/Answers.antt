use Rattle.back_references.proofs.Good.{given_good, span_good, style_good}
use Rattle.back_references.proofs.laws.references_are_good.Goals as goal

pub returns : goal.returns
returns c = record { style = style_good; span = span_good; given = given_good }
