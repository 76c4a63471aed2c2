-- The end of the text begins at the boundary of a character.
use Rattle.markup_parts.proofs.BytesLemmas.{rest_shorter, rest_boundary, front_chars}
use Rattle.markup_parts.proofs.text.before.Goals as goal

pub overflow_sub-text : goal.overflow_sub-text
overflow_sub-text c = rest_shorter c.args.text.now c.args.rest.now c.requires.0 c.utf8.text c.utf8.rest c.requires.1

pub range-requires-clause-end_boundary : goal.range-requires-clause-end_boundary
range-requires-clause-end_boundary c = rest_boundary c.args.text.now c.args.rest.now c.requires.0 c.utf8.text c.utf8.rest c.requires.1

pub returns : goal.returns
returns c = front_chars c.args.text.now c.args.rest.now c.requires.0 c.range.result.now c.utf8.text c.utf8.rest c.range.utf8 c.requires.1 c.range.ensures.value
