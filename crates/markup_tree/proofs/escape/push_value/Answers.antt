-- A character or its reference behind what was written.
use Rattle.std.proofs.Common.{ap, sym, codes}
use Rattle.std.specs.Str.{chars}
use Rattle.markup_tree.specs.Escapes.{value_escape}
use Rattle.markup_tree.proofs.EscapeLemmas.{pushed}
use Rattle.markup_tree.proofs.escape.push_value.Goals as goal

pub returns-in-34 : goal.returns-in-34
unfolding chars
returns-in-34 c = pushed c.push_str.result c.args.out.now _ (codes "&quot;") (value_escape c.args.c) c.push_str.ensures.bytes (ap value_escape (sym c.in-34.is))

pub returns-in-9 : goal.returns-in-9
unfolding chars
returns-in-9 c = pushed c.push_str-in-9.result c.args.out.now _ (codes "&#9;") (value_escape c.args.c) c.push_str-in-9.ensures.bytes (ap value_escape (sym c.in-9.is))

pub returns-in-10 : goal.returns-in-10
unfolding chars
returns-in-10 c = pushed c.push_str-in-10.result c.args.out.now _ (codes "&#10;") (value_escape c.args.c) c.push_str-in-10.ensures.bytes (ap value_escape (sym c.in-10.is))

pub returns-in-13 : goal.returns-in-13
unfolding chars
returns-in-13 c = pushed c.push_str-in-13.result c.args.out.now _ (codes "&#13;") (value_escape c.args.c) c.push_str-in-13.ensures.bytes (ap value_escape (sym c.in-13.is))
