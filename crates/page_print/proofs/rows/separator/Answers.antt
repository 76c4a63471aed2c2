use Rattle.std.proofs.Common.{ap, ◌∙◌}
use Rattle.std.specs.Str.{chars}
use Rattle.page_print.proofs.rows.separator.Goals as goal

pub returns : goal.returns
unfolding chars
returns c = c.from_list.ensures ∙ ap chars c.in_ok-from_str.ensures.ok
