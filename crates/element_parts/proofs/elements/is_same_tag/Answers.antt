use Rattle.std.proofs.Common.{◌∙◌}
use Rattle.element_parts.proofs.TagNumbers.{same_tags}
use Rattle.element_parts.proofs.elements.is_same_tag.Goals as goal

pub returns : goal.returns
returns c = c.eq.ensures ∙ same_tags c.args.one c.args.other
