use Rattle.std.specs.Str.{chars}
use Rattle.style_write.proofs.properties.push_text_attributes.Goals as goal

pub returns : goal.returns
unfolding chars
returns c = c.push_display_stated.ensures
