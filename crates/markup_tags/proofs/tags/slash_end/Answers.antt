-- The text ends.
use Rattle.std.proofs.Common.{[], codes, chars, refl}
use Rattle.markup_parts.proofs.TextLemmas.{text_cut}
use Rattle.markup_tags.proofs.tags.slash_end.Goals as goal

pub returns-in_default-clause-read : goal.returns-in_default-clause-read
returns-in_default-clause-read c = text_cut (codes ">") (chars c.args.text.now) [] [] 0x3e c.in_default.ensures.first refl
