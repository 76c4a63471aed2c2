use Rattle.std.proofs.Common.{sym, ◌∙◌}
use Rattle.sheet_write.proofs.PartLemmas.{there-among}
use Rattle.sheet_write.proofs.parts.has_style.Goals as goal

pub returns : goal.returns
returns c = c.is_any_among.ensures ∙ sym (there-among c.args.automatic c.args.styles.now)
