use Rattle.tree_faults.proofs.PlaceLemmas.{parts_at}
use Rattle.tree_faults.proofs.limits.style_beyond.Goals as goal

pub returns : goal.returns
returns c = λ root sheet. parts_at 16384 c.args.sheet.now.styles.items c.as_slice.result.now _ c.place_in_part.result c.place_in_part.ensures c.as_slice.ensures.value sheet.styles_are
