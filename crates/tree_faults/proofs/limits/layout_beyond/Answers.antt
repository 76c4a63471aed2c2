use Rattle.tree_faults.proofs.PlaceLemmas.{places_at}
use Rattle.tree_faults.proofs.limits.layout_beyond.Goals as goal

pub returns : goal.returns
returns c = λ root sheet. places_at (λ element. element.now) 1024 c.args.sheet.now.layouts.items c.as_slice.result.now _ c.place_at.result c.place_at.ensures c.as_slice.ensures.value sheet.layouts_are
