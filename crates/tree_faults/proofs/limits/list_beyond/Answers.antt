use Rattle.tree_faults.proofs.PlaceLemmas.{places_at}
use Rattle.tree_faults.proofs.limits.list_beyond.Goals as goal

pub returns : goal.returns
returns c = λ root sheet. places_at (λ element. element.now) 4096 c.args.sheet.now.lists.items c.as_slice.result.now _ c.place_at.result c.place_at.ensures c.as_slice.ensures.value sheet.lists_are
