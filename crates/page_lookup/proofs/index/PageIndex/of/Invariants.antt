use Rattle.std.proofs.Common.{◌≡◌, ℕ, nat_eq, drop}
use Rattle.std.specs.Option.{option_or}
use Rattle.indexmap.specs.IndexMap.{get}
use Rattle.page_lookup.specs.Numbers.{page_in}
use Rattle.page_lookup.proofs.index.PageIndex.of.Given as goal

abbrev pub invariant-entries : goal.invariant-entries
invariant-entries l = (id : ℕ) → option_or (get nat_eq l.pages id) (page_in (drop l.entry-index l.entry-items) id) ≡ page_in l.entry-items id
