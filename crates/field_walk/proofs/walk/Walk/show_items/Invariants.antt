use Rattle.std.proofs.Common.{◌≡◌, ◌++◌, List, take}
use Rattle.doc_model.specs.declared.paragraph.Item.{Item}
use Rattle.field_model.specs.Gathered.{Event}
use Rattle.field_model.specs.Shown.{shown_behind}
use Rattle.field_walk.specs.Holds.{HoldsEvents}
use Rattle.field_walk.specs.Seen.{HasSeen}
use Rattle.field_walk.proofs.walk.Walk.show_items.Given as goal

abbrev pub invariant-loop-item : goal.invariant-loop-item
invariant-loop-item l = record {
  seen : (front : List Item) → HasSeen l.par l.fn.seen front → HasSeen l.par l.now (front ++ take l.item-index l.items);
  shown : (all : List Event) (front : List Item) → HoldsEvents l.self all → HasSeen l.par l.fn.seen front → l.shown ≡ l.initial.shown ++ shown_behind all l.table l.par front (take l.item-index l.items);
}
