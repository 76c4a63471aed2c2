use Rattle.std.proofs.Common.{◌≡◌, ◌-◌, List, length, None}
use Rattle.std.specs.HashMap.{get}
use Rattle.std.specs.Str.{bytes_eq}
use Rattle.doc_model.specs.declared.paragraph.ParHead.{ParHead}
use Rattle.list_num.specs.Counts.{HaveCounted}
use Rattle.list_num.proofs.counts.Counts.find_style.Given as goal

abbrev pub invariant-styles : goal.invariant-styles
invariant-styles l = record {
  unknown : get bytes_eq l.self.lists l.name ≡ None;
  kept : (before : List ParHead) → HaveCounted l.lists before l.initial.self → HaveCounted l.lists before l.self;
}

abbrev pub decreases-styles : goal.decreases-styles
decreases-styles l = length l.initial.lists - l.self.known
