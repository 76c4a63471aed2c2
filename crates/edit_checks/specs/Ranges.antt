-- Ranges of items that end before they begin.
use Rattle.std.specs.Prelude.{nat_lt, Option, None}
use Rattle.doc_model.specs.declared.edit.EditOp.{EditOp}
use Rattle.doc_model.specs.declared.edit.EditOp.TheVariants.{DeleteRange, SetSpan}
use Rattle.doc_model.specs.declared.refusal.Refusal.{Refusal}
use Rattle.doc_model.specs.declared.refusal.Refusal.TheVariants.{BadRange}
use Rattle.edit_rules.specs.Refusals.{refused_if}

-- the range of a deletion or of a span that ends before it begins. Those of bookmarks stand apart, since their places may be of two paragraphs
abbrev pub bad_range_of_items : EditOp → Option Refusal
bad_range_of_items (DeleteRange par from to) = refused_if (nat_lt to from) (BadRange from to)
bad_range_of_items (SetSpan par from to style) = refused_if (nat_lt to from) (BadRange from to)
bad_range_of_items _ = None
