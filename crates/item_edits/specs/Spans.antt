-- Items with other spans.
use Rattle.std.specs.Prelude.{ℕ, List}
use Rattle.doc_model.specs.declared.paragraph.Item.{Item, out-Item, roll-Item}

-- the item with these spans in place of its own
abbrev pub with_own_spans : List (List ℕ) → Item → Item
with_own_spans spans item = roll-Item (record (out-Item item) { spans = spans })
