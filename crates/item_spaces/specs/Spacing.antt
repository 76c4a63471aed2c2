-- The items of a paragraph as they are read.
use Rattle.std.specs.Prelude.{◌≡◌, Bool, true, false, List, ◌++◌, reverse, remove}
use Rattle.std.specs.List.{list_any}
use Rattle.doc_model.specs.declared.paragraph.Item.{Item}
use Rattle.load_model.specs.Content.{Raw, items_of_raw, items_behind, is_solid, is_nearest_solid}
use Rattle.item_spaces.specs.declared.last.Last.{Last}
use Rattle.item_spaces.specs.declared.last.Last.TheVariants as last
use Rattle.item_spaces.specs.declared.spacing.SpacedItems.{SpacedItems}
use Rattle.item_spaces.specs.Last.{is_solid_last}

-- items without the space that stays only if an item is still to come, where none is
abbrev pub settled : List Item → Last → Bool → List Item
settled items (last.Space at) false = remove items at
settled items (last.Space at) true = items
settled items last.Solid more = items
settled items last.Nothing more = items

-- items and what came last stand for what was read, the nearest first: whatever is still read, its items are theirs and then those of what is still read
pub record Stands (items : List Item) (which : Last) (before : List Raw) : Type 0 where
  pub nearest : is_solid_last which ≡ is_nearest_solid before
  pub whole : (after : List Raw) → items_of_raw (reverse before ++ after) ≡ settled items which (list_any is_solid after) ++ items_behind before after

-- the same of the items so far
abbrev pub Holds : SpacedItems → List Raw → Type 0
Holds spaced before = Stands spaced.items.items spaced.last before
