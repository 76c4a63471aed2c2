-- What is added to the items of a paragraph as they are read.
use Rattle.std.specs.Prelude.{◌≡◌, ℕ, List, ◌++◌, reverse}
use Rattle.load_model.specs.Blocks.{Around, ReadContent}
use Rattle.load_model.specs.Content.{Raw}
use Rattle.element_parts.specs.Shown.{shown}
use Rattle.element_parts.specs.declared.left.LeftOut.{LeftOut}
use Rattle.item_spaces.specs.Spacing.{Holds}
use Rattle.item_spaces.specs.declared.spacing.SpacedItems.{SpacedItems}

-- whatever was read before, this is read behind it
abbrev pub Gains : SpacedItems → SpacedItems → List Raw → Type 0
Gains old new raws = (before : List Raw) → Holds old before → Holds new (reverse raws ++ before)

-- content is read behind what was, and this is what is left out in it
pub record Adds (old new : SpacedItems) (left : LeftOut) (read : ReadContent) : Type 0 where
  pub items : Gains old new read.raws
  pub left_is : left ≡ shown read.left

-- the same of content within these spans, in a note or not
abbrev pub AddsIn : List (List ℕ) → SpacedItems → SpacedItems → LeftOut → (Around → ReadContent) → Type 0
AddsIn spans old new left read = (around : Around) → around.spans ≡ spans → Adds old new left (read around)
