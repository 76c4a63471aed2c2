-- The lists round blocks.
use Rattle.std.specs.Prelude.{◌≡◌, ℕ, ◌+◌, min, List, chars}
use Rattle.load_model.specs.declared.names.Key.TheVariants as key
use Rattle.load_model.specs.declared.element.Attribute.{Attribute}
use Rattle.load_model.specs.Blocks as blocks
use Rattle.load_model.specs.Styles.{reference}
use Rattle.load_model.specs.Values.{stated_or}
use Rattle.block_parts.specs.declared.lists.Lists.{Lists}

-- these are the lists round blocks, of which at most ten count
pub record StandsIn (lists : Lists) (at : blocks.Lists) : Type 0 where
  pub level : lists.level ≡ min at.level 10
  pub style : chars lists.style.now ≡ at.style
  pub in_note : lists.in_note ≡ at.in_note

-- with one more list, which states a style among some or not
abbrev pub with_list : List (List ℕ) → List Attribute → blocks.Lists → blocks.Lists
with_list names attributes at = record at { level = at.level + 1; style = stated_or key.StyleName (reference names) at.style attributes }
