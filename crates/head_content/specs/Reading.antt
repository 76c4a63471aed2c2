-- What is read of a paragraph of a header so far.
use Rattle.std.specs.Prelude.{◌≡◌, ℕ, if◌then◌else◌, List, [], ◌∷◌, ◌++◌, map, reverse}
use Rattle.doc_model.specs.declared.paragraph.Item.{Item, roll-Item}
use Rattle.doc_model.specs.declared.paragraph.What.{What, roll-What}
use Rattle.doc_model.specs.declared.paragraph.What.TheOpen.{What-F}
use Rattle.load_model.specs.Blocks.{ReadContent}
use Rattle.load_model.specs.Content.{Raw, Read, raw_character, is_white}
use Rattle.load_model.specs.Left.{Left, nothing, both}
use Rattle.element_parts.specs.Shown.{shown}
use Rattle.item_spaces.specs.Spacing.{Holds}
use Rattle.head_content.specs.declared.head_items.HeadItems.{HeadItems}

-- nothing is read
abbrev pub nothing_read : ReadContent
nothing_read = record { raws = []; left = nothing }

-- what is read first, and then more
abbrev pub followed : ReadContent → ReadContent → ReadContent
followed first more = record { raws = first.raws ++ more.raws; left = both first.left more.left }

-- what is left out, with nothing that is read
abbrev pub only_left : Left → ReadContent
only_left left = record { raws = []; left = left }

-- one thing that is read
abbrev pub one_raw : Raw → ReadContent
one_raw raw = record { raws = raw ∷ []; left = nothing }

-- items
abbrev pub only_items : List Item → ReadContent
only_items items = record { raws = map Read items; left = nothing }

-- an item outside of all spans
abbrev pub item_of : What → Item
item_of what = roll-Item (record { spans = []; what = what })

-- a character outside of all spans
abbrev pub letter_item : ℕ → Item
letter_item c = item_of (roll-What (What-F.Char c))

-- characters, of which white space is spaces that may go
abbrev pub letters : List ℕ → ReadContent
letters text = record { raws = map (raw_character []) text; left = nothing }

-- a character, or a space for white space
abbrev pub spaced_letter : ℕ → ℕ
spaced_letter c = if is_white c then 0x20 else c

-- characters as they are, with spaces for white space
abbrev pub spaced_letters : List ℕ → ReadContent
spaced_letters text = only_items (map (λ c. letter_item (spaced_letter c)) text)

-- these are the items that were read and what is left out
pub record IsRead (read : HeadItems) (content : ReadContent) : Type 0 where
  pub items_are : Holds read.items (reverse content.raws)
  pub left_is : read.left ≡ shown content.left

-- this is read behind whatever was before
abbrev pub Adds : HeadItems → HeadItems → ReadContent → Type 0
Adds old new more = (before : ReadContent) → IsRead old before → IsRead new (followed before more)
