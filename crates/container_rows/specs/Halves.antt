-- The row of the new paragraph behind one that is split.
use Rattle.std.specs.Prelude.{ℕ, ◌==◌, if◌then◌else◌, List, length, Option, Some, None, option_map, option_and_then}
use Rattle.doc_model.specs.declared.paragraph.Item.{Item}
use Rattle.doc_model.specs.declared.paragraph.ParHead.{ParHead}
use Rattle.doc_model.specs.declared.style.Family.TheVariants as family
use Rattle.doc_model.specs.declared.style.Style.{Style}
use Rattle.style_model.specs.Lineage.{style_named}
use Rattle.edit_rules.specs.Blocks.{following_place}

-- the style that a paragraph style states to be the next one, if it states one
abbrev pub stated_next : List Style → List ℕ → Option Style
stated_next styles name = option_and_then (λ style. style_named styles family.Paragraph style.next) (style_named styles family.Paragraph name)

-- the head with a style and that style's outline level, if there is one
abbrev pub with_style_in : Option Style → ParHead → ParHead
with_style_in None head = head
with_style_in (Some style) head = record head { style = style.name; level = style.outline }

-- the head of the new paragraph behind one with this head and these items. Where nothing is left for it, it has the next style that is stated
abbrev pub second_head : List Style → ℕ → ℕ → ParHead → List Item → ParHead
second_head styles number at head items =
    with_style_in (if at == length items then stated_next styles head.style else None) (record head { id = record { 0 = number }; list = option_map following_place head.list })
