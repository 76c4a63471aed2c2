-- What edits make of the styles, and what they ask of them.
use Rattle.std.specs.Prelude.{ℕ, ◌&&◌, ◌||◌, if◌then◌else◌, Bool, true, false, List, [], ◌∷◌, filter, find, codes, Option, Some, None, is_some}
use Rattle.std.specs.List.{list_any}
use Rattle.std.specs.Option.{option_map_or}
use Rattle.std.specs.Str.{bytes_eq}
use Rattle.doc_model.specs.declared.paragraph.Par.{Par, out-Par}
use Rattle.doc_model.specs.declared.paragraph.Item.{out-Item}
use Rattle.doc_model.specs.declared.style.Family.{Family}
use Rattle.doc_model.specs.declared.style.Family.TheVariants as family
use Rattle.doc_model.specs.declared.style.Style.{Style}
use Rattle.doc_model.specs.declared.style.Props.{Props}
use Rattle.doc_model.specs.declared.style.Prop.{Prop}
use Rattle.doc_model.specs.declared.style.Prop.TheVariants.{MarginLeft, MarginRight, MarginTop, MarginBottom, Indent, Align, BreakBefore, BreakAfter, KeepNext, KeepTogether, Widows, Orphans, PageNumber, Display, Tabs}
use Rattle.doc_model.specs.declared.document.Document.{Document}
use Rattle.doc_model.specs.Reading.{paragraphs, number_of}
use Rattle.doc_model.specs.Parts.{items_of, sections}
use Rattle.style_model.specs.Lineage.{is_same_family}

-- the properties that a style states, in their order
abbrev pub stated_properties : Props → List Prop
stated_properties props = filter is_stated
    (MarginLeft props.margin_left ∷ MarginRight props.margin_right ∷ MarginTop props.margin_top ∷ MarginBottom props.margin_bottom
    ∷ Indent props.indent ∷ Align props.align ∷ BreakBefore props.break_before ∷ BreakAfter props.break_after
    ∷ KeepNext props.keep_next ∷ KeepTogether props.keep_together ∷ Widows props.widows ∷ Orphans props.orphans
    ∷ PageNumber props.page_number ∷ Display props.display ∷ Tabs props.tabs ∷ []) where
      is_stated : Prop → Bool
      is_stated (MarginLeft length) = is_some length
      is_stated (MarginRight length) = is_some length
      is_stated (MarginTop length) = is_some length
      is_stated (MarginBottom length) = is_some length
      is_stated (Indent length) = is_some length
      is_stated (Align align) = is_some align
      is_stated (BreakBefore at) = is_some at
      is_stated (BreakAfter at) = is_some at
      is_stated (KeepNext keep) = is_some keep
      is_stated (KeepTogether keep) = is_some keep
      is_stated (Widows lines) = is_some lines
      is_stated (Orphans lines) = is_some lines
      is_stated (PageNumber start) = is_some start
      is_stated (Display shown) = is_some shown
      is_stated (Tabs tabs) = is_some tabs

-- whether a family has a property, stated or not: text has display alone, a section none
abbrev pub has_property : Family → Prop → Bool
has_property family.Paragraph prop = true
has_property family.Text (Display shown) = true
has_property family.Text prop = false
has_property family.Section prop = false

-- the word of a property: its attribute without the prefix
unfoldable pub property_word : Prop → List ℕ
property_word (MarginLeft length) = codes "margin-left"
property_word (MarginRight length) = codes "margin-right"
property_word (MarginTop length) = codes "margin-top"
property_word (MarginBottom length) = codes "margin-bottom"
property_word (Indent length) = codes "text-indent"
property_word (Align align) = codes "text-align"
property_word (BreakBefore at) = codes "break-before"
property_word (BreakAfter at) = codes "break-after"
property_word (KeepNext keep) = codes "keep-with-next"
property_word (KeepTogether keep) = codes "keep-together"
property_word (Widows lines) = codes "widows"
property_word (Orphans lines) = codes "orphans"
property_word (PageNumber start) = codes "page-number"
property_word (Display shown) = codes "display"
property_word (Tabs tabs) = codes "tab-stops"

-- whether a paragraph names a style: its own, or one of the spans of its items
abbrev pub is_used_in : Family → List ℕ → Par → Bool
is_used_in family.Paragraph name par = bytes_eq (out-Par par).style name
is_used_in family.Text name par = list_any (λ item. list_any (λ span. bytes_eq span name) (out-Item item).spans) (items_of par)
is_used_in family.Section name par = false

-- whether a style names another as its parent or its next style
abbrev pub is_named_by : Family → List ℕ → Style → Bool
is_named_by of name style = is_same_family style.family of && (bytes_eq style.parent name || bytes_eq style.next name)

-- whether a section has a style
abbrev pub is_used_by_section : Document → Family → List ℕ → Bool
is_used_by_section doc family.Section name = list_any (λ section. bytes_eq section.style name) (sections doc)
is_used_by_section doc of name = false

-- who uses a style first: the number of a paragraph, or 0 where a style or a section alone names it
abbrev pub first_user : Document → Family → List ℕ → Option ℕ
first_user doc of name = option_map_or (λ par. Some (number_of par)) (find (is_used_in of name) (paragraphs doc)) elsewhere where
  elsewhere : Option ℕ
  elsewhere = if list_any (is_named_by of name) doc.styles || is_used_by_section doc of name then Some 0 else None
