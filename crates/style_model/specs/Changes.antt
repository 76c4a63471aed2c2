-- What a change leaves of a list of styles.
use Rattle.std.specs.Prelude.{ℕ, ◌+◌, ◌==◌, ◌&&◌, not, false, if◌then◌else◌, List, [], ◌∷◌, map, filter, insert}
use Rattle.doc_model.specs.declared.style.Family.{Family}
use Rattle.doc_model.specs.declared.style.Style.{Style}
use Rattle.doc_model.specs.declared.style.Props.{Props}
use Rattle.doc_model.specs.declared.style.Prop.{Prop}
use Rattle.doc_model.specs.declared.style.Prop.TheVariants.{MarginLeft, MarginRight, MarginTop, MarginBottom, Indent, Align, BreakBefore, BreakAfter, KeepNext, KeepTogether, Widows, Orphans, PageNumber, Display, Tabs}
use Rattle.style_model.specs.Lineage.{is_named}

-- the default style of paragraphs and the list of styles
pub record StyleSheet : Type 0 where
  pub defaults : Props
  pub styles : List Style

-- how many styles there are up to the last that isn't automatic
abbrev pub common_end : List Style → ℕ
common_end [] = 0
common_end (style ∷ styles) = if style.auto && common_end styles == 0 then 0 else common_end styles + 1

-- with a new style, which is the last of those that aren't automatic
abbrev pub with_style : Style → List Style → List Style
with_style style styles = insert styles (common_end styles) (record style { auto = false })

-- without the style of a family and name
abbrev pub without_style : Family → List ℕ → List Style → List Style
without_style of name styles = filter (λ style. not (is_named of name style)) styles

-- with a change made to the style of a family and name, and to no other
abbrev pub with_change : Family → List ℕ → (Style → Style) → List Style → List Style
with_change of name change styles = map (λ style. if is_named of name style then change style else style) styles

-- with another parent
abbrev pub with_parent : List ℕ → Style → Style
with_parent parent style = record style { parent = parent }

-- with one property as given, which may be unstated
abbrev pub with_prop : Prop → Props → Props
with_prop (MarginLeft length) props = record props { margin_left = length }
with_prop (MarginRight length) props = record props { margin_right = length }
with_prop (MarginTop length) props = record props { margin_top = length }
with_prop (MarginBottom length) props = record props { margin_bottom = length }
with_prop (Indent length) props = record props { indent = length }
with_prop (Align align) props = record props { align = align }
with_prop (BreakBefore at) props = record props { break_before = at }
with_prop (BreakAfter at) props = record props { break_after = at }
with_prop (KeepNext keep) props = record props { keep_next = keep }
with_prop (KeepTogether keep) props = record props { keep_together = keep }
with_prop (Widows lines) props = record props { widows = lines }
with_prop (Orphans lines) props = record props { orphans = lines }
with_prop (PageNumber start) props = record props { page_number = start }
with_prop (Display shown) props = record props { display = shown }
with_prop (Tabs tabs) props = record props { tabs = tabs }

-- a style with one of its properties as given
abbrev pub with_style_prop : Prop → Style → Style
with_style_prop prop style = record style { props = with_prop prop style.props }
