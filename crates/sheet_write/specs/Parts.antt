-- The parts that hold styles.
use Rattle.std.specs.Prelude.{ℕ, Bool, true, false, not, List, [], ◌++◌, map, filter, codes}
use Rattle.markup_nodes.specs.Node.{Node}
use Rattle.markup_nodes.specs.declared.tree.Elem.{Elem}
use Rattle.doc_model.specs.declared.style.Style.{Style}
use Rattle.doc_model.specs.declared.style.Props.{Props}
use Rattle.doc_model.specs.declared.list_style.ListStyle.{ListStyle}
use Rattle.doc_model.specs.declared.page_layout.PageLayout.{PageLayout}
use Rattle.tree_text.specs.Writing.{tag_text, end_text}
use Rattle.written_model.specs.Styles.{style_element, default_style, outline_style, list_style_element, layout_element}

-- the tag that begins a part, where the part holds something
abbrev pub part_start : List ℕ → Bool → List ℕ
part_start name true = tag_text name [] ++ codes ">"
part_start name false = []

-- the tag that ends a part, where the part holds something
abbrev pub part_end : List ℕ → Bool → List ℕ
part_end name true = end_text name
part_end name false = []

-- whether a style is among the automatic ones, or among the others
abbrev pub is_among : Bool → Style → Bool
is_among true style = style.auto
is_among false style = not style.auto

-- the automatic ones of some styles, or the others, as elements
abbrev pub style_nodes : Bool → List Style → List (Node Elem)
style_nodes auto styles = map style_element (filter (is_among auto) styles)

-- what the part of the styles that aren't automatic holds
abbrev pub styles_nodes : Props → List Style → ListStyle → List ListStyle → List (Node Elem)
styles_nodes defaults styles outline lists = default_style defaults ++ style_nodes false styles ++ outline_style outline ++ map list_style_element lists

-- what the part of the automatic styles holds
abbrev pub automatic_nodes : List Style → List PageLayout → List (Node Elem)
automatic_nodes styles layouts = style_nodes true styles ++ map layout_element layouts
