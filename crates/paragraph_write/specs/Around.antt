-- What stands before and behind what paragraphs and notes hold.
use Rattle.std.specs.Prelude.{ℕ, Bool, true, false, List, [], ◌∷◌, ◌++◌, codes, decimal, Option, Some, None, zero, suc, if◌then◌else◌}
use Rattle.markup_nodes.specs.declared.words.Attr.{Attr}
use Rattle.doc_model.specs.declared.field.NoteClass.{NoteClass}
use Rattle.doc_model.specs.declared.paragraph.ListPos.{ListPos}
use Rattle.tree_text.specs.Writing.{tag_text, end_text}
use Rattle.written_model.specs.Elements.{attribute, unless_empty}
use Rattle.written_model.specs.Values.{truth, class_text}
use Rattle.written_model.specs.Blocks.{below}

-- what ends the tag of an element that holds something, or nothing
abbrev pub tag_close : Bool → List ℕ
tag_close true = codes ">"
tag_close false = codes "/>"

-- what stands behind what an element holds
abbrev pub element_close : List ℕ → Bool → List ℕ
element_close name true = end_text name
element_close name false = []

-- a text so many times
abbrev pub times : ℕ → List ℕ → List ℕ
times zero text = []
times (suc more) text = text ++ times more text

-- the element that holds a paragraph in the innermost list
abbrev pub entry_name : Bool → List ℕ
entry_name true = codes "text:list-item"
entry_name false = codes "text:list-header"

-- the attributes of a paragraph's outermost list
abbrev pub list_attributes : ListPos → List Attr
list_attributes place = unless_empty (codes "text:style-name") place.style ++ attribute (codes "text:continue-numbering") (truth (if place.fresh then false else true)) ∷ []

-- what stands before a paragraph in a list, and behind it
abbrev pub list_start : ListPos → List ℕ
list_start place = (tag_text (codes "text:list") (list_attributes place) ++ codes ">") ++ (times (below place.level) (codes "<text:list-item><text:list>") ++ (tag_text (entry_name place.item) [] ++ codes ">"))

abbrev pub list_end : ListPos → List ℕ
list_end place = end_text (entry_name place.item) ++ (times (below place.level) (codes "</text:list></text:list-item>") ++ end_text (codes "text:list"))

abbrev pub before_paragraph : Option ListPos → List ℕ
before_paragraph None = []
before_paragraph (Some place) = list_start place

abbrev pub behind_paragraph : Option ListPos → List ℕ
behind_paragraph None = []
behind_paragraph (Some place) = list_end place

-- the element of a paragraph, or of a heading
abbrev pub paragraph_name : ℕ → List ℕ
paragraph_name zero = codes "text:p"
paragraph_name (suc level) = codes "text:h"

abbrev pub level_attributes : ℕ → List Attr
level_attributes zero = []
level_attributes (suc level) = attribute (codes "text:outline-level") (decimal (suc level)) ∷ []

-- the text of a paragraph before its content, and behind it: content that is there, or isn't
abbrev pub paragraph_start : List ℕ → ℕ → Option ListPos → Bool → List ℕ
paragraph_start style level list holds = before_paragraph list ++ (tag_text (paragraph_name level) (unless_empty (codes "text:style-name") style ++ level_attributes level) ++ tag_close holds)

abbrev pub paragraph_end : ℕ → Option ListPos → Bool → List ℕ
paragraph_end level list holds = element_close (paragraph_name level) holds ++ behind_paragraph list

-- the text of a note before its paragraphs, and behind them
abbrev pub note_start : List ℕ → NoteClass → Bool → List ℕ
note_start id class holds =
    (tag_text (codes "text:note") (unless_empty (codes "text:id") id ++ attribute (codes "text:note-class") (class_text class) ∷ []) ++ codes ">")
    ++ (codes "<text:note-citation/>" ++ (codes "<text:note-body" ++ tag_close holds))

abbrev pub note_end : Bool → List ℕ
note_end holds = element_close (codes "text:note-body") holds ++ codes "</text:note>"
