-- The content of a paragraph from front to back: the tags between neighbours, and what is left to write behind some place.
use Rattle.std.specs.Prelude.{ℕ, ◌+◌, Bool, false, not, ◌&&◌, List, [], ◌∷◌, ◌++◌, codes, zero, suc, if◌then◌else◌}
use Rattle.std.specs.List.{flat_map}
use Rattle.std.specs.Str.{bytes_eq}
use Rattle.std.specs.Cmp.Lexicographic.{pointwise}
use Rattle.markup_nodes.specs.declared.tree.Elem.{Elem}
use Rattle.markup_nodes.specs.Node.{Node}
use Rattle.doc_model.specs.declared.paragraph.Item.{Item, out-Item}
use Rattle.doc_model.specs.declared.paragraph.Note.{Note}
use Rattle.doc_model.specs.Parts.{what_of, is_mark}
use Rattle.spelling_model.specs.Spelling.{is_space, is_there, without_marks}
use Rattle.tree_text.specs.Writing.{tag_text, end_text, child_text}
use Rattle.written_model.specs.Elements.{attribute, empty_element}
use Rattle.written_model.specs.Content.{spaces_element, what_node}

-- the tag that begins a span
abbrev pub span_start : List ℕ → List ℕ
span_start name = tag_text (codes "text:span") (attribute (codes "text:style-name") name ∷ []) ++ codes ">"

-- the tag that ends a span
abbrev pub span_end : List ℕ
span_end = end_text (codes "text:span")

-- the tags that begin spans, outermost first
abbrev pub starts : List (List ℕ) → List ℕ
starts names = flat_map span_start names

-- the tags that end spans
abbrev pub ends : List (List ℕ) → List ℕ
ends names = flat_map (λ name. span_end) names

-- the tags between what stands in some spans and what stands in others: a span that both stand in goes on
abbrev pub tags : List (List ℕ) → List (List ℕ) → List ℕ
tags [] spans = starts spans
tags (name ∷ around) [] = ends (name ∷ around)
tags (name ∷ around) (other ∷ spans) = if bytes_eq name other then tags around spans else ends (name ∷ around) ++ starts (other ∷ spans)

-- so many spaces that can't stand for themselves
abbrev pub spaces_text : ℕ → List ℕ
spaces_text zero = []
spaces_text (suc more) = child_text (spaces_element (suc more))

-- whether an item before these is a space that can't stand for itself, where the item before it, marks apart, is there and isn't a space or not
abbrev pub must_wait : Bool → Item → List Item → Bool
must_wait after_word item after = is_space item && not (after_word && is_there (without_marks after))

-- whether the last item, marks apart, is there and isn't a space, behind one more item
abbrev pub is_word_behind : Bool → Item → Bool
is_word_behind after_word item = if is_mark item then after_word else not (is_space item)

-- whether a space in these spans joins so many that wait in the open ones
abbrev pub joins : List (List ℕ) → ℕ → List (List ℕ) → Bool
joins around zero spans = false
joins around (suc more) spans = pointwise bytes_eq around spans

-- how many spaces wait behind one that can't stand for itself
abbrev pub count_behind : List (List ℕ) → ℕ → List (List ℕ) → ℕ
count_behind around waiting spans = if joins around waiting spans then waiting + 1 else 1

-- what is written before a space that waits
abbrev pub tags_before : List (List ℕ) → ℕ → List (List ℕ) → List ℕ
tags_before around waiting spans = if joins around waiting spans then [] else spaces_text waiting ++ tags around spans

-- what is left to write, where these spans are open, so many spaces wait in them, and these items stand behind: notes are written so
abbrev pub rest_text : (Note → Node Elem) → List (List ℕ) → ℕ → Bool → List Item → List ℕ
rest_text note_node around waiting after_word [] = spaces_text waiting ++ tags around []
rest_text note_node around waiting after_word (item ∷ items) =
    if must_wait after_word item items
    then tags_before around waiting (out-Item item).spans ++ rest_text note_node (out-Item item).spans (count_behind around waiting (out-Item item).spans) false items
    else (spaces_text waiting ++ tags around (out-Item item).spans)
    ++ (child_text (what_node note_node (what_of item)) ++ rest_text note_node (out-Item item).spans 0 (is_word_behind after_word item) items)

-- what is left of a paragraph's content, where no space waits: the spans that are open, whether the last item, marks apart, is there and isn't a space, and the items
pub record Left : Type 0 where
  pub around : List (List ℕ)
  pub after_word : Bool
  pub items : List Item

-- the whole content of a paragraph with these items
abbrev pub all_left : List Item → Left
all_left items = record { around = []; after_word = false; items = items }

-- the text of what is left, where notes are written so
abbrev pub left_text : (Note → Node Elem) → Left → List ℕ
left_text note_node left = rest_text note_node left.around 0 left.after_word left.items

-- a note in a paragraph that holds none
abbrev pub no_note : Note → Node Elem
no_note note = empty_element (codes "text:note") []
