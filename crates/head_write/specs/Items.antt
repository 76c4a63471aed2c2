-- What the items of a header or footer are for who writes them from front to back: how many spaces wait for their element, and whether the last item that is no mark is there and isn't a space.
use Rattle.std.specs.Prelude.{ℕ, ◌+◌, ◌==◌, if◌then◌else◌, Bool, true, false, not, ◌&&◌, List, [], ◌∷◌, ◌++◌, zero, suc}
use Rattle.markup_nodes.specs.Node.{Node}
use Rattle.markup_nodes.specs.declared.tree.Elem.{Elem}
use Rattle.doc_model.specs.declared.paragraph.Item.{Item}
use Rattle.doc_model.specs.declared.paragraph.Note.{Note}
use Rattle.doc_model.specs.declared.paragraph.Par.{Par}
use Rattle.doc_model.specs.declared.paragraph.What.{What, out-What}
use Rattle.doc_model.specs.declared.paragraph.What.TheOpen.{What-F}
use Rattle.tree_text.specs.Writing.{child_text}
use Rattle.written_model.specs.Elements.{empty_element}
use Rattle.written_model.specs.Content.{spaces_element, what_node}
use Rattle.std.specs.Prelude.{codes}

-- whether this is the character U+20
abbrev pub is_blank : What → Bool
is_blank what = of_what (out-What what) where
  of_what : What-F What Item Note Par → Bool
  of_what (What-F.Char c) = c == 0x20
  of_what _ = false

-- whether this is a mark
abbrev pub is_marking : What → Bool
is_marking what = of_what (out-What what) where
  of_what : What-F What Item Note Par → Bool
  of_what (What-F.Mark mark) = true
  of_what _ = false

-- whether one of these is no mark
abbrev pub has_other : List What → Bool
has_other [] = false
has_other (what ∷ whats) = if is_marking what then has_other whats else true

-- a note of a header or footer, where none may stand
abbrev pub no_note : Note → Node Elem
no_note note = empty_element (codes "text:note") []

-- this as it is written
abbrev pub what_text : What → List ℕ
what_text what = child_text (what_node no_note (out-What what))

-- the element of so many spaces that can't stand for themselves
abbrev pub spaces_text : ℕ → List ℕ
spaces_text zero = []
spaces_text (suc more) = child_text (spaces_element (suc more))

-- whether this is a space that can't stand for itself
abbrev pub waits : Bool → What → List What → Bool
waits after_word what after = is_blank what && not (after_word && has_other after)

-- whether the last item that is no mark is there and isn't a space, behind this
abbrev pub word_behind : Bool → What → Bool
word_behind after_word what = if is_marking what then after_word else not (is_blank what)

-- items behind so many spaces that can't stand for themselves
abbrev pub text_behind : ℕ → Bool → List What → List ℕ
text_behind waiting after_word [] = spaces_text waiting
text_behind waiting after_word (what ∷ whats) =
    if waits after_word what whats
    then text_behind (waiting + 1) false whats
    else spaces_text waiting ++ (what_text what ++ text_behind 0 (word_behind after_word what) whats)
