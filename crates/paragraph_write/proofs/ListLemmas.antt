-- A paragraph in its list.
use Rattle.std.proofs.Common.{◌≡◌, ℕ, Bool, true, false, List, [], ◌∷◌, ◌++◌, codes, ap, sym, ◌∙◌, append_assoc, zero, suc}
use Rattle.std.proofs.lemmas.List.{append-nil}
use Rattle.markup_nodes.specs.Node.{Node}
use Rattle.markup_nodes.specs.declared.tree.Elem.{Elem}
use Rattle.doc_model.specs.declared.paragraph.ListPos.{ListPos}
use Rattle.tree_text.specs.Writing.{tag_text, end_text, child_text}
use Rattle.written_model.specs.Elements.{element}
use Rattle.written_model.specs.Blocks.{entry_element, nested_entry, below, listed_paragraph}
use Rattle.paragraph_write.specs.Around.{times, entry_name, list_attributes, list_start, list_end}
use Rattle.paragraph_write.proofs.AroundLemmas.{one_held}

pub times_behind : (count : ℕ) (text : List ℕ) → text ++ times count text ≡ times count text ++ text
times_behind zero text = append-nil text
times_behind (suc more) text = ap (λ (t : List ℕ). text ++ t) (times_behind more text) ∙ sym (append_assoc text (times more text) text)

-- what is nested once more
two_deeper : (a b c d before entry behind : List ℕ) → a ++ ((b ++ ((before ++ (entry ++ behind)) ++ c)) ++ d) ≡ ((a ++ b) ++ before) ++ (entry ++ (behind ++ (c ++ d)))
two_deeper a b c d before entry behind = simp append_assoc

nested_text : (deeper : ℕ) (entry : Node Elem)
    → child_text (nested_entry deeper entry) ≡ times deeper (codes "<text:list-item><text:list>") ++ (child_text entry ++ times deeper (codes "</text:list></text:list-item>"))
nested_text zero entry = sym (append-nil (child_text entry))
nested_text (suc deeper) entry =
    let start = times deeper (codes "<text:list-item><text:list>") in
    let end = times deeper (codes "</text:list></text:list-item>") in
    let inner = nested_entry deeper entry in
    one_held (codes "text:list-item") [] (element (codes "text:list") [] (inner ∷ []))
    ∙ (ap (λ (t : List ℕ). codes "<text:list-item>" ++ (t ++ codes "</text:list-item>")) (one_held (codes "text:list") [] inner)
    ∙ (ap (λ (t : List ℕ). codes "<text:list-item>" ++ ((codes "<text:list>" ++ (t ++ codes "</text:list>")) ++ codes "</text:list-item>")) (nested_text deeper entry)
    ∙ (two_deeper (codes "<text:list-item>") (codes "<text:list>") (codes "</text:list>") (codes "</text:list-item>") start (child_text entry) end
    ∙ ap (λ (t : List ℕ). (codes "<text:list-item><text:list>" ++ start) ++ (child_text entry ++ t)) (sym (times_behind deeper (codes "</text:list></text:list-item>"))))))

entry_text : (item : Bool) (node : Node Elem) → child_text (entry_element item node) ≡ (tag_text (entry_name item) [] ++ codes ">") ++ (child_text node ++ end_text (entry_name item))
entry_text true node = one_held (codes "text:list-item") [] node
entry_text false node = one_held (codes "text:list-header") [] node

all_parts : (list before entry node entry_end behind end : List ℕ)
    → list ++ ((before ++ ((entry ++ (node ++ entry_end)) ++ behind)) ++ end) ≡ (list ++ (before ++ entry)) ++ (node ++ (entry_end ++ (behind ++ end)))
all_parts list before entry node entry_end behind end = simp append_assoc

pub listed_text : (place : ListPos) (node : Node Elem) → child_text (listed_paragraph place node) ≡ list_start place ++ (child_text node ++ list_end place)
listed_text place node =
    let list = tag_text (codes "text:list") (list_attributes place) ++ codes ">" in
    let start = times (below place.level) (codes "<text:list-item><text:list>") in
    let end = times (below place.level) (codes "</text:list></text:list-item>") in
    one_held (codes "text:list") (list_attributes place) (nested_entry (below place.level) (entry_element place.item node))
    ∙ (ap (λ (t : List ℕ). list ++ (t ++ end_text (codes "text:list"))) (nested_text (below place.level) (entry_element place.item node))
    ∙ (ap (λ (t : List ℕ). list ++ ((start ++ (t ++ end)) ++ end_text (codes "text:list"))) (entry_text place.item node)
    ∙ all_parts list start (tag_text (entry_name place.item) [] ++ codes ">") (child_text node) (end_text (entry_name place.item)) end (end_text (codes "text:list"))))
