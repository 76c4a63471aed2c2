-- Paragraphs, lists and notes may be written.
use Rattle.std.proofs.Common.{◌≡◌, ℕ, ◌+◌, ◌*◌, ◌≤◌, Bool, true, false, List, [], ◌∷◌, ◌++◌, map, codes, decimal, zero, suc, refl, Option, Some, None, arith, if◌then◌else◌}
use Rattle.std.specs.List.{AllByRecursion as Each}
use Rattle.markup_nodes.specs.declared.tree.Elem.{Elem}
use Rattle.markup_nodes.specs.declared.words.Attr.{Attr}
use Rattle.markup_nodes.specs.Node.{Node}
use Rattle.markup_parts.specs.Chars.{is_name_start, is_name_char}
use Rattle.doc_model.specs.declared.paragraph.Par.{Par, out-Par}
use Rattle.doc_model.specs.declared.paragraph.ListPos.{ListPos}
use Rattle.doc_model.specs.declared.paragraph.Note.{Note, out-Note}
use Rattle.doc_model.specs.Parts.{items_of}
use Rattle.tree_text.specs.Writing.{is_name}
use Rattle.written_model.specs.Blocks.{bare_paragraph, entry_element, nested_entry, below, listed_paragraph, paragraph, note_element}
use Rattle.written_model.specs.Content.{content}
use Rattle.written_model.specs.Elements.{attribute, unless_empty, element, empty_element}
use Rattle.written_model.specs.Values.{truth, class_text}
use Rattle.back_writable.proofs.Chars.{AreLegal, decimal_legal}
use Rattle.back_writable.proofs.Content.{IsGoodItem, content_fits}
use Rattle.back_writable.proofs.Lists.{each_append, each_made}
use Rattle.back_writable.proofs.Nodes.{Fits, IsGood, AreGood, attribute_good, unless_good, element_fits, empty_fits, looser}
use Rattle.back_writable.proofs.Values.{truth_legal, class_legal}

-- a list place of a legal style, at most ten levels deep
abbrev pub IsGoodPlace : Option ListPos → Type 0
IsGoodPlace None = Unit {0}
IsGoodPlace (Some place) = AreLegal place.style × (place.level ≤ 10)

-- what holds a paragraph in its innermost list
entry_fits : (room : ℕ) (item : Bool) (node : Node Elem) → Fits room node → Fits (suc room) (entry_element item node)
unfolding is_name_start is_name_char
entry_fits room true node fit = element_fits room (codes "text:list-item") [] (node ∷ []) refl tt (fit, tt)
entry_fits room false node fit = element_fits room (codes "text:list-header") [] (node ∷ []) refl tt (fit, tt)

-- each further level takes room for two elements
nested_fits : (room levels : ℕ) (entry : Node Elem) → Fits room entry → Fits (room + levels * 2) (nested_entry levels entry)
unfolding is_name_start is_name_char
nested_fits room zero entry fit = looser room (room + zero * 2) (omega arith) entry fit
nested_fits room (suc deeper) entry fit =
    let inner : List (Node Elem) = nested_entry deeper entry ∷ [] in
    let list : Node Elem = element (codes "text:list") [] inner in
    looser (suc (suc (room + deeper * 2))) (room + suc deeper * 2) (omega arith) (element (codes "text:list-item") [] (list ∷ []))
    (element_fits (suc (room + deeper * 2)) (codes "text:list-item") [] (list ∷ []) refl tt
    (element_fits (room + deeper * 2) (codes "text:list") [] inner refl tt (nested_fits room deeper entry fit, tt), tt))

below_few : (level : ℕ) → level ≤ 10 → below level ≤ 9
below_few zero h = omega arith
below_few (suc level) h = omega (arith, h)

module _ (IsGoodNote : Note → Type 0) where
  -- a paragraph that may be written
  pub record IsGoodPar (par : Par) : Type 0 where
    pub style : AreLegal (out-Par par).style
    pub list : IsGoodPlace (out-Par par).list
    pub items : Each (IsGoodItem IsGoodNote) (items_of par)

  module _ (room : ℕ) (note_node : Note → Node Elem) (note_fits : (note : Note) → IsGoodNote note → Fits (suc room) (note_node note)) where
    bare_fits : (par : Par) → IsGoodPar par → Fits (room + 10) (bare_paragraph note_node par)
    unfolding is_name_start is_name_char
    bare_fits par good = by_level (out-Par par).level refl where
      style : List Attr
      style = unless_empty (codes "text:style-name") (out-Par par).style

      inside : List (Node Elem)
      inside = content note_node (out-Par par).items

      of_name : (name : List ℕ) (attrs : List Attr) → is_name name ≡ true → AreGood attrs → Fits (room + 10) (element name attrs inside)
      of_name name attrs named good_attrs =
          looser (suc (suc room + 8)) (room + 10) (omega arith) (element name attrs inside)
          (element_fits (suc room + 8) name attrs inside named good_attrs (content_fits IsGoodNote room note_node note_fits (out-Par par).items good.items))

      by_level : (level : ℕ) → (out-Par par).level ≡ level → Fits (room + 10) (bare_paragraph note_node par)
      by_level zero e = rw e (of_name (codes "text:p") style refl (unless_good (codes "text:style-name") (out-Par par).style refl good.style))
      by_level (suc level) e =
          rw e (of_name (codes "text:h") (style ++ attribute (codes "text:outline-level") (decimal (suc level)) ∷ []) refl
          (each_append IsGood style (attribute (codes "text:outline-level") (decimal (suc level)) ∷ []) (unless_good (codes "text:style-name") (out-Par par).style refl good.style)
          (attribute_good (codes "text:outline-level") (decimal (suc level)) refl (decimal_legal (suc level)), tt)))

    listed_fits : (place : ListPos) (node : Node Elem) → AreLegal place.style × (place.level ≤ 10) → Fits (room + 10) node → Fits (room + 30) (listed_paragraph place node)
    unfolding is_name_start is_name_char
    listed_fits place node good fit =
        let continued : List ℕ = truth (if place.fresh then false else true) in
        let entry : Node Elem = nested_entry (below place.level) (entry_element place.item node) in
        let attrs : List Attr = unless_empty (codes "text:style-name") place.style ++ attribute (codes "text:continue-numbering") continued ∷ [] in
        looser (suc (suc (room + 10) + below place.level * 2)) (room + 30) (omega (arith, below_few place.level good.1)) (element (codes "text:list") attrs (entry ∷ []))
        (element_fits (suc (room + 10) + below place.level * 2) (codes "text:list") attrs (entry ∷ []) refl
        (each_append IsGood (unless_empty (codes "text:style-name") place.style) (attribute (codes "text:continue-numbering") continued ∷ []) (unless_good (codes "text:style-name") place.style refl good.0)
        (attribute_good (codes "text:continue-numbering") continued refl (truth_legal (if place.fresh then false else true)), tt))
        (nested_fits (suc (room + 10)) (below place.level) (entry_element place.item node) (entry_fits (room + 10) place.item node fit), tt))

    pub paragraph_fits : (par : Par) → IsGoodPar par → Fits (room + 30) (paragraph note_node par)
    paragraph_fits par good = by_list (out-Par par).list refl good.list where
      by_list : (list : Option ListPos) → (out-Par par).list ≡ list → IsGoodPlace list → Fits (room + 30) (paragraph note_node par)
      by_list None e is = rw e (looser (room + 10) (room + 30) (omega arith) (bare_paragraph note_node par) (bare_fits par good))
      by_list (Some place) e is = rw e (listed_fits place (bare_paragraph note_node par) is (bare_fits par good))

-- a note within a note is written without what it holds
abbrev pub IsAnyNote : Note → Type 0
IsAnyNote note = Unit {0}

-- a note that may be written
pub record IsGoodNote (note : Note) : Type 0 where
  pub id : AreLegal (out-Note note).id
  pub pars : Each (IsGoodPar IsAnyNote) (out-Note note).pars

pub note_fits : (note : Note) → IsGoodNote note → Fits 32 (note_element note)
unfolding is_name_start is_name_char
note_fits note good =
    let inner : Note → Node Elem = λ one. empty_element (codes "text:note") [] in
    let pars : List (Node Elem) = map (paragraph inner) (out-Note note).pars in
    let body : Node Elem = element (codes "text:note-body") [] pars in
    let attrs : List Attr = unless_empty (codes "text:id") (out-Note note).id ++ attribute (codes "text:note-class") (class_text (out-Note note).class) ∷ [] in
    element_fits 31 (codes "text:note") attrs (empty_element (codes "text:note-citation") [] ∷ body ∷ []) refl
    (each_append IsGood (unless_empty (codes "text:id") (out-Note note).id) (attribute (codes "text:note-class") (class_text (out-Note note).class) ∷ []) (unless_good (codes "text:id") (out-Note note).id refl good.id)
    (attribute_good (codes "text:note-class") (class_text (out-Note note).class) refl (class_legal (out-Note note).class), tt)) (
      empty_fits 30 (codes "text:note-citation") [] refl tt,
      (
        element_fits 30 (codes "text:note-body") [] pars refl tt
            (each_made (IsGoodPar IsAnyNote) (Fits 30) (paragraph inner) (paragraph_fits IsAnyNote 0 inner (λ one any. empty_fits 0 (codes "text:note") [] refl tt)) (out-Note note).pars good.pars),
        tt,
      ),
    )
