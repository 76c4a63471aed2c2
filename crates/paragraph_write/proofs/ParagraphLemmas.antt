-- Paragraphs and notes round what they hold.
use Rattle.std.proofs.Common.{◌≡◌, ℕ, Bool, List, [], ◌∷◌, ◌++◌, codes, decimal, map, refl, ap, sym, ◌∙◌, append_assoc, zero, suc, Option, Some, None}
use Rattle.std.proofs.lemmas.List.{append-nil}
use Rattle.markup_nodes.specs.Node.{Node}
use Rattle.markup_nodes.specs.declared.words.Attr.{Attr}
use Rattle.markup_nodes.specs.declared.tree.Elem.{Elem}
use Rattle.doc_model.specs.declared.paragraph.Item.{Item}
use Rattle.doc_model.specs.declared.paragraph.ListPos.{ListPos}
use Rattle.doc_model.specs.declared.paragraph.Note.{Note, out-Note}
use Rattle.doc_model.specs.declared.paragraph.Par.{Par, out-Par}
use Rattle.spelling_model.specs.Spelling.{is_there}
use Rattle.tree_text.specs.Writing.{tag_text, child_text, content_text}
use Rattle.value_write.proofs.ElementLemmas.{empty_text, filled_text}
use Rattle.written_model.specs.Elements.{attribute, unless_empty, element, empty_element}
use Rattle.written_model.specs.Values.{class_text}
use Rattle.written_model.specs.Content.{content}
use Rattle.written_model.specs.Blocks.{bare_paragraph, paragraph, note_element}
use Rattle.content_write.specs.Rest.{no_note}
use Rattle.content_write.proofs.ContentWritten.{content_there}
use Rattle.paragraph_write.specs.Around.{tag_close, element_close, paragraph_name, level_attributes, paragraph_start, paragraph_end, note_start, note_end, before_paragraph, behind_paragraph}
use Rattle.paragraph_write.proofs.AroundLemmas.{element_around}
use Rattle.paragraph_write.proofs.ListLemmas.{listed_text}

holds_content : (note_node : Note → Node Elem) (items : List Item) → is_there (content note_node items) ≡ is_there items
holds_content note_node [] = refl
holds_content note_node (item ∷ items) = content_there note_node item items

-- the text of a paragraph's element round its content
abbrev around : List ℕ → ℕ → Bool → List ℕ → List ℕ
around style level holds text =
    tag_text (paragraph_name level) (unless_empty (codes "text:style-name") style ++ level_attributes level) ++ (tag_close holds ++ (text ++ element_close (paragraph_name level) holds))

bare_text : (note_node : Note → Node Elem) (par : Par) → child_text (bare_paragraph note_node par) ≡ around (out-Par par).style (out-Par par).level (is_there (out-Par par).items) (content_text (content note_node (out-Par par).items))
bare_text note_node par = by_level (out-Par par).level ∙ ap (λ (holds : Bool). around (out-Par par).style (out-Par par).level holds text) (holds_content note_node (out-Par par).items) where
  text : List ℕ
  text = content_text (content note_node (out-Par par).items)

  style : List Attr
  style = unless_empty (codes "text:style-name") (out-Par par).style

  of_level : ℕ → Node Elem
  of_level zero = element (codes "text:p") style (content note_node (out-Par par).items)
  of_level (suc level) = element (codes "text:h") (style ++ attribute (codes "text:outline-level") (decimal (suc level)) ∷ []) (content note_node (out-Par par).items)

  by_level : (level : ℕ) → child_text (of_level level) ≡ around (out-Par par).style level (is_there (content note_node (out-Par par).items)) text
  by_level zero =
      element_around (codes "text:p") style (content note_node (out-Par par).items)
      ∙ ap (λ (attrs : List Attr). tag_text (codes "text:p") attrs ++ (tag_close (is_there (content note_node (out-Par par).items)) ++ (text ++ element_close (codes "text:p") (is_there (content note_node (out-Par par).items))))) (sym (append-nil style))
  by_level (suc level) = element_around (codes "text:h") (style ++ attribute (codes "text:outline-level") (decimal (suc level)) ∷ []) (content note_node (out-Par par).items)

two_sides : (before tag close text end behind : List ℕ) → before ++ ((tag ++ (close ++ (text ++ end))) ++ behind) ≡ (before ++ (tag ++ close)) ++ (text ++ (end ++ behind))
two_sides before tag close text end behind = simp append_assoc

in_list : (list : Option ListPos) (note_node : Note → Node Elem) (par : Par) → (out-Par par).list ≡ list → child_text (paragraph note_node par) ≡ before_paragraph list ++ (child_text (bare_paragraph note_node par) ++ behind_paragraph list)
in_list None note_node par e = rw e (sym (append-nil (child_text (bare_paragraph note_node par))))
in_list (Some place) note_node par e = rw e (listed_text place (bare_paragraph note_node par))

-- a paragraph
pub paragraph_text : (note_node : Note → Node Elem) (par : Par)
    → paragraph_start (out-Par par).style (out-Par par).level (out-Par par).list (is_there (out-Par par).items)
    ++ (content_text (content note_node (out-Par par).items) ++ paragraph_end (out-Par par).level (out-Par par).list (is_there (out-Par par).items))
    ≡ child_text (paragraph note_node par)
paragraph_text note_node par =
    let list = (out-Par par).list in
    let name = paragraph_name (out-Par par).level in
    let holds = is_there (out-Par par).items in
    let tag = tag_text name (unless_empty (codes "text:style-name") (out-Par par).style ++ level_attributes (out-Par par).level) in
    sym (in_list list note_node par refl
    ∙ (ap (λ (t : List ℕ). before_paragraph list ++ (t ++ behind_paragraph list)) (bare_text note_node par)
    ∙ two_sides (before_paragraph list) tag (tag_close holds) (content_text (content note_node (out-Par par).items)) (element_close name holds) (behind_paragraph list)))

pub holds_mapped : {X : Type 0} (f : X → Node Elem) (xs : List X) → is_there (map f xs) ≡ is_there xs
holds_mapped f [] = refl
holds_mapped f (x ∷ xs) = refl

note_parts : (tag citation body close text end last : List ℕ) → tag ++ (0x3e ∷ ((citation ++ ((body ++ (close ++ (text ++ end))) ++ [])) ++ last)) ≡ ((tag ++ 0x3e ∷ []) ++ (citation ++ (body ++ close))) ++ (text ++ (end ++ last))
note_parts tag citation body close text end last = simp (append_assoc, append-nil)

-- a note
pub note_text : (note : Note)
    → note_start (out-Note note).id (out-Note note).class (is_there (out-Note note).pars) ++ (content_text (map (paragraph no_note) (out-Note note).pars) ++ note_end (is_there (out-Note note).pars))
    ≡ child_text (note_element note)
note_text note =
    let pars = map (paragraph no_note) (out-Note note).pars in
    let attrs : List Attr = unless_empty (codes "text:id") (out-Note note).id ++ attribute (codes "text:note-class") (class_text (out-Note note).class) ∷ [] in
    let citation : Node Elem = empty_element (codes "text:note-citation") [] in
    let body : Node Elem = element (codes "text:note-body") [] pars in
    let tag = tag_text (codes "text:note") attrs in
    sym (filled_text (codes "text:note") attrs citation (body ∷ [])
    ∙ (ap (λ (t : List ℕ). tag ++ (0x3e ∷ ((t ++ (child_text body ++ [])) ++ codes "</text:note>"))) (empty_text (codes "text:note-citation") [])
    ∙ (ap (λ (t : List ℕ). tag ++ (0x3e ∷ ((codes "<text:note-citation/>" ++ (t ++ [])) ++ codes "</text:note>"))) (element_around (codes "text:note-body") [] pars)
    ∙ (ap (λ (holds : Bool). tag ++ (0x3e ∷ ((codes "<text:note-citation/>" ++ ((codes "<text:note-body" ++ (tag_close holds ++ (content_text pars ++ element_close (codes "text:note-body") holds))) ++ [])) ++ codes "</text:note>"))) (holds_mapped (paragraph no_note) (out-Note note).pars)
    ∙ note_parts tag (codes "<text:note-citation/>") (codes "<text:note-body") (tag_close (is_there (out-Note note).pars)) (content_text pars) (element_close (codes "text:note-body") (is_there (out-Note note).pars)) (codes "</text:note>")))))

-- a heading
pub heading_name : (level : ℕ) → (level ≡ 0 → ⊥) → codes "text:h" ≡ paragraph_name level
heading_name zero some = absurd (some refl)
heading_name (suc level) some = refl

pub heading_level : (level : ℕ) → (level ≡ 0 → ⊥) → attribute (codes "text:outline-level") (decimal level) ∷ [] ≡ level_attributes level
heading_level zero some = absurd (some refl)
heading_level (suc level) some = refl
