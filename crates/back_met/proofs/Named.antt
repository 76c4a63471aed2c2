-- Items whose names can be read, and what is met of each.
use Rattle.std.proofs.Common.{◌≡◌, ℕ, List, [], ◌∷◌, ◌++◌, map, codes, decimal, refl, ap, ap₂, ◌∙◌, Option}
use Rattle.markup_nodes.specs.declared.words.Attr.{Attr}
use Rattle.markup_nodes.specs.declared.tree.Elem.{Elem}
use Rattle.markup_nodes.specs.Node.{Node, Element, Char}
use Rattle.doc_model.specs.declared.field.Field.{Field}
use Rattle.doc_model.specs.declared.field.Field.TheVariants as fields
use Rattle.doc_model.specs.declared.paragraph.Item.{Item}
use Rattle.doc_model.specs.declared.paragraph.Mark.{Mark as DocMark}
use Rattle.doc_model.specs.declared.paragraph.Mark.TheVariants as mark
use Rattle.doc_model.specs.declared.paragraph.Note.{Note as DocNote}
use Rattle.doc_model.specs.declared.paragraph.Par.{Par}
use Rattle.doc_model.specs.declared.paragraph.What.{What}
use Rattle.doc_model.specs.declared.paragraph.What.TheOpen.{What-F}
use Rattle.doc_model.specs.Parts.{mark_name}
use Rattle.load_model.specs.declared.names.Key.TheVariants as key
use Rattle.load_model.specs.declared.names.Tag.{Tag}
use Rattle.load_model.specs.declared.names.Tag.TheVariants as tag
use Rattle.load_model.specs.declared.element.Attribute.{Attribute}
use Rattle.load_model.specs.declared.element.Element.{Element as Read, out-Element}
use Rattle.load_model.specs.Met.{Whole, Start, End, Variable, Where, in_content, mark_met, named_at, sequence_met}
use Rattle.load_model.specs.Values as value
use Rattle.load_model.specs.Values.{stated}
use Rattle.written_model.specs.Content.{mark_element, what_node}
use Rattle.written_model.specs.Elements.{attribute, element, unless_empty}
use Rattle.written_model.specs.Fields.{field_element, format_attribute}
use Rattle.written_model.specs.Values.{format_text, chapter_text, select_text, reference_text, sequence_text, class_text, whole_text}
use Rattle.back_names.specs.Named.{named_attribute, tag_named}
use Rattle.back_fields.specs.Fit.{IsName, IsNameOrNone}
use Rattle.back_fields.proofs.Attributes.{at, at_unless, named_first, named_unless}
use Rattle.back_fields.proofs.Keys as field_name
use Rattle.back_items.proofs.Keys as item_name
use Rattle.back_values.proofs.Texts.{name_back}
use Rattle.met_read.specs.Walk.{held}
use Rattle.back_met.proofs.Nodes.{IsNodeOf, content_met, content_one, element_of}
use Rattle.back_met.specs.Things.{AreMet, Counted, IsInner, Marked, field_met, if_any, mark_at, things_in}
use Rattle.back_met.proofs.Parts.{met_one}

-- the names of a field and of a mark can be read
abbrev pub IsNamedField : Field → Type 0
IsNamedField (fields.Sequence name refname format) = IsName name × IsNameOrNone refname
IsNamedField (fields.VarSet name value) = IsName name
IsNamedField (fields.VarGet name) = IsName name
IsNamedField _ = Unit {0}

-- the same of an item by what it is
abbrev pub IsNamedWhat : What-F What Item DocNote Par → Type 0
IsNamedWhat (What-F.Field field) = IsNamedField field
IsNamedWhat (What-F.Mark mark) = IsName (mark_name mark)
IsNamedWhat _ = Unit {0}

abbrev pub IsNoNote : What-F What Item DocNote Par → Type 0
IsNoNote (What-F.Note note) = ⊥
IsNoNote _ = Unit {0}

abbrev called : List ℕ → List Attribute
called name = at key.TextName name ∷ []

named_so : (name : List ℕ) → map named_attribute (attribute (codes "text:name") name ∷ []) ≡ called name
named_so name = named_first (codes "text:name") name key.TextName [] [] field_name.name_key refl

-- a mark
abbrev MarkIs : Where → DocMark → Node Read → Type 0
MarkIs here mark t = (place : ℕ) × (content_met here (t ∷ []) ≡ mark_at place here.text mark ∷ [])

pub mark_is : (here : Where) (mark : DocMark) → IsName (mark_name mark) → (t : Node Read) → IsNodeOf t (mark_element mark) → MarkIs here mark t
mark_is here (mark.Point name) is t of =
    let one = element_of t (codes "text:bookmark") (attribute (codes "text:name") name ∷ []) [] tag.Bookmark (called name) of item_name.bookmark_tag (named_so name) in
    let place = (out-Element one.found).place in
    (place, content_one t tag.Bookmark (called name) [] one here ∙ ap (λ (found : Option (List ℕ)). mark_met Whole place found here) (name_back name is.0 is.1))
mark_is here (mark.Start name) is t of =
    let one = element_of t (codes "text:bookmark-start") (attribute (codes "text:name") name ∷ []) [] tag.BookmarkStart (called name) of item_name.bookmark_start_tag (named_so name) in
    let place = (out-Element one.found).place in
    (place, content_one t tag.BookmarkStart (called name) [] one here ∙ ap (λ (found : Option (List ℕ)). mark_met Start place found here) (name_back name is.0 is.1))
mark_is here (mark.End name) is t of =
    let one = element_of t (codes "text:bookmark-end") (attribute (codes "text:name") name ∷ []) [] tag.BookmarkEnd (called name) of item_name.bookmark_end_tag (named_so name) in
    let place = (out-Element one.found).place in
    (place, content_one t tag.BookmarkEnd (called name) [] one here ∙ ap (λ (found : Option (List ℕ)). mark_met End place found here) (name_back name is.0 is.1))

-- a field
abbrev FieldIs : Where → Field → Node Read → Type 0
FieldIs here field t = (place : ℕ) × (content_met here (t ∷ []) ≡ field_met place field)

refname_stated : (name refname : List ℕ) (format : List ℕ) → IsNameOrNone refname
    → stated key.ReferenceName value.name (at key.TextName name ∷ at_unless key.ReferenceName refname (at key.NumberFormat format ∷ [])) ≡ if_any refname
refname_stated name [] format few = refl
refname_stated name (c ∷ cs) format few = name_back (c ∷ cs) (λ e. cc) few

-- one of which nothing is met
nothing_met : (here : Where) (name : List ℕ) (attrs : List Attr) (nodes : List (Node Elem)) (which : Tag) (t : Node Read) → IsNodeOf t (element name attrs nodes) → tag_named name ≡ which
    → ((e : Read) → in_content which (out-Element e).place (map named_attribute attrs) (held e) here ≡ []) → content_met here (t ∷ []) ≡ []
nothing_met here name attrs nodes which t of is none =
    let one = element_of t name attrs nodes which (map named_attribute attrs) of is refl in
    content_one t which (map named_attribute attrs) nodes one here ∙ none one.found

pub field_is : (here : Where) (field : Field) → IsNamedField field → (t : Node Read) → IsNodeOf t (field_element field) → FieldIs here field t
field_is here (fields.Sequence name refname format) is t of =
    let attributes = at key.TextName name ∷ at_unless key.ReferenceName refname (at key.NumberFormat (format_text format) ∷ []) in
    let attrs = attribute (codes "text:name") name ∷ (unless_empty (codes "text:ref-name") refname ++ format_attribute format ∷ []) in
    let are : map named_attribute attrs ≡ attributes =
    named_first (codes "text:name") name key.TextName (unless_empty (codes "text:ref-name") refname ++ format_attribute format ∷ []) (at_unless key.ReferenceName refname (at key.NumberFormat (format_text format) ∷ []))
    field_name.name_key (named_unless (codes "text:ref-name") refname key.ReferenceName (format_attribute format ∷ []) (at key.NumberFormat (format_text format) ∷ []) field_name.ref_name_key
    (named_first (codes "style:num-format") (format_text format) key.NumberFormat [] [] field_name.format_key refl)) in
    let one = element_of t (codes "text:sequence") attrs [] tag.Sequence attributes of field_name.sequence_tag are in
    let place = (out-Element one.found).place in
    (place, content_one t tag.Sequence attributes [] one here ∙ ap₂ (λ (found other : Option (List ℕ)). sequence_met place found other) (name_back name is.0.0 is.0.1) (refname_stated name refname (format_text format) is.1))
field_is here (fields.VarSet name text) is t of =
    let one = element_of t (codes "text:variable-set") (attribute (codes "text:name") name ∷ []) (map Char text) tag.VariableSet (called name) of field_name.variable_set_tag (named_so name) in
    let place = (out-Element one.found).place in
    (place, content_one t tag.VariableSet (called name) (map Char text) one here ∙ ap (λ (found : Option (List ℕ)). map Variable (named_at place found)) (name_back name is.0 is.1))
field_is here (fields.VarGet name) is t of =
    let one = element_of t (codes "text:variable-get") (attribute (codes "text:name") name ∷ []) [] tag.VariableGet (called name) of field_name.variable_get_tag (named_so name) in
    let place = (out-Element one.found).place in
    (place, content_one t tag.VariableGet (called name) [] one here ∙ ap (λ (found : Option (List ℕ)). map Variable (named_at place found)) (name_back name is.0 is.1))
field_is here (fields.Chapter display level) is t of =
    (0, nothing_met here (codes "text:chapter") (attribute (codes "text:display") (chapter_text display) ∷ attribute (codes "text:outline-level") (decimal level) ∷ []) [] tag.Chapter t of field_name.chapter_tag (λ e. refl))
field_is here (fields.PageNumber select adjust format) is t of =
    (0, nothing_met here (codes "text:page-number") (attribute (codes "text:select-page") (select_text select) ∷ attribute (codes "text:page-adjust") (whole_text adjust) ∷ format_attribute format ∷ []) [] tag.PageNumber t of field_name.page_number_tag (λ e. refl))
field_is here (fields.PageCount format) is t of = (0, nothing_met here (codes "text:page-count") (format_attribute format ∷ []) [] tag.PageCount t of field_name.page_count_tag (λ e. refl))
field_is here (fields.BookRef name form) is t of =
    (0, nothing_met here (codes "text:bookmark-ref") (unless_empty (codes "text:ref-name") name ++ attribute (codes "text:reference-format") (reference_text form) ∷ []) [] tag.BookmarkReference t of field_name.bookmark_ref_tag (λ e. refl))
field_is here (fields.SeqRef name form) is t of =
    (0, nothing_met here (codes "text:sequence-ref") (unless_empty (codes "text:ref-name") name ++ attribute (codes "text:reference-format") (sequence_text form) ∷ []) [] tag.SequenceReference t of field_name.sequence_ref_tag (λ e. refl))
field_is here (fields.NoteRef name class form) is t of =
    (0, nothing_met here (codes "text:note-ref") (unless_empty (codes "text:ref-name") name ++ attribute (codes "text:reference-format") (reference_text form) ∷ attribute (codes "text:note-class") (class_text class) ∷ []) [] tag.NoteReference t of field_name.note_ref_tag (λ e. refl))

-- what an item is that is no note
pub char_is : (here : Where) (c : ℕ) (t : Node Read) → IsNodeOf t (Char c) → content_met here (t ∷ []) ≡ []
char_is here c (Element t) of = absurd of
char_is here c (Char d) of = refl

pub tab_is : (here : Where) (note_node : DocNote → Node Elem) (t : Node Read) → IsNodeOf t (what_node note_node What-F.Tab) → content_met here (t ∷ []) ≡ []
tab_is here note_node t of = nothing_met here (codes "text:tab") [] [] tag.Tab t of item_name.tab_tag (λ e. refl)

pub break_is : (here : Where) (note_node : DocNote → Node Elem) (t : Node Read) → IsNodeOf t (what_node note_node What-F.Break) → content_met here (t ∷ []) ≡ []
break_is here note_node t of = nothing_met here (codes "text:line-break") [] [] tag.LineBreak t of item_name.break_tag (λ e. refl)

-- in a note
pub inner_met : (here : Where) (note_node : DocNote → Node Elem) (what : What-F What Item DocNote Par) → IsNamedWhat what × IsNoNote what → (t : Node Read) → IsNodeOf t (what_node note_node what)
    → AreMet (IsInner here.text) (things_in what) (content_met here (t ∷ []))
inner_met here note_node (What-F.Char c) is t of = char_is here c t of
inner_met here note_node What-F.Tab is t of = tab_is here note_node t of
inner_met here note_node What-F.Break is t of = break_is here note_node t of
inner_met here note_node (What-F.Field field) is t of = met_one (IsInner here.text) (Counted field) (content_met here (t ∷ [])) (field_is here field is.0 t of)
inner_met here note_node (What-F.Mark mark) is t of = met_one (IsInner here.text) (Marked mark) (content_met here (t ∷ [])) (mark_is here mark is.0 t of)
inner_met here note_node (What-F.Note note) is t of = absurd is.1
