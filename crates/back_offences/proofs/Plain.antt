-- What is met of a paragraph of the body, wherever it stands: no section.
use Rattle.std.proofs.Common.{◌≡◌, ℕ, Bool, false, List, [], ◌∷◌, ◌++◌, map, codes, refl, sym, ap₂, ◌∙◌, subst, Option}
use Rattle.std.specs.List.{flat_map, AllByRecursion as Each}
use Rattle.markup_nodes.specs.declared.tree.Elem.{Elem}
use Rattle.markup_nodes.specs.Node.{Node}
use Rattle.doc_model.specs.declared.field.Field.{Field}
use Rattle.doc_model.specs.declared.field.Field.TheVariants as fields
use Rattle.doc_model.specs.declared.paragraph.Item.{Item}
use Rattle.doc_model.specs.declared.paragraph.Note.{Note as DocNote, out-Note}
use Rattle.doc_model.specs.declared.paragraph.Par.{Par}
use Rattle.doc_model.specs.declared.paragraph.What.{What}
use Rattle.doc_model.specs.declared.paragraph.What.TheOpen.{What-F}
use Rattle.doc_model.specs.Parts.{items_of, what_of}
use Rattle.load_model.specs.declared.names.Key.TheVariants as key
use Rattle.load_model.specs.declared.names.Tag.TheVariants as tag
use Rattle.load_model.specs.declared.element.Element.{Element as Read, out-Element}
use Rattle.load_model.specs.Met.{Met, Note, Section as MetSection, Where, in_note, named_at}
use Rattle.load_model.specs.Values as value
use Rattle.load_model.specs.Values.{stated}
use Rattle.written_model.specs.Blocks.{note_element, paragraph}
use Rattle.written_model.specs.Content.{what_node}
use Rattle.written_model.specs.Elements.{attribute, element, empty_element, unless_empty}
use Rattle.written_model.specs.Values.{class_text}
use Rattle.back_fields.specs.Fit.{IsNameOrNone}
use Rattle.back_fields.proofs.Attributes.{at, at_unless, named_first, named_unless}
use Rattle.back_fields.proofs.Keys as field_name
use Rattle.back_paragraphs.proofs.Keys as par_name
use Rattle.back_values.proofs.Texts.{name_back}
use Rattle.back_met.specs.Things.{AreMet, Counted, Headed, IsInner, IsMet, Marked, Noted, Thing, field_met, if_any, note_items, things_in, things_of}
use Rattle.back_met.proofs.Blocks.{IsNamedInner, IsNamedItem, IsNamedNote}
use Rattle.back_met.proofs.Contents.{items_met}
use Rattle.back_met.proofs.Named.{IsNamedWhat, break_is, char_is, field_is, inner_met, mark_is, tab_is}
use Rattle.back_met.proofs.Nodes.{AreNodesOf, IsNodeOf, blocks_met, content_met, content_one, element_of}
use Rattle.back_met.proofs.Paragraphs.{note_body, par_met, pars_met}
use Rattle.back_met.proofs.Parts.{met_one}
use Rattle.back_offences.proofs.Lists.{each_append}

abbrev notes_in : What-F What Item DocNote Par → List DocNote
notes_in (What-F.Note note) = note ∷ []
notes_in _ = []

abbrev empty_note : DocNote → Node Elem
empty_note inner = empty_element (codes "text:note") []

-- where blocks of the body are read
abbrev pub in_body : Bool → List ℕ → Where
in_body in_list sections = record { text = 0; in_list = in_list; sections = sections }

-- what a note holds
inner_read : (place : ℕ) (note : DocNote) → IsNamedNote note → (ts : List (Node Read)) → AreNodesOf ts (map (paragraph empty_note) (out-Note note).pars)
    → AreMet (IsInner place) (flat_map things_of (note_items note)) (blocks_met (in_note place) ts)
inner_read place note is ts are =
    pars_met place [] empty_note (IsInner place) IsNamedInner
    (λ in_list items. items_met empty_note (IsInner place) (record { text = place; in_list = in_list; sections = [] }) IsNamedInner
    (λ item fine t of. inner_met (record { text = place; in_list = in_list; sections = [] }) empty_note (what_of item) fine t of) items)
    false (out-Note note).pars is.each_inner ts are

id_stated : (id : List ℕ) (class : List ℕ) → IsNameOrNone id → stated key.Id value.name (at_unless key.Id id (at key.NoteClass class ∷ [])) ≡ if_any id
id_stated [] class few = refl
id_stated (c ∷ cs) class few = name_back (c ∷ cs) (λ e. cc) few

note_read : (in_list : Bool) (sections : List ℕ) (note : DocNote) → IsNamedNote note → (t : Node Read) → IsNodeOf t (note_element note) → IsMet (Noted note) (content_met (in_body in_list sections) (t ∷ []))
note_read in_list sections note is t of =
    let x = out-Note note in
    let inner = map (paragraph empty_note) x.pars in
    let nodes = empty_element (codes "text:note-citation") [] ∷ element (codes "text:note-body") [] inner ∷ [] in
    let attributes = at_unless key.Id x.id (at key.NoteClass (class_text x.class) ∷ []) in
    let one = element_of t (codes "text:note") (unless_empty (codes "text:id") x.id ++ attribute (codes "text:note-class") (class_text x.class) ∷ []) nodes tag.Note attributes of par_name.note_tag
    (named_unless (codes "text:id") x.id key.Id (attribute (codes "text:note-class") (class_text x.class) ∷ []) (at key.NoteClass (class_text x.class) ∷ []) par_name.id_key
    (named_first (codes "text:note-class") (class_text x.class) key.NoteClass [] [] field_name.note_class_key refl)) in
    let place = (out-Element one.found).place in
    let body = note_body (out-Element one.found).nodes inner (in_note place) one.is.nodes_of in (
      place,
      blocks_met (in_note place) body.body,
      content_one t tag.Note attributes nodes one (in_body in_list sections)
          ∙ ap₂ (λ (id : Option (List ℕ)) (held_met : List Met). map Note (named_at place id) ++ held_met) (id_stated x.id (class_text x.class) is.id) body.body_same,
      inner_read place note is body.body body.body_of,
    )

what_read : (in_list : Bool) (sections : List ℕ) (what : What-F What Item DocNote Par) → IsNamedWhat what → Each IsNamedNote (notes_in what) → (t : Node Read) → IsNodeOf t (what_node note_element what)
    → AreMet IsMet (things_in what) (content_met (in_body in_list sections) (t ∷ []))
what_read in_list sections (What-F.Char c) is notes t of = char_is (in_body in_list sections) c t of
what_read in_list sections What-F.Tab is notes t of = tab_is (in_body in_list sections) note_element t of
what_read in_list sections What-F.Break is notes t of = break_is (in_body in_list sections) note_element t of
what_read in_list sections (What-F.Field field) is notes t of = met_one IsMet (Counted field) (content_met (in_body in_list sections) (t ∷ [])) (field_is (in_body in_list sections) field is t of)
what_read in_list sections (What-F.Mark mark) is notes t of = met_one IsMet (Marked mark) (content_met (in_body in_list sections) (t ∷ [])) (mark_is (in_body in_list sections) mark is t of)
what_read in_list sections (What-F.Note note) is notes t of = met_one IsMet (Noted note) (content_met (in_body in_list sections) (t ∷ [])) (note_read in_list sections note notes.0 t of)

par_read : (sections : List ℕ) (par : Par) → Each IsNamedItem (items_of par) → (t : Node Read) → IsNodeOf t (paragraph note_element par) → AreMet IsMet (flat_map things_of (items_of par)) (blocks_met (in_body false sections) (t ∷ []))
par_read sections par fine t of =
    par_met 0 sections note_element IsMet IsNamedItem
    (λ in_list items. items_met note_element IsMet (in_body in_list sections) IsNamedItem (λ item is t of. what_read in_list sections (what_of item) is.0 is.1 t of) items)
    false par fine t of

-- what is met is no section
abbrev pub IsPlainMet : Met → Type 0
IsPlainMet (MetSection section) = ⊥
IsPlainMet _ = Unit {0}

-- a thing heads no section
abbrev IsHeadless : Thing → Type 0
IsHeadless (Headed name) = ⊥
IsHeadless _ = Unit {0}

field_plain : (place : ℕ) (field : Field) → Each IsPlainMet (field_met place field)
field_plain place (fields.Sequence name [] format) = (tt, tt)
field_plain place (fields.Sequence name (c ∷ cs) format) = (tt, (tt, tt))
field_plain place (fields.VarSet name value) = (tt, tt)
field_plain place (fields.VarGet name) = (tt, tt)
field_plain place (fields.Chapter display level) = tt
field_plain place (fields.PageNumber select adjust format) = tt
field_plain place (fields.PageCount format) = tt
field_plain place (fields.BookRef name form) = tt
field_plain place (fields.SeqRef name form) = tt
field_plain place (fields.NoteRef name class form) = tt

id_plain : (place : ℕ) (id : List ℕ) → Each IsPlainMet (map Note (named_at place (if_any id)))
id_plain place [] = tt
id_plain place (c ∷ cs) = (tt, tt)

-- no section is met of things that head none
all_plain : (P : Thing → List Met → Type 0) (Q : Thing → Type 0) → ((thing : Thing) (one : List Met) → Q thing → P thing one → Each IsPlainMet one) → (things : List Thing) (met : List Met)
    → Each Q things → AreMet P things met → Each IsPlainMet met
all_plain P Q each [] met are is = subst (Each IsPlainMet) (sym is) tt
all_plain P Q each (thing ∷ things) met are is = subst (Each IsPlainMet) (sym is.2) (each_append IsPlainMet is.0 is.1 (each thing is.0 are.0 is.3) (all_plain P Q each things is.1 are.1 is.4))

inner_plain : (text : ℕ) (thing : Thing) (one : List Met) → Unit {0} → IsInner text thing one → Each IsPlainMet one
inner_plain text (Marked mark) one are is = subst (Each IsPlainMet) (sym is.1) (tt, tt)
inner_plain text (Counted field) one are is = subst (Each IsPlainMet) (sym is.1) (field_plain is.0 field)
inner_plain text (Headed name) one are is = absurd is
inner_plain text (Noted note) one are is = absurd is

each_unit : (things : List Thing) → Each (λ thing. Unit {0}) things
each_unit [] = tt
each_unit (thing ∷ things) = (tt, each_unit things)

thing_plain : (thing : Thing) (one : List Met) → IsHeadless thing → IsMet thing one → Each IsPlainMet one
thing_plain (Marked mark) one are is = subst (Each IsPlainMet) (sym is.1) (tt, tt)
thing_plain (Counted field) one are is = subst (Each IsPlainMet) (sym is.1) (field_plain is.0 field)
thing_plain (Headed name) one are is = absurd are
thing_plain (Noted note) one are is =
    let things = flat_map things_of (note_items note) in
    subst (Each IsPlainMet) (sym is.2)
    (each_append IsPlainMet (map Note (named_at is.0 (if_any (out-Note note).id))) is.1 (id_plain is.0 (out-Note note).id)
    (all_plain (IsInner is.0) (λ thing. Unit {0}) (inner_plain is.0) things is.1 (each_unit things) is.3))

what_headless : (what : What-F What Item DocNote Par) → Each IsHeadless (things_in what)
what_headless (What-F.Char c) = tt
what_headless What-F.Tab = tt
what_headless What-F.Break = tt
what_headless (What-F.Field field) = (tt, tt)
what_headless (What-F.Note note) = (tt, tt)
what_headless (What-F.Mark mark) = (tt, tt)

items_headless : (items : List Item) → Each IsHeadless (flat_map things_of items)
items_headless [] = tt
items_headless (item ∷ items) = each_append IsHeadless (things_of item) (flat_map things_of items) (what_headless (what_of item)) (items_headless items)

-- so no section is met of a paragraph
pub par_plain : (sections : List ℕ) (par : Par) → Each IsNamedItem (items_of par) → (t : Node Read) → IsNodeOf t (paragraph note_element par) → Each IsPlainMet (blocks_met (in_body false sections) (t ∷ []))
par_plain sections par fine t of =
    all_plain IsMet IsHeadless thing_plain (flat_map things_of (items_of par)) (blocks_met (in_body false sections) (t ∷ [])) (items_headless (items_of par)) (par_read sections par fine t of)
