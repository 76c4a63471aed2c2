-- The names of a document, told by its rows.
use Rattle.std.proofs.Common.{◌≡◌, ℕ, List, [], ◌∷◌, ◌++◌, map, refl, ap, ap₂, sym, ◌∙◌, append-nil}
use Rattle.std.specs.Prelude.{max}
use Rattle.std.specs.List.{flat_map, AllByRecursion as Each}
use Rattle.std.proofs.lemmas.List.{map-append}
use Rattle.std.proofs.lemmas.List.Concat.{flat_map-append}
use Rattle.doc_model.specs.declared.document.Document.{Document}
use Rattle.doc_model.specs.declared.paragraph.Item.{Item, out-Item}
use Rattle.doc_model.specs.declared.paragraph.Note.{Note, out-Note}
use Rattle.doc_model.specs.declared.paragraph.Par.{Par}
use Rattle.doc_model.specs.declared.paragraph.What.{What, out-What}
use Rattle.doc_model.specs.declared.paragraph.What.TheOpen.{What-F, Note-F}
use Rattle.doc_model.specs.declared.paragraph.What.TheViews.{out-roll-What, out-roll-Note}
use Rattle.doc_model.specs.declared.refusal.Limit.TheVariants as limit
use Rattle.doc_model.specs.Limits.{measure}
use Rattle.doc_model.specs.Parts as parts
use Rattle.doc_model.specs.Parts.{SectionHead, sections, items_of, all_items, all_fields, notes, field_of, mark_of, mark_name, names, names_of_field, names_of_paragraph, names_of_section}
use Rattle.doc_model.specs.Reading.{body_paragraphs, note_of, notes_of, with_notes, paragraphs}
use Rattle.node_array.specs.declared.row.Row.{Row}
use Rattle.node_array.specs.declared.row.Row.TheVariants as row
use Rattle.node_array.specs.declared.row.SectionHead.{SectionHead as RowHead}
use Rattle.node_array.specs.Rows.{rows_of}
use Rattle.paragraph_rows.specs.Flat.{AreFlat}
use Rattle.paragraph_rows.specs.OwnRow.{bare, own_row}
use Rattle.paragraph_rows.proofs.Lists.{joined_map, same_joined, twice}
use Rattle.paragraph_rows.proofs.Opened.{item_of, item_is, bare_what, bare_item_is}
use Rattle.paragraph_rows.proofs.Changed.{note_bare, bare_note}
use Rattle.paragraph_rows.proofs.Items.{spans_bare, mark_bare}
use Rattle.paragraph_rows.proofs.FlatPars.{IsFlatNote, IsFlatPar, flat_pars}
use Rattle.row_facts.specs.Paragraphs.{section_in, row_head}
use Rattle.row_checks.proofs.Live.{par_row}
use Rattle.row_measures.specs.RowCounts.{items_in}
use Rattle.row_measures.specs.RowNames.{source_names, list_names, head_names, span_names, field_names, mark_names, note_names, names_in, other_names, longest}
use Rattle.row_measures.proofs.Sections.{sections_begun}
use Rattle.row_measures.proofs.Counts.{along}
use Rattle.row_measures.proofs.Longest.{max_assoc, longest_append, longest_both}

-- the names of heads, of sections and of paragraphs
abbrev start_names : Row → List (List ℕ)
start_names one = flat_map (λ head. head.name ∷ head.style ∷ source_names head.source) (section_in one)

abbrev par_names : Row → List (List ℕ)
par_names (row.Start head) = []
par_names row.End = []
par_names (row.Par head items) = head.style ∷ list_names head.list
par_names row.NoteText = []

heads_two : (one : Row) → head_names one ≡ start_names one ++ par_names one
heads_two (row.Start head) = sym (append-nil (start_names (row.Start head)) ∙ append-nil (head.name ∷ head.style ∷ source_names head.source))
heads_two row.End = refl
heads_two (row.Par head items) = refl
heads_two row.NoteText = refl

section_named : (section : SectionHead) → names_of_section section ≡ section.name ∷ section.style ∷ source_names section.source
section_named section = refl

par_named : (par : Par) → names_of_paragraph par ≡ par_names (own_row par)
par_named par = refl

sections_named : (doc : Document) → AreFlat (rows_of doc.body) → flat_map names_of_section (sections doc) ≡ flat_map start_names (rows_of doc.body)
sections_named doc flat =
    same_joined names_of_section (λ section. section.name ∷ section.style ∷ source_names section.source) section_named (sections doc)
    ∙ sym (joined_map (λ (head : RowHead). head.name ∷ head.style ∷ source_names head.source) row_head (sections doc))
    ∙ ap (flat_map (λ (head : RowHead). head.name ∷ head.style ∷ source_names head.source)) (sym (sections_begun doc flat))
    ∙ twice (λ (head : RowHead). head.name ∷ head.style ∷ source_names head.source) section_in (rows_of doc.body)

-- what is gathered of the items of paragraphs, where it is that of the items as they stand in rows
module _ {X : Type 0} (of_items : List Item → List X) (none : of_items [] ≡ []) (same : (items : List Item) → of_items (map bare items) ≡ of_items items) where
  of_other : (one : Row) → of_items (items_in one) ≡ flat_map (λ r. of_items (items_in r)) (par_row one)
  of_other (row.Start head) = none
  of_other row.End = none
  of_other (row.Par head items) = sym (append-nil (of_items items))
  of_other row.NoteText = none

  along_items : (doc : Document) → AreFlat (rows_of doc.body) → flat_map (λ par. of_items (items_of par)) (paragraphs doc) ≡ flat_map (λ one. of_items (items_in one)) (rows_of doc.body)
  along_items doc flat = along (λ par. of_items (items_of par)) (λ one. of_items (items_in one)) (λ par. sym (same (items_of par))) of_other doc flat

spans_same : (items : List Item) → span_names (map bare items) ≡ span_names items
spans_same items = joined_map (λ (item : Item). (out-Item item).spans) bare items ∙ same_joined (λ item. (out-Item (bare item)).spans) (λ item. (out-Item item).spans) spans_bare items

field_what : (spans : List (List ℕ)) (what : What-F What Item Note Par) → field_of (item_of spans (bare_what what)) ≡ field_of (item_of spans what)
field_what spans (What-F.Char c) = refl
field_what spans What-F.Tab = refl
field_what spans What-F.Break = refl
field_what spans (What-F.Field field) = refl
field_what spans (What-F.Note note) = simp out-roll-What
field_what spans (What-F.Mark mark) = refl

field_bare : (item : Item) → field_of (bare item) ≡ field_of item
field_bare item =
    ap (λ (i : Item). field_of (bare i)) (sym (item_is item)) ∙ ap field_of (bare_item_is (out-Item item).spans (out-What (out-Item item).what))
    ∙ field_what (out-Item item).spans (out-What (out-Item item).what) ∙ ap field_of (item_is item)

fields_same : (items : List Item) → field_names (map bare items) ≡ field_names items
fields_same items = ap (flat_map names_of_field) (joined_map field_of bare items ∙ same_joined (λ item. field_of (bare item)) field_of field_bare items)

marks_same : (items : List Item) → mark_names (map bare items) ≡ mark_names items
marks_same items = ap (map mark_name) (joined_map mark_of bare items ∙ same_joined (λ item. mark_of (bare item)) mark_of mark_bare items)

abbrev ids : List Note → List (List ℕ)
ids some = map (λ note. (out-Note note).id) some

id_bare : (note : Note) → (out-Note (bare_note note)).id ≡ (out-Note note).id
id_bare note = ap (λ (layer : Note-F What Item Note Par). layer.id) (out-roll-Note _)

note_of_item : (spans : List (List ℕ)) (note : Note) → note_of (item_of spans (What-F.Note note)) ≡ note ∷ []
note_of_item spans note = simp out-roll-What

note_what : (spans : List (List ℕ)) (what : What-F What Item Note Par) → ids (note_of (item_of spans (bare_what what))) ≡ ids (note_of (item_of spans what))
note_what spans (What-F.Char c) = refl
note_what spans What-F.Tab = refl
note_what spans What-F.Break = refl
note_what spans (What-F.Field field) = refl
note_what spans (What-F.Note note) =
    ap (λ (what : What-F What Item Note Par). ids (note_of (item_of spans what))) (ap (λ (n : Note). What-F.Note n) (note_bare note))
    ∙ ap ids (note_of_item spans (bare_note note)) ∙ ap (λ (id : List ℕ). id ∷ []) (id_bare note) ∙ ap ids (sym (note_of_item spans note))
note_what spans (What-F.Mark mark) = refl

note_same : (item : Item) → ids (note_of (bare item)) ≡ ids (note_of item)
note_same item =
    ap (λ (i : Item). ids (note_of (bare i))) (sym (item_is item)) ∙ ap (λ (i : Item). ids (note_of i)) (bare_item_is (out-Item item).spans (out-What (out-Item item).what))
    ∙ note_what (out-Item item).spans (out-What (out-Item item).what) ∙ ap (λ (i : Item). ids (note_of i)) (item_is item)

notes_same : (items : List Item) → note_names (map bare items) ≡ note_names items
notes_same [] = refl
notes_same (item ∷ items) =
    map-append (λ (note : Note). (out-Note note).id) (note_of (bare item)) (flat_map note_of (map bare items))
    ∙ ap₂ (λ (here more : List (List ℕ)). here ++ more) (note_same item) (notes_same items)
    ∙ sym (map-append (λ (note : Note). (out-Note note).id) (note_of item) (flat_map note_of items))

-- the notes of paragraphs that stand in notes are none
none_inside : (pars : List Par) → Each (λ par. notes_of par ≡ []) pars → flat_map (λ par. ids (notes_of par)) pars ≡ []
none_inside [] none = refl
none_inside (par ∷ pars) none = ap₂ (λ (here : List Note) (more : List (List ℕ)). ids here ++ more) none.0 (none_inside pars none.1)

none_within : (some : List Note) → Each IsFlatNote some → flat_map (λ par. ids (notes_of par)) (flat_map (λ note. (out-Note note).pars) some) ≡ []
none_within [] flat = refl
none_within (note ∷ some) flat =
    flat_map-append (λ par. ids (notes_of par)) (out-Note note).pars (flat_map (λ note. (out-Note note).pars) some)
    ∙ ap₂ (λ (here more : List (List ℕ)). here ++ more) (none_inside (out-Note note).pars flat.0) (none_within some flat.1)

ids_read : (pars : List Par) → Each IsFlatPar pars → ids (flat_map notes_of pars) ≡ flat_map (λ par. ids (notes_of par)) (flat_map with_notes pars)
ids_read [] flat = refl
ids_read (par ∷ pars) flat =
    map-append (λ (note : Note). (out-Note note).id) (notes_of par) (flat_map notes_of pars)
    ∙ ap (λ (front : List (List ℕ)). front ++ ids (flat_map notes_of pars)) (sym (append-nil (ids (notes_of par))))
    ∙ ap₂ (λ (inside more : List (List ℕ)). (ids (notes_of par) ++ inside) ++ more) (sym (none_within (notes_of par) flat.0)) (ids_read pars flat.1)
    ∙ sym (flat_map-append (λ par. ids (notes_of par)) (with_notes par) (flat_map with_notes pars))

-- each sort of names, over the rows
map_joined : {X Y Z : Type 0} (f : Y → Z) (g : X → List Y) (xs : List X) → map f (flat_map g xs) ≡ flat_map (λ x. map f (g x)) xs
map_joined f g [] = refl
map_joined f g (x ∷ xs) = map-append f (g x) (flat_map g xs) ∙ ap (λ zs. map f (g x) ++ zs) (map_joined f g xs)

spans_told : (doc : Document) → AreFlat (rows_of doc.body) → parts.span_names doc ≡ flat_map (λ one. span_names (items_in one)) (rows_of doc.body)
spans_told doc flat = twice (λ (item : Item). (out-Item item).spans) items_of (paragraphs doc) ∙ along_items span_names refl spans_same doc flat

fields_told : (doc : Document) → AreFlat (rows_of doc.body) → flat_map names_of_field (all_fields doc) ≡ flat_map (λ one. field_names (items_in one)) (rows_of doc.body)
fields_told doc flat =
    ap (flat_map names_of_field) (twice field_of items_of (paragraphs doc)) ∙ twice names_of_field (λ par. flat_map field_of (items_of par)) (paragraphs doc)
    ∙ along_items field_names refl fields_same doc flat

marks_told : (doc : Document) → AreFlat (rows_of doc.body) → map mark_name (flat_map mark_of (all_items doc)) ≡ flat_map (λ one. mark_names (items_in one)) (rows_of doc.body)
marks_told doc flat =
    ap (map mark_name) (twice mark_of items_of (paragraphs doc)) ∙ map_joined mark_name (λ par. flat_map mark_of (items_of par)) (paragraphs doc)
    ∙ along_items mark_names refl marks_same doc flat

notes_told : (doc : Document) → AreFlat (rows_of doc.body) → ids (notes doc) ≡ flat_map (λ one. note_names (items_in one)) (rows_of doc.body)
notes_told doc flat = ids_read (body_paragraphs doc) (flat_pars doc.body flat) ∙ along_items note_names refl notes_same doc flat

par_other : (one : Row) → par_names one ≡ flat_map par_names (par_row one)
par_other (row.Start head) = refl
par_other row.End = refl
par_other (row.Par head items) = sym (append-nil (head.style ∷ list_names head.list))
par_other row.NoteText = refl

pars_named : (doc : Document) → AreFlat (rows_of doc.body) → flat_map names_of_paragraph (paragraphs doc) ≡ flat_map par_names (rows_of doc.body)
pars_named doc flat = along names_of_paragraph par_names par_named par_other doc flat

regrouped : (a s p q f m n : ℕ) → max (max (max (max (max (max a s) p) q) f) m) n ≡ max a (max (max s p) (max q (max f (max m n))))
regrouped a s p q f m n =
    max_assoc (max (max (max (max a s) p) q) f) m n ∙ max_assoc (max (max (max a s) p) q) f (max m n) ∙ max_assoc (max (max a s) p) q (max f (max m n))
    ∙ ap (λ (k : ℕ). max k (max q (max f (max m n)))) (max_assoc a s p) ∙ max_assoc a (max s p) (max q (max f (max m n)))

-- the greatest length over six sorts of names behind others
longest_seven : (a s p q f m n : List (List ℕ))
    → longest (a ++ s ++ p ++ q ++ f ++ m ++ n) ≡ max (longest a) (max (max (longest s) (longest p)) (max (longest q) (max (longest f) (max (longest m) (longest n)))))
longest_seven a s p q f m n =
    longest_append (a ++ s ++ p ++ q ++ f ++ m) n
    ∙ ap (λ (k : ℕ). max k (longest n)) (longest_append (a ++ s ++ p ++ q ++ f) m
    ∙ ap (λ (k : ℕ). max k (longest m)) (longest_append (a ++ s ++ p ++ q) f
    ∙ ap (λ (k : ℕ). max k (longest f)) (longest_append (a ++ s ++ p) q
    ∙ ap (λ (k : ℕ). max k (longest q)) (longest_append (a ++ s) p
    ∙ ap (λ (k : ℕ). max k (longest p)) (longest_append a s)))))
    ∙ regrouped (longest a) (longest s) (longest p) (longest q) (longest f) (longest m) (longest n)

abbrev over : (List Item → List (List ℕ)) → List Row → List (List ℕ)
over of_items rows = flat_map (λ one. of_items (items_in one)) rows

longest_rows : (rows : List Row) → longest (flat_map names_in rows)
    ≡ max (max (longest (flat_map start_names rows)) (longest (flat_map par_names rows))) (max (longest (over span_names rows)) (max (longest (over field_names rows)) (max (longest (over mark_names rows)) (longest (over note_names rows)))))
longest_rows rows =
    longest_both head_names (λ one. span_names (items_in one) ++ (field_names (items_in one) ++ (mark_names (items_in one) ++ note_names (items_in one)))) rows
    ∙ ap₂ max (ap longest (same_joined head_names (λ one. start_names one ++ par_names one) heads_two rows) ∙ longest_both start_names par_names rows)
    (longest_both (λ one. span_names (items_in one)) (λ one. field_names (items_in one) ++ (mark_names (items_in one) ++ note_names (items_in one))) rows
    ∙ ap (λ (k : ℕ). max (longest (over span_names rows)) k)
    (longest_both (λ one. field_names (items_in one)) (λ one. mark_names (items_in one) ++ note_names (items_in one)) rows
    ∙ ap (λ (k : ℕ). max (longest (over field_names rows)) k) (longest_both (λ one. mark_names (items_in one)) (λ one. note_names (items_in one)) rows)))

pub names_measured : (doc : Document) → AreFlat (rows_of doc.body) → measure doc limit.NameLength ≡ max (longest (other_names doc)) (longest (flat_map names_in (rows_of doc.body)))
names_measured doc flat =
    longest_seven (other_names doc) (flat_map names_of_section (sections doc)) (flat_map names_of_paragraph (paragraphs doc)) (parts.span_names doc)
    (flat_map names_of_field (all_fields doc)) (map mark_name (flat_map mark_of (all_items doc))) (ids (notes doc))
    ∙ ap (λ (k : ℕ). max (longest (other_names doc)) k)
    (ap₂ max (ap₂ (λ (s p : List (List ℕ)). max (longest s) (longest p)) (sections_named doc flat) (pars_named doc flat))
    (ap₂ (λ (q f : List (List ℕ)). max (longest q) (max (longest f) (max (longest (map mark_name (flat_map mark_of (all_items doc)))) (longest (ids (notes doc)))))) (spans_told doc flat) (fields_told doc flat)
    ∙ ap₂ (λ (m n : List (List ℕ)). max (longest (over span_names (rows_of doc.body))) (max (longest (over field_names (rows_of doc.body))) (max (longest m) (longest n)))) (marks_told doc flat) (notes_told doc flat))
    ∙ sym (longest_rows (rows_of doc.body)))
