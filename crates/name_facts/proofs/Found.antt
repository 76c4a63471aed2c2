-- The names of items are there where a scan finds them.
use Rattle.std.proofs.Common.{◌≡◌, ℕ, Bool, true, false, List, [], ◌∷◌, ◌++◌, map, refl, ap, ap₂, sym, ◌∙◌}
use Rattle.std.specs.Prelude.{◌||◌, is_some}
use Rattle.std.specs.List.{AllByRecursion as Each, flat_map, list_any}
use Rattle.std.specs.Str.{bytes_eq}
use Rattle.doc_model.specs.declared.paragraph.Par.{Par, out-Par}
use Rattle.doc_model.specs.declared.paragraph.ParId.{ParId}
use Rattle.doc_model.specs.declared.paragraph.Item.{Item}
use Rattle.doc_model.specs.declared.paragraph.What.{What}
use Rattle.doc_model.specs.declared.paragraph.What.TheOpen.{What-F}
use Rattle.doc_model.specs.declared.paragraph.Note.{Note, out-Note}
use Rattle.doc_model.specs.declared.document.Document.{Document}
use Rattle.doc_model.specs.Reading.{body_paragraphs, note_of, notes_of}
use Rattle.doc_model.specs.Parts.{items_of, items_read, what_of, all_items, all_fields, items_in_reading_order, mark_of, mark_name, field_of, notes}
use Rattle.doc_model.specs.Valid.{IsNote, refname_of}
use Rattle.std.proofs.lemmas.List.Folds.{list_any-append}
use Rattle.edit_rules.specs.Names.{is_there, bookmark_names, reference_names, note_ids}
use Rattle.name_index.specs.declared.names.NameKind.TheVariants as kinds
use Rattle.name_index.specs.Scan as scan
use Rattle.name_index.proofs.Placed.{placed_are_items}
use Rattle.name_facts.proofs.AnyLemmas.{any_flat, any_map, any_same, found_any, eq_turned, each_front, each_rest}
use Rattle.name_facts.proofs.Reordered.{items_in_both}

-- a test of the names that items have
module _ (names : Item → List (List ℕ)) where
  placed_any : (name : List ℕ) (placed : scan.Placed) → list_any (λ pair. bytes_eq name pair.0) (scan.names_at names placed) ≡ list_any (λ other. bytes_eq other name) (names placed.1)
  placed_any name placed =
      any_map (λ (pair : List ℕ × ParId). bytes_eq name pair.0) (λ (other : List ℕ). (other, placed.0)) (names placed.1)
      ∙ any_same (λ other. bytes_eq name other) (λ other. bytes_eq other name) (λ other. eq_turned name other) (names placed.1)

  scan_any : (doc : Document) (name : List ℕ)
      → list_any (λ pair. bytes_eq name pair.0) (flat_map (scan.names_at names) (scan.placed_in_reading_order doc)) ≡ list_any (λ item. list_any (λ other. bytes_eq other name) (names item)) (items_in_reading_order doc)
  scan_any doc name =
      any_flat (λ (pair : List ℕ × ParId). bytes_eq name pair.0) (scan.names_at names) (scan.placed_in_reading_order doc)
      ∙ any_same (λ placed. list_any (λ pair. bytes_eq name pair.0) (scan.names_at names placed)) (λ placed. list_any (λ other. bytes_eq other name) (names placed.1)) (placed_any name) (scan.placed_in_reading_order doc)
      ∙ sym (any_map (λ (item : Item). list_any (λ other. bytes_eq other name) (names item)) (λ (placed : scan.Placed). placed.1) (scan.placed_in_reading_order doc))
      ∙ ap (list_any (λ (item : Item). list_any (λ other. bytes_eq other name) (names item))) (placed_are_items doc)

abbrev mark_names : Item → List (List ℕ)
mark_names item = map mark_name (mark_of item)

abbrev refnames : Item → List (List ℕ)
refnames item = flat_map refname_of (field_of item)

abbrev ids : Item → List (List ℕ)
ids item = map (λ note. (out-Note note).id) (note_of item)

pub bookmark_there : (doc : Document) (name : List ℕ) → is_there (bookmark_names doc) name ≡ is_some (scan.scanned doc kinds.Bookmark name)
bookmark_there doc [] = refl
bookmark_there doc (c ∷ cs) =
    any_map (λ (other : List ℕ). bytes_eq other (c ∷ cs)) mark_name (flat_map mark_of (all_items doc))
    ∙ any_flat (λ mark. bytes_eq (mark_name mark) (c ∷ cs)) mark_of (all_items doc)
    ∙ any_same (λ item. list_any (λ mark. bytes_eq (mark_name mark) (c ∷ cs)) (mark_of item)) (λ item. list_any (λ other. bytes_eq other (c ∷ cs)) (mark_names item)) (λ item. sym (any_map (λ (other : List ℕ). bytes_eq other (c ∷ cs)) mark_name (mark_of item))) (all_items doc)
    ∙ items_in_both (λ item. list_any (λ other. bytes_eq other (c ∷ cs)) (mark_names item)) doc
    ∙ sym (scan_any mark_names doc (c ∷ cs))
    ∙ sym (found_any (λ (pair : List ℕ × ParId). bytes_eq (c ∷ cs) pair.0) (λ pair. pair.1) (scan.bookmark_names doc))

pub reference_there : (doc : Document) (name : List ℕ) → is_there (reference_names doc) name ≡ is_some (scan.scanned doc kinds.Reference name)
reference_there doc [] = refl
reference_there doc (c ∷ cs) =
    any_flat (λ (other : List ℕ). bytes_eq other (c ∷ cs)) refname_of (all_fields doc)
    ∙ any_flat (λ field. list_any (λ (other : List ℕ). bytes_eq other (c ∷ cs)) (refname_of field)) field_of (all_items doc)
    ∙ any_same (λ item. list_any (λ field. list_any (λ (other : List ℕ). bytes_eq other (c ∷ cs)) (refname_of field)) (field_of item)) (λ item. list_any (λ other. bytes_eq other (c ∷ cs)) (refnames item)) (λ item. sym (any_flat (λ (other : List ℕ). bytes_eq other (c ∷ cs)) refname_of (field_of item))) (all_items doc)
    ∙ items_in_both (λ item. list_any (λ other. bytes_eq other (c ∷ cs)) (refnames item)) doc
    ∙ sym (scan_any refnames doc (c ∷ cs))
    ∙ sym (found_any (λ (pair : List ℕ × ParId). bytes_eq (c ∷ cs) pair.0) (λ pair. pair.1) (scan.reference_names doc))

-- what a note's paragraphs hold is no note, so it has no id
abbrev none_in : What-F What Item Note Par → List Note
none_in (What-F.Note note) = note ∷ []
none_in _ = []

abbrev IsNoNote : What-F What Item Note Par → Type 0
IsNoNote (What-F.Note note) = ⊥
IsNoNote _ = Unit {0}

no_note_there : (x : What-F What Item Note Par) → IsNoNote x → none_in x ≡ []
no_note_there (What-F.Char c) is = refl
no_note_there What-F.Tab is = refl
no_note_there What-F.Break is = refl
no_note_there (What-F.Field field) is = refl
no_note_there (What-F.Note note) is = absurd is
no_note_there (What-F.Mark mark) is = refl

note_known : (item : Item) (x : What-F What Item Note Par) → what_of item ≡ x → note_of item ≡ none_in x
note_known item (What-F.Char c) is = rw is refl
note_known item What-F.Tab is = rw is refl
note_known item What-F.Break is = rw is refl
note_known item (What-F.Field field) is = rw is refl
note_known item (What-F.Note note) is = rw is refl
note_known item (What-F.Mark mark) is = rw is refl

-- a test that finds nothing where there is no note finds what it finds in the items of the body
module _ (test : Item → Bool) (never : (item : Item) → note_of item ≡ [] → test item ≡ false) where
  items_never : (items : List Item) → Each (λ item. IsNoNote (what_of item)) items → list_any test items ≡ false
  items_never [] each = refl
  items_never (item ∷ items) each =
      ap (λ b. b || list_any test items) (never item (note_known item (what_of item) refl ∙ no_note_there (what_of item) each.0)) ∙ items_never items each.1

  pars_never : (pars : List Par) → Each (λ par. Each (λ item. IsNoNote (what_of item)) (out-Par par).items) pars → list_any test (flat_map items_of pars) ≡ false
  pars_never [] each = refl
  pars_never (par ∷ pars) each =
      list_any-append test (items_of par) (flat_map items_of pars) ∙ ap₂ (λ a b. a || b) (items_never (items_of par) each.0) (pars_never pars each.1)

  notes_never : (notes : List Note) → Each IsNote notes → list_any test (flat_map (λ note. flat_map items_of (out-Note note).pars) notes) ≡ false
  notes_never [] each = refl
  notes_never (note ∷ notes) each =
      list_any-append test (flat_map items_of (out-Note note).pars) (flat_map (λ n. flat_map items_of (out-Note n).pars) notes)
      ∙ ap₂ (λ a b. a || b) (pars_never (out-Note note).pars each.0.1) (notes_never notes each.1)

  or_false : (a b : Bool) → b ≡ false → a ≡ (a || b)
  or_false true b is = refl
  or_false false b is = sym is

  read_never : (items : List Item) → Each IsNote (flat_map note_of items) → list_any test items ≡ list_any test (flat_map (λ item. item ∷ flat_map (λ note. flat_map items_of (out-Note note).pars) (note_of item)) items)
  read_never [] each = refl
  read_never (item ∷ items) each =
      let inner = flat_map (λ note. flat_map items_of (out-Note note).pars) (note_of item) in
      let rest = flat_map (λ i. i ∷ flat_map (λ note. flat_map items_of (out-Note note).pars) (note_of i)) items in
      ap (λ b. test item || b) (read_never items (each_rest IsNote (note_of item) (flat_map note_of items) each)
      ∙ ap (λ b. b || list_any test rest) (sym (notes_never (note_of item) (each_front IsNote (note_of item) (flat_map note_of items) each)))
      ∙ sym (list_any-append test inner rest))

  bodies_never : (pars : List Par) → Each IsNote (flat_map notes_of pars) → list_any test (flat_map items_of pars) ≡ list_any test (flat_map items_read pars)
  bodies_never [] each = refl
  bodies_never (par ∷ pars) each =
      let parts : Each IsNote (notes_of par ++ flat_map notes_of pars) = each in
      list_any-append test (items_of par) (flat_map items_of pars)
      ∙ ap₂ (λ a b. a || b) (read_never (out-Par par).items (each_front IsNote (notes_of par) (flat_map notes_of pars) parts)) (bodies_never pars (each_rest IsNote (notes_of par) (flat_map notes_of pars) parts))
      ∙ sym (list_any-append test (items_read par) (flat_map items_read pars))

ids_never : (name : List ℕ) (item : Item) → note_of item ≡ [] → list_any (λ other. bytes_eq other name) (ids item) ≡ false
ids_never name item is = ap (λ (notes : List Note). list_any (λ other. bytes_eq other name) (map (λ note. (out-Note note).id) notes)) is

pub note_there : (doc : Document) (name : List ℕ) → Each IsNote (notes doc) → is_there (note_ids doc) name ≡ is_some (scan.scanned doc kinds.Note name)
note_there doc [] each = refl
note_there doc (c ∷ cs) each =
    any_map (λ (other : List ℕ). bytes_eq other (c ∷ cs)) (λ note. (out-Note note).id) (notes doc)
    ∙ any_flat (λ note. bytes_eq (out-Note note).id (c ∷ cs)) notes_of (body_paragraphs doc)
    ∙ any_same (λ par. list_any (λ note. bytes_eq (out-Note note).id (c ∷ cs)) (notes_of par)) (λ par. list_any (λ item. list_any (λ other. bytes_eq other (c ∷ cs)) (ids item)) (items_of par)) of_par (body_paragraphs doc)
    ∙ sym (any_flat (λ item. list_any (λ other. bytes_eq other (c ∷ cs)) (ids item)) items_of (body_paragraphs doc))
    ∙ bodies_never (λ item. list_any (λ other. bytes_eq other (c ∷ cs)) (ids item)) (ids_never (c ∷ cs)) (body_paragraphs doc) each
    ∙ sym (scan_any ids doc (c ∷ cs))
    ∙ sym (found_any (λ (pair : List ℕ × ParId). bytes_eq (c ∷ cs) pair.0) (λ pair. pair.1) (scan.note_names doc)) where
      of_par : (par : Par) → list_any (λ note. bytes_eq (out-Note note).id (c ∷ cs)) (notes_of par) ≡ list_any (λ item. list_any (λ other. bytes_eq other (c ∷ cs)) (ids item)) (items_of par)
      of_par par =
          any_flat (λ note. bytes_eq (out-Note note).id (c ∷ cs)) note_of (out-Par par).items
          ∙ any_same (λ item. list_any (λ note. bytes_eq (out-Note note).id (c ∷ cs)) (note_of item)) (λ item. list_any (λ other. bytes_eq other (c ∷ cs)) (ids item)) (λ item. sym (any_map (λ (other : List ℕ). bytes_eq other (c ∷ cs)) (λ note. (out-Note note).id) (note_of item))) (out-Par par).items
