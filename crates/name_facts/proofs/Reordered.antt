-- A test finds an item among those of paragraphs where it finds one among those in reading order.
use Rattle.std.proofs.Common.{◌≡◌, Bool, true, false, List, [], ◌∷◌, ◌++◌, refl, ap, ap₂, sym, ◌∙◌}
use Rattle.std.specs.Prelude.{◌||◌}
use Rattle.std.specs.List.{flat_map, list_any}
use Rattle.std.proofs.lemmas.List.Concat.{flat_map-append}
use Rattle.std.proofs.lemmas.List.Folds.{list_any-append}
use Rattle.doc_model.specs.declared.paragraph.Par.{Par, out-Par}
use Rattle.doc_model.specs.declared.paragraph.Item.{Item}
use Rattle.doc_model.specs.declared.paragraph.Note.{Note, out-Note}
use Rattle.doc_model.specs.declared.document.Document.{Document}
use Rattle.doc_model.specs.Reading.{body_paragraphs, note_of, notes_of, with_notes}
use Rattle.doc_model.specs.Parts.{items_of, items_read, all_items, items_in_reading_order}
use Rattle.name_facts.proofs.AnyLemmas.{or_swap}

-- the items of the paragraphs of notes
abbrev in_notes : List Note → List Item
in_notes notes = flat_map items_of (flat_map (λ note. (out-Note note).pars) notes)

-- the items of a note's paragraphs
abbrev in_note : Note → List Item
in_note note = flat_map items_of (out-Note note).pars

flat_flat : {A B C : Type 0} (f : B → List C) (g : A → List B) (xs : List A) → flat_map f (flat_map g xs) ≡ flat_map (λ x. flat_map f (g x)) xs
flat_flat f g [] = refl
flat_flat f g (x ∷ xs) = flat_map-append f (g x) (flat_map g xs) ∙ ap (λ (behind : List _). flat_map f (g x) ++ behind) (flat_flat f g xs)

module _ (test : Item → Bool) where
  or_assoc : (a b c : Bool) → ((a || b) || c) ≡ (a || (b || c))
  or_assoc true b c = refl
  or_assoc false b c = refl

  items_reordered : (items : List Item)
      → (list_any test items || list_any test (flat_map (λ item. flat_map in_note (note_of item)) items))
      ≡ list_any test (flat_map (λ item. item ∷ flat_map in_note (note_of item)) items)
  items_reordered [] = refl
  items_reordered (item ∷ items) =
      let inner = list_any test (flat_map in_note (note_of item)) in
      let rest = list_any test (flat_map (λ i. flat_map in_note (note_of i)) items) in
      or_assoc (test item) (list_any test items) (list_any test (flat_map in_note (note_of item) ++ flat_map (λ i. flat_map in_note (note_of i)) items))
      ∙ ap (λ b. test item || (list_any test items || b)) (list_any-append test (flat_map in_note (note_of item)) (flat_map (λ i. flat_map in_note (note_of i)) items))
      ∙ ap (λ b. test item || b) (or_swap (list_any test items) inner rest)
      ∙ ap (λ b. test item || (inner || b)) (items_reordered items)
      ∙ ap (λ b. test item || b) (sym (list_any-append test (flat_map in_note (note_of item)) (flat_map (λ i. i ∷ flat_map in_note (note_of i)) items)))

  par_reordered : (par : Par) → list_any test (flat_map items_of (with_notes par)) ≡ list_any test (items_read par)
  par_reordered par =
      list_any-append test (items_of par) (in_notes (notes_of par))
      ∙ ap (λ (items : List Item). list_any test (items_of par) || list_any test items)
      (flat_flat items_of (λ note. (out-Note note).pars) (notes_of par) ∙ flat_flat in_note note_of (out-Par par).items)
      ∙ items_reordered (out-Par par).items

  pars_reordered : (pars : List Par) → list_any test (flat_map items_of (flat_map with_notes pars)) ≡ list_any test (flat_map items_read pars)
  pars_reordered [] = refl
  pars_reordered (par ∷ pars) =
      ap (list_any test) (flat_map-append items_of (with_notes par) (flat_map with_notes pars))
      ∙ list_any-append test (flat_map items_of (with_notes par)) (flat_map items_of (flat_map with_notes pars))
      ∙ ap₂ (λ a b. a || b) (par_reordered par) (pars_reordered pars)
      ∙ sym (list_any-append test (items_read par) (flat_map items_read pars))

  pub items_in_both : (doc : Document) → list_any test (all_items doc) ≡ list_any test (items_in_reading_order doc)
  items_in_both doc = pars_reordered (body_paragraphs doc)
