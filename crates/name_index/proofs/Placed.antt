-- The items with their paragraphs are the items in reading order.
use Rattle.std.proofs.Common.{◌≡◌, List, [], ◌∷◌, ◌++◌, map, refl, sym, ap, ap₂, ◌∙◌}
use Rattle.std.specs.List.{flat_map}
use Rattle.std.proofs.lemmas.List.{map-append}
use Rattle.std.proofs.lemmas.List.Concat.{flat_map-cons}
use Rattle.doc_model.specs.declared.paragraph.Par.{Par, out-Par}
use Rattle.doc_model.specs.declared.paragraph.ParId.{ParId}
use Rattle.doc_model.specs.declared.paragraph.Item.{Item}
use Rattle.doc_model.specs.declared.paragraph.Note.{Note, out-Note}
use Rattle.doc_model.specs.declared.document.Document.{Document}
use Rattle.doc_model.specs.Reading.{body_paragraphs, note_of}
use Rattle.doc_model.specs.Parts.{items_of, items_read, items_in_reading_order}
use Rattle.name_index.specs.Scan.{Placed, placed_items, placed_read, placed_in_reading_order}

map_flat_map : {X A B : Type 0} (g : A → B) (f : X → List A) (h : X → List B) → ((x : X) → map g (f x) ≡ h x) → (xs : List X) → map g (flat_map f xs) ≡ flat_map h xs
map_flat_map g f h e [] = refl
map_flat_map g f h e (x ∷ xs) =
    ap (map g) (flat_map-cons f x xs) ∙ map-append g (f x) (flat_map f xs) ∙ ap₂ (λ a b. a ++ b) (e x) (map_flat_map g f h e xs) ∙ sym (flat_map-cons h x xs)

items_again : (number : ParId) (items : List Item) → map (λ (placed : Placed). placed.1) (map (λ (item : Item). (number, item)) items) ≡ items
items_again number [] = refl
items_again number (item ∷ items) = ap (λ more. item ∷ more) (items_again number items)

of_note : (note : Note) → map (λ (placed : Placed). placed.1) (flat_map placed_items (out-Note note).pars) ≡ flat_map items_of (out-Note note).pars
of_note note = map_flat_map (λ (placed : Placed). placed.1) placed_items items_of (λ par. items_again (out-Par par).id (items_of par)) (out-Note note).pars

of_paragraph : (par : Par) → map (λ (placed : Placed). placed.1) (placed_read par) ≡ items_read par
of_paragraph par = map_flat_map (λ (placed : Placed). placed.1)
    (λ item. ((out-Par par).id, item) ∷ flat_map (λ note. flat_map placed_items (out-Note note).pars) (note_of item))
    (λ item. item ∷ flat_map (λ note. flat_map items_of (out-Note note).pars) (note_of item))
    (λ item. ap (λ more. item ∷ more) (map_flat_map (λ (placed : Placed). placed.1) (λ note. flat_map placed_items (out-Note note).pars) (λ note. flat_map items_of (out-Note note).pars) of_note (note_of item)))
    (items_of par)

pub placed_are_items : (doc : Document) → map (λ (placed : Placed). placed.1) (placed_in_reading_order doc) ≡ items_in_reading_order doc
placed_are_items doc = map_flat_map (λ (placed : Placed). placed.1) placed_read items_read of_paragraph (body_paragraphs doc)
