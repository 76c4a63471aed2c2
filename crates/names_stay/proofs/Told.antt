-- What is told of the items of a document by their names, paragraph by paragraph.
use Rattle.std.proofs.Common.{◌≡◌, ℕ, List, [], ◌∷◌, ◌++◌, map, refl, ap, ap₂, sym, ◌∙◌}
use Rattle.std.specs.List.{flat_map}
use Rattle.doc_model.specs.declared.paragraph.Par.{Par, out-Par}
use Rattle.doc_model.specs.declared.paragraph.ParId.{ParId}
use Rattle.doc_model.specs.declared.paragraph.Item.{Item, out-Item, roll-Item}
use Rattle.doc_model.specs.declared.paragraph.What.{What, out-What, roll-What}
use Rattle.doc_model.specs.declared.paragraph.What.TheOpen.{What-F, Item-F, Par-F}
use Rattle.doc_model.specs.declared.paragraph.What.TheViews.{out-roll-What, out-roll-Item, out-roll-Note, out-roll-Par}
use Rattle.doc_model.specs.declared.paragraph.Note.{Note, out-Note, roll-Note}
use Rattle.doc_model.specs.Alike.{in_note, in_paragraph}
use Rattle.doc_model.specs.Parts.{items_of, what_of}
use Rattle.doc_model.specs.Reading.{note_of}
use Rattle.name_index.specs.Scan.{placed_items, placed_read, names_at}
use Rattle.names_stay.specs.Blind.{IsNameless, IsBlind, KeepsNames}
use Rattle.names_stay.proofs.Lists.{flat_flat, flat_map_over, flat_same}

-- the notes among what an item may be
abbrev notes_in : What-F What Item Note Par → List Note
notes_in (What-F.Note note) = note ∷ []
notes_in _ = []

pub note_known : (item : Item) (x : What-F What Item Note Par) → what_of item ≡ x → note_of item ≡ notes_in x
note_known item (What-F.Char c) is = rw is refl
note_known item What-F.Tab is = rw is refl
note_known item What-F.Break is = rw is refl
note_known item (What-F.Field field) is = rw is refl
note_known item (What-F.Note note) is = rw is refl
note_known item (What-F.Mark mark) is = rw is refl

-- what an item with a change made in its note is
abbrev pub what_within : (Par → Par) → What-F What Item Note Par → What-F What Item Note Par
what_within change (What-F.Note note) = What-F.Note (roll-Note (record (out-Note note) { pars = map change (out-Note note).pars }))
what_within change other = other

pub within_known : (change : Par → Par) (item : Item) (x : What-F What Item Note Par) → what_of item ≡ x → what_of (in_note change item) ≡ what_within change x
within_known change item (What-F.Char c) is = rw is simp (out-roll-Item, out-roll-What)
within_known change item What-F.Tab is = rw is simp (out-roll-Item, out-roll-What)
within_known change item What-F.Break is = rw is simp (out-roll-Item, out-roll-What)
within_known change item (What-F.Field field) is = rw is simp (out-roll-Item, out-roll-What)
within_known change item (What-F.Note note) is = rw is simp (out-roll-Item, out-roll-What)
within_known change item (What-F.Mark mark) is = rw is simp (out-roll-Item, out-roll-What)

-- the note with a change made to its paragraphs
abbrev pub changed_note : (Par → Par) → Note → Note
changed_note change note = roll-Note (record (out-Note note) { pars = map change (out-Note note).pars })

notes_within : (change : Par → Par) (x : What-F What Item Note Par) → notes_in (what_within change x) ≡ map (changed_note change) (notes_in x)
notes_within change (What-F.Char c) = refl
notes_within change What-F.Tab = refl
notes_within change What-F.Break = refl
notes_within change (What-F.Field field) = refl
notes_within change (What-F.Note note) = refl
notes_within change (What-F.Mark mark) = refl

pub note_within : (change : Par → Par) (item : Item) → note_of (in_note change item) ≡ map (changed_note change) (note_of item)
note_within change item =
    note_known (in_note change item) (what_within change (what_of item)) (within_known change item (what_of item) refl)
    ∙ notes_within change (what_of item) ∙ ap (map (changed_note change)) (sym (note_known item (what_of item) refl))

-- a note is told by what it is alone
pub note_blind : IsBlind note_of
note_blind = record {
  nameless = λ spans what none. note_known (roll-Item (record { spans = spans; what = roll-What what })) what (simp (out-roll-Item, out-roll-What)) ∙ none_in what none;
  spans = λ item spans. note_known (roll-Item (record (out-Item item) { spans = spans })) (what_of item) (ap (λ (x : Item-F What Item Note Par). out-What x.what) (out-roll-Item (record (out-Item item) { spans = spans }))) ∙ sym (note_known item (what_of item) refl);
} where
  none_in : (what : What-F What Item Note Par) → IsNameless what → notes_in what ≡ []
  none_in (What-F.Char c) none = refl
  none_in What-F.Tab none = refl
  none_in What-F.Break none = refl
  none_in (What-F.Field field) none = refl
  none_in (What-F.Note note) none = absurd none
  none_in (What-F.Mark mark) none = refl

-- names of items, which stay where a change is made in their notes
module _ (names : Item → List (List ℕ)) (blind : IsBlind names) (inner : (change : Par → Par) (item : Item) → names (in_note change item) ≡ names item) where
  -- the names of an item, with those of its note's paragraphs
  abbrev read_at : ParId → Item → List (List ℕ × ParId)
  read_at par item = names_at names (par, item) ++ flat_map (λ note. flat_map (λ p. flat_map (λ i. names_at names ((out-Par p).id, i)) (items_of p)) (out-Note note).pars) (note_of item)

  abbrev own_at : ParId → Item → List (List ℕ × ParId)
  own_at par item = names_at names (par, item)

  own_blind : (par : ParId) → IsBlind (own_at par)
  own_blind par = record {
    nameless = λ spans what none. ap (map (λ name. (name, par))) (blind.nameless spans what none);
    spans = λ item spans. ap (map (λ name. (name, par))) (blind.spans item spans);
  }

  read_blind : (par : ParId) → IsBlind (read_at par)
  read_blind par = record {
    nameless = λ spans what none. ap₂ (λ (own : List (List ℕ)) (notes : List Note). map (λ name. (name, par)) own ++ flat_map (λ note. flat_map (λ p. flat_map (own_at (out-Par p).id) (items_of p)) (out-Note note).pars) notes) (blind.nameless spans what none) (note_blind.nameless spans what none);
    spans = λ item spans. ap₂ (λ (own : List (List ℕ)) (notes : List Note). map (λ name. (name, par)) own ++ flat_map (λ note. flat_map (λ p. flat_map (own_at (out-Par p).id) (items_of p)) (out-Note note).pars) notes) (blind.spans item spans) (note_blind.spans item spans);
  }

  -- what is read in a paragraph
  placed_told : (par : Par) → flat_map (names_at names) (placed_items par) ≡ flat_map (own_at (out-Par par).id) (items_of par)
  placed_told par = flat_map_over (names_at names) (λ (item : Item). ((out-Par par).id, item)) (items_of par)

  note_told : (note : Note) → flat_map (names_at names) (flat_map placed_items (out-Note note).pars) ≡ flat_map (λ p. flat_map (own_at (out-Par p).id) (items_of p)) (out-Note note).pars
  note_told note = flat_flat (names_at names) placed_items (out-Note note).pars ∙ flat_same (λ p. flat_map (names_at names) (placed_items p)) (λ p. flat_map (own_at (out-Par p).id) (items_of p)) placed_told (out-Note note).pars

  item_told : (par : ParId) (item : Item) → flat_map (names_at names) ((par, item) ∷ flat_map (λ note. flat_map placed_items (out-Note note).pars) (note_of item)) ≡ read_at par item
  item_told par item =
      ap (λ (behind : List (List ℕ × ParId)). own_at par item ++ behind)
      (flat_flat (names_at names) (λ note. flat_map placed_items (out-Note note).pars) (note_of item)
      ∙ flat_same (λ note. flat_map (names_at names) (flat_map placed_items (out-Note note).pars)) (λ note. flat_map (λ p. flat_map (own_at (out-Par p).id) (items_of p)) (out-Note note).pars) note_told (note_of item))

  par_told : (par : Par) → flat_map (names_at names) (placed_read par) ≡ flat_map (read_at (out-Par par).id) (items_of par)
  par_told par =
      flat_flat (names_at names) (λ item. ((out-Par par).id, item) ∷ flat_map (λ note. flat_map placed_items (out-Note note).pars) (note_of item)) (items_of par)
      ∙ flat_same (λ item. flat_map (names_at names) (((out-Par par).id, item) ∷ flat_map (λ note. flat_map placed_items (out-Note note).pars) (note_of item))) (read_at (out-Par par).id) (item_told (out-Par par).id) (items_of par)

  module _ (change : Par → Par) (keeps : KeepsNames change) where
    within_same : (p : Par) → flat_map (own_at (out-Par (change p)).id) (items_of (change p)) ≡ flat_map (own_at (out-Par p).id) (items_of p)
    within_same p =
        ap (λ (id : ParId). flat_map (own_at id) (items_of (change p))) (keeps.number p)
        ∙ keeps.items (own_at (out-Par p).id) p (own_blind (out-Par p).id)

    note_same : (note : Note) → flat_map (λ p. flat_map (own_at (out-Par p).id) (items_of p)) (out-Note (changed_note change note)).pars ≡ flat_map (λ p. flat_map (own_at (out-Par p).id) (items_of p)) (out-Note note).pars
    note_same note =
        simp out-roll-Note
        (flat_map_over (λ p. flat_map (own_at (out-Par p).id) (items_of p)) change (out-Note note).pars
        ∙ flat_same (λ p. flat_map (own_at (out-Par (change p)).id) (items_of (change p))) (λ p. flat_map (own_at (out-Par p).id) (items_of p)) within_same (out-Note note).pars)

    item_same : (par : ParId) (item : Item) → read_at par (in_note change item) ≡ read_at par item
    item_same par item =
        ap₂ (λ (own : List (List ℕ)) (behind : List (List ℕ × ParId)). map (λ name. (name, par)) own ++ behind) (inner change item)
        (ap (flat_map (λ note. flat_map (λ p. flat_map (own_at (out-Par p).id) (items_of p)) (out-Note note).pars)) (note_within change item)
        ∙ flat_map_over (λ note. flat_map (λ p. flat_map (own_at (out-Par p).id) (items_of p)) (out-Note note).pars) (changed_note change) (note_of item)
        ∙ flat_same (λ note. flat_map (λ p. flat_map (own_at (out-Par p).id) (items_of p)) (out-Note (changed_note change note)).pars) (λ note. flat_map (λ p. flat_map (own_at (out-Par p).id) (items_of p)) (out-Note note).pars) note_same (note_of item))

    pub par_same : (par : Par) → flat_map (names_at names) (placed_read (in_paragraph change par)) ≡ flat_map (names_at names) (placed_read par)
    par_same par =
        par_told (in_paragraph change par)
        ∙ (ap (λ (x : Par-F What Item Note Par). flat_map (read_at x.id) x.items) (out-roll-Par (record (out-Par (change par)) { items = map (in_note change) (out-Par (change par)).items }))
        ∙ flat_map_over (read_at (out-Par (change par)).id) (in_note change) (items_of (change par))
        ∙ flat_same (λ item. read_at (out-Par (change par)).id (in_note change item)) (read_at (out-Par (change par)).id) (item_same (out-Par (change par)).id) (items_of (change par))
        ∙ ap (λ (id : ParId). flat_map (read_at id) (items_of (change par))) (keeps.number par)
        ∙ keeps.items (read_at (out-Par par).id) par (read_blind (out-Par par).id)
        ∙ sym (par_told par))
