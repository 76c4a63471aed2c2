-- The rows of a paragraph whose notes hold no notes.
use Rattle.std.proofs.Common.{◌≡◌, List, [], ◌∷◌, ◌++◌, map, refl, ap, sym, subst, ◌∙◌, append-nil}
use Rattle.std.specs.List.{AllByRecursion as Each, flat_map}
use Rattle.std.proofs.lemmas.List.Concat.{flat_map-append}
use Rattle.doc_model.specs.declared.paragraph.Par.{Par, out-Par}
use Rattle.doc_model.specs.declared.paragraph.Item.{Item, out-Item, roll-Item}
use Rattle.doc_model.specs.declared.paragraph.What.{What, out-What, roll-What}
use Rattle.doc_model.specs.declared.paragraph.Note.{Note, out-Note, roll-Note}
use Rattle.doc_model.specs.declared.paragraph.What.TheViews.{roll-out-What, roll-out-Item, roll-out-Note, roll-out-Par}
use Rattle.doc_model.specs.declared.paragraph.What.TheOpen.{What-F}
use Rattle.doc_model.specs.declared.paragraph.What.TheFolds.{fold-roll-What}
use Rattle.doc_model.specs.Reading.{note_of, notes_of}
use Rattle.doc_model.specs.Parts.{what_of}
use Rattle.doc_model.specs.Valid.{IsNote}
use Rattle.node_array.specs.declared.row.Row.{Row}
use Rattle.node_array.specs.declared.row.Row.TheVariants as row
use Rattle.node_array.specs.Rows.{par_rows}
use Rattle.node_array.proofs.OneBody.{item_rows, what_rows, note_rows, par_opens, note_opens, item_opens}
use Rattle.paragraph_rows.specs.OwnRow.{bare, head_of, own_row}

-- the rows of a note whose paragraphs hold no notes
abbrev pub note_text : Note → List Row
note_text note = row.NoteText ∷ (map own_row (out-Note note).pars ++ row.End ∷ [])

-- the rows of a paragraph of whose notes none holds one
abbrev pub text_rows : Par → List Row
text_rows par = own_row par ∷ flat_map note_text (notes_of par)

-- one level of a note, item and paragraph
note_rolled : (note : Note) → note_rows note ≡ (roll-Note (record (out-Note note) { pars = [] }), row.NoteText ∷ (flat_map (λ rows. rows) (map par_rows (out-Note note).pars) ++ row.End ∷ []))
note_rolled note = ap note_rows (sym (roll-out-Note note)) ∙ note_opens (out-Note note)

item_rolled : (item : Item) → item_rows item ≡ (roll-Item (record { spans = (out-Item item).spans; what = (what_rows (out-Item item).what).0 }), (what_rows (out-Item item).what).1)
item_rolled item = ap item_rows (sym (roll-out-Item item)) ∙ item_opens (out-Item item)

what_rolled : (what : What) → what_rows (roll-What (out-What what)) ≡ what_rows what
what_rolled what = ap what_rows (roll-out-What what)

-- the rows of the note that an item is
abbrev rows_of_what : What-F What Item Note Par → List Row
rows_of_what (What-F.Note note) = (note_rows note).1
rows_of_what _ = []

what_has : (x : What-F What Item Note Par) → (what_rows (roll-What x)).1 ≡ rows_of_what x
what_has (What-F.Char c) = simp fold-roll-What
what_has What-F.Tab = simp fold-roll-What
what_has What-F.Break = simp fold-roll-What
what_has (What-F.Field field) = simp fold-roll-What
what_has (What-F.Note note) = simp fold-roll-What
what_has (What-F.Mark mark) = simp fold-roll-What

item_has : (item : Item) → (item_rows item).1 ≡ rows_of_what (what_of item)
item_has item =
    ap (λ (y : Item × List Row). y.1) (item_rolled item)
    ∙ sym (ap (λ (y : What × List Row). y.1) (what_rolled (out-Item item).what)) ∙ what_has (what_of item)

-- what stands in a note's paragraphs is no note, so it has no rows of its own
abbrev IsNoNote : What-F What Item Note Par → Type 0
IsNoNote (What-F.Note note) = ⊥
IsNoNote _ = Unit {0}

none_there : (x : What-F What Item Note Par) → IsNoNote x → rows_of_what x ≡ []
none_there (What-F.Char c) p = refl
none_there What-F.Tab p = refl
none_there What-F.Break p = refl
none_there (What-F.Field field) p = refl
none_there (What-F.Note note) p = absurd p
none_there (What-F.Mark mark) p = refl

items_alone : (items : List Item) → Each (λ item. IsNoNote (what_of item)) items → flat_map (λ i. i.1) (map item_rows items) ≡ []
items_alone [] each = refl
items_alone (item ∷ items) each =
    ap (λ (front : List Row). front ++ flat_map (λ i. i.1) (map item_rows items)) (item_has item ∙ none_there (what_of item) each.0) ∙ items_alone items each.1

bare_all : (items : List Item) → map (λ i. i.0) (map item_rows items) ≡ map bare items
bare_all [] = refl
bare_all (item ∷ items) = ap (λ (is : List Item). bare item ∷ is) (bare_all items)

par_rolled : (par : Par) → par_rows par ≡ own_row par ∷ flat_map (λ i. i.1) (map item_rows (out-Par par).items)
par_rolled par =
    ap par_rows (sym (roll-out-Par par)) ∙ par_opens (out-Par par)
    ∙ ap (λ (items : List Item). row.Par (head_of par) items ∷ flat_map (λ i. i.1) (map item_rows (out-Par par).items)) (bare_all (out-Par par).items)

pars_alone : (pars : List Par) → Each (λ par. Each (λ item. IsNoNote (what_of item)) (out-Par par).items) pars → flat_map (λ rows. rows) (map par_rows pars) ≡ map own_row pars
pars_alone [] each = refl
pars_alone (par ∷ pars) each =
    ap (λ (front : List Row). front ++ flat_map (λ rows. rows) (map par_rows pars)) (par_rolled par ∙ ap (λ (behind : List Row). own_row par ∷ behind) (items_alone (out-Par par).items each.0))
    ∙ ap (λ (behind : List Row). own_row par ∷ behind) (pars_alone pars each.1)

note_is_text : (note : Note) → IsNote note → (note_rows note).1 ≡ note_text note
note_is_text note is =
    ap (λ (y : Note × List Row). y.1) (note_rolled note)
    ∙ ap (λ (rows : List Row). row.NoteText ∷ (rows ++ row.End ∷ [])) (pars_alone (out-Note note).pars is.1)

-- the note among what an item may be
abbrev notes_in : What-F What Item Note Par → List Note
notes_in (What-F.Note note) = note ∷ []
notes_in _ = []

note_known : (item : Item) (x : What-F What Item Note Par) → what_of item ≡ x → note_of item ≡ notes_in x
note_known item (What-F.Char c) is = rw is refl
note_known item What-F.Tab is = rw is refl
note_known item What-F.Break is = rw is refl
note_known item (What-F.Field field) is = rw is refl
note_known item (What-F.Note note) is = rw is refl
note_known item (What-F.Mark mark) is = rw is refl

what_is_text : (x : What-F What Item Note Par) → Each IsNote (notes_in x) → rows_of_what x ≡ flat_map note_text (notes_in x)
what_is_text (What-F.Char c) each = refl
what_is_text What-F.Tab each = refl
what_is_text What-F.Break each = refl
what_is_text (What-F.Field field) each = refl
what_is_text (What-F.Note note) each = note_is_text note each.0 ∙ sym (append-nil (note_text note))
what_is_text (What-F.Mark mark) each = refl

item_is_text : (item : Item) → Each IsNote (note_of item) → (item_rows item).1 ≡ flat_map note_text (note_of item)
item_is_text item each =
    let known : note_of item ≡ notes_in (what_of item) = note_known item (what_of item) refl in
    item_has item ∙ what_is_text (what_of item) (subst (λ (notes : List Note). Each IsNote notes) known each) ∙ ap (flat_map note_text) (sym known)

-- parts of a list of which each has something
pub each_front : {X : Type 0} (P : X → Type 0) (xs ys : List X) → Each P (xs ++ ys) → Each P xs
each_front P [] ys each = tt
each_front P (x ∷ xs) ys each = (each.0, each_front P xs ys each.1)

pub each_rest : {X : Type 0} (P : X → Type 0) (xs ys : List X) → Each P (xs ++ ys) → Each P ys
each_rest P [] ys each = each
each_rest P (x ∷ xs) ys each = each_rest P xs ys each.1

items_are_text : (items : List Item) → Each IsNote (flat_map note_of items) → flat_map (λ i. i.1) (map item_rows items) ≡ flat_map note_text (flat_map note_of items)
items_are_text [] each = refl
items_are_text (item ∷ items) each =
    ap (λ (front : List Row). front ++ flat_map (λ i. i.1) (map item_rows items)) (item_is_text item (each_front IsNote (note_of item) (flat_map note_of items) each))
    ∙ ap (λ (behind : List Row). flat_map note_text (note_of item) ++ behind) (items_are_text items (each_rest IsNote (note_of item) (flat_map note_of items) each))
    ∙ sym (flat_map-append note_text (note_of item) (flat_map note_of items))

pub par_is_text : (par : Par) → Each IsNote (notes_of par) → par_rows par ≡ text_rows par
par_is_text par each = par_rolled par ∙ ap (λ (behind : List Row). own_row par ∷ behind) (items_are_text (out-Par par).items each)
