-- Items as they stand in rows have the same names.
use Rattle.std.proofs.Common.{◌≡◌, ℕ, List, [], ◌∷◌, refl, ap, sym, ◌∙◌, subst, inl, inr}
use Rattle.std.specs.Prelude.{◌⊎◌}
use Rattle.doc_model.specs.declared.paragraph.Par.{Par}
use Rattle.doc_model.specs.declared.paragraph.Item.{Item, out-Item}
use Rattle.doc_model.specs.declared.paragraph.What.{What, out-What}
use Rattle.doc_model.specs.declared.paragraph.What.TheOpen.{What-F, Note-F}
use Rattle.doc_model.specs.declared.paragraph.What.TheViews.{out-roll-What, out-roll-Note, roll-out-Note}
use Rattle.doc_model.specs.declared.paragraph.Note.{Note, out-Note}
use Rattle.doc_model.specs.Reading.{note_of}
use Rattle.name_index.specs.declared.names.NameKind.{NameKind}
use Rattle.name_index.specs.declared.names.NameKind.TheVariants as kinds
use Rattle.node_array.specs.declared.row.Row.{Row}
use Rattle.node_array.proofs.OneBody.{note_rows, note_opens}
use Rattle.paragraph_rows.specs.OwnRow.{bare}
use Rattle.paragraph_rows.proofs.Opened.{item_of, item_is, bare_what, bare_item_is}
use Rattle.names_change.specs.ItemNames.{item_names}

note_id : (note : Note) → (out-Note (note_rows note).0).id ≡ (out-Note note).id
note_id note =
    ap (λ (n : Note). (out-Note (note_rows n).0).id) (sym (roll-out-Note note)) ∙ ap (λ (pair : Note × List Row). (out-Note pair.0).id) (note_opens (out-Note note))
    ∙ ap (λ (n : Note-F What Item Note Par). n.id) (out-roll-Note (record { id = (out-Note note).id; class = (out-Note note).class; pars = [] }))

note_names : (kind : NameKind) (spans : List (List ℕ)) (note : Note) → item_names kind (item_of spans (What-F.Note (note_rows note).0)) ≡ item_names kind (item_of spans (What-F.Note note))
note_names kinds.Bookmark spans note = simp out-roll-What
note_names kinds.Section spans note = refl
note_names kinds.Reference spans note = simp out-roll-What
note_names kinds.Note spans note = simp out-roll-What (ap (λ (id : List ℕ). id ∷ []) (note_id note))

what_names : (kind : NameKind) (spans : List (List ℕ)) (what : What-F What Item Note Par) → item_names kind (item_of spans (bare_what what)) ≡ item_names kind (item_of spans what)
what_names kind spans (What-F.Char c) = refl
what_names kind spans What-F.Tab = refl
what_names kind spans What-F.Break = refl
what_names kind spans (What-F.Field field) = refl
what_names kind spans (What-F.Note note) = note_names kind spans note
what_names kind spans (What-F.Mark mark) = refl

pub bare_names : (kind : NameKind) (item : Item) → item_names kind (bare item) ≡ item_names kind item
bare_names kind item =
    ap (λ (i : Item). item_names kind (bare i)) (sym (item_is item)) ∙ ap (item_names kind) (bare_item_is (out-Item item).spans (out-What (out-Item item).what))
    ∙ what_names kind (out-Item item).spans (out-What (out-Item item).what) ∙ ap (item_names kind) (item_is item)

-- an item is a note in a row where it is one
pub record IsPlain (item : Item) : Type 0 where
  pub own : note_of item ≡ []
  pub in_row : note_of (bare item) ≡ []

pub record IsNoted (item : Item) : Type 0 where
  pub note : Note
  pub other : Note
  pub own : note_of item ≡ note ∷ []
  pub in_row : note_of (bare item) ≡ other ∷ []

abbrev pub Shape : Item → Type 0
Shape item = IsPlain item ⊎ IsNoted item

what_shape : (spans : List (List ℕ)) (what : What-F What Item Note Par) → Shape (item_of spans what)
what_shape spans (What-F.Char c) = inl (record { own = simp out-roll-What; in_row = ap note_of (bare_item_is spans (What-F.Char c)) ∙ simp out-roll-What })
what_shape spans What-F.Tab = inl (record { own = simp out-roll-What; in_row = ap note_of (bare_item_is spans What-F.Tab) ∙ simp out-roll-What })
what_shape spans What-F.Break = inl (record { own = simp out-roll-What; in_row = ap note_of (bare_item_is spans What-F.Break) ∙ simp out-roll-What })
what_shape spans (What-F.Field field) = inl (record { own = simp out-roll-What; in_row = ap note_of (bare_item_is spans (What-F.Field field)) ∙ simp out-roll-What })
what_shape spans (What-F.Note note) =
    inr (record { note = note; other = (note_rows note).0; own = simp out-roll-What; in_row = ap note_of (bare_item_is spans (What-F.Note note)) ∙ simp out-roll-What })
what_shape spans (What-F.Mark mark) = inl (record { own = simp out-roll-What; in_row = ap note_of (bare_item_is spans (What-F.Mark mark)) ∙ simp out-roll-What })

pub shape : (item : Item) → Shape item
shape item = subst Shape (item_is item) (what_shape (out-Item item).spans (out-What (out-Item item).what))
