-- Paragraphs whose items are sound can be read back once their numbers are left out.
use Rattle.std.proofs.Common.{◌≡◌, ◌≢◌, ℕ, ◌≤◌, Bool, true, false, List, [], ◌∷◌, map, length, codes, refl, sym, ap, ◌∙◌, subst}
use Rattle.std.specs.List.{AllByRecursion as Each}
use Rattle.std.proofs.lemmas.List.{length-map}
use Rattle.markup_nodes.specs.declared.tree.Elem.{Elem}
use Rattle.markup_nodes.specs.Node.{Node}
use Rattle.doc_model.specs.declared.paragraph.Item.{Item, out-Item, roll-Item}
use Rattle.doc_model.specs.declared.paragraph.Note.{Note, out-Note, roll-Note}
use Rattle.doc_model.specs.declared.paragraph.Par.{Par, out-Par, roll-Par}
use Rattle.doc_model.specs.declared.paragraph.What.{What, roll-What}
use Rattle.doc_model.specs.declared.paragraph.What.TheOpen.{What-F, Par-F, Note-F}
use Rattle.doc_model.specs.declared.paragraph.What.TheViews.{out-roll-What, out-roll-Note, out-roll-Par}
use Rattle.doc_model.specs.declared.style.Family.TheVariants as family
use Rattle.doc_model.specs.Alike.{in_note, in_paragraph}
use Rattle.doc_model.specs.Chars.{IsLegalText}
use Rattle.doc_model.specs.Parts.{items_of, what_of}
use Rattle.doc_model.specs.Reading.{note_of, notes_of}
use Rattle.doc_model.specs.Valid.{IsNote}
use Rattle.load_model.specs.Content.{item_in}
use Rattle.load_model.specs.Styles.{Names, style_reference}
use Rattle.written_model.specs.Blocks.{note_element}
use Rattle.written_model.specs.Elements.{empty_element}
use Rattle.back_fields.specs.Fit.{IsNameOrNone}
use Rattle.back_items.specs.Items.{IsRead, IsReadable}
use Rattle.back_paragraphs.specs.Paragraphs.{IsNoneOrGood, IsPlace, IsReadableNote, IsReadablePar}
use Rattle.back_paragraphs.proofs.Notes.{note_read}
use Rattle.back_spans.specs.Spans.{IsTextStyle}
use Rattle.back_valid.proofs.Items.{IsSound, IsSoundWhat}
use Rattle.back_valid.proofs.Lists.{each_joined, each_map, each_part}

abbrev Layer : Type 0
Layer = Par-F What Item Note Par

-- the paragraph with the number 0
abbrev pub bare_par : Par → Par
bare_par par = roll-Par (record (out-Par par) { id = record { 0 = 0 } })

abbrev empty_note : Note → Node Elem
empty_note inner = empty_element (codes "text:note") []

-- what an item is, with a note's paragraphs without their numbers
abbrev bare_what : What-F What Item Note Par → What
bare_what (What-F.Note note) = roll-What (What-F.Note (roll-Note (record (out-Note note) { pars = map bare_par (out-Note note).pars })))
bare_what other = roll-What other

abbrev notes_in : What-F What Item Note Par → List Note
notes_in (What-F.Note note) = note ∷ []
notes_in _ = []

abbrev IsLegalWhat : What-F What Item Note Par → Type 0
IsLegalWhat (What-F.Char c) = IsLegalText c
IsLegalWhat _ = Unit {0}

abbrev IsNoNote : What-F What Item Note Par → Type 0
IsNoNote (What-F.Note note) = ⊥
IsNoNote _ = Unit {0}

-- one layer of a paragraph that can be read back
record IsLayer (names : Names) (in_note : Bool) (note_node : Note → Node Elem) (x : Layer) : Type 0 where
  number : x.id.0 ≡ 0
  style : IsNoneOrGood (style_reference names family.Paragraph) x.style
  level : x.level ≤ 10
  list : IsPlace names x.list
  each_item : Each (IsReadable names in_note note_node) x.items
  few : length x.items ≤ 4294967295

rolled : (names : Names) (in_note : Bool) (note_node : Note → Node Elem) (par : Par) → IsLayer names in_note note_node (out-Par par) → IsReadablePar names in_note note_node par
rolled names in_note note_node par is = record { number = is.number; style = is.style; level = is.level; list = is.list; each_item = is.each_item; few = is.few }

module _ (names : Names) where
  -- a paragraph whose styles are there, with sound items
  pub record IsSoundPar (par : Par) : Type 0 where
    pub style : IsNoneOrGood (style_reference names family.Paragraph) (out-Par par).style
    pub level : (out-Par par).level ≤ 10
    pub list : IsPlace names (out-Par par).list
    pub each_item : Each (IsSound names) (items_of par)
    pub few : length (items_of par) ≤ 4294967295

  -- a note of such paragraphs
  pub record IsSoundNote (note : Note) : Type 0 where
    pub id : IsNameOrNone (out-Note note).id
    pub is : IsNote note
    pub each : Each IsSoundPar (out-Note note).pars

  -- an item by its parts
  by_parts : (in_note : Bool) (note_node : Note → Node Elem) (spans : List (List ℕ)) (what : What-F What Item Note Par) → IsLegalWhat what × (length spans ≤ 8) → Each (IsTextStyle names) spans → IsRead names in_note note_node spans what
      → IsReadable names in_note note_node (item_in spans what)
  by_parts in_note note_node spans what legal styles read = record {
    legal = (subst IsLegalWhat (sym (out-roll-What what)) legal.0, legal.1);
    styles = styles;
    what = subst (IsRead names in_note note_node spans) (sym (out-roll-What what)) read;
  }

  -- in a note
  inner_read : (spans : List (List ℕ)) (what : What-F What Item Note Par) → IsSoundWhat what → IsNoNote what → IsRead names true empty_note spans what
  inner_read spans (What-F.Char c) sound no_note = tt
  inner_read spans What-F.Tab sound no_note = tt
  inner_read spans What-F.Break sound no_note = tt
  inner_read spans (What-F.Field field) sound no_note = sound
  inner_read spans (What-F.Note note) sound no_note = absurd no_note
  inner_read spans (What-F.Mark mark) sound no_note = sound

  inner_item : (item : Item) → IsSound names item → IsNoNote (what_of item) → IsReadable names true empty_note item
  inner_item item sound no_note = record { legal = sound.legal; styles = sound.styles; what = inner_read (out-Item item).spans (what_of item) sound.what no_note }

  inner_par : (par : Par) → IsSoundPar par → Each (λ item. IsNoNote (what_of item)) (items_of par) → IsReadablePar names true empty_note (bare_par par)
  inner_par par sound none =
      rolled names true empty_note (bare_par par)
      (subst (IsLayer names true empty_note) (sym (out-roll-Par (record (out-Par par) { id = record { 0 = 0 } })))
      (record {
        number = refl;
        style = sound.style;
        level = sound.level;
        list = sound.list;
        each_item = each_joined (IsSound names) (λ item. IsNoNote (what_of item)) (IsReadable names true empty_note) inner_item (items_of par) sound.each_item none;
        few = sound.few;
      }))

  record IsNoteLayer (x : Note-F What Item Note Par) : Type 0 where
    id : IsNameOrNone x.id
    some : x.pars ≢ []
    each : Each (IsReadablePar names true empty_note) x.pars

  bare_some : (pars : List Par) → pars ≢ [] → map bare_par pars ≢ []
  bare_some [] some e = some refl
  bare_some (par ∷ pars) some e = cc

  note_readable : (note : Note) → IsSoundNote note → IsReadableNote names (roll-Note (record (out-Note note) { pars = map bare_par (out-Note note).pars }))
  note_readable note sound = record { id = layer.id; some = layer.some; each = layer.each } where
    pars : List Par
    pars = (out-Note note).pars

    layer : IsNoteLayer (out-Note (roll-Note (record (out-Note note) { pars = map bare_par pars })))
    layer =
        subst IsNoteLayer (sym (out-roll-Note (record (out-Note note) { pars = map bare_par pars })))
        (record {
          id = sound.id;
          some = bare_some pars sound.is.0;
          each = each_map (IsReadablePar names true empty_note) bare_par pars
              (each_joined IsSoundPar (λ par. Each (λ item. IsNoNote (what_of item)) (items_of par)) (λ par. IsReadablePar names true empty_note (bare_par par)) inner_par pars sound.each sound.is.1);
        })

  -- in the body
  what_readable : (spans : List (List ℕ)) (what : What-F What Item Note Par) → IsLegalWhat what × (length spans ≤ 8) → Each (IsTextStyle names) spans → IsSoundWhat what → Each IsSoundNote (notes_in what)
      → IsReadable names false note_element (roll-Item (record { spans = spans; what = bare_what what }))
  what_readable spans (What-F.Char c) legal styles sound notes = by_parts false note_element spans (What-F.Char c) legal styles tt
  what_readable spans What-F.Tab legal styles sound notes = by_parts false note_element spans What-F.Tab legal styles tt
  what_readable spans What-F.Break legal styles sound notes = by_parts false note_element spans What-F.Break legal styles tt
  what_readable spans (What-F.Field field) legal styles sound notes = by_parts false note_element spans (What-F.Field field) legal styles sound
  what_readable spans (What-F.Mark mark) legal styles sound notes = by_parts false note_element spans (What-F.Mark mark) legal styles sound
  what_readable spans (What-F.Note note) legal styles sound notes =
      let inner : Note = roll-Note (record (out-Note note) { pars = map bare_par (out-Note note).pars }) in
      by_parts false note_element spans (What-F.Note inner) (tt, legal.1) styles (note_read names spans inner (note_readable note notes.0))

  item_readable : (item : Item) → IsSound names item → Each IsSoundNote (note_of item) → IsReadable names false note_element (in_note bare_par item)
  item_readable item sound notes = what_readable (out-Item item).spans (what_of item) sound.legal sound.styles sound.what notes

  pub par_readable : (par : Par) → IsSoundPar par → Each IsSoundNote (notes_of par) → IsReadablePar names false note_element (in_paragraph bare_par par)
  par_readable par sound notes =
      rolled names false note_element (in_paragraph bare_par par) (subst (IsLayer names false note_element) (sym layer_is)
      (record {
        number = refl;
        style = sound.style;
        level = sound.level;
        list = sound.list;
        each_item = each_map (IsReadable names false note_element) (in_note bare_par) (items_of par)
            (each_joined (IsSound names) (λ item. Each IsSoundNote (note_of item)) (λ item. IsReadable names false note_element (in_note bare_par item)) item_readable (items_of par)
            sound.each_item (each_part IsSoundNote note_of (items_of par) notes));
        few = subst (λ (n : ℕ). n ≤ 4294967295) (sym (length-map (items_of par) (in_note bare_par))) sound.few;
      })) where
        layer_is : out-Par (in_paragraph bare_par par) ≡ record (out-Par par) { id = record { 0 = 0 }; items = map (in_note bare_par) (items_of par) }
        layer_is = out-roll-Par (record (out-Par (bare_par par)) { items = map (in_note bare_par) (out-Par (bare_par par)).items })
            ∙ ap (λ (x : Layer). record x { items = map (in_note bare_par) x.items }) (out-roll-Par (record (out-Par par) { id = record { 0 = 0 } }))
