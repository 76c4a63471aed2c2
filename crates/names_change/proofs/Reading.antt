-- The names of the items of a document, read in reading order from the rows of its body.
use Rattle.std.proofs.Common.{◌≡◌, ◌&&◌, Bool, true, false, not, List, [], ◌∷◌, ◌++◌, map, refl, ap, ap₂, sym, ◌∙◌, subst, append_assoc, append-nil, ⊎_elim}
use Rattle.std.specs.Prelude.{if◌then◌else◌}
use Rattle.std.specs.List.{flat_map, AllByRecursion as Each}
use Rattle.std.proofs.lemmas.Bool.{false≢true}
use Rattle.doc_model.specs.declared.block.Block.{Block}
use Rattle.doc_model.specs.declared.block.Block.TheOpen.{Section-F}
use Rattle.doc_model.specs.declared.block.Section.{Section}
use Rattle.doc_model.specs.declared.document.Document.{Document}
use Rattle.doc_model.specs.declared.paragraph.Par.{Par, out-Par}
use Rattle.doc_model.specs.declared.paragraph.ParId.{ParId}
use Rattle.doc_model.specs.declared.paragraph.Item.{Item}
use Rattle.doc_model.specs.declared.paragraph.Note.{Note, out-Note}
use Rattle.doc_model.specs.Reading.{block_paragraphs, note_of, notes_of}
use Rattle.name_index.specs.declared.names.NameKind.{NameKind}
use Rattle.name_index.specs.declared.names.NameKind.TheVariants as kinds
use Rattle.name_index.specs.Scan.{Placed, names_at, names_of_kind}
use Rattle.node_array.specs.declared.row.Row.{Row}
use Rattle.node_array.specs.declared.row.Row.TheVariants as row
use Rattle.node_array.specs.Rows.{par_rows, block_rows, rows_of}
use Rattle.paragraph_rows.specs.Flat.{has_flat_notes, AreFlat}
use Rattle.paragraph_rows.specs.OwnRow.{bare, text_rows, rows_of_notes}
use Rattle.paragraph_rows.proofs.Lists.{each_front, each_behind, twice}
use Rattle.paragraph_rows.proofs.Opened.{par_open}
use Rattle.block_facts.proofs.Blocks.{par_block, section_block, of_blocks, par_reads, section_reads}
use Rattle.paragraph_rows.proofs.Blocks.{par_block_rows, section_block_rows}
use Rattle.paragraph_rows.proofs.FlatPars.{IsFlatNote, IsFlatPar, IsFlatBlock, no_note_within, notes_flat, flat_pars}
use Rattle.paragraph_rows.proofs.NoteRows.{alone_rows, grouped}
use Rattle.names_change.specs.ItemNames.{item_names}
use Rattle.names_change.proofs.Places.{item_places, par_places, read_places, text_places, block_places}
use Rattle.names_change.proofs.Places.{bookmarks_gathered, references_gathered, notes_gathered}
use Rattle.names_change.proofs.Bare.{IsPlain, IsNoted, bare_names, shape}
use Rattle.names_change.proofs.Lead.{Pairs}

-- what is up to the first note
abbrev pub until : List Note → Pairs → Pairs
until [] more = more
until (note ∷ notes) more = []

abbrev pub left_behind : List Note → List Placed → List Placed → List Placed
left_behind [] items more = more
left_behind (note ∷ notes) items more = items

-- the items behind the first note
abbrev pub pending : List Placed → List Placed
pending [] = []
pending (one ∷ items) = left_behind (note_of one.1) items (pending items)

-- items with the number of their paragraph
abbrev pub placed : ParId → List Item → List Placed
placed id items = map (λ item. (id, item)) items

-- whether a note is open, and the items behind it that are still to be read
pub record State : Type 0 where
  pub within : Bool
  pub held : List Placed

abbrev pub state : Bool → List Placed → State
state within held = record { within = within; held = held }

abbrev pub next : Row → State → State
next (row.Start head) s = s
next row.End s = state false (if s.within then pending s.held else s.held)
next (row.Par head items) s = state s.within (if s.within then s.held else pending (placed head.id items))
next row.NoteText s = state true s.held

abbrev pub after : List Row → State → State
after [] s = s
after (r ∷ rows) s = after rows (next r s)

-- whether notes are flat behind rows
pub flat_after : (rows more : List Row) (s : State) → has_flat_notes s.within (rows ++ more) ≡ true → has_flat_notes (after rows s).within more ≡ true
flat_after [] more s flat = flat
flat_after (row.Start head ∷ rows) more s flat = flat_after rows more s flat
flat_after (row.End ∷ rows) more s flat = flat_after rows more (next row.End s) flat
flat_after (row.Par head items ∷ rows) more s flat = flat_after rows more (next (row.Par head items) s) flat
flat_after (row.NoteText ∷ rows) more s flat = flat_after rows more (next row.NoteText s) (opened s.within (has_flat_notes true (rows ++ more)) flat) where
  opened : (within rest : Bool) → (not within && rest) ≡ true → rest ≡ true
  opened true rest is = absurd (false≢true is)
  opened false rest is = is

-- the notes of a paragraph that stands in a note or not
pub record Fits (within : Bool) (par : Par) : Type 0 where
  pub flat : IsFlatPar par
  pub alone : within ≡ true → notes_of par ≡ []

pub fits : (within : Bool) (par : Par) (more : List Row) → has_flat_notes within (par_rows par ++ more) ≡ true → Fits within par × (has_flat_notes within more ≡ true)
fits true par more flat =
    let opened : has_flat_notes true (rows_of_notes par ++ more) ≡ true = sym (ap (λ (rows : List Row). has_flat_notes true (rows ++ more)) (par_open par)) ∙ flat in
    let none = no_note_within (notes_of par) more opened in
    (record { flat = subst (Each IsFlatNote) (sym none.0) tt; alone = λ _. none.0 }, none.1)
fits false par more flat =
    let opened : has_flat_notes false (rows_of_notes par ++ more) ≡ true = sym (ap (λ (rows : List Row). has_flat_notes false (rows ++ more)) (par_open par)) ∙ flat in
    let parts = notes_flat (notes_of par) more opened in
    (record { flat = parts.0; alone = λ no. absurd (false≢true no) }, parts.1)

-- where no note is open, nothing is held behind a paragraph and its notes
abbrev pub settled : Bool → List Placed → List Placed
settled within held = if within then held else []

pub settled_again : (within : Bool) (held : List Placed) → settled within (settled within held) ≡ settled within held
settled_again true held = refl
settled_again false held = refl

module _ (kind : NameKind) where
  abbrev pub own : Placed → Pairs
  own one = names_at (item_names kind) one

  -- the names of items up to the first note, with its own
  abbrev pub emitted : List Placed → Pairs
  emitted [] = []
  emitted (one ∷ items) = own one ++ until (note_of one.1) (emitted items)

  abbrev pub emit : Row → State → Pairs
  emit (row.Start head) s = []
  emit row.End s = if s.within then emitted s.held else []
  emit (row.Par head items) s = if s.within then flat_map own (placed head.id items) else emitted (placed head.id items)
  emit row.NoteText s = []

  -- the names that rows give
  abbrev pub read : List Row → State → Pairs
  read [] s = []
  read (r ∷ rows) s = emit r s ++ read rows (next r s)

  pub read_both : (front more : List Row) (s : State) → read (front ++ more) s ≡ read front s ++ read more (after front s)
  read_both [] more s = refl
  read_both (r ∷ front) more s =
      ap (λ (rest : Pairs). emit r s ++ rest) (read_both front more (next r s)) ∙ sym (append_assoc (emit r s) (read front (next r s)) (read more (after front (next r s))))

  own_bare : (id : ParId) (item : Item) → own (id, bare item) ≡ item_places kind id item
  own_bare id item = ap (map (λ name. (name, id))) (bare_names kind item)

  all_bare : (id : ParId) (items : List Item) → flat_map own (placed id (map bare items)) ≡ flat_map (item_places kind id) items
  all_bare id [] = refl
  all_bare id (item ∷ items) = ap₂ (λ (a b : Pairs). a ++ b) (own_bare id item) (all_bare id items)

  -- a paragraph of a note, and those of a note
  par_within : (held : List Placed) (par : Par) (more : List Row) → notes_of par ≡ [] → read (par_rows par ++ more) (state true held) ≡ par_places kind par ++ read more (state true held)
  par_within held par more none =
      ap (λ (rows : List Row). read (rows ++ more) (state true held)) (alone_rows par none)
      ∙ ap (λ (names : Pairs). names ++ read more (state true held)) (all_bare (out-Par par).id (out-Par par).items)

  pars_within : (held : List Placed) (pars : List Par) (more : List Row) → Each (λ par. notes_of par ≡ []) pars
      → read (flat_map par_rows pars ++ more) (state true held) ≡ flat_map (par_places kind) pars ++ read more (state true held)
  pars_within held [] more none = refl
  pars_within held (par ∷ pars) more none =
      ap (λ (rows : List Row). read rows (state true held)) (append_assoc (par_rows par) (flat_map par_rows pars) more)
      ∙ par_within held par (flat_map par_rows pars ++ more) none.0
      ∙ ap (λ (names : Pairs). par_places kind par ++ names) (pars_within held pars more none.1)
      ∙ sym (append_assoc (par_places kind par) (flat_map (par_places kind) pars) (read more (state true held)))

  -- the items of a paragraph with its notes
  module _ (id : ParId) (more : List Row) where
    abbrev rest : Pairs
    rest = read more (state false [])

    abbrev in_row : List Item → List Placed
    in_row items = placed id (map bare items)

    abbrev whole : Pairs → List Note → List Note → List Item → Pairs
    whole names there notes items =
        (names ++ until there (emitted (in_row items))) ++ read (flat_map text_rows (notes ++ flat_map note_of items) ++ more) (state false (left_behind there (in_row items) (pending (in_row items))))

    abbrev note_names : List Note → Pairs
    note_names notes = flat_map (λ note. flat_map (par_places kind) (out-Note note).pars) notes

    abbrev Reads : List Item → Type 0
    Reads items = emitted (in_row items) ++ read (flat_map text_rows (flat_map note_of items) ++ more) (state false (pending (in_row items))) ≡ flat_map (read_places kind id) items ++ rest

    plain_reads : (names : Pairs) (items : List Item) → Reads items → whole names [] [] items ≡ ((names ++ []) ++ flat_map (read_places kind id) items) ++ rest
    plain_reads names items reads =
        append_assoc names (emitted (in_row items)) (read (flat_map text_rows (flat_map note_of items) ++ more) (state false (pending (in_row items))))
        ∙ ap (λ (some : Pairs). names ++ some) reads
        ∙ sym (append_assoc names (flat_map (read_places kind id) items) rest)
        ∙ ap (λ (some : Pairs). (some ++ flat_map (read_places kind id) items) ++ rest) (sym (append-nil names))

    noted_reads : (names : Pairs) (other note : Note) (items : List Item) → IsFlatNote note → Reads items
        → whole names (other ∷ []) (note ∷ []) items ≡ ((names ++ note_names (note ∷ [])) ++ flat_map (read_places kind id) items) ++ rest
    noted_reads names other note items flat reads =
        let pars : Pairs = flat_map (par_places kind) (out-Note note).pars in
        let places : Pairs = flat_map (read_places kind id) items in
        let behind : List Row = flat_map text_rows (flat_map note_of items) ++ more in
        ap₂ (λ (a : Pairs) (rows : List Row). a ++ read rows (state false (in_row items))) (append-nil names) (grouped note (flat_map note_of items) more)
        ∙ ap (λ (some : Pairs). names ++ some) (pars_within (in_row items) (out-Note note).pars (row.End ∷ behind) flat ∙ ap (λ (some : Pairs). pars ++ some) reads)
        ∙ ap (λ (some : Pairs). names ++ some) (sym (append_assoc pars places rest))
        ∙ sym (append_assoc names (pars ++ places) rest)
        ∙ ap (λ (some : Pairs). some ++ rest) (sym (append_assoc names pars places))
        ∙ ap (λ (some : Pairs). ((names ++ some) ++ places) ++ rest) (sym (append-nil pars))

    items_read : (items : List Item) → Each IsFlatNote (flat_map note_of items) → Reads items
    items_read [] flat = refl
    items_read (item ∷ items) flat =
        let reads : Reads items = items_read items (each_behind IsFlatNote (note_of item) (flat_map note_of items) flat) in
        let mine : Each IsFlatNote (note_of item) = each_front IsFlatNote (note_of item) (flat_map note_of items) flat in
        let names : Pairs = own (id, bare item) in
        let places : Pairs = flat_map (read_places kind id) items in
        ⊎_elim
        (λ (it : IsPlain item).
        ap₂ (λ (there notes : List Note). whole names there notes items) it.in_row it.own ∙ plain_reads names items reads
        ∙ ap₂ (λ (some : Pairs) (notes : List Note). ((some ++ note_names notes) ++ places) ++ rest) (own_bare id item) (sym it.own))
        (λ (it : IsNoted item).
        ap₂ (λ (there notes : List Note). whole names there notes items) it.in_row it.own
        ∙ noted_reads names it.other it.note items (subst (Each IsFlatNote) it.own mine).0 reads
        ∙ ap₂ (λ (some : Pairs) (notes : List Note). ((some ++ note_names notes) ++ places) ++ rest) (own_bare id item) (sym it.own))
        (shape item)

  -- a paragraph of the body
  par_outside : (held : List Placed) (par : Par) (more : List Row) → IsFlatPar par → read (par_rows par ++ more) (state false held) ≡ text_places kind par ++ read more (state false [])
  par_outside held par more flat =
      ap (λ (rows : List Row). read (rows ++ more) (state false held)) (par_open par) ∙ items_read (out-Par par).id more (out-Par par).items flat

  -- without notes, names are read as they stand
  alone_places : (id : ParId) (items : List Item) → flat_map note_of items ≡ [] → flat_map (read_places kind id) items ≡ flat_map (item_places kind id) items
  alone_places id [] none = refl
  alone_places id (item ∷ items) none =
      let parts = none_both (note_of item) (flat_map note_of items) none in
      ap₂ (λ (notes : List Note) (more : Pairs). (item_places kind id item ++ flat_map (λ note. flat_map (par_places kind) (out-Note note).pars) notes) ++ more) parts.0 (alone_places id items parts.1)
      ∙ ap (λ (some : Pairs). some ++ flat_map (item_places kind id) items) (append-nil (item_places kind id item)) where
        none_both : (one other : List Note) → one ++ other ≡ [] → (one ≡ []) × (other ≡ [])
        none_both [] other is = (refl, is)
        none_both (note ∷ one) other is = absurd (cc)

  -- any paragraph
  pub par_read : (within : Bool) (held : List Placed) (par : Par) (more : List Row) → Fits within par
      → read (par_rows par ++ more) (state within held) ≡ text_places kind par ++ read more (state within (settled within held))
  par_read true held par more it =
      par_within held par more (it.alone refl)
      ∙ ap (λ (names : Pairs). names ++ read more (state true held)) (sym (alone_places (out-Par par).id (out-Par par).items (it.alone refl)))
  par_read false held par more it = par_outside held par more it.flat

  -- blocks
  abbrev Reads-Block : Block → Type 0
  Reads-Block block = IsFlatBlock block → (more : List Row) → read (block_rows block ++ more) (state false []) ≡ block_places kind block ++ read more (state false [])

  blocks_read : (blocks : List Block) → Each Reads-Block blocks → Each IsFlatPar (flat_map block_paragraphs blocks) → (more : List Row)
      → read (rows_of blocks ++ more) (state false []) ≡ flat_map (block_places kind) blocks ++ read more (state false [])
  blocks_read [] known flat more = refl
  blocks_read (block ∷ blocks) known flat more =
      ap (λ (rows : List Row). read rows (state false [])) (append_assoc (block_rows block) (rows_of blocks) more)
      ∙ known.0 (each_front IsFlatPar (block_paragraphs block) (flat_map block_paragraphs blocks) flat) (rows_of blocks ++ more)
      ∙ ap (λ (names : Pairs). block_places kind block ++ names) (blocks_read blocks known.1 (each_behind IsFlatPar (block_paragraphs block) (flat_map block_paragraphs blocks) flat) more)
      ∙ sym (append_assoc (block_places kind block) (flat_map (block_places kind) blocks) (read more (state false [])))

  par_is_read : (par : Par) → Reads-Block (par_block par)
  par_is_read par flat more =
      let mine : Each IsFlatPar (par ∷ []) = subst (Each IsFlatPar) (par_reads par) flat in
      ap (λ (rows : List Row). read (rows ++ more) (state false [])) (par_block_rows par) ∙ par_outside [] par more mine.0
      ∙ ap (λ (names : Pairs). names ++ read more (state false [])) (sym (ap (flat_map (text_places kind)) (par_reads par) ∙ append-nil (text_places kind par)))

  section_is_read : (x : Section-F Block Section) → Each Reads-Block x.blocks → Reads-Block (section_block x)
  section_is_read x known flat more =
      ap (λ (rows : List Row). read (rows ++ more) (state false [])) (section_block_rows x)
      ∙ ap (λ (rows : List Row). read rows (state false [])) (append_assoc (rows_of x.blocks) (row.End ∷ []) more)
      ∙ blocks_read x.blocks known (subst (Each IsFlatPar) (section_reads x) flat) (row.End ∷ more)
      ∙ ap (λ (names : Pairs). names ++ read more (state false [])) (sym (ap (flat_map (text_places kind)) (section_reads x) ∙ twice (text_places kind) block_paragraphs x.blocks))

  pub body_read : (body : List Block) → AreFlat (rows_of body) → read (rows_of body) (state false []) ≡ flat_map (block_places kind) body
  body_read body flat =
      ap (λ (rows : List Row). read rows (state false [])) (sym (append-nil (rows_of body)))
      ∙ blocks_read body (of_blocks Reads-Block par_is_read section_is_read body) (flat_pars body flat) []
      ∙ append-nil (flat_map (block_places kind) body)

-- what has items of its own, as sections haven't
abbrev pub IsOfItems : NameKind → Type 0
IsOfItems kinds.Bookmark = Unit {0}
IsOfItems kinds.Section = ⊥
IsOfItems kinds.Reference = Unit {0}
IsOfItems kinds.Note = Unit {0}

pub names_read : (kind : NameKind) → IsOfItems kind → (doc : Document) → AreFlat (rows_of doc.body) → names_of_kind doc kind ≡ read kind (rows_of doc.body) (state false [])
names_read kinds.Bookmark it doc flat = sym (body_read kinds.Bookmark doc.body flat ∙ bookmarks_gathered doc)
names_read kinds.Section it doc flat = absurd it
names_read kinds.Reference it doc flat = sym (body_read kinds.Reference doc.body flat ∙ references_gathered doc)
names_read kinds.Note it doc flat = sym (body_read kinds.Note doc.body flat ∙ notes_gathered doc)
