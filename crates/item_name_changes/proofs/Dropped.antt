-- The names of a document without the marks of a bookmark.
use Rattle.std.proofs.Common.{◌≡◌, ℕ, suc, zero, Bool, true, false, not, cond, ◌||◌, List, [], ◌∷◌, ◌++◌, map, filter, None, refl, ap, ap₂, sym, ◌∙◌, subst, inl, inr}
use Rattle.std.specs.Prelude.{◌⊎◌, if◌then◌else◌}
use Rattle.std.specs.List.{flat_map, list_any}
use Rattle.std.specs.Str.{bytes_eq}
use Rattle.std.proofs.lemmas.Bool.{false≢true}
use Rattle.doc_model.specs.declared.document.Document.{Document}
use Rattle.doc_model.specs.declared.edit.EditOp.TheVariants.{RemoveBookmark}
use Rattle.doc_model.specs.declared.paragraph.Par.{Par}
use Rattle.doc_model.specs.declared.paragraph.ParId.{ParId}
use Rattle.doc_model.specs.declared.paragraph.Item.{Item, out-Item}
use Rattle.doc_model.specs.declared.paragraph.Mark.{Mark}
use Rattle.doc_model.specs.declared.paragraph.What.{What, out-What}
use Rattle.doc_model.specs.declared.paragraph.What.TheOpen.{What-F}
use Rattle.doc_model.specs.declared.paragraph.What.TheViews.{out-roll-What}
use Rattle.doc_model.specs.declared.paragraph.Note.{Note}
use Rattle.doc_model.specs.Parts.{mark_of, mark_name}
use Rattle.doc_model.specs.Reading.{note_of}
use Rattle.edit_rules.specs.Edited.{Edited, edited, edited_document}
use Rattle.edit_rules.specs.Texts.{is_mark_of, without_marks}
use Rattle.name_index.specs.declared.names.NameKind.{NameKind}
use Rattle.name_index.specs.declared.names.NameKind.TheVariants as kinds
use Rattle.name_index.specs.Names.{is_same_kind, Sets}
use Rattle.name_index.specs.Scan.{Placed, names_of_kind, names_of, section_names}
use Rattle.node_array.specs.declared.row.Row.{Row}
use Rattle.node_array.specs.declared.row.Row.TheVariants as row
use Rattle.node_array.specs.Rows.{rows_of}
use Rattle.paragraph_rows.specs.Changes.{in_items}
use Rattle.paragraph_rows.proofs.Instances.{bookmark_removed}
use Rattle.paragraph_rows.proofs.Opened.{item_of, item_is}
use Rattle.row_edits.specs.Sound.{IsSound}
use Rattle.row_edits.proofs.Kept.{removal_kept}
use Rattle.names_change.specs.ItemNames.{item_names}
use Rattle.names_change.proofs.Lead.{Pairs, lead}
use Rattle.names_change.proofs.Reading.{state, until, left_behind, pending, placed, next, own, emitted, read, IsOfItems, names_read}
use Rattle.names_change.proofs.SectionStarts.{closed_by, first_in, starts, sections_read}
use Rattle.names_change.proofs.ByKind.{kind_sets, but, but_both, but_lead}
use Rattle.names_change.proofs.Found.{start}

-- an item that is a mark, and one that is none
record IsMarked (item : Item) : Type 0 where
  mark : Mark
  marks : mark_of item ≡ mark ∷ []
  notes : note_of item ≡ []
  references : item_names kinds.Reference item ≡ []
  ids : item_names kinds.Note item ≡ []

abbrev Marking : Item → Type 0
Marking item = (mark_of item ≡ []) ⊎ IsMarked item

what_marking : (spans : List (List ℕ)) (what : What-F What Item Note Par) → Marking (item_of spans what)
what_marking spans (What-F.Char c) = inl (simp out-roll-What)
what_marking spans What-F.Tab = inl (simp out-roll-What)
what_marking spans What-F.Break = inl (simp out-roll-What)
what_marking spans (What-F.Field field) = inl (simp out-roll-What)
what_marking spans (What-F.Note note) = inl (simp out-roll-What)
what_marking spans (What-F.Mark mark) = inr (record { mark = mark; marks = simp out-roll-What; notes = simp out-roll-What; references = simp out-roll-What; ids = simp out-roll-What })

marking : (item : Item) → Marking item
marking item = subst Marking (item_is item) (what_marking (out-Item item).spans (out-What (out-Item item).what))

module _ (name : List ℕ) where
  abbrev later : Row → Row
  later one = in_items (without_marks name) one

  -- the names of a kind without those of the bookmark
  abbrev shed : NameKind → Pairs → Pairs
  shed kinds.Bookmark pairs = but name pairs
  shed kinds.Section pairs = pairs
  shed kinds.Reference pairs = pairs
  shed kinds.Note pairs = pairs

  shed_both : (kind : NameKind) (front behind : Pairs) → shed kind (front ++ behind) ≡ shed kind front ++ shed kind behind
  shed_both kinds.Bookmark front behind = but_both name front behind
  shed_both kinds.Section front behind = refl
  shed_both kinds.Reference front behind = refl
  shed_both kinds.Note front behind = refl

  shed_none : (kind : NameKind) → shed kind [] ≡ []
  shed_none kinds.Bookmark = refl
  shed_none kinds.Section = refl
  shed_none kinds.Reference = refl
  shed_none kinds.Note = refl

  abbrev keep : Placed → Bool
  keep one = not (is_mark_of name one.1)

  -- what goes has no other names and holds no notes
  record Goes (kind : NameKind) (one : Placed) : Type 0 where
    notes : note_of one.1 ≡ []
    names : shed kind (own kind one) ≡ []

  own_but : (id : ParId) (text : List ℕ) (test : Bool) → bytes_eq text name ≡ test → but name ((text, id) ∷ []) ≡ cond test [] ((text, id) ∷ [])
  own_but id text true is = ap (λ (b : Bool). cond (not b) ((text, id) ∷ []) []) is
  own_but id text false is = ap (λ (b : Bool). cond (not b) ((text, id) ∷ []) []) is

  some_or : (test : Bool) → (test || false) ≡ test
  some_or true = refl
  some_or false = refl

  marked_is : (item : Item) (it : IsMarked item) (test : Bool) → is_mark_of name item ≡ test → bytes_eq (mark_name it.mark) name ≡ test
  marked_is item it test is = sym (some_or (bytes_eq (mark_name it.mark) name)) ∙ sym (ap (list_any (λ (mark : Mark). bytes_eq (mark_name mark) name)) it.marks) ∙ is

  goes : (kind : NameKind) (one : Placed) → is_mark_of name one.1 ≡ true → Goes kind one
  goes kind one is = by_marking (marking one.1) where
    mine : (it : IsMarked one.1) (kind : NameKind) → shed kind (own kind one) ≡ []
    mine it kinds.Bookmark = ap (λ (marks : List Mark). but name (map (λ text. (text, one.0)) (map mark_name marks))) it.marks ∙ own_but one.0 (mark_name it.mark) true (marked_is one.1 it true is)
    mine it kinds.Section = refl
    mine it kinds.Reference = ap (map (λ text. (text, one.0))) it.references
    mine it kinds.Note = ap (map (λ text. (text, one.0))) it.ids

    by_marking : Marking one.1 → Goes kind one
    by_marking (inl none) = absurd (false≢true (sym (ap (list_any (λ (mark : Mark). bytes_eq (mark_name mark) name)) none) ∙ is))
    by_marking (inr it) = record { notes = it.notes; names = mine it kind }

  stays : (kind : NameKind) (one : Placed) → is_mark_of name one.1 ≡ false → shed kind (own kind one) ≡ own kind one
  stays kinds.Bookmark one is = by_marking (marking one.1) where
    by_marking : Marking one.1 → but name (own kinds.Bookmark one) ≡ own kinds.Bookmark one
    by_marking (inl none) =
        ap (λ (marks : List Mark). but name (map (λ text. (text, one.0)) (map mark_name marks))) none ∙ sym (ap (λ (marks : List Mark). map (λ text. (text, one.0)) (map mark_name marks)) none)
    by_marking (inr it) =
        ap (λ (marks : List Mark). but name (map (λ text. (text, one.0)) (map mark_name marks))) it.marks ∙ own_but one.0 (mark_name it.mark) false (marked_is one.1 it false is)
        ∙ sym (ap (λ (marks : List Mark). map (λ text. (text, one.0)) (map mark_name marks)) it.marks)
  stays kinds.Section one is = refl
  stays kinds.Reference one is = refl
  stays kinds.Note one is = refl

  kept : List Placed → List Placed
  kept items = filter keep items

  kept_more : (one : Placed) (items : List Placed) (test : Bool) → is_mark_of name one.1 ≡ test → kept (one ∷ items) ≡ cond test (kept items) (one ∷ kept items)
  unfolding kept
  kept_more one items true is = ap (λ (b : Bool). cond (not b) (one ∷ filter keep items) (filter keep items)) is
  kept_more one items false is = ap (λ (b : Bool). cond (not b) (one ∷ filter keep items) (filter keep items)) is

  kept_none : kept [] ≡ []
  unfolding kept
  kept_none = refl

  placed_kept : (id : ParId) (items : List Item) → placed id (without_marks name items) ≡ kept (placed id items)
  unfolding kept
  placed_kept id [] = refl
  placed_kept id (item ∷ items) = by_test (is_mark_of name item) (placed_kept id items) where
    by_test : (test : Bool) → placed id (without_marks name items) ≡ filter keep (placed id items)
        → placed id (cond (not test) (item ∷ without_marks name items) (without_marks name items)) ≡ cond (not test) ((id, item) ∷ filter keep (placed id items)) (filter keep (placed id items))
    by_test true more = more
    by_test false more = ap (λ (some : List Placed). (id, item) ∷ some) more

  left_kept : (notes : List Note) (items more : List Placed) → left_behind notes (kept items) (kept more) ≡ kept (left_behind notes items more)
  left_kept [] items more = refl
  left_kept (note ∷ notes) items more = refl

  pending_kept : (items : List Placed) → pending (kept items) ≡ kept (pending items)
  pending_kept [] = ap pending kept_none ∙ sym kept_none
  pending_kept (one ∷ items) = by_test (pending_kept items) (is_mark_of name one.1) refl where
    by_test : pending (kept items) ≡ kept (pending items) → (test : Bool) → is_mark_of name one.1 ≡ test → pending (kept (one ∷ items)) ≡ kept (pending (one ∷ items))
    by_test more true is =
        ap pending (kept_more one items true is) ∙ more ∙ sym (ap (λ (notes : List Note). kept (left_behind notes items (pending items))) (goes kinds.Section one is).notes)
    by_test more false is =
        ap pending (kept_more one items false is) ∙ ap (left_behind (note_of one.1) (kept items)) more ∙ left_kept (note_of one.1) items (pending items)

  module _ (kind : NameKind) where
    until_shed : (notes : List Note) (more : Pairs) → until notes (shed kind more) ≡ shed kind (until notes more)
    until_shed [] more = refl
    until_shed (note ∷ notes) more = sym (shed_none kind)

    emitted_shed : (items : List Placed) → emitted kind (kept items) ≡ shed kind (emitted kind items)
    emitted_shed [] = ap (emitted kind) kept_none ∙ sym (shed_none kind)
    emitted_shed (one ∷ items) = by_test (parted (emitted_shed items)) (is_mark_of name one.1) refl where
      parted : emitted kind (kept items) ≡ shed kind (emitted kind items) → shed kind (own kind one ++ until (note_of one.1) (emitted kind items)) ≡ shed kind (own kind one) ++ until (note_of one.1) (emitted kind (kept items))
      parted more =
          shed_both kind (own kind one) (until (note_of one.1) (emitted kind items))
          ∙ ap (λ (some : Pairs). shed kind (own kind one) ++ some) (sym (until_shed (note_of one.1) (emitted kind items)) ∙ ap (until (note_of one.1)) (sym more))

      by_test : shed kind (own kind one ++ until (note_of one.1) (emitted kind items)) ≡ shed kind (own kind one) ++ until (note_of one.1) (emitted kind (kept items))
          → (test : Bool) → is_mark_of name one.1 ≡ test → emitted kind (kept (one ∷ items)) ≡ shed kind (own kind one ++ until (note_of one.1) (emitted kind items))
      by_test cut true is =
          ap (emitted kind) (kept_more one items true is)
          ∙ sym (cut ∙ ap₂ (λ (some : Pairs) (notes : List Note). some ++ until notes (emitted kind (kept items))) (goes kind one is).names (goes kind one is).notes)
      by_test cut false is =
          ap (emitted kind) (kept_more one items false is) ∙ sym (cut ∙ ap (λ (some : Pairs). some ++ until (note_of one.1) (emitted kind (kept items))) (stays kind one is))

    all_shed : (items : List Placed) → flat_map (own kind) (kept items) ≡ shed kind (flat_map (own kind) items)
    all_shed [] = ap (flat_map (own kind)) kept_none ∙ sym (shed_none kind)
    all_shed (one ∷ items) = by_test (parted (all_shed items)) (is_mark_of name one.1) refl where
      parted : flat_map (own kind) (kept items) ≡ shed kind (flat_map (own kind) items) → shed kind (own kind one ++ flat_map (own kind) items) ≡ shed kind (own kind one) ++ flat_map (own kind) (kept items)
      parted more = shed_both kind (own kind one) (flat_map (own kind) items) ∙ ap (λ (some : Pairs). shed kind (own kind one) ++ some) (sym more)

      by_test : shed kind (own kind one ++ flat_map (own kind) items) ≡ shed kind (own kind one) ++ flat_map (own kind) (kept items) → (test : Bool) → is_mark_of name one.1 ≡ test → flat_map (own kind) (kept (one ∷ items)) ≡ shed kind (own kind one ++ flat_map (own kind) items)
      by_test cut true is = ap (flat_map (own kind)) (kept_more one items true is) ∙ sym (cut ∙ ap (λ (some : Pairs). some ++ flat_map (own kind) (kept items)) (goes kind one is).names)
      by_test cut false is = ap (flat_map (own kind)) (kept_more one items false is) ∙ sym (cut ∙ ap (λ (some : Pairs). some ++ flat_map (own kind) (kept items)) (stays kind one is))

    -- what rows give
    end_gives : (within : Bool) (held : List Placed) → (if within then emitted kind (kept held) else []) ≡ shed kind (if within then emitted kind held else [])
    end_gives true held = emitted_shed held
    end_gives false held = sym (shed_none kind)

    end_holds : (within : Bool) (held : List Placed) → (if within then pending (kept held) else kept held) ≡ kept (if within then pending held else held)
    end_holds true held = pending_kept held
    end_holds false held = refl

    par_gives : (within : Bool) (items : List Placed) → (if within then flat_map (own kind) (kept items) else emitted kind (kept items)) ≡ shed kind (if within then flat_map (own kind) items else emitted kind items)
    par_gives true items = all_shed items
    par_gives false items = emitted_shed items

    par_holds : (within : Bool) (held items : List Placed) → (if within then kept held else pending (kept items)) ≡ kept (if within then held else pending items)
    par_holds true held items = refl
    par_holds false held items = pending_kept items

    read_shed : (rows : List Row) (within : Bool) (held : List Placed) → read kind (map later rows) (state within (kept held)) ≡ shed kind (read kind rows (state within held))
    read_shed [] within held = sym (shed_none kind)
    read_shed (row.Start head ∷ rows) within held = read_shed rows within held
    read_shed (row.End ∷ rows) within held =
        ap₂ (λ (names : Pairs) (some : List Placed). names ++ read kind (map later rows) (state false some)) (end_gives within held) (end_holds within held)
        ∙ ap (λ (names : Pairs). shed kind (if within then emitted kind held else []) ++ names) (read_shed rows false (if within then pending held else held))
        ∙ sym (shed_both kind (if within then emitted kind held else []) (read kind rows (state false (if within then pending held else held))))
    read_shed (row.Par head items ∷ rows) within held =
        let mine : List Placed = placed head.id items in
        ap (λ (some : List Placed). (if within then flat_map (own kind) some else emitted kind some) ++ read kind (map later rows) (state within (if within then kept held else pending some))) (placed_kept head.id items)
        ∙ ap₂ (λ (names : Pairs) (some : List Placed). names ++ read kind (map later rows) (state within some)) (par_gives within mine) (par_holds within held mine)
        ∙ ap (λ (names : Pairs). shed kind (if within then flat_map (own kind) mine else emitted kind mine) ++ names) (read_shed rows within (if within then held else pending mine))
        ∙ sym (shed_both kind (if within then flat_map (own kind) mine else emitted kind mine) (read kind rows (state within (if within then held else pending mine))))
    read_shed (row.NoteText ∷ rows) within held = read_shed rows true held

  -- sections
  closed_alike : (depth : ℕ) (one other : ℕ → List ParId) → ((n : ℕ) → one n ≡ other n) → closed_by depth one ≡ closed_by depth other
  closed_alike zero one other same = refl
  closed_alike (suc depth) one other same = same depth

  first_same : (rows : List Row) (depth : ℕ) → first_in (map later rows) depth ≡ first_in rows depth
  first_same [] depth = refl
  first_same (row.Start head ∷ rows) depth = first_same rows (suc depth)
  first_same (row.End ∷ rows) depth = closed_alike depth (first_in (map later rows)) (first_in rows) (first_same rows)
  first_same (row.Par head items ∷ rows) depth = refl
  first_same (row.NoteText ∷ rows) depth = first_same rows (suc depth)

  starts_same : (rows : List Row) → starts (map later rows) ≡ starts rows
  starts_same [] = refl
  starts_same (row.Start head ∷ rows) = ap₂ (λ (numbers : List ParId) (some : Pairs). map (λ number. (head.name, number)) numbers ++ some) (first_same rows 0) (starts_same rows)
  starts_same (row.End ∷ rows) = starts_same rows
  starts_same (row.Par head items ∷ rows) = starts_same rows
  starts_same (row.NoteText ∷ rows) = starts_same rows

pub removal_follows : (old : Edited) (name : List ℕ) → IsSound old → Sets (names_of old.document) (names_of (edited_document old.next (RemoveBookmark name) old.document)) kinds.Bookmark name None
removal_follows old name sound =
    let doc : Document = old.document in
    let new : Document = edited_document old.next (RemoveBookmark name) doc in
    let now : rows_of new.body ≡ map (later name) (rows_of doc.body) = bookmark_removed old.next doc name sound.flat in
    let sound_new : IsSound (edited old (RemoveBookmark name)) = removal_kept old name sound in
    let shed_is : (kind : NameKind) → IsOfItems kind → names_of_kind new kind ≡ shed name kind (names_of_kind doc kind) =
    λ kind of_items.
    names_read kind of_items new sound_new.flat ∙ ap (λ (rows : List Row). read kind rows start) now
    ∙ ap (λ (held : List Placed). read kind (map (later name) (rows_of doc.body)) (state false held)) (sym (kept_none name))
    ∙ read_shed name kind (rows_of doc.body) false [] ∙ ap (shed name kind) (sym (names_read kind of_items doc sound.flat))
    in
    let sections : section_names new ≡ section_names doc = sections_read new ∙ ap starts now ∙ starts_same name (rows_of doc.body) ∙ sym (sections_read doc) in
    kind_sets doc new kinds.Bookmark name None (λ kind other. by_kind doc new name shed_is sections kind other) (λ _. refl)
    (λ other. ap (lead other) (shed_is kinds.Bookmark tt) ∙ but_lead name other (names_of_kind doc kinds.Bookmark)) where
      by_kind : (doc new : Document) (name : List ℕ) → ((kind : NameKind) → IsOfItems kind → names_of_kind new kind ≡ shed name kind (names_of_kind doc kind)) → section_names new ≡ section_names doc
          → (kind : NameKind) → is_same_kind kinds.Bookmark kind ≡ false → names_of_kind new kind ≡ names_of_kind doc kind
      by_kind doc new name shed_is sections kinds.Bookmark other = absurd (false≢true (sym other))
      by_kind doc new name shed_is sections kinds.Section other = sections
      by_kind doc new name shed_is sections kinds.Reference other = shed_is kinds.Reference tt
      by_kind doc new name shed_is sections kinds.Note other = shed_is kinds.Note tt
