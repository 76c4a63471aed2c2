-- Names that are read from rows of other paragraphs.
use Rattle.std.proofs.Common.{◌≡◌, ℕ, Bool, true, false, eqb, List, [], ◌∷◌, map}
use Rattle.std.specs.Prelude.{if◌then◌else◌}
use Rattle.std.specs.List.{flat_map, AllByRecursion as Each}
use Rattle.doc_model.specs.declared.paragraph.ParId.{ParId}
use Rattle.doc_model.specs.declared.paragraph.Item.{Item}
use Rattle.doc_model.specs.declared.paragraph.Note.{Note}
use Rattle.doc_model.specs.Reading.{note_of}
use Rattle.name_index.specs.declared.names.NameKind.{NameKind}
use Rattle.name_index.specs.Scan.{Placed}
use Rattle.node_array.specs.declared.row.Row.{Row}
use Rattle.node_array.specs.declared.row.Row.TheVariants as row
use Rattle.paragraph_rows.specs.Standing.{number_in}
use Rattle.paragraph_rows.proofs.Lists.{each_both}
use Rattle.names_change.specs.ItemNames.{item_names}
use Rattle.names_change.proofs.Lead.{Pairs, Other}
use Rattle.names_change.proofs.Reading.{State, until, left_behind, pending, placed, next, after, own, emitted, emit, read}

module _ (number : ℕ) where
  -- a number that isn't this one
  abbrev pub Differs : ℕ → Type 0
  Differs other = eqb other number ≡ false

  abbrev pub Elsewhere : Placed → Type 0
  Elsewhere one = eqb one.0.0 number ≡ false

  pub named : (id : ParId) (names : List (List ℕ)) → Differs id.0 → Each (Other number) (map (λ name. (name, id)) names)
  named id [] differs = tt
  named id (name ∷ names) differs = (differs, named id names differs)

  placed_elsewhere : (id : ParId) (items : List Item) → Differs id.0 → Each Elsewhere (placed id items)
  placed_elsewhere id [] differs = tt
  placed_elsewhere id (item ∷ items) differs = (differs, placed_elsewhere id items differs)

  left_elsewhere : (notes : List Note) (items more : List Placed) → Each Elsewhere items → Each Elsewhere more → Each Elsewhere (left_behind notes items more)
  left_elsewhere [] items more one other = other
  left_elsewhere (note ∷ notes) items more one other = one

  pending_elsewhere : (items : List Placed) → Each Elsewhere items → Each Elsewhere (pending items)
  pending_elsewhere [] are = tt
  pending_elsewhere (one ∷ items) are = left_elsewhere (note_of one.1) items (pending items) are.1 (pending_elsewhere items are.1)

  either : (test : Bool) (one other : List Placed) → Each Elsewhere one → Each Elsewhere other → Each Elsewhere (if test then one else other)
  either true one other a b = a
  either false one other a b = b

  -- numbers of a row and of those behind it
  abbrev Apart-Rows : List Row → Type 0
  Apart-Rows rows = Each Differs (flat_map number_in rows)

  pub after_elsewhere : (rows : List Row) (s : State) → Apart-Rows rows → Each Elsewhere s.held → Each Elsewhere (after rows s).held
  after_elsewhere [] s apart held = held
  after_elsewhere (row.Start head ∷ rows) s apart held = after_elsewhere rows s apart held
  after_elsewhere (row.End ∷ rows) s apart held = after_elsewhere rows (next row.End s) apart (either s.within (pending s.held) s.held (pending_elsewhere s.held held) held)
  after_elsewhere (row.Par head items ∷ rows) s apart held =
      after_elsewhere rows (next (row.Par head items) s) apart.1
      (either s.within s.held (pending (placed head.id items)) held (pending_elsewhere (placed head.id items) (placed_elsewhere head.id items apart.0)))
  after_elsewhere (row.NoteText ∷ rows) s apart held = after_elsewhere rows (next row.NoteText s) apart held

  module _ (kind : NameKind) where
    own_other : (one : Placed) → Elsewhere one → Each (Other number) (own kind one)
    own_other one differs = named one.0 (item_names kind one.1) differs

    all_other : (items : List Placed) → Each Elsewhere items → Each (Other number) (flat_map (own kind) items)
    all_other [] are = tt
    all_other (one ∷ items) are = each_both (Other number) (own kind one) (flat_map (own kind) items) (own_other one are.0) (all_other items are.1)

    until_other : (notes : List Note) (more : Pairs) → Each (Other number) more → Each (Other number) (until notes more)
    until_other [] more are = are
    until_other (note ∷ notes) more are = tt

    emitted_other : (items : List Placed) → Each Elsewhere items → Each (Other number) (emitted kind items)
    emitted_other [] are = tt
    emitted_other (one ∷ items) are =
        each_both (Other number) (own kind one) (until (note_of one.1) (emitted kind items)) (own_other one are.0) (until_other (note_of one.1) (emitted kind items) (emitted_other items are.1))

    one_of : (test : Bool) (one other : Pairs) → Each (Other number) one → Each (Other number) other → Each (Other number) (if test then one else other)
    one_of true one other a b = a
    one_of false one other a b = b

    pub read_other : (rows : List Row) (s : State) → Apart-Rows rows → Each Elsewhere s.held → Each (Other number) (read kind rows s)
    read_other [] s apart held = tt
    read_other (row.Start head ∷ rows) s apart held = read_other rows s apart held
    read_other (row.End ∷ rows) s apart held =
        each_both (Other number) (emit kind row.End s) (read kind rows (next row.End s))
        (one_of s.within (emitted kind s.held) [] (emitted_other s.held held) tt)
        (read_other rows (next row.End s) apart (either s.within (pending s.held) s.held (pending_elsewhere s.held held) held))
    read_other (row.Par head items ∷ rows) s apart held =
        let mine : Each Elsewhere (placed head.id items) = placed_elsewhere head.id items apart.0 in
        each_both (Other number) (emit kind (row.Par head items) s) (read kind rows (next (row.Par head items) s))
        (one_of s.within (flat_map (own kind) (placed head.id items)) (emitted kind (placed head.id items)) (all_other (placed head.id items) mine) (emitted_other (placed head.id items) mine))
        (read_other rows (next (row.Par head items) s) apart.1 (either s.within s.held (pending (placed head.id items)) held (pending_elsewhere (placed head.id items) mine)))
    read_other (row.NoteText ∷ rows) s apart held = read_other rows (next row.NoteText s) apart held
