-- Items as they stand in rows, and their notes, when they are changed.
use Rattle.std.proofs.Common.{◌≡◌, ℕ, ◌+◌, ◌≤◌, Bool, true, false, cond, List, [], ◌∷◌, ◌++◌, map, filter, take, drop, zero, suc, refl, ap, ap₂, sym, ◌∙◌, append_assoc, append-nil}
use Rattle.std.specs.Prelude.{◌==◌, if◌then◌else◌, not}
use Rattle.std.specs.List.{between, flat_map, list_any}
use Rattle.std.specs.Str.{bytes_eq}
use Rattle.std.proofs.lemmas.Bool.{false≢true}
use Rattle.std.proofs.lemmas.List.{map-append, take-map, drop-map, take-append-drop}
use Rattle.std.proofs.lemmas.List.Concat.{flat_map-append}
use Rattle.std.proofs.lemmas.List.Folds.{drop_split}
use Rattle.doc_model.specs.declared.paragraph.Par.{Par}
use Rattle.doc_model.specs.declared.paragraph.Item.{Item, out-Item, roll-Item}
use Rattle.doc_model.specs.declared.paragraph.What.{What, out-What}
use Rattle.doc_model.specs.declared.paragraph.Note.{Note}
use Rattle.doc_model.specs.declared.paragraph.Mark.{Mark}
use Rattle.doc_model.specs.declared.field.Field.{Field}
use Rattle.doc_model.specs.declared.paragraph.What.TheOpen.{What-F}
use Rattle.doc_model.specs.declared.paragraph.What.TheViews.{out-roll-What, roll-out-Item}
use Rattle.doc_model.specs.Reading.{note_of}
use Rattle.doc_model.specs.Parts.{is_mark, mark_of, mark_name}
use Rattle.edit_rules.specs.Texts.{spans_before, with_items_at, typed_item, with_text, with_item, without_range, with_spans, is_mark_of, without_marks}
use Rattle.node_array.specs.declared.row.Row.{Row}
use Rattle.node_array.proofs.OneBody.{what_rows, item_opens}
use Rattle.paragraph_rows.specs.OwnRow.{bare}
use Rattle.paragraph_rows.proofs.Lists.{joined_map, same_joined, between_map, filter_map}
use Rattle.paragraph_rows.proofs.Opened.{item_of, item_is, bare_what, bare_item_is}

-- an item as it stands in a row
bare_is : (item : Item) → bare item ≡ roll-Item (record { spans = (out-Item item).spans; what = (what_rows (out-Item item).what).0 })
bare_is item = ap bare (sym (roll-out-Item item)) ∙ ap (λ (pair : Item × List Row). pair.0) (item_opens (out-Item item))

pub spans_bare : (item : Item) → (out-Item (bare item)).spans ≡ (out-Item item).spans
spans_bare item = ap (λ (i : Item). (out-Item i).spans) (bare_is item)

what_bare : (item : Item) → (out-Item (bare item)).what ≡ (what_rows (out-Item item).what).0
what_bare item = ap (λ (i : Item). (out-Item i).what) (bare_is item)

-- an item with other spans
abbrev respanned : List (List ℕ) → Item → Item
respanned spans item = roll-Item (record (out-Item item) { spans = spans })

bare_respanned : (spans : List (List ℕ)) (item : Item) → bare (respanned spans item) ≡ respanned spans (bare item)
bare_respanned spans item =
    ap (λ (pair : Item × List Row). pair.0) (item_opens (record (out-Item item) { spans = spans }))
    ∙ ap (λ (what : What). roll-Item (record { spans = spans; what = what })) (sym (what_bare item))

note_respanned : (spans : List (List ℕ)) (item : Item) → note_of (respanned spans item) ≡ note_of item
note_respanned spans item = refl

mark_what : (spans : List (List ℕ)) (what : What-F What Item Note Par) → mark_of (item_of spans (bare_what what)) ≡ mark_of (item_of spans what)
mark_what spans (What-F.Char c) = refl
mark_what spans What-F.Tab = refl
mark_what spans What-F.Break = refl
mark_what spans (What-F.Field field) = refl
mark_what spans (What-F.Note note) = simp out-roll-What
mark_what spans (What-F.Mark mark) = refl

pub mark_bare : (item : Item) → mark_of (bare item) ≡ mark_of item
mark_bare item = ap (λ (i : Item). mark_of (bare i)) (sym (item_is item)) ∙ ap mark_of (bare_item_is (out-Item item).spans (out-What (out-Item item).what)) ∙ mark_what (out-Item item).spans (out-What (out-Item item).what) ∙ ap mark_of (item_is item)

is_mark_what : (spans : List (List ℕ)) (what : What-F What Item Note Par) → is_mark (item_of spans (bare_what what)) ≡ is_mark (item_of spans what)
is_mark_what spans (What-F.Char c) = refl
is_mark_what spans What-F.Tab = refl
is_mark_what spans What-F.Break = refl
is_mark_what spans (What-F.Field field) = refl
is_mark_what spans (What-F.Note note) = simp out-roll-What
is_mark_what spans (What-F.Mark mark) = refl

pub is_mark_bare : (item : Item) → is_mark (bare item) ≡ is_mark item
is_mark_bare item = ap (λ (i : Item). is_mark (bare i)) (sym (item_is item)) ∙ ap is_mark (bare_item_is (out-Item item).spans (out-What (out-Item item).what)) ∙ is_mark_what (out-Item item).spans (out-What (out-Item item).what) ∙ ap is_mark (item_is item)

-- items that are typed
bare_char : (spans : List (List ℕ)) (c : ℕ) (tab newline : Bool) → let what : What-F What Item Note Par = if tab then What-F.Tab else if newline then What-F.Break else What-F.Char c in bare (item_of spans what) ≡ item_of spans what
bare_char spans c true newline = bare_item_is spans What-F.Tab
bare_char spans c false true = bare_item_is spans What-F.Break
bare_char spans c false false = bare_item_is spans (What-F.Char c)

note_char : (spans : List (List ℕ)) (c : ℕ) (tab newline : Bool) → note_of (item_of spans (if tab then What-F.Tab else if newline then What-F.Break else What-F.Char c)) ≡ []
note_char spans c true newline = simp out-roll-What
note_char spans c false true = simp out-roll-What
note_char spans c false false = simp out-roll-What

bare_typed : (spans : List (List ℕ)) (c : ℕ) → bare (typed_item spans c) ≡ typed_item spans c
bare_typed spans c = bare_char spans c (c == 0x9) (c == 0xa)

bares_typed : (spans : List (List ℕ)) (text : List ℕ) → map bare (map (typed_item spans) text) ≡ map (typed_item spans) text
bares_typed spans [] = refl
bares_typed spans (c ∷ text) = ap₂ (λ (item : Item) (more : List Item). item ∷ more) (bare_typed spans c) (bares_typed spans text)

notes_typed : (spans : List (List ℕ)) (text : List ℕ) → flat_map note_of (map (typed_item spans) text) ≡ []
notes_typed spans [] = refl
notes_typed spans (c ∷ text) = ap₂ (λ (here more : List Note). here ++ more) (note_char spans c (c == 0x9) (c == 0xa)) (notes_typed spans text)

-- the spans before a place
pub spans_before_bare : (at : ℕ) (items : List Item) → spans_before at (map bare items) ≡ spans_before at items
spans_before_bare zero items = refl
spans_before_bare (suc at) items =
    ap (flat_map (λ (item : Item). (out-Item item).spans)) (between_map bare at (at + 1) items)
    ∙ joined_map (λ (item : Item). (out-Item item).spans) bare (between at (at + 1) items)
    ∙ same_joined (λ item. (out-Item (bare item)).spans) (λ item. (out-Item item).spans) spans_bare (between at (at + 1) items)

-- items that are put at a place
pub bare_at : (at : ℕ) (others items : List Item) → map bare (with_items_at at others items) ≡ with_items_at at (map bare others) (map bare items)
bare_at at others items =
    map-append bare (take at items ++ others) (drop at items)
    ∙ ap₂ (λ (front behind : List Item). front ++ behind)
    (map-append bare (take at items) others ∙ ap (λ (front : List Item). front ++ map bare others) (sym (take-map bare at items))) (sym (drop-map bare at items))

pub notes_at : (at : ℕ) (others items : List Item) → flat_map note_of others ≡ [] → flat_map note_of (with_items_at at others items) ≡ flat_map note_of items
notes_at at others items none =
    flat_map-append note_of (take at items ++ others) (drop at items)
    ∙ ap (λ (front : List Note). front ++ flat_map note_of (drop at items))
    (flat_map-append note_of (take at items) others ∙ ap (λ (more : List Note). flat_map note_of (take at items) ++ more) none ∙ append-nil (flat_map note_of (take at items)))
    ∙ sym (flat_map-append note_of (take at items) (drop at items)) ∙ ap (flat_map note_of) (take-append-drop at items)

pub bare_text : (at : ℕ) (text : List ℕ) (items : List Item) → map bare (with_text at text items) ≡ with_text at text (map bare items)
bare_text at text items =
    bare_at at (map (typed_item (spans_before at items)) text) items
    ∙ ap (λ (others : List Item). with_items_at at others (map bare items))
    (bares_typed (spans_before at items) text ∙ ap (λ (spans : List (List ℕ)). map (typed_item spans) text) (sym (spans_before_bare at items)))

pub notes_text : (at : ℕ) (text : List ℕ) (items : List Item) → flat_map note_of (with_text at text items) ≡ flat_map note_of items
notes_text at text items = notes_at at (map (typed_item (spans_before at items)) text) items (notes_typed (spans_before at items) text)

-- an item that is put at a place, where it stands in a row as another
pub bare_item : (at : ℕ) (what other : What-F What Item Note Par) (items : List Item) → ((spans : List (List ℕ)) → bare (item_of spans what) ≡ item_of spans other)
    → map bare (with_item at what items) ≡ with_item at other (map bare items)
bare_item at what other items same =
    bare_at at (item_of (spans_before at items) what ∷ []) items
    ∙ ap (λ (item : Item). with_items_at at (item ∷ []) (map bare items)) (same (spans_before at items) ∙ ap (λ (spans : List (List ℕ)). item_of spans other) (sym (spans_before_bare at items)))

pub bare_field : (spans : List (List ℕ)) (field : Field) → bare (item_of spans (What-F.Field field)) ≡ item_of spans (What-F.Field field)
bare_field spans field = bare_item_is spans (What-F.Field field)

pub bare_mark : (spans : List (List ℕ)) (mark : Mark) → bare (item_of spans (What-F.Mark mark)) ≡ item_of spans (What-F.Mark mark)
bare_mark spans mark = bare_item_is spans (What-F.Mark mark)

note_field : (spans : List (List ℕ)) (field : Field) → note_of (item_of spans (What-F.Field field)) ≡ []
note_field spans field = simp out-roll-What

note_mark : (spans : List (List ℕ)) (mark : Mark) → note_of (item_of spans (What-F.Mark mark)) ≡ []
note_mark spans mark = simp out-roll-What

pub notes_field : (at : ℕ) (field : Field) (items : List Item) → flat_map note_of (with_item at (What-F.Field field) items) ≡ flat_map note_of items
notes_field at field items =
    notes_at at (item_of (spans_before at items) (What-F.Field field) ∷ []) items (ap (λ (notes : List Note). notes ++ []) (note_field (spans_before at items) field))

pub notes_mark : (at : ℕ) (mark : Mark) (items : List Item) → flat_map note_of (with_item at (What-F.Mark mark) items) ≡ flat_map note_of items
notes_mark at mark items =
    notes_at at (item_of (spans_before at items) (What-F.Mark mark) ∷ []) items (ap (λ (notes : List Note). notes ++ []) (note_mark (spans_before at items) mark))

-- three pieces
pub bare_pieces : (front middle behind : List Item) → map bare (front ++ middle ++ behind) ≡ map bare front ++ map bare middle ++ map bare behind
bare_pieces front middle behind = map-append bare (front ++ middle) behind ∙ ap (λ (items : List Item). items ++ map bare behind) (map-append bare front middle)

-- spans of a range
pub bare_spans : (from to : ℕ) (spans : List (List ℕ)) (items : List Item) → map bare (with_spans from to spans items) ≡ with_spans from to spans (map bare items)
bare_spans from to spans items =
    bare_pieces (take from items) (map (respanned spans) (between from to items)) (drop to items)
    ∙ ap₂ (λ (front middle : List Item). front ++ middle ++ map bare (drop to items)) (sym (take-map bare from items))
    (bares (between from to items) ∙ ap (map (respanned spans)) (sym (between_map bare from to items)))
    ∙ ap (λ (behind : List Item). take from (map bare items) ++ map (respanned spans) (between from to (map bare items)) ++ behind) (sym (drop-map bare to items)) where
      bares : (some : List Item) → map bare (map (respanned spans) some) ≡ map (respanned spans) (map bare some)
      bares [] = refl
      bares (item ∷ some) = ap₂ (λ (one : Item) (more : List Item). one ∷ more) (bare_respanned spans item) (bares some)

pub notes_spans : (from to : ℕ) (spans : List (List ℕ)) (items : List Item) → from ≤ to → flat_map note_of (with_spans from to spans items) ≡ flat_map note_of items
notes_spans from to spans items order =
    let middle : List Item = between from to items in
    flat_map-append note_of (take from items ++ map (respanned spans) middle) (drop to items)
    ∙ ap (λ (notes : List Note). notes ++ flat_map note_of (drop to items))
    (flat_map-append note_of (take from items) (map (respanned spans) middle)
    ∙ ap (λ (notes : List Note). flat_map note_of (take from items) ++ notes)
    (joined_map note_of (respanned spans) middle ∙ same_joined (λ item. note_of (respanned spans item)) note_of (note_respanned spans) middle)
    ∙ sym (flat_map-append note_of (take from items) middle))
    ∙ sym (flat_map-append note_of (take from items ++ middle) (drop to items))
    ∙ ap (flat_map note_of) (append_assoc (take from items) middle (drop to items) ∙ ap (λ (more : List Item). take from items ++ more) (sym (drop_split items from to order))
    ∙ take-append-drop from items)

-- marks that are taken out
pub bare_marks : (name : List ℕ) (items : List Item) → map bare (without_marks name items) ≡ without_marks name (map bare items)
bare_marks name items = filter_map bare (λ item. not (is_mark_of name item)) (λ item. not (is_mark_of name item)) (λ item. ap (λ (marks : List Mark). not (list_any (λ mark. bytes_eq (mark_name mark) name) marks)) (mark_bare item)) items

no_note : (name : List ℕ) (spans : List (List ℕ)) (what : What-F What Item Note Par) → is_mark_of name (item_of spans what) ≡ true → note_of (item_of spans what) ≡ []
no_note name spans (What-F.Char c) marked = simp out-roll-What
no_note name spans What-F.Tab marked = simp out-roll-What
no_note name spans What-F.Break marked = simp out-roll-What
no_note name spans (What-F.Field field) marked = simp out-roll-What
no_note name spans (What-F.Note note) marked = let none : is_mark_of name (item_of spans (What-F.Note note)) ≡ false = simp out-roll-What in absurd (false≢true (sym none ∙ marked))
no_note name spans (What-F.Mark mark) marked = simp out-roll-What

marked_is_no_note : (name : List ℕ) (item : Item) → is_mark_of name item ≡ true → note_of item ≡ []
marked_is_no_note name item marked =
    ap note_of (sym (item_is item)) ∙ no_note name (out-Item item).spans (out-What (out-Item item).what) (ap (is_mark_of name) (item_is item) ∙ marked)

pub notes_marks : (name : List ℕ) (items : List Item) → flat_map note_of (without_marks name items) ≡ flat_map note_of items
notes_marks name [] = refl
notes_marks name (item ∷ items) = by_test (is_mark_of name item) refl (notes_marks name items) where
  by_test : (test : Bool) → is_mark_of name item ≡ test → flat_map note_of (without_marks name items) ≡ flat_map note_of items
      → flat_map note_of (cond (not test) (item ∷ without_marks name items) (without_marks name items)) ≡ note_of item ++ flat_map note_of items
  by_test true marked rest = rest ∙ ap (λ (here : List Note). here ++ flat_map note_of items) (sym (marked_is_no_note name item marked))
  by_test false marked rest = ap (λ (more : List Note). note_of item ++ more) rest

-- a range that is taken out
pub bare_range : (from to : ℕ) (items : List Item) → map bare (without_range from to items) ≡ without_range from to (map bare items)
bare_range from to items =
    bare_pieces (take from items) (filter is_mark (between from to items)) (drop to items)
    ∙ ap₂ (λ (front middle : List Item). front ++ middle ++ map bare (drop to items)) (sym (take-map bare from items))
    (filter_map bare is_mark is_mark is_mark_bare (between from to items) ∙ ap (filter is_mark) (sym (between_map bare from to items)))
    ∙ ap (λ (behind : List Item). take from (map bare items) ++ filter is_mark (between from to (map bare items)) ++ behind) (sym (drop-map bare to items))
