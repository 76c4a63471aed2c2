-- What the items of a document have, in reading order and paragraph by paragraph.
use Rattle.std.proofs.Common.{◌≡◌, ◌⊎◌, inl, inr, ◌<◌, ℕ, ◌+◌, zero, suc, List, [], ◌∷◌, ◌++◌, map, length, refl, sym, ap, ap₂, ◌∙◌, subst, arith, append-nil, slice_index_or, length-append}
use Rattle.std.specs.List.{flat_map, Any}
use Rattle.std.proofs.lemmas.Grind.{flat_map-append}
use Rattle.doc_model.specs.declared.document.Document.{Document}
use Rattle.doc_model.specs.declared.field.Field.{Field}
use Rattle.doc_model.specs.declared.paragraph.Item.{Item}
use Rattle.doc_model.specs.declared.paragraph.Mark.{Mark as DocMark}
use Rattle.doc_model.specs.declared.paragraph.Note.{Note as DocNote, out-Note}
use Rattle.doc_model.specs.declared.paragraph.Par.{Par}
use Rattle.doc_model.specs.declared.paragraph.What.{What}
use Rattle.doc_model.specs.declared.paragraph.What.TheOpen.{What-F}
use Rattle.doc_model.specs.Parts.{all_items, items_of, notes, what_of}
use Rattle.doc_model.specs.Reading.{body_paragraphs, note_of, notes_of, with_notes}
use Rattle.back_met.specs.Things.{Counted, Marked, Noted, Thing, note_items, things_in, things_of}

pub twice : {X Y Z : Type 0} (g : Y → List Z) (f : X → List Y) (xs : List X) → flat_map g (flat_map f xs) ≡ flat_map (λ x. flat_map g (f x)) xs
twice g f [] = refl
twice g f (x ∷ xs) = flat_map-append g (f x) (flat_map f xs) ∙ ap (λ more. flat_map g (f x) ++ more) (twice g f xs)

pub each_same : {X Y : Type 0} (f g : X → List Y) → ((x : X) → f x ≡ g x) → (xs : List X) → flat_map f xs ≡ flat_map g xs
each_same f g same [] = refl
each_same f g same (x ∷ xs) = ap₂ (λ (a b : List _). a ++ b) (same x) (each_same f g same xs)

-- how much items have
abbrev pub count : {X : Type 0} → (Item → List X) → List Item → ℕ
count f items = length (flat_map f items)

pub count_both : {X : Type 0} (f : Item → List X) (items more : List Item) → count f (items ++ more) ≡ count f items + count f more
count_both f items more = ap length (flat_map-append f items more) ∙ length-append (flat_map f items) (flat_map f more)

abbrev pars_in : DocNote → List Par
pars_in note = (out-Note note).pars

-- the items of paragraphs and those of their notes are all
pars_counted : {X : Type 0} (f : Item → List X) (pars : List Par)
    → count f (flat_map items_of (flat_map with_notes pars)) ≡ count f (flat_map items_of pars) + count f (flat_map note_items (flat_map notes_of pars))
pars_counted f [] = refl
pars_counted f (par ∷ pars) =
    let inner = flat_map pars_in (notes_of par) in
    let rest = flat_map with_notes pars in
    let whole : count f (flat_map items_of ((par ∷ inner) ++ rest)) ≡ count f (flat_map items_of (par ∷ inner)) + count f (flat_map items_of rest) =
    ap (count f) (flat_map-append items_of (par ∷ inner) rest) ∙ count_both f (flat_map items_of (par ∷ inner)) (flat_map items_of rest) in
    let first : count f (items_of par ++ flat_map items_of inner) ≡ count f (items_of par) + count f (flat_map items_of inner) = count_both f (items_of par) (flat_map items_of inner) in
    let held : count f (flat_map items_of inner) ≡ count f (flat_map note_items (notes_of par)) = ap (count f) (twice items_of pars_in (notes_of par)) in
    let bodies : count f (items_of par ++ flat_map items_of pars) ≡ count f (items_of par) + count f (flat_map items_of pars) = count_both f (items_of par) (flat_map items_of pars) in
    let both : count f (flat_map note_items (notes_of par ++ flat_map notes_of pars)) ≡ count f (flat_map note_items (notes_of par)) + count f (flat_map note_items (flat_map notes_of pars)) =
    ap (count f) (flat_map-append note_items (notes_of par) (flat_map notes_of pars)) ∙ count_both f (flat_map note_items (notes_of par)) (flat_map note_items (flat_map notes_of pars)) in
    let more = pars_counted f pars in
    omega (arith, whole, first, held, bodies, both, more)

abbrev pub body_items : Document → List Item
body_items doc = flat_map items_of (body_paragraphs doc)

pub all_counted : {X : Type 0} (f : Item → List X) (doc : Document) → count f (all_items doc) ≡ count f (body_items doc) + count f (flat_map note_items (notes doc))
all_counted f doc = pars_counted f (body_paragraphs doc)

-- the notes of the body's items
pub notes_are : (doc : Document) → notes doc ≡ flat_map note_of (body_items doc)
notes_are doc = sym (twice note_of items_of (body_paragraphs doc))

-- what is had by items with their notes, where a note has what its items have
module _ {X : Type 0} (body inner : Thing → List X) (of_mark : (mark : DocMark) → body (Marked mark) ≡ inner (Marked mark)) (of_field : (field : Field) → body (Counted field) ≡ inner (Counted field))
    (of_note : (note : DocNote) → body (Noted note) ≡ flat_map inner (flat_map things_of (note_items note))) (no_inner : (note : DocNote) → inner (Noted note) ≡ []) where
  abbrev own : Item → List X
  own item = flat_map inner (things_of item)

  abbrev notes_in : What-F What Item DocNote Par → List DocNote
  notes_in (What-F.Note note) = note ∷ []
  notes_in _ = []

  alone : (one other : List X) → one ≡ other → length (one ++ []) ≡ length (other ++ []) + 0
  alone one other e = let same : length (one ++ []) ≡ length (other ++ []) = ap (λ (xs : List X). length (xs ++ [])) e in omega (arith, same)

  in_note : (note : DocNote) → length (body (Noted note) ++ []) ≡ length (inner (Noted note) ++ []) + count own (note_items note ++ [])
  in_note note =
      let none : length (inner (Noted note) ++ []) ≡ 0 = ap (λ (xs : List X). length (xs ++ [])) (no_inner note) in
      let same : length (body (Noted note) ++ []) ≡ count own (note_items note ++ []) =
      ap length (append-nil (body (Noted note)) ∙ of_note note ∙ twice inner things_of (note_items note)) ∙ ap (count own) (sym (append-nil (note_items note))) in
      omega (arith, none, same)

  what_counted : (what : What-F What Item DocNote Par) → length (flat_map body (things_in what)) ≡ length (flat_map inner (things_in what)) + count own (flat_map note_items (notes_in what))
  what_counted (What-F.Char c) = refl
  what_counted What-F.Tab = refl
  what_counted What-F.Break = refl
  what_counted (What-F.Field field) = alone (body (Counted field)) (inner (Counted field)) (of_field field)
  what_counted (What-F.Mark mark) = alone (body (Marked mark)) (inner (Marked mark)) (of_mark mark)
  what_counted (What-F.Note note) = in_note note

  pub items_counted : (items : List Item) → length (flat_map body (flat_map things_of items)) ≡ count own items + count own (flat_map note_items (flat_map note_of items))
  items_counted [] = refl
  items_counted (item ∷ items) =
      let whole : length (flat_map body (things_of item ++ flat_map things_of items)) ≡ length (flat_map body (things_of item)) + length (flat_map body (flat_map things_of items)) =
      ap length (flat_map-append body (things_of item) (flat_map things_of items)) ∙ length-append (flat_map body (things_of item)) (flat_map body (flat_map things_of items)) in
      let first = what_counted (what_of item) in
      let rest = items_counted items in
      let owns : length (own item ++ flat_map own items) ≡ length (own item) + count own items = length-append (own item) (flat_map own items) in
      let both : count own (flat_map note_items (note_of item ++ flat_map note_of items)) ≡ count own (flat_map note_items (note_of item)) + count own (flat_map note_items (flat_map note_of items)) =
      ap (count own) (flat_map-append note_items (note_of item) (flat_map note_of items)) ∙ count_both own (flat_map note_items (note_of item)) (flat_map note_items (flat_map note_of items)) in
      omega (arith, whole, first, rest, owns, both)

  pub doc_counted : (doc : Document) → length (flat_map body (flat_map things_of (body_items doc))) ≡ count own (all_items doc)
  doc_counted doc =
      let here = items_counted (body_items doc) in
      let held : count own (flat_map note_items (notes doc)) ≡ count own (flat_map note_items (flat_map note_of (body_items doc))) = ap (λ (some : List DocNote). count own (flat_map note_items some)) (notes_are doc) in
      let all = all_counted own doc in
      omega (arith, here, held, all)

-- one of some
abbrev pub AnyIn : {X : Type 0} → (X → Type 0) → List X → Type 0
AnyIn P [] = ⊥
AnyIn P (x ∷ xs) = P x ⊎ AnyIn P xs

at_place : {X : Type 0} (P : X → Type 0) (xs : List X) (at : ℕ) (x : X) → at < length xs → slice_index_or xs at x ≡ x → P x → AnyIn P xs
at_place P [] at x h is holds = absurd (omega (arith, h))
at_place P (y ∷ xs) zero x h is holds = inl (subst P (sym is) holds)
at_place P (y ∷ xs) (suc at) x h is holds = inr (at_place P xs at x (omega (arith, h)) is holds)

pub any_in : {X : Type 0} (P : X → Type 0) (xs : List X) → Any P xs → AnyIn P xs
any_in P xs any = at_place P xs any.0 any.1 any.2 any.3 any.4

pub any_mapped : {X Y : Type 0} (P : Y → Type 0) (f : X → Y) (xs : List X) → AnyIn P (map f xs) → AnyIn (λ x. P (f x)) xs
any_mapped P f [] any = any
any_mapped P f (x ∷ xs) (inl here) = inl here
any_mapped P f (x ∷ xs) (inr more) = inr (any_mapped P f xs more)
