-- The marks of a bookmark that are met are a point, or both ends in one text.
use Rattle.std.proofs.Common.{◌≡◌, inl, inr, ◌≤◌, ℕ, ◌+◌, Bool, true, false, cond, List, [], ◌∷◌, ◌++◌, map, length, refl, sym, ap, ap₂, ◌∙◌, subst, arith, append-nil, bytes_eq, length-append}
use Rattle.std.specs.List.{flat_map, filter, AllByRecursion as Each}
use Rattle.std.proofs.lemmas.Grind.{flat_map-append}
use Rattle.std.proofs.lemmas.List.{map-append}
use Rattle.doc_model.specs.declared.document.Document.{Document}
use Rattle.doc_model.specs.declared.field.Field.{Field}
use Rattle.doc_model.specs.declared.paragraph.Item.{Item}
use Rattle.doc_model.specs.declared.paragraph.Mark.{Mark as DocMark}
use Rattle.doc_model.specs.declared.paragraph.Mark.TheVariants as mark
use Rattle.doc_model.specs.declared.paragraph.Note.{Note as DocNote}
use Rattle.doc_model.specs.declared.paragraph.Par.{Par}
use Rattle.doc_model.specs.declared.paragraph.What.{What}
use Rattle.doc_model.specs.declared.paragraph.What.TheOpen.{What-F}
use Rattle.doc_model.specs.Parts.{all_items, mark_name, mark_of, notes, what_of}
use Rattle.doc_model.specs.Reading.{note_of}
use Rattle.doc_model.specs.Valid.{AreMarksOf, IsBookmark, marks_named}
use Rattle.load_model.specs.Met.{Met, Section, Mark, Note, Reference, Sequence, Variable, Table, marks_met}
use Rattle.back_met.proofs.Readable.{marks_in}
use Rattle.back_kept.proofs.Apart.{turned}
use Rattle.back_met.specs.Things.{block_things, AreMet, Counted, Headed, IsMet, Marked, Noted, Thing, kind_of, note_items, things_in, things_of}
use Rattle.back_kept.proofs.Counts.{AnyIn, all_counted, any_in, any_mapped, body_items, count, each_same, notes_are, twice}
use Rattle.back_kept.proofs.Marks.{IsWhole, Seen, seen, seen_at, seen_of}
use Rattle.back_kept.proofs.Told.{Tells, field_told, head_told, inner_told, mark_told, note_told, quiet_field, quiet_id, told_items}

abbrev notes_in : What-F What Item DocNote Par → List DocNote
notes_in (What-F.Note note) = note ∷ []
notes_in _ = []

abbrev noted : Thing → List DocNote
noted (Noted note) = note ∷ []
noted _ = []

what_noted : (what : What-F What Item DocNote Par) → flat_map noted (things_in what) ≡ notes_in what
what_noted (What-F.Char c) = refl
what_noted What-F.Tab = refl
what_noted What-F.Break = refl
what_noted (What-F.Field field) = refl
what_noted (What-F.Note note) = refl
what_noted (What-F.Mark mark) = refl

-- the notes among the things of a document
notes_noted : (doc : Document) → flat_map noted (flat_map block_things doc.body) ≡ notes doc
notes_noted doc =
    told_items noted (λ name. refl) doc ∙ twice noted things_of (body_items doc) ∙ each_same (λ (item : Item). flat_map noted (things_of item)) note_of (λ item. what_noted (what_of item)) (body_items doc) ∙ sym (notes_are doc)

module _ (name : List ℕ) where
  -- the marks of the name
  abbrev own_mark : DocMark → List DocMark
  own_mark mark = cond (bytes_eq name (mark_name mark)) (mark ∷ []) []

  abbrev named_marks : List Item → List DocMark
  named_marks items = flat_map own_mark (flat_map mark_of items)

  filter_named : (marks : List DocMark) → filter (λ mark. bytes_eq (mark_name mark) name) marks ≡ flat_map own_mark marks
  filter_named [] = refl
  filter_named (mark ∷ marks) =
      ap₂ (λ (b : Bool) (more : List DocMark). cond b (mark ∷ more) more) (turned (mark_name mark) name) (filter_named marks) ∙ by_test (bytes_eq name (mark_name mark)) where
        by_test : (b : Bool) → cond b (mark ∷ flat_map own_mark marks) (flat_map own_mark marks) ≡ cond b (mark ∷ []) [] ++ flat_map own_mark marks
        by_test true = refl
        by_test false = refl

  -- what is told of the marks that are met
  abbrev tell : Met → List Seen
  tell (Mark mark) = seen_of name mark
  tell _ = []

  abbrev no_head : List ℕ → List Seen
  no_head head = []

  abbrev no_field : Field → List Seen
  no_field field = []

  abbrev of_mark : ℕ → DocMark → List Seen
  of_mark text mark = cond (bytes_eq name (mark_name mark)) (seen_at (kind_of mark) text ∷ []) []

  tells : Tells tell no_head of_mark no_field no_head
  tells = record {
    heads = λ place head around. refl;
    marks = λ place text mark. refl;
    fields = quiet_field tell (λ one. refl) (λ one. refl) (λ one. refl);
    ids = quiet_id tell (λ one. refl);
  }

  pub seen_met : (met : List Met) → flat_map tell met ≡ seen name (marks_met met)
  seen_met [] = refl
  seen_met (Mark mark ∷ met) = ap (λ (more : List Seen). seen_of name mark ++ more) (seen_met met)
  seen_met (Section one ∷ met) = seen_met met
  seen_met (Note one ∷ met) = seen_met met
  seen_met (Reference one ∷ met) = seen_met met
  seen_met (Sequence one ∷ met) = seen_met met
  seen_met (Variable one ∷ met) = seen_met met
  seen_met (Table one ∷ met) = seen_met met

  -- the marks of a text, as they are met in it
  abbrev at_text : ℕ → DocMark → Seen
  at_text text mark = seen_at (kind_of mark) text

  abbrev inner : ℕ → Thing → List Seen
  inner text = inner_told tell no_head of_mark no_field no_head tells text

  what_marks : (text : ℕ) (what : What-F What Item DocNote Par) → flat_map (inner text) (things_in what) ≡ map (at_text text) (flat_map own_mark (marks_in what))
  what_marks text (What-F.Char c) = refl
  what_marks text What-F.Tab = refl
  what_marks text What-F.Break = refl
  what_marks text (What-F.Field field) = refl
  what_marks text (What-F.Note note) = refl
  what_marks text (What-F.Mark mark) = by_test (bytes_eq name (mark_name mark)) where
    by_test : (b : Bool) → cond b (at_text text mark ∷ []) [] ++ [] ≡ map (at_text text) (cond b (mark ∷ []) [] ++ [])
    by_test true = refl
    by_test false = refl

  text_marks : (text : ℕ) (items : List Item) → flat_map (inner text) (flat_map things_of items) ≡ map (at_text text) (named_marks items)
  text_marks text [] = refl
  text_marks text (item ∷ items) =
      flat_map-append (inner text) (things_of item) (flat_map things_of items) ∙ ap₂ (λ (a b : List Seen). a ++ b) (what_marks text (what_of item)) (text_marks text items)
      ∙ sym (ap (map (at_text text)) (flat_map-append own_mark (mark_of item) (flat_map mark_of items)) ∙ map-append (at_text text) (flat_map own_mark (mark_of item)) (named_marks items))

  whole_of : (text : ℕ) (marks : List DocMark) → AreMarksOf name marks → IsWhole (map (at_text text) marks)
  whole_of text marks are = (
    text,
    elim are [
      | inl e ↦ inl (ap (map (at_text text)) e)
      | inr more ↦ elim more [
        | inl e ↦ inr (inl (ap (map (at_text text)) e))
        | inr e ↦ inr (inr (ap (map (at_text text)) e))
      ]
    ],
  )

  -- a point weighs as much as both ends
  abbrev weight : DocMark → List DocMark
  weight (mark.Point called) = mark.Point called ∷ mark.Point called ∷ []
  weight (mark.Start called) = mark.Start called ∷ []
  weight (mark.End called) = mark.End called ∷ []

  abbrev weights : Item → List DocMark
  weights item = flat_map weight (flat_map own_mark (mark_of item))

  weighed : (items : List Item) → flat_map weights items ≡ flat_map weight (named_marks items)
  weighed items = sym (ap (flat_map weight) (twice own_mark mark_of items) ∙ twice weight (λ (item : Item). flat_map own_mark (mark_of item)) items)

  two : (marks : List DocMark) → AreMarksOf name marks → length (flat_map weight marks) ≡ 2
  two marks are = elim are [
    | inl e ↦ ap (λ (some : List DocMark). length (flat_map weight some)) e
    | inr more ↦ elim more [
      | inl e ↦ ap (λ (some : List DocMark). length (flat_map weight some)) e
      | inr e ↦ ap (λ (some : List DocMark). length (flat_map weight some)) e
    ]
  ]

  none : (marks : List DocMark) → length (flat_map weight marks) ≡ 0 → marks ≡ []
  none [] e = refl
  none (mark.Point called ∷ marks) e = absurd (omega (arith, e))
  none (mark.Start called ∷ marks) e = absurd (omega (arith, e))
  none (mark.End called ∷ marks) e = absurd (omega (arith, e))

  named_is : (items : List Item) → marks_named name items ≡ named_marks items
  named_is items = filter_named (flat_map mark_of items)

  two_of : (items : List Item) → AreMarksOf name (marks_named name items) → count weights items ≡ 2
  two_of items are = ap length (weighed items) ∙ two (named_marks items) (subst (AreMarksOf name) (named_is items) are)

  none_of : (items : List Item) → count weights items ≡ 0 → named_marks items ≡ []
  none_of items e = none (named_marks items) (sym (ap length (weighed items)) ∙ e)

  -- the weights of things: of the marks in the body, and of those in notes
  abbrev in_body : Thing → List DocMark
  in_body (Marked mark) = flat_map weight (own_mark mark)
  in_body _ = []

  abbrev in_notes : Thing → List DocMark
  in_notes (Noted note) = flat_map weights (note_items note)
  in_notes _ = []

  abbrev IsQuiet : Thing → Type 0
  IsQuiet (Noted note) = named_marks (note_items note) ≡ []
  IsQuiet _ = Unit {0}

  all_quiet : (things : List Thing) → length (flat_map in_notes things) ≡ 0 → Each IsQuiet things
  all_quiet [] e = tt
  all_quiet (Headed head ∷ things) e = (tt, all_quiet things e)
  all_quiet (Marked mark ∷ things) e = (tt, all_quiet things e)
  all_quiet (Counted field ∷ things) e = (tt, all_quiet things e)
  all_quiet (Noted note ∷ things) e =
      let sum = length-append (flat_map weights (note_items note)) (flat_map in_notes things) in
      (none_of (note_items note) (omega (arith, e, sum)), all_quiet things (omega (arith, e, sum)))

  -- where no note has a mark of the name, those of the body alone are met
  body_seen : (things : List Thing) (met : List Met) → AreMet IsMet things met → Each IsQuiet things → flat_map tell met ≡ flat_map (inner 0) things
  body_seen [] met e quiet = ap (flat_map tell) e
  body_seen (thing ∷ things) met are quiet =
      ap (flat_map tell) are.2 ∙ flat_map-append tell are.0 are.1 ∙ ap₂ (λ (a b : List Seen). a ++ b) (one thing are.0 are.3 quiet.0) (body_seen things are.1 are.4 quiet.1) where
        one : (thing : Thing) (met : List Met) → IsMet thing met → IsQuiet thing → flat_map tell met ≡ inner 0 thing
        one (Headed head) met is quiet = head_told tell no_head of_mark no_field no_head tells head met is
        one (Marked mark) met is quiet = mark_told tell no_head of_mark no_field no_head tells mark met is
        one (Counted field) met is quiet = field_told tell no_head of_mark no_field no_head tells field met is
        one (Noted note) met is quiet =
            let told = note_told tell no_head of_mark no_field no_head tells note met is in
            told.1 ∙ text_marks told.0 (note_items note) ∙ ap (map (at_text told.0)) quiet

  -- nothing is met of what weighs nothing
  unseen : (mark : DocMark) → length (flat_map weight (own_mark mark)) ≡ 0 → of_mark 0 mark ≡ []
  unseen mark e = by_test (bytes_eq name (mark_name mark)) (none (own_mark mark) e) where
    by_test : (b : Bool) → cond b (mark ∷ []) [] ≡ [] → cond b (at_text 0 mark ∷ []) [] ≡ []
    by_test true h = cc
    by_test false h = refl

  nothing_seen : (things : List Thing) → length (flat_map in_body things) ≡ 0 → flat_map (inner 0) things ≡ []
  nothing_seen [] e = refl
  nothing_seen (Headed head ∷ things) e = nothing_seen things e
  nothing_seen (Counted field ∷ things) e = nothing_seen things e
  nothing_seen (Noted note ∷ things) e = nothing_seen things e
  nothing_seen (Marked mark ∷ things) e =
      let sum = length-append (flat_map weight (own_mark mark)) (flat_map in_body things) in
      ap₂ (λ (a b : List Seen). a ++ b) (unseen mark (omega (arith, e, sum))) (nothing_seen things (omega (arith, e, sum)))

  abbrev IsWholeNote : DocNote → Type 0
  IsWholeNote note = AreMarksOf name (marks_named name (note_items note))

  two_in_notes : (things : List Thing) → AnyIn IsWholeNote (flat_map noted things) → 2 ≤ length (flat_map in_notes things)
  two_in_notes [] any = absurd any
  two_in_notes (Headed head ∷ things) any = two_in_notes things any
  two_in_notes (Marked mark ∷ things) any = two_in_notes things any
  two_in_notes (Counted field ∷ things) any = two_in_notes things any
  two_in_notes (Noted note ∷ things) (inl is) =
      let sum = length-append (flat_map weights (note_items note)) (flat_map in_notes things) in
      let own = two_of (note_items note) is in
      omega (arith, sum, own)
  two_in_notes (Noted note ∷ things) (inr any) =
      let sum = length-append (flat_map weights (note_items note)) (flat_map in_notes things) in
      let rest = two_in_notes things any in
      omega (arith, sum, rest)

  behind : (one more met : List Met) → met ≡ one ++ more → flat_map tell one ≡ [] → IsWhole (flat_map tell more) → IsWhole (flat_map tell met)
  behind one more met parts e is =
      subst IsWhole (sym (ap (flat_map tell) parts ∙ flat_map-append tell one more ∙ ap (λ (front : List Seen). front ++ flat_map tell more) e)) is

  -- where a note has the whole bookmark, it is met in that
  note_seen : (things : List Thing) (met : List Met) → AreMet IsMet things met → AnyIn IsWholeNote (flat_map noted things) → length (flat_map in_body things) + length (flat_map in_notes things) ≤ 2 → IsWhole (flat_map tell met)
  note_seen [] met are any few = absurd any
  note_seen (Headed head ∷ things) met are any few = behind are.0 are.1 met are.2 (head_told tell no_head of_mark no_field no_head tells head are.0 are.3) (note_seen things are.1 are.4 any few)
  note_seen (Counted field ∷ things) met are any few = behind are.0 are.1 met are.2 (field_told tell no_head of_mark no_field no_head tells field are.0 are.3) (note_seen things are.1 are.4 any few)
  note_seen (Marked mark ∷ things) met are any few =
      let sum = length-append (flat_map weight (own_mark mark)) (flat_map in_body things) in
      let rest = two_in_notes things any in
      behind are.0 are.1 met are.2 (mark_told tell no_head of_mark no_field no_head tells mark are.0 are.3 ∙ unseen mark (omega (arith, sum, rest, few))) (note_seen things are.1 are.4 any (omega (arith, sum, few)))
  note_seen (Noted note ∷ things) met are (inr any) few =
      let sum = length-append (flat_map weights (note_items note)) (flat_map in_notes things) in
      let rest = two_in_notes things any in
      let told = note_told tell no_head of_mark no_field no_head tells note are.0 are.3 in
      behind are.0 are.1 met are.2 (told.1 ∙ text_marks told.0 (note_items note) ∙ ap (map (at_text told.0)) (none_of (note_items note) (omega (arith, sum, rest, few)))) (note_seen things are.1 are.4 any (omega (arith, sum, few)))
  note_seen (Noted note ∷ things) met are (inl is) few =
      let sum = length-append (flat_map weights (note_items note)) (flat_map in_notes things) in
      let own = two_of (note_items note) is in
      let told = note_told tell no_head of_mark no_field no_head tells note are.0 are.3 in
      let later : flat_map tell are.1 ≡ [] = body_seen things are.1 are.4 (all_quiet things (omega (arith, sum, own, few))) ∙ nothing_seen things (omega (arith, sum, own, few)) in
      subst IsWhole (sym (ap (flat_map tell) are.2 ∙ flat_map-append tell are.0 are.1 ∙ ap₂ (λ (a b : List Seen). a ++ b) (told.1 ∙ text_marks told.0 (note_items note)) later ∙ append-nil (map (at_text told.0) (named_marks (note_items note)))))
      (whole_of told.0 (named_marks (note_items note)) (subst (AreMarksOf name) (named_is (note_items note)) is))

  -- all that a document has
  what_body : (what : What-F What Item DocNote Par) → flat_map in_body (things_in what) ≡ flat_map weight (flat_map own_mark (marks_in what))
  what_body (What-F.Char c) = refl
  what_body What-F.Tab = refl
  what_body What-F.Break = refl
  what_body (What-F.Field field) = refl
  what_body (What-F.Note note) = refl
  what_body (What-F.Mark mark) = by_test (bytes_eq name (mark_name mark)) where
    by_test : (b : Bool) → flat_map weight (cond b (mark ∷ []) []) ++ [] ≡ flat_map weight (cond b (mark ∷ []) [] ++ [])
    by_test true = append-nil (flat_map weight (mark ∷ []))
    by_test false = refl

  what_notes : (what : What-F What Item DocNote Par) → flat_map in_notes (things_in what) ≡ flat_map (λ (note : DocNote). flat_map weights (note_items note)) (notes_in what)
  what_notes (What-F.Char c) = refl
  what_notes What-F.Tab = refl
  what_notes What-F.Break = refl
  what_notes (What-F.Field field) = refl
  what_notes (What-F.Note note) = refl
  what_notes (What-F.Mark mark) = refl

  body_weight : (doc : Document) → length (flat_map in_body (flat_map block_things doc.body)) ≡ count weights (body_items doc)
  body_weight doc =
      ap length (told_items in_body (λ head. refl) doc ∙ twice in_body things_of (body_items doc) ∙ each_same (λ (item : Item). flat_map in_body (things_of item)) weights (λ item. what_body (what_of item)) (body_items doc))

  notes_weight : (doc : Document) → length (flat_map in_notes (flat_map block_things doc.body)) ≡ count weights (flat_map note_items (notes doc))
  notes_weight doc =
      ap length (told_items in_notes (λ head. refl) doc ∙ twice in_notes things_of (body_items doc)
      ∙ each_same (λ (item : Item). flat_map in_notes (things_of item)) (λ (item : Item). flat_map (λ (note : DocNote). flat_map weights (note_items note)) (note_of item)) (λ item. what_notes (what_of item)) (body_items doc)
      ∙ sym (twice (λ (note : DocNote). flat_map weights (note_items note)) note_of (body_items doc)) ∙ ap (flat_map (λ (note : DocNote). flat_map weights (note_items note))) (sym (notes_are doc))
      ∙ sym (twice weights note_items (notes doc)))

  pub bookmark_seen : (doc : Document) (met : List Met) → AreMet IsMet (flat_map block_things doc.body) met → IsBookmark doc name → IsWhole (seen name (marks_met met))
  bookmark_seen doc met are is = subst IsWhole (seen_met met) (by_text (any_in (λ text. AreMarksOf name (marks_named name text)) (body_items doc ∷ map note_items (notes doc)) is.2)) where
    things : List Thing
    things = flat_map block_things doc.body

    all : count weights (body_items doc) + count weights (flat_map note_items (notes doc)) ≡ 2
    all = sym (all_counted weights doc) ∙ two_of (all_items doc) is.1

    total : length (flat_map in_body things) + length (flat_map in_notes things) ≡ 2
    total = ap₂ (λ (a b : ℕ). a + b) (body_weight doc) (notes_weight doc) ∙ all

    by_text : AnyIn (λ text. AreMarksOf name (marks_named name text)) (body_items doc ∷ map note_items (notes doc)) → IsWhole (flat_map tell met)
    by_text (inl body) =
        let own = two_of (body_items doc) body in
        let own_is = body_weight doc in
        let sum = total in
        subst IsWhole (sym (body_seen things met are (all_quiet things (omega (arith, own, own_is, sum))) ∙ told_items (inner 0) (λ head. refl) doc ∙ text_marks 0 (body_items doc)))
        (whole_of 0 (named_marks (body_items doc)) (subst (AreMarksOf name) (named_is (body_items doc)) body))
    by_text (inr some) =
        let sum = total in
        note_seen things met are (subst (AnyIn IsWholeNote) (sym (notes_noted doc)) (any_mapped (λ text. AreMarksOf name (marks_named name text)) note_items (notes doc) some)) (omega (arith, sum))
