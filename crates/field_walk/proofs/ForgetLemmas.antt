-- What a walk holds when what was gathered last is taken back.
use Rattle.std.proofs.Common.{◌≡◌, ℕ, ◌-◌, Bool, true, false, List, [], ◌∷◌, ◌++◌, map, take, length, refl, ap, sym, ◌∙◌, arith}
use Rattle.std.specs.Prelude.{◌&&◌, Option, Some, nat_eq, if◌then◌else◌, Result, Ok, Err, OnErr, IsErrAnd, MatchResult, IsSome}
use Rattle.std.specs.Str.{bytes_eq}
use Rattle.std.proofs.lemmas.List.{length-append, length-map}
use Rattle.field_model.specs.Cut.{cut}
use Rattle.field_model.specs.declared.gathered.Piece.{Piece}
use Rattle.field_model.specs.declared.gathered.Piece.TheVariants.{Gap, Char, Number, Variable}
use Rattle.field_model.specs.Gathered.{Event, Head, Letter, Counted, Assigned, Asked, Cited, Marked, Other, in_note, note_places, spot, same_text}
use Rattle.field_model.specs.Quotes.{pieces_and}
use Rattle.doc_model.specs.declared.field.Format.{Format}
use Rattle.doc_model.specs.declared.field.NoteClass.{NoteClass}
use Rattle.doc_model.specs.declared.field.NoteClass.TheVariants.{Footnote, Endnote}
use Rattle.field_model.specs.declared.gathered.Spot.{Spot}
use Rattle.field_model.specs.declared.gathered.Target.{Target}
use Rattle.field_model.specs.declared.gathered.VariableSet.{VariableSet}
use Rattle.field_model.specs.declared.gathered.SequenceTarget.{SequenceTarget}
use Rattle.field_model.specs.declared.gathered.NoteTarget.{NoteTarget}
use Rattle.field_model.specs.Fields.{place_of, heads, par_place, and_then, when, is_named, cited, marks, counted, assigned}
use Rattle.field_walk.specs.Steps.{without_last, without, cited_before, places_before}
use Rattle.field_walk.specs.declared.groups.Groups.{Groups}
use Rattle.field_walk.specs.declared.groups.Texts.{Texts}
use Rattle.field_walk.specs.declared.runs.Runs.{Runs}
use Rattle.indexmap.specs.IndexMap.{get}
use Rattle.field_walk.specs.Lists.{run_in, list_of, list_in}
use Rattle.field_walk.specs.Holds.{HoldsEvents, IsKept}
use Rattle.field_walk.specs.declared.walk.Walk.{Walk}
use Rattle.field_walk.specs.declared.forget.Kept.{Kept}
use Rattle.std.proofs.lemmas.Bool.Decides.{nat_tests}
use Rattle.doc_model.specs.declared.paragraph.ParHead.{ParHead}
use Rattle.doc_model.specs.declared.page.Label.{Label}
use Rattle.field_model.specs.declared.gathered.Gathered.{Gathered}
use Rattle.field_model.specs.declared.gathered.Gathered.TheVariants as place

-- the front of a list is what there was before more was added
pub front : {X : Type 0} (xs more : List X) → take (length xs) (xs ++ more) ≡ xs
front [] [] = refl
front [] (y ∷ more) = refl
front (x ∷ xs) more = ap (λ (rest : List _). x ∷ rest) (front xs more)

pub taken_back : {X : Type 0} (xs more : List X) → take (length (xs ++ more) - length more) (xs ++ more) ≡ xs
taken_back xs more =
    let count : length (xs ++ more) - length more ≡ length xs = omega (arith, length-append xs more) in
    rw count (front xs more)

-- a list whose last one was taken back
pub unlisted : {X : Type 0} (test : Bool) (x : X) (now old known : List X) → old ≡ and_then known (when test x) → now ≡ without_last test old → now ≡ known
unlisted true x now old known e f = f ∙ rw e (taken_back known (x ∷ []))
unlisted false x now old known e f = f ∙ e

pub unlisted_in : {X : Type 0} (noted had here same : Bool) (x : X) (now old known : List X) → had ≡ here → old ≡ and_then known (when (same_text noted here && same) x) → now ≡ without_last (same_text noted had && same) old → now ≡ known
unlisted_in noted had here same x now old known e f g = unlisted (same_text noted here && same) x now old known f (rw (← e) g)

without_added : (noted here : Bool) (known more : List Piece) → without noted here (length more) (pieces_and noted here known more) ≡ known
without_added true true known more = taken_back known more
without_added true false known more = refl
without_added false true known more = refl
without_added false false known more = taken_back known more

-- pieces that were taken back
pub removed : (noted had here : Bool) (count : ℕ) (now old known more : List Piece) → had ≡ here → old ≡ pieces_and noted here known more → count ≡ length more → now ≡ without noted had count old → now ≡ known
removed noted had here count now old known more e f n g = g ∙ rw (e, f, n) (without_added noted here known more)

-- pieces of which the front is left
pub front_left : (noted here : Bool) (old now more : List Piece) (count : ℕ) → now ≡ pieces_and noted here old more → (same_text noted here ≡ true → count ≡ length old) → (if same_text noted here then take count now else now) ≡ old
front_left true true old now more count e n = rw (e, n refl) (front old more)
front_left true false old now more count e n = e
front_left false true old now more count e n = e
front_left false false old now more count e n = rw (e, n refl) (front old more)

pub same_length : (runs : Runs) (noted here : Bool) → same_text noted here ≡ true → length (run_in runs here) ≡ length (run_in runs noted)
same_length runs true true e = refl
same_length runs false false e = refl
same_length runs true false e = let never : false ≡ true = e in cc
same_length runs false true e = let never : false ≡ true = e in cc

-- the place of a note item that was taken back
pub unplaced : (had here : Bool) (place : ℕ) (now old known : List ℕ) → had ≡ here → old ≡ (if here then known else known ++ place ∷ []) → now ≡ (if had then old else take (length old - 1) old) → now ≡ known
unplaced true true place now old known e f g = g ∙ f
unplaced false false place now old known e f g = g ∙ rw f (taken_back known (place ∷ []))
unplaced true false place now old known e f g = let never : true ≡ false = e in cc
unplaced false true place now old known e f g = let never : false ≡ true = e in cc

-- a statement of an error
pub on_err : {T E : Type 0} {P Q : Type 0} (result : Result T E) → (P → Q) → OnErr result P → OnErr result Q
on_err (Ok x) f p = p
on_err (Err x) f p = f p

pub always_err : {T E : Type 0} {P : Type 0} (result : Result T E) → P → OnErr result P
always_err (Ok x) p = tt
always_err (Err x) p = p

pub failed : {T E Q : Type 0} (P : Type 0) (R : E → Type 0) (result : Result T E) → IsErrAnd result R → Q → MatchResult result (λ _. P) (λ _. Q)
failed P R (Ok x) handed q = absurd handed
failed P R (Err x) handed q = q

pub same_notes : {T : Type 0} (texts : Texts T) (now : Groups T) → ((asked : List ℕ) → list_of now asked ≡ list_of texts.notes asked) → (noted : Bool) (asked : List ℕ) → list_in (record texts { notes = now }) noted asked ≡ list_in texts noted asked
same_notes texts now e false asked = refl
same_notes texts now e true asked = e asked

pub same_body : {T : Type 0} (texts : Texts T) (now : Groups T) → ((asked : List ℕ) → list_of now asked ≡ list_of texts.body asked) → (noted : Bool) (asked : List ℕ) → list_in (record texts { body = now }) noted asked ≡ list_in texts noted asked
same_body texts now e false asked = e asked
same_body texts now e true asked = refl

-- a walk whose lists have what they had
pub as_before : (walk after : Walk) (all : List Event) → HoldsEvents walk all → after.note_places.items ≡ walk.note_places.items → after.pars.items ≡ walk.pars.items → ((id : ℕ) → get nat_eq after.places id ≡ get nat_eq walk.places id) → ((noted : Bool) → run_in after.runs noted ≡ run_in walk.runs noted) → ((noted : Bool) (name : List ℕ) → list_in after.counted noted name ≡ list_in walk.counted noted name) → ((noted : Bool) (name : List ℕ) → list_in after.assigned noted name ≡ list_in walk.assigned noted name) → ((name : List ℕ) → list_of after.marks name ≡ list_of walk.marks name) → ((name : List ℕ) → list_of after.sequences name ≡ list_of walk.sequences name) → ((name : List ℕ) → list_of after.notes name ≡ list_of walk.notes name) → HoldsEvents (record walk { note_places = after.note_places; pars = after.pars; places = after.places; runs = after.runs; counted = after.counted; assigned = after.assigned; marks = after.marks; sequences = after.sequences; notes = after.notes }) all
as_before walk after all h places pars ids runs counted assigned marks sequences notes = record {
  count = h.count;
  in_note = h.in_note;
  anchor = h.anchor;
  note_places = places ∙ h.note_places;
  pars = pars ∙ h.pars;
  places = λ id. ids id ∙ h.places id;
  chapters = h.chapters;
  footnotes = h.footnotes;
  endnotes = h.endnotes;
  runs = λ noted. runs noted ∙ h.runs noted;
  counted = λ noted name. counted noted name ∙ h.counted noted name;
  assigned = λ noted name. assigned noted name ∙ h.assigned noted name;
  marks = λ name. marks name ∙ h.marks name;
  sequences = λ name. sequences name ∙ h.sequences name;
  notes = λ name. notes name ∙ h.notes name;
  in_order = h.in_order;
}

pub other_forgot : (walk : Walk) (all : List Event) → HoldsEvents walk (Other ∷ all) → HoldsEvents (record walk { count = walk.count - 1 }) all
other_forgot walk all h = record {
  count = omega (arith, h.count);
  in_note = h.in_note;
  anchor = h.anchor;
  note_places = h.note_places;
  pars = h.pars;
  places = h.places;
  chapters = h.chapters;
  footnotes = h.footnotes;
  endnotes = h.endnotes;
  runs = h.runs;
  counted = h.counted;
  assigned = h.assigned;
  marks = h.marks;
  sequences = h.sequences;
  notes = h.notes;
  in_order = h.in_order;
}

pub letter_forgot : (walk : Walk) (all : List Event) (runs : Runs) (letter : ℕ) → HoldsEvents walk (Letter letter ∷ all) → ((noted : Bool) → run_in runs noted ≡ without noted walk.in_note 1 (run_in walk.runs noted)) → HoldsEvents (record walk { runs = runs; count = walk.count - 1 }) all
letter_forgot walk all runs letter h e = record {
  count = omega (arith, h.count);
  in_note = h.in_note;
  anchor = h.anchor;
  note_places = h.note_places;
  pars = h.pars;
  places = h.places;
  chapters = h.chapters;
  footnotes = h.footnotes;
  endnotes = h.endnotes;
  runs = λ noted. removed noted walk.in_note (in_note all) 1 _ _ _ (Char letter ∷ []) h.in_note (h.runs noted) refl (e noted);
  counted = h.counted;
  assigned = h.assigned;
  marks = h.marks;
  sequences = h.sequences;
  notes = h.notes;
  in_order = h.in_order;
}

pub asked_forgot : (walk : Walk) (all : List Event) (runs : Runs) (name : List ℕ) → HoldsEvents walk (Asked name ∷ all) → ((noted : Bool) → run_in runs noted ≡ without noted walk.in_note 1 (run_in walk.runs noted)) → HoldsEvents (record walk { runs = runs; count = walk.count - 1 }) all
asked_forgot walk all runs name h e = record {
  count = omega (arith, h.count);
  in_note = h.in_note;
  anchor = h.anchor;
  note_places = h.note_places;
  pars = h.pars;
  places = h.places;
  chapters = h.chapters;
  footnotes = h.footnotes;
  endnotes = h.endnotes;
  runs = λ noted. removed noted walk.in_note (in_note all) 1 _ _ _ (Variable name (spot all) ∷ []) h.in_note (h.runs noted) refl (e noted);
  counted = h.counted;
  assigned = h.assigned;
  marks = h.marks;
  sequences = h.sequences;
  notes = h.notes;
  in_order = h.in_order;
}

pub set_forgot : (walk : Walk) (all : List Event) (assigned : Texts VariableSet) (runs : Runs) (name value : List ℕ) (count : ℕ) → HoldsEvents walk (Assigned name value ∷ all) → ((noted : Bool) (asked : List ℕ) → list_in assigned noted asked ≡ without_last (same_text noted walk.in_note && bytes_eq asked name) (list_in walk.assigned noted asked)) → ((noted : Bool) → run_in runs noted ≡ without noted walk.in_note count (run_in walk.runs noted)) → count ≡ length (cut value) → HoldsEvents (record walk { assigned = assigned; runs = runs; count = walk.count - 1 }) all
set_forgot walk all assigned runs name value count h a e n = record {
  count = omega (arith, h.count);
  in_note = h.in_note;
  anchor = h.anchor;
  note_places = h.note_places;
  pars = h.pars;
  places = h.places;
  chapters = h.chapters;
  footnotes = h.footnotes;
  endnotes = h.endnotes;
  runs = λ noted. removed noted walk.in_note (in_note all) count _ _ _ (map Char (cut value)) h.in_note (h.runs noted) (n ∙ sym (length-map (cut value) Char)) (e noted);
  counted = h.counted;
  assigned = λ noted asked. unlisted_in noted walk.in_note (in_note all) (bytes_eq asked name) _ _ _ _ h.in_note (h.assigned noted asked) (a noted asked);
  marks = h.marks;
  sequences = h.sequences;
  notes = h.notes;
  in_order = h.in_order;
}

pub mark_forgot : (walk : Walk) (all : List Event) (marks : Groups Target) (name : List ℕ) → HoldsEvents walk (Marked name ∷ all) → ((asked : List ℕ) → list_of marks asked ≡ without_last (bytes_eq asked name) (list_of walk.marks asked)) → HoldsEvents (record walk { marks = marks; count = walk.count - 1 }) all
mark_forgot walk all marks name h m = record {
  count = omega (arith, h.count);
  in_note = h.in_note;
  anchor = h.anchor;
  note_places = h.note_places;
  pars = h.pars;
  places = h.places;
  chapters = h.chapters;
  footnotes = h.footnotes;
  endnotes = h.endnotes;
  runs = h.runs;
  counted = h.counted;
  assigned = h.assigned;
  marks = λ asked. unlisted (bytes_eq asked name) _ _ _ _ (h.marks asked) (m asked);
  sequences = h.sequences;
  notes = h.notes;
  in_order = h.in_order;
}

pub sequence_forgot : (walk : Walk) (all : List Event) (sequences : Groups SequenceTarget) (counted : Texts Spot) (runs : Runs) (name refname : List ℕ) (format : Format) → HoldsEvents walk (Counted name refname format ∷ all) → ((asked : List ℕ) → list_of sequences asked ≡ without_last (is_named refname && bytes_eq asked refname) (list_of walk.sequences asked)) → ((noted : Bool) (asked : List ℕ) → list_in counted noted asked ≡ without_last (same_text noted walk.in_note && bytes_eq asked name) (list_in walk.counted noted asked)) → ((noted : Bool) → run_in runs noted ≡ without noted walk.in_note 1 (run_in walk.runs noted)) → HoldsEvents (record walk { sequences = sequences; counted = counted; runs = runs; count = walk.count - 1 }) all
sequence_forgot walk all sequences counted runs name refname format h m a e = record {
  count = omega (arith, h.count);
  in_note = h.in_note;
  anchor = h.anchor;
  note_places = h.note_places;
  pars = h.pars;
  places = h.places;
  chapters = h.chapters;
  footnotes = h.footnotes;
  endnotes = h.endnotes;
  runs = λ noted. removed noted walk.in_note (in_note all) 1 _ _ _ (Number name format (spot all) ∷ []) h.in_note (h.runs noted) refl (e noted);
  counted = λ noted asked. unlisted_in noted walk.in_note (in_note all) (bytes_eq asked name) _ _ _ _ h.in_note (h.counted noted asked) (a noted asked);
  assigned = h.assigned;
  marks = h.marks;
  sequences = λ asked. unlisted (is_named refname && bytes_eq asked refname) _ _ _ _ (h.sequences asked) (m asked);
  notes = h.notes;
  in_order = h.in_order;
}

-- a note of a class is counted no more
foot_uncited : (id : List ℕ) (class : NoteClass) (all : List Event) (now : ℕ) → now ≡ cited Footnote (Cited id class ∷ all) → cited_before Footnote class now ≡ cited Footnote all
foot_uncited id Footnote all now e = omega (arith, e)
foot_uncited id Endnote all now e = e

end_uncited : (id : List ℕ) (class : NoteClass) (all : List Event) (now : ℕ) → now ≡ cited Endnote (Cited id class ∷ all) → cited_before Endnote class now ≡ cited Endnote all
end_uncited id Footnote all now e = e
end_uncited id Endnote all now e = omega (arith, e)

pub note_forgot : (walk : Walk) (all : List Event) (notes : Groups NoteTarget) (kept : Walk) (id : List ℕ) (class : NoteClass) → HoldsEvents walk (Cited id class ∷ all) → ((asked : List ℕ) → list_of notes asked ≡ without_last (is_named id && bytes_eq asked id) (list_of walk.notes asked)) → kept.note_places.items ≡ (if walk.in_note then walk.note_places.items else take (length walk.note_places.items - 1) walk.note_places.items) → HoldsEvents (record walk { notes = notes; note_places = kept.note_places; footnotes = cited_before Footnote class walk.footnotes; endnotes = cited_before Endnote class walk.endnotes; count = walk.count - 1 }) all
note_forgot walk all notes kept id class h m p = record {
  count = omega (arith, h.count);
  in_note = h.in_note;
  anchor = h.anchor;
  note_places = unplaced walk.in_note (in_note all) (length all) _ _ _ h.in_note h.note_places p;
  pars = h.pars;
  places = h.places;
  chapters = h.chapters;
  footnotes = foot_uncited id class all walk.footnotes h.footnotes;
  endnotes = end_uncited id class all walk.endnotes h.endnotes;
  runs = h.runs;
  counted = h.counted;
  assigned = h.assigned;
  marks = h.marks;
  sequences = h.sequences;
  notes = λ asked. unlisted (is_named id && bytes_eq asked id) _ _ _ _ (h.notes asked) (m asked);
  in_order = h.in_order;
}

-- the places of note items when a paragraph is taken back
places_back : (place : Gathered) (head : ParHead) (label : Label) (all : List Event) (kept now : List ℕ) → now ≡ note_places (Head place head label ∷ all) → places_before place kept (note_places all) ≡ note_places all → places_before place kept now ≡ note_places all
places_back place.Body head label all kept now e k = k
places_back (place.Note number) head label all kept now e k = e

-- the places of paragraphs by numbers when a paragraph is taken back
number_back : (number id : ℕ) (all : List Event) (before had : Option ℕ) (test : Bool) → nat_eq number id ≡ test → before ≡ place_of number all → had ≡ (if test then Some (heads all) else place_of id all) → (if test then before else had) ≡ place_of id all
number_back number id all before had true t k h = let same : number ≡ id = grind (t, arith, nat_tests) in k ∙ ap (λ (n : ℕ). place_of n all) same
number_back number id all before had false t k h = h

has_number : (number place : ℕ) (found other : Option ℕ) → found ≡ (if nat_eq number number then Some place else other) → IsSome found
has_number number place found other e =
    let same : nat_eq number number ≡ true = grind (arith, nat_tests) in
    let is : found ≡ Some place = e ∙ ap (λ (test : Bool). if test then Some place else other) same in
    rw is refl

pub head_forgot : (walk after : Walk) (kept : Kept) (all : List Event) (place : Gathered) (head : ParHead) (label : Label) → HoldsEvents walk (Head place head label ∷ all) → IsKept kept place head all → ((noted : Bool) → run_in after.runs noted ≡ without noted walk.in_note 1 (run_in walk.runs noted)) → after.pars.items ≡ take (length walk.pars.items - 1) walk.pars.items → (IsSome (get nat_eq walk.places head.id.0) → (id : ℕ) → get nat_eq after.places id ≡ (if nat_eq head.id.0 id then kept.before else get nat_eq walk.places id)) → after.note_places.items ≡ places_before place kept.note_places.items walk.note_places.items → HoldsEvents (record walk { in_note = kept.in_note; anchor = kept.anchor; chapters = kept.chapters; note_places = after.note_places; pars = after.pars; places = after.places; runs = after.runs; count = walk.count - 1 }) all
head_forgot walk after kept all place head label h k e p n q = record {
  count = omega (arith, h.count);
  in_note = k.in_note;
  anchor = k.anchor;
  note_places = q ∙ places_back place head label all kept.note_places.items walk.note_places.items h.note_places k.note_places;
  pars = unlisted true (par_place place head label all) _ _ _ h.pars p;
  places = λ id. n (has_number head.id.0 (heads all) _ (place_of head.id.0 all) (h.places head.id.0)) id ∙ number_back head.id.0 id all kept.before (get nat_eq walk.places id) (nat_eq head.id.0 id) refl k.before (h.places id);
  chapters = k.chapters;
  footnotes = h.footnotes;
  endnotes = h.endnotes;
  runs = λ noted. removed noted walk.in_note _ 1 _ _ _ (Gap ∷ []) h.in_note (h.runs noted) refl (e noted);
  counted = h.counted;
  assigned = h.assigned;
  marks = h.marks;
  sequences = h.sequences;
  notes = h.notes;
  in_order = h.in_order.1;
}

pub runs_same : (walk : Walk) (all : List Event) (runs : Runs) → HoldsEvents walk all → ((noted : Bool) → run_in runs noted ≡ run_in walk.runs noted) → HoldsEvents (record walk { runs = runs }) all
runs_same walk all runs h e = as_before walk (record walk { runs = runs }) all h refl refl (λ id. refl) e (λ noted name. refl) (λ noted name. refl) (λ name. refl) (λ name. refl) (λ name. refl)

pub marks_same : (walk : Walk) (all : List Event) (marks : Groups Target) → HoldsEvents walk all → ((name : List ℕ) → list_of marks name ≡ list_of walk.marks name) → HoldsEvents (record walk { marks = marks }) all
marks_same walk all marks h e = as_before walk (record walk { marks = marks }) all h refl refl (λ id. refl) (λ noted. refl) (λ noted name. refl) (λ noted name. refl) e (λ name. refl) (λ name. refl)

pub sets_same : (walk : Walk) (all : List Event) (assigned : Texts VariableSet) (runs : Runs) → HoldsEvents walk all → ((noted : Bool) (name : List ℕ) → list_in assigned noted name ≡ list_in walk.assigned noted name) → ((noted : Bool) → run_in runs noted ≡ run_in walk.runs noted) → HoldsEvents (record walk { assigned = assigned; runs = runs }) all
sets_same walk all assigned runs h a e = as_before walk (record walk { assigned = assigned; runs = runs }) all h refl refl (λ id. refl) e (λ noted name. refl) a (λ name. refl) (λ name. refl) (λ name. refl)

pub sequences_same : (walk : Walk) (all : List Event) (sequences : Groups SequenceTarget) (counted : Texts Spot) (runs : Runs) → HoldsEvents walk all → ((name : List ℕ) → list_of sequences name ≡ list_of walk.sequences name) → ((noted : Bool) (name : List ℕ) → list_in counted noted name ≡ list_in walk.counted noted name) → ((noted : Bool) → run_in runs noted ≡ run_in walk.runs noted) → HoldsEvents (record walk { sequences = sequences; counted = counted; runs = runs }) all
sequences_same walk all sequences counted runs h s a e = as_before walk (record walk { sequences = sequences; counted = counted; runs = runs }) all h refl refl (λ id. refl) e a (λ noted name. refl) (λ name. refl) s (λ name. refl)

pub notes_same : (walk after : Walk) (all : List Event) (notes : Groups NoteTarget) → HoldsEvents walk all → after.note_places.items ≡ walk.note_places.items → ((name : List ℕ) → list_of notes name ≡ list_of walk.notes name) → HoldsEvents (record walk { notes = notes; note_places = after.note_places }) all
notes_same walk after all notes h p e = as_before walk (record walk { notes = notes; note_places = after.note_places }) all h p refl (λ id. refl) (λ noted. refl) (λ noted name. refl) (λ noted name. refl) (λ name. refl) (λ name. refl) e

pub pars_same : (walk after : Walk) (all : List Event) (runs : Runs) → HoldsEvents walk all → after.pars.items ≡ walk.pars.items → ((id : ℕ) → get nat_eq after.places id ≡ get nat_eq walk.places id) → ((noted : Bool) → run_in runs noted ≡ run_in walk.runs noted) → HoldsEvents (record walk { pars = after.pars; places = after.places; runs = runs }) all
pars_same walk after all runs h p n e = as_before walk (record walk { pars = after.pars; places = after.places; runs = runs }) all h refl p n e (λ noted name. refl) (λ noted name. refl) (λ name. refl) (λ name. refl) (λ name. refl)
