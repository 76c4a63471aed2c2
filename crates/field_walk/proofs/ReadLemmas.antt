-- What a walk holds when one thing more is gathered.
use Rattle.field_model.specs.Cut.{cut}
use Rattle.std.proofs.Common.{◌≡◌, ℕ, ◌+◌, Bool, List, [], ◌∷◌, ◌++◌, map, refl, ap, ◌∙◌, arith}
use Rattle.std.specs.Prelude.{◌&&◌, ◌-◌, Option, Some, nat_eq, if◌then◌else◌, length}
use Rattle.std.specs.Str.{bytes_eq}
use Rattle.field_model.specs.declared.gathered.Piece.{Piece}
use Rattle.field_model.specs.declared.gathered.Piece.TheVariants.{Gap, Char, Number, Variable}
use Rattle.field_model.specs.Gathered.{Event, Head, Letter, Counted, Assigned, Asked, Cited, Marked, Other, in_note, note_places, spot, same_text}
use Rattle.field_model.specs.Quotes.{pieces, pieces_and}
use Rattle.std.proofs.lemmas.List.{length-append}
use Rattle.indexmap.specs.IndexMap.{get}
use Rattle.doc_model.specs.declared.paragraph.ParHead.{ParHead}
use Rattle.doc_model.specs.declared.page.Label.{Label}
use Rattle.doc_model.specs.declared.field.Format.{Format}
use Rattle.doc_model.specs.declared.field.NoteClass.{NoteClass}
use Rattle.doc_model.specs.declared.field.NoteClass.TheVariants.{Footnote, Endnote}
use Rattle.field_model.specs.declared.gathered.Gathered.{Gathered}
use Rattle.field_model.specs.declared.gathered.Gathered.TheVariants as place
use Rattle.field_model.specs.declared.gathered.Spot.{Spot}
use Rattle.field_model.specs.declared.gathered.Target.{Target}
use Rattle.field_model.specs.declared.gathered.VariableSet.{VariableSet}
use Rattle.field_model.specs.declared.gathered.SequenceTarget.{SequenceTarget}
use Rattle.field_model.specs.declared.gathered.NoteTarget.{NoteTarget}
use Rattle.field_model.specs.declared.gathered.ParPlace.{ParPlace}
use Rattle.field_model.specs.Gathered.{IsNext, anchor_of, is_in_note}
use Rattle.field_model.specs.Fields.{paragraphs, heads, and_then, when, target, is_named, cited, par_place, chapters}
use Rattle.field_walk.specs.Steps.{cited_now, places_behind}
use Rattle.field_walk.specs.Chapters.{chapters_behind}
use Rattle.field_walk.specs.declared.groups.Groups.{Groups}
use Rattle.field_walk.specs.declared.groups.Texts.{Texts}
use Rattle.field_walk.specs.Lists.{run_in, list_of, list_in}
use Rattle.field_walk.specs.Holds.{HoldsEvents}
use Rattle.field_walk.specs.declared.walk.Walk.{Walk}
use Rattle.field_walk.specs.declared.runs.Runs.{Runs}

pub other_read : (walk : Walk) (all : List Event) → HoldsEvents walk all → HoldsEvents (record walk { count = walk.count + 1 }) (Other ∷ all)
other_read walk all h = record {
  count = omega (arith, h.count);
  in_note = h.in_note;
  anchor = h.anchor;
  note_places = h.note_places;
  pars = h.pars;
  places = h.places;
  chapters = h.chapters;
  footnotes = h.footnotes;
  endnotes = h.endnotes;
  runs = h.runs;
  counted = h.counted;
  assigned = h.assigned;
  marks = h.marks;
  sequences = h.sequences;
  notes = h.notes;
  in_order = h.in_order;
}

-- a piece that was added to what a walk has
pub added : (walk : Walk) (all : List Event) (runs : Runs) (more : List Piece) → HoldsEvents walk all → ((noted : Bool) → run_in runs noted ≡ pieces_and noted walk.in_note (run_in walk.runs noted) more) → (noted : Bool) → run_in runs noted ≡ pieces_and noted (in_note all) (pieces noted all) more
added walk all runs more h e noted = rw (← h.in_note, ← h.runs noted) (e noted)

-- a value that was added to the lists of a walk
pub listed : {T : Type 0} (now before : List T) (more : Option T) (known : List T) → before ≡ known → now ≡ and_then before more → now ≡ and_then known more
listed now before more known e f = rw (← e) f

listed_in : {T : Type 0} (noted had here same : Bool) (value : T) (now before known : List T) → had ≡ here → before ≡ known → now ≡ and_then before (when (same_text noted had && same) value) → now ≡ and_then known (when (same_text noted here && same) value)
listed_in noted had here same value now before known e f g = rw (← e, ← f) g

pub letter_read : (walk : Walk) (all : List Event) (runs : Runs) (letter : ℕ) → HoldsEvents walk all → ((noted : Bool) → run_in runs noted ≡ pieces_and noted walk.in_note (run_in walk.runs noted) (Char letter ∷ [])) → HoldsEvents (record walk { runs = runs; count = walk.count + 1 }) (Letter letter ∷ all)
letter_read walk all runs letter h e = record {
  count = omega (arith, h.count);
  in_note = h.in_note;
  anchor = h.anchor;
  note_places = h.note_places;
  pars = h.pars;
  places = h.places;
  chapters = h.chapters;
  footnotes = h.footnotes;
  endnotes = h.endnotes;
  runs = added walk all runs (Char letter ∷ []) h e;
  counted = h.counted;
  assigned = h.assigned;
  marks = h.marks;
  sequences = h.sequences;
  notes = h.notes;
  in_order = h.in_order;
}

pub asked_read : (walk : Walk) (all : List Event) (runs : Runs) (name : List ℕ) → HoldsEvents walk all → ((noted : Bool) → run_in runs noted ≡ pieces_and noted walk.in_note (run_in walk.runs noted) (Variable name (spot all) ∷ [])) → HoldsEvents (record walk { runs = runs; count = walk.count + 1 }) (Asked name ∷ all)
asked_read walk all runs name h e = record {
  count = omega (arith, h.count);
  in_note = h.in_note;
  anchor = h.anchor;
  note_places = h.note_places;
  pars = h.pars;
  places = h.places;
  chapters = h.chapters;
  footnotes = h.footnotes;
  endnotes = h.endnotes;
  runs = added walk all runs (Variable name (spot all) ∷ []) h e;
  counted = h.counted;
  assigned = h.assigned;
  marks = h.marks;
  sequences = h.sequences;
  notes = h.notes;
  in_order = h.in_order;
}

pub set_read : (walk : Walk) (all : List Event) (assigned : Texts VariableSet) (runs : Runs) (name value : List ℕ) → HoldsEvents walk all → ((noted : Bool) (asked : List ℕ) → list_in assigned noted asked ≡ and_then (list_in walk.assigned noted asked) (when (same_text noted walk.in_note && bytes_eq asked name) (record { spot = spot all; value = value }))) → ((noted : Bool) → run_in runs noted ≡ pieces_and noted walk.in_note (run_in walk.runs noted) (map Char (cut value))) → HoldsEvents (record walk { assigned = assigned; runs = runs; count = walk.count + 1 }) (Assigned name value ∷ all)
set_read walk all assigned runs name value h a e = record {
  count = omega (arith, h.count);
  in_note = h.in_note;
  anchor = h.anchor;
  note_places = h.note_places;
  pars = h.pars;
  places = h.places;
  chapters = h.chapters;
  footnotes = h.footnotes;
  endnotes = h.endnotes;
  runs = added walk all runs (map Char (cut value)) h e;
  counted = h.counted;
  assigned = λ noted asked. listed_in noted walk.in_note (in_note all) (bytes_eq asked name) (record { spot = spot all; value = value }) _ _ _ h.in_note (h.assigned noted asked) (a noted asked);
  marks = h.marks;
  sequences = h.sequences;
  notes = h.notes;
  in_order = h.in_order;
}

pub mark_read : (walk : Walk) (all : List Event) (marks : Groups Target) (name : List ℕ) → HoldsEvents walk all → ((asked : List ℕ) → list_of marks asked ≡ and_then (list_of walk.marks asked) (when (bytes_eq asked name) (target all))) → HoldsEvents (record walk { marks = marks; count = walk.count + 1 }) (Marked name ∷ all)
mark_read walk all marks name h m = record {
  count = omega (arith, h.count);
  in_note = h.in_note;
  anchor = h.anchor;
  note_places = h.note_places;
  pars = h.pars;
  places = h.places;
  chapters = h.chapters;
  footnotes = h.footnotes;
  endnotes = h.endnotes;
  runs = h.runs;
  counted = h.counted;
  assigned = h.assigned;
  marks = λ asked. rw (← h.marks asked) (m asked);
  sequences = h.sequences;
  notes = h.notes;
  in_order = h.in_order;
}

pub sequence_read : (walk : Walk) (all : List Event) (sequences : Groups SequenceTarget) (counted : Texts Spot) (runs : Runs) (name refname : List ℕ) (format : Format) → HoldsEvents walk all → ((asked : List ℕ) → list_of sequences asked ≡ and_then (list_of walk.sequences asked) (when (is_named refname && bytes_eq asked refname) (record { target = target all; name = name; format = format }))) → ((noted : Bool) (asked : List ℕ) → list_in counted noted asked ≡ and_then (list_in walk.counted noted asked) (when (same_text noted walk.in_note && bytes_eq asked name) (spot all))) → ((noted : Bool) → run_in runs noted ≡ pieces_and noted walk.in_note (run_in walk.runs noted) (Number name format (spot all) ∷ [])) → HoldsEvents (record walk { sequences = sequences; counted = counted; runs = runs; count = walk.count + 1 }) (Counted name refname format ∷ all)
sequence_read walk all sequences counted runs name refname format h m a e = record {
  count = omega (arith, h.count);
  in_note = h.in_note;
  anchor = h.anchor;
  note_places = h.note_places;
  pars = h.pars;
  places = h.places;
  chapters = h.chapters;
  footnotes = h.footnotes;
  endnotes = h.endnotes;
  runs = added walk all runs (Number name format (spot all) ∷ []) h e;
  counted = λ noted asked. listed_in noted walk.in_note (in_note all) (bytes_eq asked name) (spot all) _ _ _ h.in_note (h.counted noted asked) (a noted asked);
  assigned = h.assigned;
  marks = h.marks;
  sequences = λ asked. rw (← h.sequences asked) (m asked);
  notes = h.notes;
  in_order = h.in_order;
}

-- a note of a class is counted
foot_cited : (walk : Walk) (all : List Event) (id : List ℕ) (class : NoteClass) (number : ℕ) → HoldsEvents walk all → number ≡ cited class all + 1 → cited_now Footnote class number walk.footnotes ≡ cited Footnote (Cited id class ∷ all)
foot_cited walk all id Footnote number h e = e
foot_cited walk all id Endnote number h e = h.footnotes

end_cited : (walk : Walk) (all : List Event) (id : List ℕ) (class : NoteClass) (number : ℕ) → HoldsEvents walk all → number ≡ cited class all + 1 → cited_now Endnote class number walk.endnotes ≡ cited Endnote (Cited id class ∷ all)
end_cited walk all id Footnote number h e = h.endnotes
end_cited walk all id Endnote number h e = e

pub note_read : (walk : Walk) (all : List Event) (notes : Groups NoteTarget) (kept : Walk) (id : List ℕ) (class : NoteClass) (number : ℕ) → HoldsEvents walk all → ((asked : List ℕ) → list_of notes asked ≡ and_then (list_of walk.notes asked) (when (is_named id && bytes_eq asked id) (record { target = target all; class = class; number = number }))) → kept.note_places.items ≡ (if walk.in_note then walk.note_places.items else walk.note_places.items ++ walk.count ∷ []) → number ≡ cited class all + 1 → HoldsEvents (record walk { notes = notes; note_places = kept.note_places; footnotes = cited_now Footnote class number walk.footnotes; endnotes = cited_now Endnote class number walk.endnotes; count = walk.count + 1 }) (Cited id class ∷ all)
note_read walk all notes kept id class number h m p e = record {
  count = omega (arith, h.count);
  in_note = h.in_note;
  anchor = h.anchor;
  note_places = rw (← h.in_note, ← h.note_places, ← h.count) p;
  pars = h.pars;
  places = h.places;
  chapters = h.chapters;
  footnotes = foot_cited walk all id class number h e;
  endnotes = end_cited walk all id class number h e;
  runs = h.runs;
  counted = h.counted;
  assigned = h.assigned;
  marks = h.marks;
  sequences = h.sequences;
  notes = λ asked. rw (← h.notes asked, ← e) (m asked);
  in_order = h.in_order;
}

-- as many paragraphs as heads
pub heads_length : (all : List Event) → length (paragraphs all) ≡ heads all
heads_length [] = refl
heads_length (Head place head label ∷ before) = length-append (paragraphs before) (par_place place head label before ∷ []) ∙ ap (λ (n : ℕ). n + 1) (heads_length before)
heads_length (Letter char ∷ before) = heads_length before
heads_length (Counted name refname format ∷ before) = heads_length before
heads_length (Assigned name value ∷ before) = heads_length before
heads_length (Asked name ∷ before) = heads_length before
heads_length (Cited id class ∷ before) = heads_length before
heads_length (Marked name ∷ before) = heads_length before
heads_length (Other ∷ before) = heads_length before

pub pars_length : (walk : Walk) (all : List Event) → HoldsEvents walk all → length walk.pars.items ≡ heads all
pars_length walk all h = ap (λ (pars : List ParPlace). length pars) h.pars ∙ heads_length all

pub target_is : (walk : Walk) (all : List Event) (par : ℕ) (here : Spot) (from : ℕ) → HoldsEvents walk all → par ≡ length walk.pars.items - 1 → here ≡ spot all → from ≡ length (run_in walk.runs walk.in_note) → let made : Target = record { par = par; in_note = walk.in_note; spot = here; from = from } in made ≡ target all
target_is walk all par here from h p s f =
    let par_is : par ≡ heads all - 1 = p ∙ ap (λ (n : ℕ). n - 1) (pars_length walk all h) in
    let run_is : run_in walk.runs walk.in_note ≡ pieces (in_note all) all = h.runs walk.in_note ∙ ap (λ (noted : Bool). pieces noted all) h.in_note in
    let from_is : from ≡ length (pieces (in_note all) all) = f ∙ ap (λ (run : List Piece). length run) run_is in
    let note_is : walk.in_note ≡ in_note all = h.in_note in
    cc

-- the places of note items when a paragraph begins
places_are : (place : Gathered) (head : ParHead) (label : Label) (all : List Event) → places_behind place (note_places all) ≡ note_places (Head place head label ∷ all)
places_are place.Body head label all = refl
places_are (place.Note number) head label all = refl

pub head_read : (walk : Walk) (all : List Event) (runs : Runs) (after : Walk) (place : Gathered) (head : ParHead) (label : Label) → HoldsEvents walk all → IsNext place all → ((noted : Bool) → run_in runs noted ≡ pieces_and noted (is_in_note place) (run_in walk.runs noted) (Gap ∷ [])) → after.pars.items ≡ walk.pars.items ++ par_place place head label all ∷ [] → ((id : ℕ) → get nat_eq after.places id ≡ (if nat_eq head.id.0 id then Some (heads all) else get nat_eq walk.places id)) → after.note_places.items ≡ places_behind place walk.note_places.items → HoldsEvents (record walk { chapters = (par_place place head label all).chapters; runs = runs; places = after.places; pars = after.pars; in_note = is_in_note place; anchor = anchor_of place all; note_places = after.note_places; count = walk.count + 1 }) (Head place head label ∷ all)
head_read walk all runs after place head label h next e p n q = record {
  count = omega (arith, h.count);
  in_note = refl;
  anchor = refl;
  note_places = q ∙ ap (places_behind place) h.note_places ∙ places_are place head label all;
  pars = p ∙ ap (λ (pars : List ParPlace). pars ++ par_place place head label all ∷ []) h.pars;
  places = λ id. n id ∙ ap (λ (found : Option ℕ). if nat_eq head.id.0 id then Some (heads all) else found) (h.places id);
  chapters = refl;
  footnotes = h.footnotes;
  endnotes = h.endnotes;
  runs = λ noted. rw (← h.runs noted) (e noted);
  counted = h.counted;
  assigned = h.assigned;
  marks = h.marks;
  sequences = h.sequences;
  notes = h.notes;
  in_order = (next, h.in_order);
}

pub par_place_is : (walk : Walk) (all : List Event) (place : Gathered) (head : ParHead) (label : Label) (noted : Bool) (anchor quoted from par : ℕ) (now : List (Option ℕ)) → HoldsEvents walk all → noted ≡ is_in_note place → anchor ≡ anchor_of place all → quoted ≡ length (run_in walk.runs noted) → from ≡ quoted + 1 → par ≡ length walk.pars.items → now ≡ chapters_behind head.level par walk.chapters → let made : ParPlace = record { id = head.id; in_note = noted; at = walk.count; anchor = anchor; from = from; footnotes = walk.footnotes; endnotes = walk.endnotes; label = label; chapters = now } in made ≡ par_place place head label all
par_place_is walk all place head label noted anchor quoted from par now h n a q f p c =
    let run_is : run_in walk.runs noted ≡ pieces (is_in_note place) all = h.runs noted ∙ ap (λ (b : Bool). pieces b all) n in
    let from_is : from ≡ length (pieces (is_in_note place) all) + 1 = f ∙ ap (λ (k : ℕ). k + 1) (q ∙ ap (λ (run : List Piece). length run) run_is) in
    let par_is : par ≡ heads all = p ∙ pars_length walk all h in
    let now_is : now ≡ chapters (Head place head label ∷ all) = c ∙ ap (λ (k : ℕ). chapters_behind head.level k walk.chapters) par_is ∙ ap (λ (before : List (Option ℕ)). chapters_behind head.level (heads all) before) h.chapters in
    let count_is : walk.count ≡ length all = h.count in
    let foot_is : walk.footnotes ≡ cited Footnote all = h.footnotes in
    let end_is : walk.endnotes ≡ cited Endnote all = h.endnotes in
    cc
