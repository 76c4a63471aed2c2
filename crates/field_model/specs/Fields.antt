-- What fields ask of all that was gathered: where the sequence fields of a name stand, the fields that set a variable, the bookmarks, the notes and the paragraphs. Each is a filter over the list of what was gathered, and answers in the order of the rows.
use Rattle.std.specs.Prelude.{ℕ, ◌+◌, ◌-◌, ◌==◌, nat_le, ◌&&◌, Bool, true, false, if◌then◌else◌, List, [], ◌∷◌, ◌++◌, map, length, Option, Some, None}
use Rattle.std.specs.Str.{bytes_eq}
use Rattle.doc_model.specs.declared.paragraph.ParHead.{ParHead}
use Rattle.doc_model.specs.declared.field.NoteClass.{NoteClass}
use Rattle.doc_model.specs.declared.field.NoteClass.TheVariants.{Footnote, Endnote}
use Rattle.doc_model.specs.declared.page.Label.{Label}
use Rattle.field_model.specs.declared.gathered.Gathered.{Gathered}
use Rattle.field_model.specs.declared.gathered.Spot.{Spot}
use Rattle.field_model.specs.declared.gathered.VariableSet.{VariableSet}
use Rattle.field_model.specs.declared.gathered.Target.{Target}
use Rattle.field_model.specs.declared.gathered.SequenceTarget.{SequenceTarget}
use Rattle.field_model.specs.declared.gathered.NoteTarget.{NoteTarget}
use Rattle.field_model.specs.declared.gathered.ParPlace.{ParPlace}
use Rattle.field_model.specs.Gathered.{Event, Head, Counted, Assigned, Cited, Marked, in_note, anchor_of, is_in_note, spot, same_text}
use Rattle.field_model.specs.Quotes.{pieces}

-- a list, and what there is behind it
abbrev pub and_then : {X : Type 0} → List X → Option X → List X
and_then xs None = xs
and_then xs (Some x) = xs ++ x ∷ []

-- something, where a test is passed
abbrev pub when : {X : Type 0} → Bool → X → Option X
when true x = Some x
when false x = None

-- what is asked for of each thing that was gathered, by what it is and what was gathered before it
abbrev pub collect : {X : Type 0} → (Event → List Event → Option X) → List Event → List X
collect asked [] = []
collect asked (event ∷ before) = and_then (collect asked before) (asked event before)

-- how many things pass a test
abbrev pub count_of : (Event → Bool) → List Event → ℕ
count_of test [] = 0
count_of test (event ∷ before) = more (test event) (count_of test before) where
  more : Bool → ℕ → ℕ
  more true number = number + 1
  more false number = number

-- whether a paragraph begins
abbrev pub is_head : Event → Bool
is_head (Head place head label) = true
is_head _ = false

-- how many paragraphs were gathered
abbrev pub heads : List Event → ℕ
heads = count_of is_head

-- whether two classes are the same
abbrev pub same_class : NoteClass → NoteClass → Bool
same_class Footnote Footnote = true
same_class Footnote Endnote = false
same_class Endnote Footnote = false
same_class Endnote Endnote = true

-- whether something is the item of a note of a class
abbrev pub cites : NoteClass → Event → Bool
cites class (Cited id own) = same_class class own
cites class _ = false

-- how many notes of a class were cited. A note holds no note, so they are read in the order of the rows
abbrev pub cited : NoteClass → List Event → ℕ
cited class = count_of (cites class)

-- the last heading of at most a level: its place among the paragraphs
abbrev pub chapter : ℕ → List Event → Option ℕ
chapter level [] = None
chapter level (Head place head label ∷ before) = if nat_le 1 head.level && nat_le head.level level then Some (heads before) else chapter level before
chapter level (_ ∷ before) = chapter level before

-- the last heading of at most each level
abbrev pub chapters : List Event → List (Option ℕ)
chapters gathered = map (λ level. chapter level gathered) (1 ∷ 2 ∷ 3 ∷ 4 ∷ 5 ∷ 6 ∷ 7 ∷ 8 ∷ 9 ∷ 10 ∷ [])

-- a paragraph that begins, behind what was gathered
abbrev pub par_place : Gathered → ParHead → Label → List Event → ParPlace
par_place place head label before = record {
  id = head.id;
  in_note = is_in_note place;
  at = length before;
  anchor = anchor_of place before;
  from = length (pieces (is_in_note place) before) + 1;
  footnotes = cited Footnote before;
  endnotes = cited Endnote before;
  label = label;
  chapters = chapters (Head place head label ∷ before);
}

-- the paragraphs
abbrev pub paragraphs : List Event → List ParPlace
paragraphs = collect of_event where
  of_event : Event → List Event → Option ParPlace
  of_event (Head place head label) before = Some (par_place place head label before)
  of_event _ before = None

-- the place among the paragraphs of the one with a number
abbrev pub place_of : ℕ → List Event → Option ℕ
place_of id [] = None
place_of id (Head place head label ∷ before) = if head.id.0 == id then Some (heads before) else place_of id before
place_of id (_ ∷ before) = place_of id before

-- where the sequence fields of a name stand, in the body or in notes
abbrev pub counted : Bool → List ℕ → List Event → List Spot
counted noted name = collect of_event where
  of_event : Event → List Event → Option Spot
  of_event (Counted own refname format) before = when (same_text noted (in_note before) && bytes_eq name own) (spot before)
  of_event _ before = None

-- the fields that set a variable, in the body or in notes
abbrev pub assigned : Bool → List ℕ → List Event → List VariableSet
assigned noted name = collect of_event where
  of_event : Event → List Event → Option VariableSet
  of_event (Assigned own value) before = when (same_text noted (in_note before) && bytes_eq name own) (record { spot = spot before; value = value })
  of_event _ before = None

-- what a reference to something points to
abbrev pub target : List Event → Target
target before = record {
  par = heads before - 1;
  in_note = in_note before;
  spot = spot before;
  from = length (pieces (in_note before) before);
}

-- the marks of a bookmark, which stand in one text
abbrev pub marks : List ℕ → List Event → List Target
marks name = collect of_event where
  of_event : Event → List Event → Option Target
  of_event (Marked own) before = when (bytes_eq name own) (target before)
  of_event _ before = None

-- whether there is a name
abbrev pub is_named : List ℕ → Bool
is_named [] = false
is_named (first ∷ rest) = true

-- the sequence fields with a reference name. The empty name is none
abbrev pub sequence_targets : List ℕ → List Event → List SequenceTarget
sequence_targets name = collect of_event where
  of_event : Event → List Event → Option SequenceTarget
  of_event (Counted own refname format) before = when (is_named refname && bytes_eq name refname) (record { target = target before; name = own; format = format })
  of_event _ before = None

-- the notes with an id. The empty name is none
abbrev pub note_targets : List ℕ → List Event → List NoteTarget
note_targets id = collect of_event where
  of_event : Event → List Event → Option NoteTarget
  of_event (Cited own class) before = when (is_named own && bytes_eq id own) (record { target = target before; class = class; number = cited class before + 1 })
  of_event _ before = None
