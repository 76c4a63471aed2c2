-- What one step of gathering, or taking it back, does to what is kept.
use Rattle.std.specs.Prelude.{ℕ, ◌-◌, Bool, true, false, if◌then◌else◌, List, [], length, take}
use Rattle.doc_model.specs.declared.field.NoteClass.{NoteClass}
use Rattle.field_model.specs.declared.gathered.Gathered.{Gathered}
use Rattle.field_model.specs.declared.gathered.Gathered.TheVariants.{Body, Note}
use Rattle.field_model.specs.Fields.{same_class}
use Rattle.field_model.specs.Gathered.{same_text}

-- how many notes of a class were cited, when one of some class has the number
abbrev pub cited_now : NoteClass → NoteClass → ℕ → ℕ → ℕ
cited_now class own number before = if same_class class own then number else before

-- the places of note items, when a paragraph begins
abbrev pub places_behind : Gathered → List ℕ → List ℕ
places_behind Body before = []
places_behind (Note number) before = before

-- a list without its last one, where a test is passed
abbrev pub without_last : {X : Type 0} → Bool → List X → List X
without_last true xs = take (length xs - 1) xs
without_last false xs = xs

-- a list without its last ones, where what they were added to is in the same text
abbrev pub without : {X : Type 0} → Bool → Bool → ℕ → List X → List X
without noted here count xs = if same_text noted here then take (length xs - count) xs else xs

-- how many notes of a class were cited, when the last one of some class is taken back
abbrev pub cited_before : NoteClass → NoteClass → ℕ → ℕ
cited_before class own now = if same_class class own then now - 1 else now

-- the places of note items, when a paragraph is taken back that began
abbrev pub places_before : Gathered → List ℕ → List ℕ → List ℕ
places_before Body kept now = kept
places_before (Note number) kept now = now
