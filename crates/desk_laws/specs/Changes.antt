-- Changes of the document: which commands are changes, and whose lines they outdate.
use Rattle.std.specs.Prelude.{◌≡◌, ℕ, ◌+◌, if◌then◌else◌, ◌==◌, ◌&&◌, ◌||◌, Bool, true, false, not, List, [], ◌∷◌}
use Rattle.std.specs.List.{AllByRecursion as Each, list_any}
use Rattle.doc_model.specs.declared.document.Document.{Document}
use Rattle.doc_model.specs.Reading.{paragraphs, number_of}
use Rattle.edit_model.specs.Past.{Entry}
use Rattle.desk_model.specs.declared.command.Command.{Command}
use Rattle.desk_model.specs.declared.command.Command.TheVariants.{Edit, Undo, Redo}
use Rattle.desk_model.specs.declared.reply.Reply.{Reply}
use Rattle.desk_model.specs.declared.reply.Reply.TheVariants.{Changed, Moved, Entered}
use Rattle.edit_model.specs.Edit.{touched_by, is_restyling}
use Rattle.desk_model.specs.Desk.{State, present, opened, steps}
use Rattle.desk_laws.specs.Steps.{reply_to, after}

-- whether a reply tells of a change
abbrev pub is_change : Reply → Bool
is_change (Changed version) = true
is_change _ = false

-- whether a reply tells that nothing of the state is another: all do but that of a change, of a stop that was passed, and of lines that were entered
abbrev pub leaves_all : Reply → Bool
leaves_all (Changed version) = false
leaves_all (Moved debt) = false
leaves_all (Entered debt) = false
leaves_all _ = true

-- none of the commands, done one after another, is a change
abbrev pub HasNoChange : State → List Command → Type 0
HasNoChange state commands = Each (λ reply. is_change reply ≡ false) (steps state commands).0

-- how many of the commands, done one after another, are changes
abbrev pub change_count : State → List Command → ℕ
change_count state [] = 0
change_count state (command ∷ more) = (if is_change (reply_to state command) then 1 else 0) + change_count (after state command) more

-- a command that neither takes a change back nor does one again
abbrev pub is_onward : Command → Bool
is_onward Undo = false
is_onward Redo = false
is_onward _ = true

-- what the group beside the next entry touched
abbrev pub touched_next : List Entry → List ℕ
touched_next [] = []
touched_next (entry ∷ entries) = entry.touched

-- whether the group beside the next entry was restyling
abbrev pub restyled_next : List Entry → Bool
restyled_next [] = false
restyled_next (entry ∷ entries) = entry.restyling

-- the paragraphs that a command touches, if it is a change: those that its group touches, or the group did that is taken back or done again
abbrev pub touched_at : State → Command → List ℕ
touched_at state (Edit group) = touched_by (opened state) group.0
touched_at state Undo = touched_next state.past.earlier
touched_at state Redo = touched_next state.past.undone
touched_at state _ = []

-- whether a command changes styles, if it is a change
abbrev pub is_restyling_at : State → Command → Bool
is_restyling_at state (Edit group) = list_any is_restyling group.0
is_restyling_at state Undo = restyled_next state.past.earlier
is_restyling_at state Redo = restyled_next state.past.undone
is_restyling_at state _ = false

-- whether a document has a paragraph of this number
abbrev pub has_paragraph : Document → ℕ → Bool
has_paragraph doc number = list_any (λ par. number_of par == number) (paragraphs doc)

-- whether a command is a change that outdates the lines of a paragraph: it touches the paragraph, changes styles, or leaves a document without it
abbrev pub is_outdating : State → Command → ℕ → Bool
is_outdating state command number =
    is_change (reply_to state command)
    && (list_any (λ other. other == number) (touched_at state command) || is_restyling_at state command || not (has_paragraph (present (after state command)) number))

-- whether one of the commands, done one after another, outdates the lines of a paragraph
abbrev pub are_outdated_by : State → List Command → ℕ → Bool
are_outdated_by state [] number = false
are_outdated_by state (command ∷ more) number = is_outdating state command number || are_outdated_by (after state command) more number
