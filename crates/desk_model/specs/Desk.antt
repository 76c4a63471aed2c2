-- The desk as a machine: a state, and for each command the reply and the state after it.
use Rattle.std.specs.Prelude.{ℕ, ◌+◌, ◌-◌, ◌==◌, if◌then◌else◌, Bool, true, false, not, List, [], ◌∷◌, map, max, fold, length, drop, Option, Some, None, Result, Ok, Err}
use Rattle.std.specs.List.{list_any}
use Rattle.std.specs.Option.{option_map_or}
use Rattle.doc_model.specs.declared.edit.EditOp.{EditOp}
use Rattle.doc_model.specs.declared.document.Document.{Document}
use Rattle.doc_model.specs.declared.page.Page.{Page}
use Rattle.doc_model.specs.declared.paragraph.ParId.{ParId}
use Rattle.doc_model.specs.declared.refusal.Refusal.{Refusal}
use Rattle.doc_model.specs.Reading.{paragraphs, number_of}
use Rattle.edit_model.specs.Edit.{Edited, edited_by_group, touched_by, is_restyling, live_paragraph}
use Rattle.edit_model.specs.Past.{Past, Entry, no_past, after_group, after_undo, after_redo}
use Rattle.spelling_model.specs.Spelling.{canonical}
use Rattle.desk_model.specs.declared.command.Command.{Command}
use Rattle.desk_model.specs.declared.command.Command.TheVariants as command
use Rattle.desk_model.specs.declared.reply.Reply.{Reply}
use Rattle.desk_model.specs.declared.reply.Reply.TheVariants as reply
use Rattle.round_model.specs.declared.turn.Taken.{Taken}
use Rattle.round_model.specs.declared.turn.Taken.TheVariants as took
use Rattle.round_model.specs.declared.turn.Published.{Published}
use Rattle.round_model.specs.declared.turn.Published.TheVariants.{Stale, Already, Entered}
use Rattle.line_model.specs.Keys.{text_of}
use Rattle.round_model.specs.Rounds.{last_round, pages_in}
use Rattle.round_model.specs.Idle.{Idle, idle_at, restarted, take, publish}

-- the greatest version
abbrev pub last_version : ℕ
last_version = 4294967295

-- a document with its past, the least paragraph number that was never given, the version, which counts changes, and the idle work
pub record State : Type 0 where
  pub past : Past
  pub next : ℕ
  pub version : ℕ
  pub idle : Idle

-- the present document
abbrev pub present : State → Document
present state = state.past.present

-- the state at which a document is opened
abbrev pub start_at : Document → ℕ → State
start_at doc version = record { past = no_past doc; next = fold max 0 (map number_of (paragraphs doc)) + 1; version = version; idle = idle_at doc version }

-- the present document as edits find it, with the least paragraph number that was never given
abbrev pub opened : State → Edited
opened state = record { document = present state; next = state.next }

-- a change: the new past with the version one above, and all idle work to do again; or, at the greatest version, nothing
abbrev pub changed : State → Past → ℕ → List ℕ → Bool → Reply × State
changed old past next touched restyling =
    if old.version == last_version then (reply.Changes last_version, old)
    else (
      reply.Changed (old.version + 1),
      record {
        past = past;
        next = next;
        version = old.version + 1;
        idle = restarted old.idle past.present touched restyling (old.version + 1);
      },
    )

-- the reply to a group of edits, and the state after it
abbrev pub after_edit : State → List EditOp → Reply × State
after_edit old ops = of_result (edited_by_group (opened old) ops) where
  of_result : Result Edited (ℕ × Refusal) → Reply × State
  of_result (Ok new) =
      changed old (after_group old.past new.document (touched_by (opened old) ops) (list_any is_restyling ops)) new.next (touched_by (opened old) ops) (list_any is_restyling ops)
  of_result (Err refused) = (reply.Refused refused.0 refused.1, old)

-- the reply to an undo or a redo, and the state after it: it touches what the group touched that it takes back, or does again
abbrev pub after_step : State → Reply → List Entry → Option Past → Reply × State
after_step old none (entry ∷ entries) (Some past) = changed old past old.next entry.touched entry.restyling
after_step old none _ _ = (none, old)

-- the reply to a take
abbrev pub taken_reply : Taken → Reply
taken_reply took.Settled = reply.Settled
taken_reply (took.Moved debt) = reply.Moved debt
taken_reply (took.Job job) = reply.Job job

-- the reply to the lines of a job
abbrev pub published_reply : Published → Reply
published_reply (Stale had now) = reply.Stale had now
published_reply Already = reply.Already
published_reply (Entered debt) = reply.Entered debt

-- the reply to the question for a page
abbrev pub page_reply : State → ℕ → Reply
page_reply state index =
    if not (state.idle.debt == 0) then reply.NotYet state.idle.debt else of_page (drop (index - 1) pages) where
      pages : List Page
      pages = pages_in (present state) (last_round (present state))

      of_page : List Page → Reply
      of_page [] = reply.NoPage (length pages)
      of_page (page ∷ more) = if index == 0 then reply.NoPage (length pages) else reply.Page page (length pages)

-- the reply to the question for the text of a paragraph
abbrev pub text_reply : State → ParId → Reply
text_reply state par = option_map_or (λ live. reply.Text (text_of live)) (live_paragraph (present state) par) (reply.NoPar par)

-- the reply to a command, and the state after it
abbrev pub step : State → Command → Reply × State
step old (command.Edit group) = after_edit old group.0
step old command.Undo = after_step old reply.NothingToUndo old.past.earlier (after_undo old.past)
step old command.Redo = after_step old reply.NothingToRedo old.past.undone (after_redo old.past)
step old command.Take = (taken_reply (take (present old) old.idle).0, record old { idle = (take (present old) old.idle).1 })
step old (command.Publish job) = (published_reply (publish (present old) old.idle job).0, record old { idle = (publish (present old) old.idle job).1 })
step old (command.Page index) = (page_reply old index, old)
step old (command.Text par) = (text_reply old par, old)
step old command.Save = (reply.Saved (canonical (present old)), old)
step old command.Debt = (reply.Debt old.idle.debt, old)
step old command.Version = (reply.Version old.version, old)

-- the replies to commands one after another, and the state after them
abbrev pub steps : State → List Command → List Reply × State
steps state [] = ([], state)
steps state (command ∷ more) = ((step state command).0 ∷ (steps (step state command).1 more).0, (steps (step state command).1 more).1)
