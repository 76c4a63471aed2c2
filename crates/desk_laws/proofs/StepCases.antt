-- What a command does, case by case.
use Rattle.std.proofs.Common.{◌≡◌, ℕ, ◌+◌, ◌-◌, ◌≤◌, ◌⊎◌, inl, inr, Bool, true, false, List, [], ◌∷◌, drop, refl, ap, sym, ◌∙◌, subst, arith, Option, Some, None, Result, Ok, Err}
use Rattle.std.specs.Prelude.{if◌then◌else◌, ◌==◌}
use Rattle.std.specs.Option.{option_map_or}
use Rattle.std.specs.List.{list_any}
use Rattle.std.proofs.lemmas.Bool.{cond_both}
use Rattle.doc_model.specs.declared.edit.EditOp.{EditOp}
use Rattle.doc_model.specs.declared.edit.Group.{Group}
use Rattle.doc_model.specs.declared.edit.EditOp.TheVariants.{InsertText, DeleteRange}
use Rattle.doc_model.specs.declared.page.Page.{Page}
use Rattle.doc_model.specs.declared.paragraph.Par.{Par}
use Rattle.doc_model.specs.declared.paragraph.ParId.{ParId}
use Rattle.doc_model.specs.declared.refusal.Refusal.{Refusal}
use Rattle.edit_model.specs.Edit.{live_paragraph, Edited, edited, edited_by, edited_by_group, first_refusal}
use Rattle.edit_model.specs.Past.{Past, Entry, after_group, after_undo, after_redo}
use Rattle.spelling_model.specs.Spelling.{canonical}
use Rattle.line_model.specs.declared.key.Key.{Key}
use Rattle.line_model.specs.declared.job.Job.{Job}
use Rattle.desk_model.specs.declared.command.Command.{Command}
use Rattle.desk_model.specs.declared.command.Command.TheVariants as command
use Rattle.desk_model.specs.declared.reply.Reply.{Reply}
use Rattle.desk_model.specs.declared.reply.Reply.TheVariants as reply
use Rattle.round_model.specs.declared.turn.Taken.{Taken}
use Rattle.round_model.specs.declared.turn.Published.{Published}
use Rattle.line_model.specs.Keys.{text_of}
use Rattle.round_model.specs.Rounds.{pages_in, last_round}
use Rattle.round_model.specs.Stops.{debt_behind}
use Rattle.round_model.specs.Idle.{Idle, Live, stamp_of, with_live, restarted, with_key, is_in_use}
use Rattle.edit_model.specs.Edit.{touched_by, is_restyling}
use Rattle.desk_model.specs.Desk.{State, present, last_version, opened, changed, after_edit, after_step, taken_reply, published_reply, page_reply, text_reply, step}
use Rattle.desk_laws.specs.Steps.{reply_to, after}
use Rattle.desk_laws.specs.Changes.{is_change, leaves_all, touched_at, is_restyling_at, touched_next, restyled_next}
use Rattle.round_model.proofs.TakeCases.{TakeCase, take_case}
use Rattle.round_model.proofs.PublishCases.{PublishCase, publish_case, entered, debt_after, debt_after-le, debt_behind-le}
use Rattle.desk_laws.proofs.Kept.{IsKept, IsKept-same, revision_at-with_live, Each-with_live}

-- the commands that move the idle work on
abbrev pub IsIdleTurn : Command → Type 0
IsIdleTurn command.Take = Unit {0}
IsIdleTurn (command.Publish job) = Unit {0}
IsIdleTurn _ = ⊥

-- what a command does
pub data StepCase (old : State) (command : Command) : Type 0 where
  Stays : is_change (reply_to old command) ≡ false → IsKept old (after old command) → (leaves_all (reply_to old command) ≡ true → after old command ≡ old)
      → (after old command ≡ old) ⊎ IsIdleTurn command → StepCase old command
  Changes : (past : Past) (next : ℕ) → old.next ≤ next → step old command ≡ (
    reply.Changed (old.version + 1),
    record {
      past = past;
      next = next;
      version = old.version + 1;
      idle = restarted old.idle past.present (touched_at old command) (is_restyling_at old command) (old.version + 1);
    },
  ) → StepCase old command

-- a command that leaves all
leaves : (old : State) (command : Command) (reply : Reply) → step old command ≡ (reply, old) → is_change reply ≡ false → StepCase old command
leaves old command reply e none = Stays (ap (λ (t : Reply × State). is_change t.0) e ∙ none)
    (subst (λ (new : State). IsKept old new) (sym (ap (λ (t : Reply × State). t.1) e)) (IsKept-same old)) (λ told. ap (λ (t : Reply × State). t.1) e) (inl (ap (λ (t : Reply × State). t.1) e))

-- a command that moves the idle work on
moves : (old : State) (command : Command) (reply : Reply) (new : State) → step old command ≡ (reply, new) → is_change reply ≡ false → leaves_all reply ≡ false → IsKept old new → IsIdleTurn command → StepCase old command
moves old command reply new e none moved kept turn = Stays (ap (λ (t : Reply × State). is_change t.0) e ∙ none)
    (subst (λ (new : State). IsKept old new) (sym (ap (λ (t : Reply × State). t.1) e)) kept)
    (λ told. let clash : true ≡ false = sym told ∙ ap (λ (t : Reply × State). leaves_all t.0) e ∙ moved in cc) (inr turn)

pub either : (b : Bool) (one other : Reply × State) → ((if b then one else other) ≡ one) ⊎ ((if b then one else other) ≡ other)
either true one other = inl refl
either false one other = inr refl

-- a command that is a change below the greatest version
changes : (old : State) (command : Command) (past : Past) (next : ℕ) → old.next ≤ next
    → step old command ≡ changed old past next (touched_at old command) (is_restyling_at old command) → StepCase old command
changes old command past next more e = elim (either (old.version == last_version) (reply.Changes last_version, old) (
  reply.Changed (old.version + 1),
  record {
    past = past;
    next = next;
    version = old.version + 1;
    idle = restarted old.idle past.present (touched_at old command) (is_restyling_at old command) (old.version + 1);
  },
)) [ inl same ↦ leaves old command (reply.Changes last_version) (e ∙ same) refl | inr new ↦ Changes past next more (e ∙ new) ]

-- operations that aren't refused raise the least number that was never given, or leave it
edited-next : (old : Edited) (op : EditOp) → old.next ≤ (edited old op).next
edited-next old (InsertText par at text) = omega arith
edited-next old (DeleteRange par from to) = omega arith
edited-next old _ = omega arith

unrefused : (index : ℕ) (refusal : Option Refusal) (rest : Result Edited (ℕ × Refusal)) (new : Edited) → option_map_or (λ (why : Refusal). Err (index, why)) refusal rest ≡ Ok new → rest ≡ Ok new
unrefused index None rest new e = e
unrefused index (Some why) rest new e = cc

edited_by-next : (old : Edited) (index : ℕ) (ops : List EditOp) (new : Edited) → edited_by old index ops ≡ Ok new → old.next ≤ new.next
edited_by-next old index [] new e = let same : old ≡ new = cc in omega (arith, ap (λ (edited : Edited). edited.next) same)
edited_by-next old index (op ∷ ops) new e =
    omega (arith, edited-next old op, edited_by-next (edited old op) (index + 1) ops new (unrefused index (first_refusal old op) (edited_by (edited old op) (index + 1) ops) new e))

not_too_many : (b : Bool) (refused : ℕ × Refusal) (rest : Result Edited (ℕ × Refusal)) (new : Edited) → (if b then Err refused else rest) ≡ Ok new → rest ≡ Ok new
not_too_many true refused rest new e = cc
not_too_many false refused rest new e = e

edited_by_group-next : (old : Edited) (ops : List EditOp) (new : Edited) → edited_by_group old ops ≡ Ok new → old.next ≤ new.next
edited_by_group-next old ops new e = edited_by-next old 0 ops new (not_too_many _ _ (edited_by old 0 ops) new e)

-- edits
pub edit_changes : (old : State) (ops : List EditOp) (new : Edited) → edited_by_group (record { document = present old; next = old.next }) ops ≡ Ok new
    → after_edit old ops ≡ changed old (after_group old.past new.document (touched_by (opened old) ops) (list_any is_restyling ops)) new.next (touched_by (opened old) ops) (list_any is_restyling ops)
edit_changes old ops new e = rw (e, after_edit)

pub edit_refused : (old : State) (ops : List EditOp) (refused : ℕ × Refusal) → edited_by_group (record { document = present old; next = old.next }) ops ≡ Err refused
    → after_edit old ops ≡ (reply.Refused refused.0 refused.1, old)
edit_refused old ops refused e = rw (e, after_edit)

-- undo and redo
pub undo_changes : (old : State) (entry : Entry) (earlier : List Entry) → old.past.earlier ≡ entry ∷ earlier
    → step old command.Undo ≡ changed old (record { present = entry.document; earlier = earlier; undone = record entry { document = old.past.present } ∷ old.past.undone }) old.next entry.touched entry.restyling
undo_changes old entry earlier e = rw (e, after_step) (rw (e, after_undo))

pub redo_changes : (old : State) (entry : Entry) (undone : List Entry) → old.past.undone ≡ entry ∷ undone
    → step old command.Redo ≡ changed old (record { present = entry.document; earlier = record entry { document = old.past.present } ∷ old.past.earlier; undone = undone }) old.next entry.touched entry.restyling
redo_changes old entry undone e = rw (e, after_step) (rw (e, after_redo))

pub nothing_undone : (old : State) → old.past.earlier ≡ [] → step old command.Undo ≡ (reply.NothingToUndo, old)
nothing_undone old e = rw (e, after_step) (ap (λ (earlier : List Entry). (reply.NothingToUndo, record old { past = record old.past { earlier = earlier } })) e)

nothing_redone : (old : State) → old.past.undone ≡ [] → step old command.Redo ≡ (reply.NothingToRedo, old)
nothing_redone old e = rw (e, after_step) (ap (λ (undone : List Entry). (reply.NothingToRedo, record old { past = record old.past { undone = undone } })) e)

edit_case : (old : State) (group : Group) → StepCase old (command.Edit group)
edit_case old group = of_result (edited_by_group (record { document = present old; next = old.next }) group.0) refl where
  of_result : (result : Result Edited (ℕ × Refusal)) → edited_by_group (record { document = present old; next = old.next }) group.0 ≡ result → StepCase old (command.Edit group)
  of_result (Ok new) e = changes old (command.Edit group) (after_group old.past new.document (touched_by (opened old) group.0) (list_any is_restyling group.0)) new.next
      (edited_by_group-next (record { document = present old; next = old.next }) group.0 new e) (edit_changes old group.0 new e)
  of_result (Err refused) e = leaves old (command.Edit group) (reply.Refused refused.0 refused.1) (edit_refused old group.0 refused e) refl

undo_case : (old : State) → StepCase old command.Undo
undo_case old = of_earlier old.past.earlier refl where
  of_earlier : (earlier : List Entry) → old.past.earlier ≡ earlier → StepCase old command.Undo
  of_earlier [] e = leaves old command.Undo reply.NothingToUndo (nothing_undone old e) refl
  of_earlier (entry ∷ earlier) e = changes old command.Undo (record { present = entry.document; earlier = earlier; undone = record entry { document = old.past.present } ∷ old.past.undone }) old.next (omega arith)
      (undo_changes old entry earlier e ∙ ap (λ (entries : List Entry). changed old (record { present = entry.document; earlier = earlier; undone = record entry { document = old.past.present } ∷ old.past.undone }) old.next (touched_next entries) (restyled_next entries)) (sym e))

redo_case : (old : State) → StepCase old command.Redo
redo_case old = of_undone old.past.undone refl where
  of_undone : (undone : List Entry) → old.past.undone ≡ undone → StepCase old command.Redo
  of_undone [] e = leaves old command.Redo reply.NothingToRedo (nothing_redone old e) refl
  of_undone (entry ∷ undone) e = changes old command.Redo (record { present = entry.document; earlier = record entry { document = old.past.present } ∷ old.past.earlier; undone = undone }) old.next (omega arith)
      (redo_changes old entry undone e ∙ ap (λ (entries : List Entry). changed old (record { present = entry.document; earlier = record entry { document = old.past.present } ∷ old.past.earlier; undone = undone }) old.next (touched_next entries) (restyled_next entries)) (sym e))

-- the state with other idle work
abbrev with_idle : State → Idle → State
with_idle old idle = record old { idle = idle }

IsKept-debt : (old : State) (debt : ℕ) → debt ≤ old.idle.debt → IsKept old (with_idle old (record old.idle { debt = debt }))
IsKept-debt old debt less = record { past = refl; next = refl; version = refl; epoch = refl; debt = less; revisions = λ number. refl; each = λ bound each. each }

take_step : (old : State) → StepCase old command.Take
take_step old = elim (take_case (present old) old.idle) [
  | TakeCase.Done e f ↦ leaves old command.Take reply.Settled (ap (λ (t : Taken × Idle). (taken_reply t.0, with_idle old t.1)) f) refl
  | TakeCase.Passed e none f ↦ moves old command.Take (reply.Moved (debt_behind (present old) old.idle.debt)) (with_idle old (record old.idle { debt = debt_behind (present old) old.idle.debt }))
      (ap (λ (t : Taken × Idle). (taken_reply t.0, with_idle old t.1)) f) refl refl (IsKept-debt old (debt_behind (present old) old.idle.debt) (debt_behind-le (present old) old.idle.debt)) tt
  | TakeCase.Asked round place set live some at is lives none f ↦ leaves old command.Take (reply.Job (record { par = record { 0 = set.par }; stamp = stamp_of old.idle live; key = set.key }))
      (ap (λ (t : Taken × Idle). (taken_reply t.0, with_idle old t.1)) f) refl
]

IsKept-entered : (old : State) (job : Job) → IsKept old (with_idle old (record old.idle { debt = debt_after (present old) old.idle job; live = with_live job.par.0 (entered (present old) old.idle job) old.idle.live }))
IsKept-entered old job =
    let keys : Live → List Key = λ live. with_key (is_in_use (present old) (debt_after (present old) old.idle job) job.par.0) live.keys job.key in
    record {
      past = refl;
      next = refl;
      version = refl;
      epoch = refl;
      debt = debt_after-le (present old) old.idle job;
      revisions = λ number. revision_at-with_live number job.par.0 keys old.idle.live;
      each = λ bound. Each-with_live bound job.par.0 keys old.idle.live;
    }

publish_step : (old : State) (job : Job) → StepCase old (command.Publish job)
publish_step old job = elim (publish_case (present old) old.idle job) [
  | PublishCase.Gone e f ↦ leaves old (command.Publish job) (reply.Stale job.stamp None) (ap (λ (t : Published × Idle). (published_reply t.0, with_idle old t.1)) f) refl
  | PublishCase.Outdated live e s f ↦ leaves old (command.Publish job) (reply.Stale job.stamp (Some (stamp_of old.idle live))) (ap (λ (t : Published × Idle). (published_reply t.0, with_idle old t.1)) f) refl
  | PublishCase.Kept live e s k f ↦ leaves old (command.Publish job) reply.Already (ap (λ (t : Published × Idle). (published_reply t.0, with_idle old t.1)) f) refl
  | PublishCase.Fresh live e s k f ↦ moves old (command.Publish job) (reply.Entered (debt_after (present old) old.idle job))
      (with_idle old (record old.idle { debt = debt_after (present old) old.idle job; live = with_live job.par.0 (entered (present old) old.idle job) old.idle.live }))
      (ap (λ (t : Published × Idle). (published_reply t.0, with_idle old t.1)) f) refl refl (IsKept-entered old job) tt
]

pub page_no_change : (old : State) (index : ℕ) → is_change (page_reply old index) ≡ false
page_no_change old index = of_debt (old.idle.debt == 0) refl where
  of_pages : (pages : List Page) → (old.idle.debt == 0) ≡ true → drop (index - 1) (pages_in (present old) (last_round (present old))) ≡ pages → is_change (page_reply old index) ≡ false
  of_pages [] b e = rw (b, page_reply) (rw e refl)
  of_pages (page ∷ more) b e = rw (b, page_reply) (rw e (cond_both (index == 0) _ _ (λ (reply : Reply). is_change reply ≡ false) (λ i. refl) (λ i. refl)))

  of_debt : (settled : Bool) → (old.idle.debt == 0) ≡ settled → is_change (page_reply old index) ≡ false
  of_debt true b = of_pages (drop (index - 1) (pages_in (present old) (last_round (present old)))) b refl
  of_debt false b = rw (b, page_reply) refl

pub text_no_change : (par : ParId) (live : Option Par) → is_change (option_map_or (λ (live : Par). reply.Text (text_of live)) live (reply.NoPar par)) ≡ false
text_no_change par None = refl
text_no_change par (Some live) = refl

pub step_case : (old : State) (command : Command) → StepCase old command
step_case old (command.Edit group) = edit_case old group
step_case old command.Undo = undo_case old
step_case old command.Redo = redo_case old
step_case old command.Take = take_step old
step_case old (command.Publish job) = publish_step old job
step_case old (command.Page index) = leaves old (command.Page index) (page_reply old index) refl (page_no_change old index)
step_case old (command.Text par) = leaves old (command.Text par) (text_reply old par) refl (text_no_change par (live_paragraph (present old) par))
step_case old command.Save = leaves old command.Save (reply.Saved (canonical (present old))) refl refl
step_case old command.Debt = leaves old command.Debt (reply.Debt old.idle.debt) refl refl
step_case old command.Version = leaves old command.Version (reply.Version old.version) refl refl
