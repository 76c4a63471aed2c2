-- What undo and redo bring back.
use Rattle.std.proofs.Common.{◌≡◌, ◌≢◌, ℕ, ◌+◌, inl, inr, Bool, false, List, [], ◌∷◌, take, refl, ap, sym, ◌∙◌, Result, Ok, Err}
use Rattle.std.specs.Prelude.{◌==◌}
use Rattle.std.specs.List.{list_any}
use Rattle.std.proofs.lemmas.Bool.{ne_eqb}
use Rattle.doc_model.specs.declared.edit.Group.{Group}
use Rattle.doc_model.specs.declared.refusal.Refusal.{Refusal}
use Rattle.edit_model.specs.Edit.{Edited, edited_by_group}
use Rattle.edit_model.specs.Past.{Past, Entry, after_group}
use Rattle.spelling_model.specs.Spelling.{canonical}
use Rattle.doc_model.specs.declared.document.Document.{Document}
use Rattle.desk_model.specs.declared.command.Command.{Command}
use Rattle.desk_model.specs.declared.command.Command.TheVariants as command
use Rattle.desk_model.specs.declared.reply.Reply.{Reply}
use Rattle.desk_model.specs.declared.reply.Reply.TheVariants as reply
use Rattle.round_model.specs.Idle.{restarted}
use Rattle.edit_model.specs.Edit.{touched_by, is_restyling}
use Rattle.desk_model.specs.Desk.{State, present, last_version, opened, changed, step}
use Rattle.desk_laws.specs.Steps.{reply_to, after, after_all, ShowSame}
use Rattle.desk_laws.specs.Changes.{HasNoChange}
use Rattle.desk_laws.proofs.Kept.{IsKept}
use Rattle.desk_laws.proofs.StepCases.{either, edit_changes, edit_refused, undo_changes, redo_changes, nothing_undone}
use Rattle.desk_laws.proofs.Runs.{IsKept-all}

-- below the greatest version a change is made
pub changed_below : (old : State) (past : Past) (next : ℕ) (touched : List ℕ) (restyling : Bool) → old.version ≢ last_version
    → changed old past next touched restyling ≡ (
      reply.Changed (old.version + 1),
      record {
        past = past;
        next = next;
        version = old.version + 1;
        idle = restarted old.idle past.present touched restyling (old.version + 1);
      },
    )
changed_below old past next touched restyling below = let b : (old.version == last_version) ≡ false = ne_eqb old.version last_version below in rw b

-- a change that was made
abbrev pub WasMade : State → Command → ℕ → Past → Type 0
WasMade old command version past = ((after old command).past ≡ past) × ((after old command).version ≡ version)

was_made : (old : State) (command : Command) (version : ℕ) (past : Past) (next : ℕ) (touched : List ℕ) (restyling : Bool)
    → step old command ≡ changed old past next touched restyling → reply_to old command ≡ reply.Changed version → WasMade old command version past
was_made old command version past next touched restyling e told = elim (either (old.version == last_version) (reply.Changes last_version, old) (
  reply.Changed (old.version + 1),
  record {
    past = past;
    next = next;
    version = old.version + 1;
    idle = restarted old.idle past.present touched restyling (old.version + 1);
  },
)) [
  | inl same ↦ let clash : reply.Changed version ≡ reply.Changes last_version = sym told ∙ ap (λ (t : Reply × State). t.0) (e ∙ same) in absurd (cc)
  | inr new ↦ (ap (λ (t : Reply × State). t.1.past) (e ∙ new), ap (λ (t : Reply × State). t.1.version) (e ∙ new) ∙ same_version _ _ (sym (ap (λ (t : Reply × State). t.0) (e ∙ new)) ∙ told))
] where
  same_version : (one other : ℕ) → reply.Changed one ≡ reply.Changed other → one ≡ other
  same_version one other e = cc

pub edit_made : (old : State) (group : Group) (version : ℕ) → reply_to old (command.Edit group) ≡ reply.Changed version
    → (new : Edited) × WasMade old (command.Edit group) version (after_group old.past new.document (touched_by (opened old) group.0) (list_any is_restyling group.0))
edit_made old group version told = of_result (edited_by_group (record { document = present old; next = old.next }) group.0) refl where
  of_result : (result : Result Edited (ℕ × Refusal)) → edited_by_group (record { document = present old; next = old.next }) group.0 ≡ result
      → (new : Edited) × WasMade old (command.Edit group) version (after_group old.past new.document (touched_by (opened old) group.0) (list_any is_restyling group.0))
  of_result (Ok new) e = (new, was_made old (command.Edit group) version (after_group old.past new.document (touched_by (opened old) group.0) (list_any is_restyling group.0)) new.next (touched_by (opened old) group.0) (list_any is_restyling group.0) (edit_changes old group.0 new e) told)
  of_result (Err refused) e = let clash : reply.Changed version ≡ reply.Refused refused.0 refused.1 = sym told ∙ ap (λ (t : Reply × State). t.0) (edit_refused old group.0 refused e) in absurd (cc)

-- an undo where there is an earlier document, below the greatest version
undo_present : (old : State) (entry : Entry) (earlier : List Entry) → old.past.earlier ≡ entry ∷ earlier → old.version ≢ last_version → present (after old command.Undo) ≡ entry.document
undo_present old entry earlier e below = ap (λ (t : Reply × State). t.1.past.present) (undo_changes old entry earlier e
    ∙ changed_below old (record { present = entry.document; earlier = earlier; undone = record entry { document = old.past.present } ∷ old.past.undone }) old.next entry.touched entry.restyling below)

pub undone_edit : (state : State) (group : Group) (version : ℕ) (between : List Command) → reply_to state (command.Edit group) ≡ reply.Changed version
    → version ≢ last_version → HasNoChange (after state (command.Edit group)) between
    → ShowSame state (after (after_all (after state (command.Edit group)) between) command.Undo)
undone_edit state group version between told below none =
    let made = edit_made state group version told in
    let kept : IsKept (after state (command.Edit group)) (after_all (after state (command.Edit group)) between) = IsKept-all (after state (command.Edit group)) between none in
    let back : present (after (after_all (after state (command.Edit group)) between) command.Undo) ≡ present state =
    undo_present (after_all (after state (command.Edit group)) between) (record { document = state.past.present; touched = touched_by (opened state) group.0; restyling = list_any is_restyling group.0 }) (take 255 state.past.earlier)
    (ap (λ (past : Past). past.earlier) (kept.past ∙ made.1.0)) (λ last. below (sym (kept.version ∙ made.1.1) ∙ last)) in
    record { document = back; bytes = ap (λ (doc : Document). reply.Saved (canonical doc)) back }

redo_past : (old : State) (entry : Entry) (undone : List Entry) → old.past.undone ≡ entry ∷ undone → old.version ≢ last_version
    → (after old command.Redo).past ≡ record { present = entry.document; earlier = record entry { document = old.past.present } ∷ old.past.earlier; undone = undone }
redo_past old entry undone e below = ap (λ (t : Reply × State). t.1.past) (redo_changes old entry undone e
    ∙ changed_below old (record { present = entry.document; earlier = record entry { document = old.past.present } ∷ old.past.earlier; undone = undone }) old.next entry.touched entry.restyling below)

redone : (state : State) (version : ℕ) (between : List Command) → reply_to state command.Undo ≡ reply.Changed version → version ≢ last_version → HasNoChange (after state command.Undo) between
    → (entry : Entry) (earlier : List Entry) → state.past.earlier ≡ entry ∷ earlier → (after (after_all (after state command.Undo) between) command.Redo).past ≡ state.past
redone state version between told below none entry earlier e =
    let past : Past = record { present = entry.document; earlier = earlier; undone = record entry { document = state.past.present } ∷ state.past.undone } in
    let made : WasMade state command.Undo version past = was_made state command.Undo version past state.next entry.touched entry.restyling (undo_changes state entry earlier e) told in
    let kept : IsKept (after state command.Undo) (after_all (after state command.Undo) between) = IsKept-all (after state command.Undo) between none in
    let same : (after_all (after state command.Undo) between).past ≡ past = kept.past ∙ made.0 in
    redo_past (after_all (after state command.Undo) between) (record entry { document = state.past.present }) state.past.undone (ap (λ (past : Past). past.undone) same) (λ last. below (sym (kept.version ∙ made.1) ∙ last))
    ∙ ap (λ (past : Past). record { present = state.past.present; earlier = record entry { document = past.present } ∷ past.earlier; undone = state.past.undone }) same
    ∙ ap (λ (earlier : List Entry). record state.past { earlier = earlier }) (sym e)

pub redone_undo : (state : State) (version : ℕ) (between : List Command) → reply_to state command.Undo ≡ reply.Changed version → version ≢ last_version → HasNoChange (after state command.Undo) between
    → (after (after_all (after state command.Undo) between) command.Redo).past ≡ state.past
redone_undo state version between told below none = of_earlier state.past.earlier refl where
  of_earlier : (earlier : List Entry) → state.past.earlier ≡ earlier → (after (after_all (after state command.Undo) between) command.Redo).past ≡ state.past
  of_earlier [] e = let clash : reply.Changed version ≡ reply.NothingToUndo = sym told ∙ ap (λ (t : Reply × State). t.0) (nothing_undone state e) in absurd (cc)
  of_earlier (entry ∷ earlier) e = redone state version between told below none entry earlier e
