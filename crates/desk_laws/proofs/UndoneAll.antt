-- Many undos bring back the document before many changes.
use Rattle.std.proofs.Common.{◌≡◌, ◌≢◌, ℕ, ◌+◌, ◌*◌, ◌≤◌, ◌<◌, Bool, true, false, List, [], ◌∷◌, ◌++◌, length, take, drop, replicate, append_assoc, add-one, length-append, refl, ap, sym, ◌∙◌, arith, suc}
use Rattle.std.specs.Prelude.{if◌then◌else◌}
use Rattle.std.specs.List.{AllByRecursion as Each, list_any}
use Rattle.std.proofs.lemmas.List.{take-take}
use Rattle.std.proofs.Common.{take-append-drop}
use Rattle.doc_model.specs.declared.document.Document.{Document}
use Rattle.edit_model.specs.Past.{Past, Entry}
use Rattle.spelling_model.specs.Spelling.{canonical}
use Rattle.desk_model.specs.declared.command.Command.{Command}
use Rattle.desk_model.specs.declared.command.Command.TheVariants as command
use Rattle.desk_model.specs.declared.reply.Reply.{Reply}
use Rattle.desk_model.specs.declared.reply.Reply.TheVariants as reply
use Rattle.round_model.specs.declared.turn.Taken.{Taken}
use Rattle.round_model.specs.declared.turn.Taken.TheVariants as took
use Rattle.round_model.specs.declared.turn.Published.{Published}
use Rattle.round_model.specs.declared.turn.Published.TheVariants.{Stale, Already, Entered}
use Rattle.edit_model.specs.Edit.{live_paragraph}
use Rattle.round_model.specs.Idle.{take as take_idle, publish}
use Rattle.edit_model.specs.Edit.{touched_by, is_restyling}
use Rattle.desk_model.specs.Desk.{State, present, last_version, opened, taken_reply, published_reply}
use Rattle.desk_laws.specs.Steps.{reply_to, after, after_all, ShowSame}
use Rattle.desk_laws.specs.Changes.{is_change, is_onward, change_count}
use Rattle.desk_laws.proofs.Kept.{IsKept}
use Rattle.desk_laws.proofs.StepCases.{StepCase, step_case, undo_changes, page_no_change, text_no_change}
use Rattle.desk_laws.proofs.Runs.{IsKept-other}
use Rattle.desk_laws.proofs.Undone.{edit_made, changed_below}

-- a change by a group
record WasEdit (old : State) (command : Command) : Type 0 where
  entry : Entry
  earlier : (after old command).past.earlier ≡ take 256 (entry ∷ old.past.earlier)
  document : entry.document ≡ present old
  version : (after old command).version ≡ old.version + 1

no_change : (old : State) (command : Command) → is_change (reply_to old command) ≡ false → is_change (reply_to old command) ≡ true → WasEdit old command
no_change old command none told = absurd (let clash : false ≡ true = sym none ∙ told in cc)

pub taken_no_change : (taken : Taken) → is_change (taken_reply taken) ≡ false
taken_no_change took.Settled = refl
taken_no_change (took.Moved debt) = refl
taken_no_change (took.Job job) = refl

pub published_no_change : (published : Published) → is_change (published_reply published) ≡ false
published_no_change (Stale had now) = refl
published_no_change Already = refl
published_no_change (Entered debt) = refl

new_version : (old : State) (command : Command) → is_change (reply_to old command) ≡ true → (reply_to old command ≡ reply.Changed (old.version + 1)) × ((after old command).version ≡ old.version + 1)
new_version old command told = elim (step_case old command) [
  | StepCase.Stays other kept same turn ↦ absurd (let clash : false ≡ true = sym other ∙ told in cc)
  | StepCase.Changes past next more e ↦ (ap (λ (t : Reply × State). t.0) e, ap (λ (t : Reply × State). t.1.version) e)
]

was_edit : (old : State) (command : Command) → is_onward command ≡ true → is_change (reply_to old command) ≡ true → WasEdit old command
was_edit old (command.Edit group) onward told =
    let new = new_version old (command.Edit group) told in
    let made = edit_made old group (old.version + 1) new.0 in
    record {
      entry = record { document = old.past.present; touched = touched_by (opened old) group.0; restyling = list_any is_restyling group.0 };
      earlier = ap (λ (past : Past). past.earlier) made.1.0;
      document = refl;
      version = new.1;
    }
was_edit old command.Undo onward told = absurd (let clash : false ≡ true = onward in cc)
was_edit old command.Redo onward told = absurd (let clash : false ≡ true = onward in cc)
was_edit old command.Take onward told = no_change old command.Take (taken_no_change (take_idle (present old) old.idle).0) told
was_edit old (command.Publish job) onward told = no_change old (command.Publish job) (published_no_change (publish (present old) old.idle job).0) told
was_edit old (command.Page index) onward told = no_change old (command.Page index) (page_no_change old index) told
was_edit old (command.Text par) onward told = no_change old (command.Text par) (text_no_change par (live_paragraph (present old) par)) told
was_edit old command.Save onward told = no_change old command.Save refl told
was_edit old command.Debt onward told = no_change old command.Debt refl told
was_edit old command.Version onward told = no_change old command.Version refl told

-- the earlier documents behind so many changes: those of the changes, and behind them the ones that were there before
record AreBehind (state last : State) (count more : ℕ) : Type 0 where
  before : List Entry
  earlier : take (count + more) last.past.earlier ≡ before ++ take more state.past.earlier
  counted : length before ≡ count
  version : last.version ≡ state.version + count

behind_other : (state next last : State) (count more : ℕ) → IsKept state next → AreBehind next last count more → AreBehind state last (0 + count) more
behind_other state next last count more kept is = record {
  before = is.before;
  earlier = ap (λ (n : ℕ). take (n + more) last.past.earlier) zero_add ∙ is.earlier ∙ ap (λ (past : Past). is.before ++ take more past.earlier) kept.past;
  counted = omega (arith, is.counted);
  version = omega (arith, is.version, kept.version);
} where
  zero_add : 0 + count ≡ count
  zero_add = omega arith

behind_edit : (state : State) (command : Command) (last : State) (count more : ℕ) → more + 1 ≤ 256 → WasEdit state command → AreBehind (after state command) last count (more + 1) → AreBehind state last (1 + count) more
behind_edit state command last count more few was is = record {
  before = is.before ++ was.entry ∷ [];
  earlier = ap (λ (n : ℕ). take n last.past.earlier) sums ∙ is.earlier
      ∙ ap (λ (entries : List Entry). is.before ++ entries) (ap (take (more + 1)) was.earlier ∙ take-take (more + 1) 256 (was.entry ∷ state.past.earlier) few ∙ one_more)
      ∙ sym (append_assoc is.before (was.entry ∷ []) (take more state.past.earlier));
  counted = omega (arith, is.counted, length-append is.before (was.entry ∷ []));
  version = omega (arith, is.version, was.version);
} where
  sums : 1 + count + more ≡ count + (more + 1)
  sums = omega arith

  one_more : take (more + 1) (was.entry ∷ state.past.earlier) ≡ was.entry ∷ take more state.past.earlier
  one_more = rw add-one refl

behind_all : (state : State) (commands : List Command) (more : ℕ) → Each (λ command. is_onward command ≡ true) commands → change_count state commands + more ≤ 256
    → AreBehind state (after_all state commands) (change_count state commands) more
behind_all state [] more onward few = record { before = []; earlier = ap (λ (n : ℕ). take n state.past.earlier) (zero_add more); counted = refl; version = omega arith } where
  zero_add : (n : ℕ) → 0 + n ≡ n
  zero_add n = omega arith
behind_all state (command ∷ commands) more onward few = of_test (is_change (reply_to state command)) refl few (behind_all (after state command) commands) where
  of_test : (change : Bool) → is_change (reply_to state command) ≡ change → (if change then 1 else 0) + change_count (after state command) commands + more ≤ 256
      → ((more : ℕ) → Each (λ command. is_onward command ≡ true) commands → change_count (after state command) commands + more ≤ 256
      → AreBehind (after state command) (after_all (after state command) commands) (change_count (after state command) commands) more)
      → AreBehind state (after_all (after state command) commands) ((if change then 1 else 0) + change_count (after state command) commands) more
  of_test true told few behind = behind_edit state command (after_all (after state command) commands) (change_count (after state command) commands) more (omega arith) (was_edit state command onward.0 told)
      (behind (more + 1) onward.1 (omega arith))
  of_test false told few behind = behind_other state (after state command) (after_all (after state command) commands) (change_count (after state command) commands) more (IsKept-other state command told)
      (behind more onward.1 (omega arith))

-- an undo where there is an earlier document
undo_step : (old : State) (entry : Entry) (earlier : List Entry) → old.past.earlier ≡ entry ∷ earlier → old.version ≢ last_version
    → (present (after old command.Undo) ≡ entry.document) × ((after old command.Undo).past.earlier ≡ earlier) × ((after old command.Undo).version ≡ old.version + 1)
undo_step old entry earlier e below =
    let done = undo_changes old entry earlier e
    ∙ changed_below old (record { present = entry.document; earlier = earlier; undone = record entry { document = old.past.present } ∷ old.past.undone }) old.next entry.touched entry.restyling below in
    (ap (λ (t : Reply × State). t.1.past.present) done, ap (λ (t : Reply × State). t.1.past.earlier) done, ap (λ (t : Reply × State). t.1.version) done)

-- so many undos go back so many documents
undo_many : (before : List Entry) (entry : Entry) (rest : List Entry) (state : State) → state.past.earlier ≡ before ++ entry ∷ rest → state.version + length before < last_version
    → present (after_all state (replicate (suc (length before)) command.Undo)) ≡ entry.document
undo_many [] entry rest state e below = (undo_step state entry rest e (λ last. omega (arith, below, last))).0
undo_many (first ∷ before) entry rest state e below =
    let done = undo_step state first (before ++ entry ∷ rest) e (λ last. omega (arith, below, last)) in
    undo_many before entry rest (after state command.Undo) done.1 (omega (arith, below, done.2))

undone_since : (state : State) (now : Command) (last : State) (count : ℕ) → WasEdit state now → AreBehind (after state now) last count 1 → state.version + 2 * (1 + count) ≤ last_version
    → present (after_all last (replicate (1 + count) command.Undo)) ≡ present state
undone_since state now last count was is below =
    let first : take 1 (after state now).past.earlier ≡ was.entry ∷ [] = ap (take 1) was.earlier in
    let all : last.past.earlier ≡ is.before ++ was.entry ∷ drop (count + 1) last.past.earlier =
    sym (take-append-drop (count + 1) last.past.earlier)
    ∙ ap (λ (entries : List Entry). entries ++ drop (count + 1) last.past.earlier) (is.earlier ∙ ap (λ (entries : List Entry). is.before ++ entries) first)
    ∙ append_assoc is.before (was.entry ∷ []) (drop (count + 1) last.past.earlier) in
    let times : 1 + count ≡ suc (length is.before) = omega (arith, is.counted) in
    ap (λ (n : ℕ). present (after_all last (replicate n command.Undo))) times
    ∙ undo_many is.before was.entry (drop (count + 1) last.past.earlier) last all (omega (arith, below, is.version, was.version, is.counted)) ∙ was.document

undone_document : (state : State) (commands : List Command) → Each (λ command. is_onward command ≡ true) commands → change_count state commands ≤ 256
    → state.version + 2 * change_count state commands ≤ last_version
    → present (after_all (after_all state commands) (replicate (change_count state commands) command.Undo)) ≡ present state
undone_document state [] onward few below = refl
undone_document state (now ∷ commands) onward few below = of_test (is_change (reply_to state now)) refl few below (undone_document (after state now) commands onward.1) where
  of_test : (change : Bool) → is_change (reply_to state now) ≡ change → (if change then 1 else 0) + change_count (after state now) commands ≤ 256
      → state.version + 2 * ((if change then 1 else 0) + change_count (after state now) commands) ≤ last_version
      → (change_count (after state now) commands ≤ 256 → (after state now).version + 2 * change_count (after state now) commands ≤ last_version
      → present (after_all (after_all (after state now) commands) (replicate (change_count (after state now) commands) command.Undo)) ≡ present (after state now))
      → present (after_all (after_all (after state now) commands) (replicate ((if change then 1 else 0) + change_count (after state now) commands) command.Undo)) ≡ present state
  of_test true told few below back = undone_since state now (after_all (after state now) commands) (change_count (after state now) commands) (was_edit state now onward.0 told)
      (behind_all (after state now) commands 1 onward.1 (omega arith)) below
  of_test false told few below back =
      let kept : IsKept state (after state now) = IsKept-other state now told in
      let same : 0 + change_count (after state now) commands ≡ change_count (after state now) commands = omega arith in
      ap (λ (n : ℕ). present (after_all (after_all (after state now) commands) (replicate n command.Undo))) same
      ∙ back (omega arith) (omega (arith, kept.version)) ∙ ap (λ (past : Past). past.present) kept.past

pub undone_all : (state : State) (commands : List Command) → Each (λ command. is_onward command ≡ true) commands → change_count state commands ≤ 256
    → state.version + 2 * change_count state commands ≤ last_version → ShowSame state (after_all (after_all state commands) (replicate (change_count state commands) command.Undo))
undone_all state commands onward few below =
    let back = undone_document state commands onward few below in
    record { document = back; bytes = ap (λ (doc : Document). reply.Saved (canonical doc)) back }
