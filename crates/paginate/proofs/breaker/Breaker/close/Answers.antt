use Rattle.std.proofs.Common.{◌≡◌, ◌+◌, ◌-◌, ◌++◌, ◌∷◌, [], ℕ, List, Option, length, take, drop, map, ap, ◌∙◌, arith}
use Rattle.std.specs.List.{filter_map}
use Rattle.std.specs.Option.{option_map}
use Rattle.page_model.specs.declared.body.HeadText.{HeadText}
use Rattle.page_model.specs.declared.row.Row.{Row}
use Rattle.page_model.specs.declared.row.NoteRow.{NoteRow}
use Rattle.page_model.specs.Frames.{frame_at}
use Rattle.page_model.specs.Bodies.{texts_of}
use Rattle.page_model.specs.Breaking.{notes_of}
use Rattle.page_model.specs.Pages.{Left, count_for, master_of, number_of, room_for_notes, page_of}
use Rattle.paginate.specs.declared.breaker.Closed.{Closed}
use Rattle.paginate.specs.Heads.{heads_behind}
use Rattle.paginate.specs.Standing.{left_from, left_of, carried_by, closed_of}
use Rattle.paginate.proofs.CloseLemmas.{drop_both, left-same, page-same, notes_shown, places_shown}
use Rattle.paginate.proofs.breaker.Breaker.close.Goals as goal

pub returns-clause-counted : goal.returns-clause-counted
returns-clause-counted c =
    c.next_turn-turn.ensures.count ∙ ap (λ (k : List NoteRow). count_for c.args.frames.now (left_from c.args.self.now.master c.args.self.now.number k) c.args.rows.now) c.carried.ensures

pub returns-clause-carried : goal.returns-clause-carried
returns-clause-carried c =
    let old = c.args.self.now in
    let frames = c.args.frames.now in
    let rows = c.args.rows.now in
    let left = left_of old in
    let carried = carried_by old in
    let is_carried : c.carried.result.now ≡ carried = c.carried.ensures in
    let turn = c.next_turn-turn.result in
    let counted : turn.count ≡ count_for frames left rows =
    c.next_turn-turn.ensures.count ∙ ap (λ (k : List NoteRow). count_for frames (left_from old.master old.number k) rows) is_carried in
    let space : turn.space ≡ room_for_notes frames left rows =
    c.next_turn-turn.ensures.space ∙ ap (λ (k : List NoteRow). room_for_notes frames (left_from old.master old.number k) rows) is_carried in
    let room = room_for_notes frames left rows in
    let own = take (count_for frames left rows) rows in
    let is_own : take turn.count rows ≡ own = ap (λ (n : ℕ). take n rows) counted in
    let notes : c.in_ok-notes.notes.items ≡ notes_of own = c.in_ok-notes.ensures ∙ ap notes_of is_own in
    let first : c.first_notes-carried.result.now ≡ take room carried =
    c.first_notes-carried.ensures ∙ ap (take turn.space) c.carried-2.ensures ∙ ap (λ (n : ℕ). take n carried) space in
    let second : c.first_notes-added.result.now ≡ take (room - length (take room carried)) (notes_of own) =
    c.first_notes-added.ensures ∙ ap (take (turn.space - length c.first_notes-carried.result.now)) (c.as_slice.ensures.value ∙ notes)
    ∙ ap (λ (n : ℕ). take (n - length c.first_notes-carried.result.now) (notes_of own)) space
    ∙ ap (λ (l : List NoteRow). take (room - length l) (notes_of own)) first in
    let joined : c.append.new.self.items ≡ c.reserve.new.self.items ++ c.in_ok-notes.notes.items = grind (arith, c.append.ensures.items, c.append.ensures.succeeds, c.in_ok-reserve.ensures.ok, c.len.ensures) in
    let queue : c.append.new.self.items ≡ old.queue.items ++ notes_of own =
    joined ∙ ap (λ (l : List NoteRow). l ++ c.in_ok-notes.notes.items) c.in_ok-reserve.ensures.items ∙ ap (λ (l : List NoteRow). old.queue.items ++ l) notes in
    let shown : old.shown + (length c.first_notes-carried.result.now + length c.first_notes-added.result.now)
    ≡ old.shown + (length (take room carried) + length (take (room - length (take room carried)) (notes_of own))) =
    ap (λ (l : List NoteRow). old.shown + (length l + length c.first_notes-added.result.now)) first
    ∙ ap (λ (l : List NoteRow). old.shown + (length (take room carried) + length l)) second in
    let later : drop (old.shown + (length c.first_notes-carried.result.now + length c.first_notes-added.result.now)) c.append.new.self.items ≡ drop room (carried ++ notes_of own) =
    ap (λ (n : ℕ). drop n c.append.new.self.items) shown
    ∙ ap (drop (old.shown + (length (take room carried) + length (take (room - length (take room carried)) (notes_of own))))) queue
    ∙ drop_both old.shown room old.queue.items (notes_of own) (omega (arith, old.queue.ok, old.within)) in
    ap (λ (l : Left). l.carried) c.clear_shown.ensures.left ∙ later

pub returns-clause-ok : goal.returns-clause-ok
returns-clause-ok c = λ small.
    let old = c.args.self.now in
    let frames = c.args.frames.now in
    let rows = c.args.rows.now in
    let left = left_of old in
    let carried = carried_by old in
    let is_carried : c.carried.result.now ≡ carried = c.carried.ensures in
    let turn = c.next_turn-turn.result in
    let counted : turn.count ≡ count_for frames left rows =
    c.next_turn-turn.ensures.count ∙ ap (λ (k : List NoteRow). count_for frames (left_from old.master old.number k) rows) is_carried in
    let master : turn.master ≡ master_of frames left rows = c.next_turn-turn.ensures.master in
    let number : turn.number ≡ number_of left rows = c.next_turn-turn.ensures.number small in
    let columns : turn.columns ≡ (frame_at frames (master_of frames left rows)).columns = c.next_turn-turn.ensures.columns in
    let space : turn.space ≡ room_for_notes frames left rows =
    c.next_turn-turn.ensures.space ∙ ap (λ (k : List NoteRow). room_for_notes frames (left_from old.master old.number k) rows) is_carried in
    let room = room_for_notes frames left rows in
    let own = take (count_for frames left rows) rows in
    let is_own : take turn.count rows ≡ own = ap (λ (n : ℕ). take n rows) counted in
    let notes : c.in_ok-notes.notes.items ≡ notes_of own = c.in_ok-notes.ensures ∙ ap notes_of is_own in
    let first : c.first_notes-carried.result.now ≡ take room carried =
    c.first_notes-carried.ensures ∙ ap (take turn.space) c.carried-2.ensures ∙ ap (λ (n : ℕ). take n carried) space in
    let second : c.first_notes-added.result.now ≡ take (room - length (take room carried)) (notes_of own) =
    c.first_notes-added.ensures ∙ ap (take (turn.space - length c.first_notes-carried.result.now)) (c.as_slice.ensures.value ∙ notes)
    ∙ ap (λ (n : ℕ). take (n - length c.first_notes-carried.result.now) (notes_of own)) space
    ∙ ap (λ (l : List NoteRow). take (room - length l) (notes_of own)) first in
    let joined : c.append.new.self.items ≡ c.reserve.new.self.items ++ c.in_ok-notes.notes.items = grind (arith, c.append.ensures.items, c.append.ensures.succeeds, c.in_ok-reserve.ensures.ok, c.len.ensures) in
    let queue : c.append.new.self.items ≡ old.queue.items ++ notes_of own =
    joined ∙ ap (λ (l : List NoteRow). l ++ c.in_ok-notes.notes.items) c.in_ok-reserve.ensures.items ∙ ap (λ (l : List NoteRow). old.queue.items ++ l) notes in
    let shown : old.shown + (length c.first_notes-carried.result.now + length c.first_notes-added.result.now)
    ≡ old.shown + (length (take room carried) + length (take (room - length (take room carried)) (notes_of own))) =
    ap (λ (l : List NoteRow). old.shown + (length l + length c.first_notes-added.result.now)) first
    ∙ ap (λ (l : List NoteRow). old.shown + (length (take room carried) + length l)) second in
    let later : drop (old.shown + (length c.first_notes-carried.result.now + length c.first_notes-added.result.now)) c.append.new.self.items ≡ drop room (carried ++ notes_of own) =
    ap (λ (n : ℕ). drop n c.append.new.self.items) shown
    ∙ ap (drop (old.shown + (length (take room carried) + length (take (room - length (take room carried)) (notes_of own))))) queue
    ∙ drop_both old.shown room old.queue.items (notes_of own) (omega (arith, old.queue.ok, old.within)) in
    let heads : c.in_ok-closed.closed.body.heads ≡ heads_behind old.heads own =
    c.in_ok-closed.ensures.heads ∙ ap (λ (l : List (Option HeadText)). heads_behind l (take turn.count rows)) c.get.ensures ∙ ap (heads_behind old.heads) is_own in
    let texts : c.in_ok-closed.closed.body.notes ≡ map (λ (row : NoteRow). row.text) (take room (carried ++ notes_of own)) =
    c.in_ok-closed.ensures.notes ∙ ap (λ (l : List NoteRow). map (λ (row : NoteRow). row.text) l ++ map (λ (row : NoteRow). row.text) c.first_notes-added.result.now) first
    ∙ ap (λ (l : List NoteRow). map (λ (row : NoteRow). row.text) (take room carried) ++ map (λ (row : NoteRow). row.text) l) second
    ∙ notes_shown room carried (notes_of own) in
    let front = filter_map (λ (row : Row). option_map (λ first. first.place) row.first) own in
    let firsts : c.in_ok-closed.closed.firsts ≡ front ++ filter_map (λ (row : NoteRow). row.place) (take room (carried ++ notes_of own)) =
    c.in_ok-closed.ensures.firsts
    ∙ ap (λ (l : List Row). filter_map (λ (row : Row). option_map (λ first. first.place) row.first) l ++ filter_map (λ (row : NoteRow). row.place) c.first_notes-carried.result.now ++ filter_map (λ (row : NoteRow). row.place) c.first_notes-added.result.now) is_own
    ∙ ap (λ (l : List NoteRow). front ++ filter_map (λ (row : NoteRow). row.place) l ++ filter_map (λ (row : NoteRow). row.place) c.first_notes-added.result.now) first
    ∙ ap (λ (l : List NoteRow). front ++ filter_map (λ (row : NoteRow). row.place) (take room carried) ++ filter_map (λ (row : NoteRow). row.place) l) second
    ∙ places_shown front room carried (notes_of own) in
    let page : c.in_ok-closed.closed ≡ closed_of frames old.heads (page_of frames left rows) =
    page-same c.in_ok-closed.closed (number_of left rows) (master_of frames left rows) (frame_at frames (master_of frames left rows)).columns (texts_of own)
    (map (λ (row : NoteRow). row.text) (take room (carried ++ notes_of own))) (heads_behind old.heads own) (front ++ filter_map (λ (row : NoteRow). row.place) (take room (carried ++ notes_of own)))
    (c.in_ok-closed.ensures.number ∙ number) (c.in_ok-closed.ensures.master ∙ master) (c.in_ok-closed.ensures.columns ∙ columns) (c.in_ok-closed.ensures.body ∙ ap texts_of is_own) texts heads firsts in
    record {
      counted = counted;
      left = c.clear_shown.ensures.left ∙ left-same _ _ _ _ _ _ master number later;
      small = rw (ap (λ (l : Left). l.number) c.clear_shown.ensures.left) c.next_turn-turn.ensures.small;
      heads = c.clear_shown.ensures.heads ∙ c.in_ok-heads.ensures ∙ c.get-2.ensures ∙ heads;
      pages = c.clear_shown.ensures.pages ∙ c.in_ok-push.ensures.items ∙ ap (λ (p : Closed). old.pages.items ++ p ∷ []) page;
    }
