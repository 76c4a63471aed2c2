-- A room that is left, and none, behind one more unit.
use Rattle.line_frames.proofs.LineLemmas.{left_none, left_more}
use Rattle.line_frames.proofs.line.room_behind.Goals as goal

pub returns-in_err-room : goal.returns-in_err-room
returns-in_err-room c = λ width before h. rw c.from_residual.ensures (left_none width before c.args.unit.now (rw c.in_err-room.was at h))

pub returns : goal.returns
returns c = λ width before h.
    left_more width c.in_ok-room.field-0 before c.args.unit.now c.checked_sub.result (rw c.in_ok-room.was at h) c.checked_sub.ensures
