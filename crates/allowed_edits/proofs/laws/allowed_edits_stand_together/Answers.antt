use Rattle.allowed_edits.proofs.Allowed.{joined_two, moved_order, moved_target, note_outside, wrapped_order, wrapped_outside, parent_apart, style_unused}
use Rattle.allowed_edits.proofs.laws.allowed_edits_stand_together.Goals as goal

pub returns : goal.returns
returns c = record { joined = joined_two; moved = moved_order; target = moved_target; noted = note_outside; wrapped = wrapped_order; outside = wrapped_outside; parents = parent_apart; unused = style_unused }
