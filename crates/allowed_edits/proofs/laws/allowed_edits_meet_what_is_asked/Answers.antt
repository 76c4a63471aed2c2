use Rattle.allowed_edits.proofs.Allowed.{all_live, all_within, all_met, all_new, delete_order, span_order}
use Rattle.allowed_edits.proofs.laws.allowed_edits_meet_what_is_asked.Goals as goal

pub returns : goal.returns
returns c = record { live = all_live; within = all_within; needed = all_met; new = all_new; deleted = delete_order; spanned = span_order }
