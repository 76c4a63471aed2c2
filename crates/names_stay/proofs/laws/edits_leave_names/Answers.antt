use Rattle.names_stay.proofs.Edits.{text_stays, style_stays, span_stays, heading_stays, list_stays, field_stays}
use Rattle.names_stay.proofs.laws.edits_leave_names.Goals as goal

pub returns : goal.returns
returns c = record { text = text_stays; style = style_stays; span = span_stays; heading = heading_stays; list = list_stays; field = field_stays }
