use Rattle.plain_doc.proofs.Edited.{with_items-plain, live_paragraph-plain, with_text-plain, without_range-plain}
use Rattle.plain_doc.proofs.laws.plain_edit.Goals as goal

pub returns-clause-live : goal.returns-clause-live
returns-clause-live c = live_paragraph-plain

pub returns-clause-insert : goal.returns-clause-insert
returns-clause-insert c = with_text-plain

pub returns-clause-delete : goal.returns-clause-delete
returns-clause-delete c = without_range-plain

pub returns-clause-change : goal.returns-clause-change
returns-clause-change c = with_items-plain
