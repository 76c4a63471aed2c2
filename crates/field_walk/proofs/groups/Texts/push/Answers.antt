use Rattle.field_walk.proofs.ForgetLemmas.{on_err, same_notes, same_body}
use Rattle.field_walk.proofs.groups.Texts.push.Goals as goal

pub returns-then-in_note-clause-err : goal.returns-then-in_note-clause-err
returns-then-in_note-clause-err g c = on_err c.push.result (same_notes c.args.self.now c.push.new.self) c.push.ensures.err

pub returns-else-in_note-clause-err : goal.returns-else-in_note-clause-err
returns-else-in_note-clause-err g c = on_err c.push-else-in_note.result (same_body c.args.self.now c.push-else-in_note.new.self) c.push-else-in_note.ensures.err
