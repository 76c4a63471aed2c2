use Rattle.plain_doc.proofs.Spelled.{written_plain}
use Rattle.desk.proofs.desk.Desk.save.Goals as goal

-- the present document is plain, so it has a spelling
pub save-requires : goal.save-requires
save-requires c = rw c.present.ensures (written_plain _ c.self.invariant.plain.present)
