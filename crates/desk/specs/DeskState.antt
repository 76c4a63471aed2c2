-- What holds of every desk.
use Rattle.std.specs.Prelude.{◌≡◌}
use Rattle.std.specs.List.{AllByRecursion as Each}
use Rattle.edit_model.specs.Past.{Past}
use Rattle.round_model.specs.Stops.{paragraph_count}
use Rattle.round_model.specs.Idle.{Idle}
use Rattle.round_model.specs.Reached.{IsReached}
use Rattle.desk.specs.PlainPast.{IsPlainPast}

-- every document that a past holds has as many paragraphs as the present one
pub record HasOneCount (past : Past) : Type 0 where
  pub earlier : Each (λ entry. paragraph_count entry.document ≡ paragraph_count past.present) past.earlier
  pub undone : Each (λ entry. paragraph_count entry.document ≡ paragraph_count past.present) past.undone

-- all documents of a desk are plain and have as many paragraphs, and its idle work is one that commands reach
pub record IsDeskState (past : Past) (idle : Idle) : Type 0 where
  pub plain : IsPlainPast past
  pub counts : HasOneCount past
  pub reached : IsReached past.present idle
