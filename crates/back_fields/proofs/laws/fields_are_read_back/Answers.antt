use Rattle.back_fields.proofs.Fields.{field_back}
use Rattle.back_fields.proofs.laws.fields_are_read_back.Goals as goal

pub returns : goal.returns
returns c = field_back
