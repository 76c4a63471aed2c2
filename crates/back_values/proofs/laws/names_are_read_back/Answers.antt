use Rattle.std.proofs.Common.{refl}
use Rattle.back_values.proofs.Texts.{name_back, none_back, own_back}
use Rattle.back_values.proofs.laws.names_are_read_back.Goals as goal

pub returns : goal.returns
returns c = record { name = name_back; or_none = none_back; own = own_back; character = λ one. refl }
