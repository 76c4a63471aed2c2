use Rattle.text_places.proofs.Declared.{kept_rise}
use Rattle.text_places.proofs.Uses.{used_rise}
use Rattle.text_places.proofs.laws.declarations_rise.Goals as goal

pub returns : goal.returns
returns c = record { stated = kept_rise; used = used_rise }
