use Rattle.back_places.proofs.Placeless.{alike_named, placeless_named}
use Rattle.back_places.proofs.laws.places_are_of_no_account.Goals as goal

pub returns : goal.returns
returns c = record { named = placeless_named; alike = alike_named }
