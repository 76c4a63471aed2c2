use Rattle.valid_sheets.proofs.Names.{others_named}
use Rattle.valid_sheets.proofs.Styles.{styles_named}
use Rattle.valid_sheets.proofs.laws.names_are_apart.Goals as goal

pub returns : goal.returns
returns c = record { styles = styles_named; others = others_named }
