use Rattle.std.proofs.Common.{◌∙◌}
use Rattle.read_values.proofs.Words.{table_by_chars}
use Rattle.read_values.proofs.tables.by_table.Goals as goal

pub returns : goal.returns
returns g c = c.by_bytes.ensures ∙ table_by_chars (λ row. row.0.now) (λ row. row.1) c.args.table.now c.args.text.now c.requires.ascii c.utf8.text
