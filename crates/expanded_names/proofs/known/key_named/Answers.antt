use Rattle.std.proofs.Common.{◌∙◌}
use Rattle.load_model.specs.Names.{known_keys}
use Rattle.expanded_names.specs.Rows.{key_rows}
use Rattle.expanded_names.proofs.Knowns.{by_table, keys_ascii, keys_known}
use Rattle.expanded_names.proofs.known.key_named.Goals as goal

pub returns : goal.returns
returns c = c.key_of_row.ensures ∙ by_table c.keys.result.now key_rows known_keys c.args.namespace.now c.args.local_name.now c.keys.ensures keys_known keys_ascii c.utf8.namespace c.utf8.local_name
