use Rattle.std.proofs.Common.{◌∙◌}
use Rattle.load_model.specs.Names.{known_tags}
use Rattle.expanded_names.specs.Rows.{tag_rows}
use Rattle.expanded_names.proofs.Knowns.{by_table, tags_ascii, tags_known}
use Rattle.expanded_names.proofs.known.tag_named.Goals as goal

pub returns : goal.returns
returns c = c.tag_of_row.ensures ∙ by_table c.tags.result.now tag_rows known_tags c.args.namespace.now c.args.local_name.now c.tags.ensures tags_known tags_ascii c.utf8.namespace c.utf8.local_name
