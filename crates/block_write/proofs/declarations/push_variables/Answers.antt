-- The tag, the declarations and the end.
use Rattle.std.proofs.Common.{[], codes, map, sym, ◌∙◌}
use Rattle.std.specs.Str.{chars}
use Rattle.std.specs.String.{string_bytes}
use Rattle.tree_text.specs.Writing.{tag_text, end_text, content_text}
use Rattle.value_write.proofs.ChainLemmas.{four}
use Rattle.block_write.specs.Declarations.{variable_element}
use Rattle.block_write.proofs.DeclarationLemmas.{part_text}
use Rattle.block_write.proofs.declarations.push_variables.Goals as goal

pub returns : goal.returns
unfolding chars
returns c =
    let name = codes "text:variable-decls" in
    let names = c.args.names.now in
    four c.push_end.result (chars (string_bytes c.push_end.new.out)) (chars (string_bytes c.push_each_variable.new.out)) (chars (string_bytes c.push_tag_end.new.out)) (chars (string_bytes c.push_name.new.out)) (chars (string_bytes c.args.out.now))
    (tag_text name []) (codes ">") (content_text (map variable_element names)) (end_text name) c.in_ok-push_name.ensures c.in_ok-push_tag_end.ensures c.in_ok-push_each_variable.ensures c.push_end.ensures
    (part_text name variable_element names (sym c.is_empty.ensures ∙ c.if-is_empty.false))
