use Rattle.std.proofs.Common.{◌≡◌, ◌++◌, ℕ, List, OnOk, subst}
use Rattle.std.specs.Str.{chars}
use Rattle.std.specs.String.{string_bytes}
use Rattle.tree_text.specs.Writing.{child_text}
use Rattle.block_write.specs.Declarations.{variable_element}
use Rattle.block_write.proofs.declarations.push_variable.Goals as goal

pub returns : goal.returns
unfolding chars
returns c =
    subst (λ (name : List ℕ). OnOk c.push_declaration.result (chars (string_bytes c.push_declaration.new.out) ≡ chars (string_bytes c.args.out.now) ++ child_text (variable_element name))) c.get.ensures c.push_declaration.ensures
