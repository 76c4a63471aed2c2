use Rattle.std.proofs.Common.{[], codes, sym}
use Rattle.std.specs.Str.{chars}
use Rattle.std.specs.String.{string_bytes}
use Rattle.tree_text.specs.Writing.{tag_text}
use Rattle.value_write.proofs.ChainLemmas.{two}
use Rattle.value_write.proofs.ElementLemmas.{empty_text}
use Rattle.head_write.proofs.items.push_bare.Goals as goal

pub returns : goal.returns
returns c =
    let name = chars c.args.name.now in
    two c.push_empty_end.result (chars (string_bytes c.push_empty_end.new.out)) (chars (string_bytes c.push_name.new.out)) (chars (string_bytes c.args.out.now)) (tag_text name []) (codes "/>")
    c.in_ok-push_name.ensures c.push_empty_end.ensures (sym (empty_text name []))
