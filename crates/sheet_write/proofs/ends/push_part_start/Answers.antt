use Rattle.std.proofs.Common.{[], codes}
use Rattle.std.specs.Str.{chars}
use Rattle.std.specs.String.{string_bytes}
use Rattle.tree_text.specs.Writing.{tag_text}
use Rattle.value_write.proofs.ChainLemmas.{two}
use Rattle.sheet_write.proofs.HeldLemmas.{start_is}
use Rattle.sheet_write.proofs.ends.push_part_start.Goals as goal

pub returns : goal.returns
unfolding chars
returns c =
    let name = chars c.args.name.now in
    two c.push_tag_end.result (chars (string_bytes c.push_tag_end.new.out)) (chars (string_bytes c.push_name.new.out)) (chars (string_bytes c.args.out.now)) (tag_text name []) (codes ">")
    c.in_ok-push_name.ensures c.push_tag_end.ensures (start_is name c.args.holds c.if-not-holds.false)
