use Rattle.std.proofs.Common.{codes, refl}
use Rattle.std.specs.Str.{chars}
use Rattle.std.specs.String.{string_bytes}
use Rattle.value_write.proofs.ChainLemmas.{two}
use Rattle.paragraph_write.specs.Around.{element_close}
use Rattle.paragraph_write.proofs.notes.push_note_end.Goals as goal

pub returns : goal.returns
unfolding chars
returns c =
    two c.push_plain.result (chars (string_bytes c.push_plain.new.out)) (chars (string_bytes c.push_close.new.out)) (chars (string_bytes c.args.out.now))
    (element_close (codes "text:note-body") c.args.holds) (codes "</text:note>") c.in_ok-push_close.ensures c.push_plain.ensures refl
