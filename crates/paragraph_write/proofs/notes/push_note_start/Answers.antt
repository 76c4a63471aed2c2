use Rattle.std.proofs.Common.{◌++◌, [], ◌∷◌, codes, refl}
use Rattle.std.specs.Str.{chars}
use Rattle.std.specs.String.{string_bytes}
use Rattle.tree_text.specs.Writing.{tag_text}
use Rattle.written_model.specs.Elements.{attribute, unless_empty}
use Rattle.written_model.specs.Values.{class_text}
use Rattle.value_write.proofs.ChainLemmas.{three}
use Rattle.paragraph_write.specs.Around.{tag_close}
use Rattle.paragraph_write.proofs.notes.push_note_start.Goals as goal

pub returns : goal.returns
unfolding chars
returns c =
    three c.push_tag_close.result (chars (string_bytes c.push_tag_close.new.out)) (chars (string_bytes c.push_plain.new.out)) (chars (string_bytes c.push_note_tag.new.out)) (chars (string_bytes c.args.out.now))
    (tag_text (codes "text:note") (unless_empty (codes "text:id") (chars c.args.id.now) ++ attribute (codes "text:note-class") (class_text c.args.class) ∷ []) ++ codes ">")
    (codes "<text:note-citation/><text:note-body") (tag_close c.args.holds) c.in_ok-push_note_tag.ensures c.in_ok-push_plain.ensures c.push_tag_close.ensures refl
