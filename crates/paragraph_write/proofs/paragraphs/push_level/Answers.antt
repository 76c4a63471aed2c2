use Rattle.std.proofs.Common.{◌≡◌, ◌++◌, List, OnOk, subst}
use Rattle.std.specs.List.{flat_map}
use Rattle.std.specs.Str.{chars}
use Rattle.std.specs.String.{string_bytes}
use Rattle.markup_nodes.specs.declared.words.Attr.{Attr}
use Rattle.tree_text.specs.Writing.{attr_text}
use Rattle.paragraph_write.proofs.ParagraphLemmas.{heading_level}
use Rattle.paragraph_write.proofs.paragraphs.push_level.Goals as goal

pub returns : goal.returns
unfolding chars
returns c =
    subst (λ (attrs : List Attr). OnOk c.push_number.result (chars (string_bytes c.push_number.new.out) ≡ chars (string_bytes c.args.out.now) ++ flat_map attr_text attrs))
    (heading_level c.args.level c.if-level-eq0.false) c.push_number.ensures
