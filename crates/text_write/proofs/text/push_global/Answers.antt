use Rattle.std.proofs.Common.{◌≡◌, ◌++◌, Bool, OnOk, codes, sym, subst}
use Rattle.std.specs.List.{flat_map}
use Rattle.std.specs.Str.{chars}
use Rattle.std.specs.String.{string_bytes}
use Rattle.tree_text.specs.Writing.{attr_text}
use Rattle.written_model.specs.Elements.{where_true}
use Rattle.text_write.proofs.text.push_global.Goals as goal

pub returns-then-global : goal.returns-then-global
unfolding chars
returns-then-global c =
    subst (λ (global : Bool). OnOk c.push_text.result (chars (string_bytes c.push_text.new.out) ≡ chars (string_bytes c.args.out.now) ++ flat_map attr_text (where_true (codes "text:global") (codes "true") global)))
    (sym c.if-global.true) c.push_text.ensures
