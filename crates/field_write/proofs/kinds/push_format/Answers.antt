use Rattle.std.proofs.Common.{◌≡◌, ◌++◌, [], ◌∷◌, ℕ, List, OnOk, codes, subst}
use Rattle.std.specs.List.{flat_map}
use Rattle.std.specs.Str.{chars}
use Rattle.std.specs.String.{string_bytes}
use Rattle.tree_text.specs.Writing.{attr_text}
use Rattle.written_model.specs.Elements.{attribute}
use Rattle.field_write.proofs.kinds.push_format.Goals as goal

pub returns : goal.returns
unfolding chars
returns c =
    subst (λ (value : List ℕ). OnOk c.push_text.result (chars (string_bytes c.push_text.new.out) ≡ chars (string_bytes c.args.out.now) ++ flat_map attr_text (attribute (codes "style:num-format") value ∷ [])))
    c.format_text.ensures c.push_text.ensures
