use Rattle.std.proofs.Common.{◌≡◌, ◌++◌, [], ◌∷◌, ℕ, OnOk, decimal, subst}
use Rattle.std.specs.List.{flat_map}
use Rattle.std.specs.Str.{chars}
use Rattle.std.specs.String.{string_bytes}
use Rattle.tree_text.specs.Writing.{attr_text}
use Rattle.written_model.specs.Elements.{attribute}
use Rattle.sheet_write.proofs.levels.push_level_number.Goals as goal

pub returns : goal.returns
returns c =
    subst (λ (number : ℕ). OnOk c.push_number.result (chars (string_bytes c.push_number.new.out) ≡ chars (string_bytes c.args.out.now) ++ flat_map attr_text (attribute (chars c.args.name.now) (decimal number) ∷ [])))
    c.get.ensures.same c.push_number.ensures
