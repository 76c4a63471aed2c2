-- The characters of a number.
use Rattle.std.proofs.Common.{◌≡◌, ◌++◌, [], ◌∷◌, ℕ, List, OnOk, ap, sym, ◌∙◌, subst, decimal, arith, to_z-of_z}
use Rattle.std.specs.List.{flat_map}
use Rattle.std.specs.Str.{chars}
use Rattle.std.specs.String.{string_bytes}
use Rattle.std.specs.Fmt.{signed_decimal}
use Rattle.tree_text.specs.Writing.{attr_text}
use Rattle.written_model.specs.Elements.{attribute}
use Rattle.written_model.specs.Values.{whole_text}
use Rattle.value_write.proofs.AttributeLemmas.{digits_are, whole_are}
use Rattle.value_write.proofs.attributes.push_whole.Goals as goal

pub returns : goal.returns
returns c =
    let text : chars c.as_str.result.now ≡ whole_text c.args.number = ap chars (c.as_str.ensures.value ∙ c.in_ok-text.ensures.ok) ∙ (ap (λ z. chars (signed_decimal z)) (to_z-of_z c.ranges.number) ∙ whole_are c.args.number c.ranges.number) in
    subst (λ (value : List ℕ). OnOk c.push_text.result (chars (string_bytes c.push_text.new.out) ≡ chars (string_bytes c.args.out.now) ++ flat_map attr_text (attribute (chars c.args.name.now) value ∷ [])))
    text c.push_text.ensures
