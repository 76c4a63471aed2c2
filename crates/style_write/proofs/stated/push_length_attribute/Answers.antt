use Rattle.std.proofs.Common.{◌≡◌, ◌++◌, [], ◌∷◌, ℕ, List, ap, ◌∙◌, subst, OnOk}
use Rattle.std.specs.List.{flat_map}
use Rattle.std.specs.Str.{chars}
use Rattle.std.specs.String.{string_bytes}
use Rattle.std.proofs.lemmas.Str.{chars-nil}
use Rattle.style_model.specs.Lengths.{length_spelling}
use Rattle.tree_text.specs.Writing.{attr_text}
use Rattle.written_model.specs.Elements.{attribute}
use Rattle.style_write.proofs.stated.push_length_attribute.Goals as goal

pub returns : goal.returns
returns c =
    let empty : chars (string_bytes c.new-text.result) ≡ [] = ap chars c.new-text.ensures.bytes ∙ chars-nil in
    let text : chars c.as_str.result.now ≡ length_spelling c.args.length =
    ap chars c.as_str.ensures.value ∙ (c.in_ok-push_length.ensures ∙ ap (λ (t : List ℕ). t ++ length_spelling c.args.length) empty) in
    subst (λ (value : List ℕ). OnOk c.push_text.result (chars (string_bytes c.push_text.new.out) ≡ chars (string_bytes c.args.out.now) ++ flat_map attr_text (attribute (chars c.args.name.now) value ∷ [])))
    text c.push_text.ensures
