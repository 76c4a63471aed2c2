-- The one character of the text.
use Rattle.std.proofs.Common.{◌≡◌, ◌++◌, [], ◌∷◌, ℕ, List, ap, ◌∙◌, subst, OnOk}
use Rattle.std.specs.Prelude.{encode_utf8}
use Rattle.std.specs.List.{flat_map}
use Rattle.std.specs.Str.{chars}
use Rattle.std.specs.String.{string_bytes}
use Rattle.markup_nodes.proofs.WordLemmas.{char_alone}
use Rattle.tree_text.specs.Writing.{attr_text}
use Rattle.written_model.specs.Elements.{attribute}
use Rattle.sheet_write.proofs.levels.push_character.Goals as goal

pub returns : goal.returns
returns c =
    let letter = c.args.character in
    let text : chars c.as_str.result.now ≡ letter ∷ [] =
    ap chars (c.as_str.ensures.value ∙ (c.in_ok-push.ensures.bytes ∙ ap (λ (t : List ℕ). t ++ encode_utf8 letter) c.new-text.ensures.bytes)) ∙ char_alone letter c.ranges.character.0 in
    subst (λ (value : List ℕ). OnOk c.push_text.result (chars (string_bytes c.push_text.new.out) ≡ chars (string_bytes c.args.out.now) ++ flat_map attr_text (attribute (chars c.args.name.now) value ∷ [])))
    text c.push_text.ensures
