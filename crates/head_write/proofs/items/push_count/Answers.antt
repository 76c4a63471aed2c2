-- The digits of the count.
use Rattle.std.proofs.Common.{◌≡◌, ◌++◌, [], ◌∷◌, ℕ, List, OnOk, ap, ◌∙◌, subst, codes, decimal, arith}
use Rattle.std.specs.List.{flat_map}
use Rattle.std.specs.Str.{chars}
use Rattle.std.specs.String.{string_bytes}
use Rattle.tree_text.specs.Writing.{attr_text}
use Rattle.written_model.specs.Elements.{attribute}
use Rattle.value_write.proofs.AttributeLemmas.{digits_are}
use Rattle.head_write.proofs.items.push_count.Goals as goal

pub returns : goal.returns
unfolding chars
returns c =
    let text : chars c.as_str.result.now ≡ decimal c.args.count = ap chars (c.as_str.ensures.value ∙ c.in_ok-text.ensures.ok) ∙ digits_are c.args.count (omega (arith, c.ranges.count.fits)) in
    subst (λ (value : List ℕ). OnOk c.push_text.result (chars (string_bytes c.push_text.new.out) ≡ chars (string_bytes c.args.out.now) ++ flat_map attr_text (attribute (codes "text:c") value ∷ [])))
    text c.push_text.ensures
