use Rattle.std.proofs.Common.{◌≡◌, ℕ, List, [], ◌∷◌, ◌++◌, ap, sym, ◌∙◌, subst, Ok, OnOk, false, true}
use Rattle.std.proofs.lemmas.List.{append-nil}
use Rattle.std.specs.List.{flat_map}
use Rattle.std.specs.Str.{chars}
use Rattle.std.specs.String.{string_bytes}
use Rattle.markup_nodes.specs.declared.words.Attr.{Attr}
use Rattle.markup_parts.proofs.LiteralLemmas.{true_false}
use Rattle.tree_text.specs.Writing.{attr_text}
use Rattle.written_model.specs.Elements.{unless_empty}
use Rattle.value_write.proofs.AttributeLemmas.{filled}
use Rattle.value_write.proofs.attributes.push_unless_empty.Goals as goal

pub returns-then-is_nothing : goal.returns-then-is_nothing
returns-then-is_nothing c =
    let name = chars c.args.name.now in
    let none = c.is_nothing.ensures.0 c.if-is_nothing.true in
    sym (append-nil (chars (string_bytes c.args.out.now))) ∙ ap (λ (v : List ℕ). chars (string_bytes c.args.out.now) ++ flat_map attr_text (unless_empty name v)) (sym none)

pub returns : goal.returns
returns c =
    let name = chars c.args.name.now in
    let value = chars c.args.value.now in
    subst (λ (attrs : List Attr). OnOk c.push_text.result (chars (string_bytes c.push_text.new.out) ≡ chars (string_bytes c.args.out.now) ++ flat_map attr_text attrs))
    (sym (filled name value (λ e. true_false (c.is_nothing.ensures.1 e) c.if-is_nothing.false))) c.push_text.ensures
