use Rattle.std.proofs.Common.{◌≡◌, ◌++◌, ℕ, List, OnOk, codes, sym, subst}
use Rattle.std.specs.Str.{chars}
use Rattle.std.specs.String.{string_bytes}
use Rattle.markup_parts.proofs.LiteralLemmas.{true_false}
use Rattle.markup_tree.specs.Escapes.{escaped_text}
use Rattle.tree_text.specs.Writing.{end_text}
use Rattle.field_write.specs.Held.{held_text}
use Rattle.field_write.proofs.HeldLemmas.{held_filled}
use Rattle.value_write.proofs.ChainLemmas.{three}
use Rattle.field_write.proofs.kinds.push_held.Goals as goal

pub returns-then-is_nothing : goal.returns-then-is_nothing
returns-then-is_nothing c =
    let none = c.is_nothing.ensures.0 c.if-is_nothing.true in
    subst (λ (text : List ℕ). OnOk c.push_empty_end.result (chars (string_bytes c.push_empty_end.new.out) ≡ chars (string_bytes c.args.out.now) ++ held_text (chars c.args.name.now) text)) (sym none) c.push_empty_end.ensures

pub returns : goal.returns
returns c =
    let name = chars c.args.name.now in
    let text = chars c.args.text.now in
    three c.push_end.result (chars (string_bytes c.push_end.new.out)) (chars (string_bytes c.push_run.new.out)) (chars (string_bytes c.push_tag_end.new.out)) (chars (string_bytes c.args.out.now))
    (codes ">") (escaped_text text) (end_text name) c.in_ok-push_tag_end.ensures c.in_ok-push_run.ensures c.push_end.ensures
    (held_filled name text (λ e. true_false (c.is_nothing.ensures.1 e) c.if-is_nothing.false))
