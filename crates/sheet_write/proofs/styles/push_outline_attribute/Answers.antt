use Rattle.std.proofs.Common.{◌≡◌, ◌++◌, ℕ, List, OnOk, sym, subst, ap, ◌∙◌}
use Rattle.std.proofs.lemmas.List.{append-nil}
use Rattle.std.specs.List.{flat_map}
use Rattle.std.specs.Str.{chars}
use Rattle.std.specs.String.{string_bytes}
use Rattle.markup_nodes.specs.declared.words.Attr.{Attr}
use Rattle.tree_text.specs.Writing.{attr_text}
use Rattle.written_model.specs.Styles.{outline_attribute}
use Rattle.sheet_write.proofs.DefaultLemmas.{outlined}
use Rattle.sheet_write.proofs.styles.push_outline_attribute.Goals as goal

pub returns-then-level-eq0 : goal.returns-then-level-eq0
returns-then-level-eq0 c =
    let old = chars (string_bytes c.args.out.now) in
    sym (append-nil old) ∙ ap (λ (level : ℕ). old ++ flat_map attr_text (outline_attribute level)) (sym c.if-level-eq0.true)

pub returns : goal.returns
unfolding chars
returns c =
    subst (λ (attrs : List Attr). OnOk c.push_number.result (chars (string_bytes c.push_number.new.out) ≡ chars (string_bytes c.args.out.now) ++ flat_map attr_text attrs)) (sym (outlined c.args.level c.if-level-eq0.false)) c.push_number.ensures
