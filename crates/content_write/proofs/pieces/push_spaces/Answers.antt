-- One space, or more with their count.
use Rattle.std.proofs.Common.{◌≡◌, ◌++◌, [], ◌∷◌, ℕ, List, OnOk, codes, decimal, sym, subst}
use Rattle.std.specs.List.{flat_map}
use Rattle.std.specs.Str.{chars}
use Rattle.std.specs.String.{string_bytes}
use Rattle.markup_nodes.specs.declared.words.Attr.{Attr}
use Rattle.tree_text.specs.Writing.{attr_text, tag_text}
use Rattle.written_model.specs.Elements.{attribute}
use Rattle.value_write.proofs.ChainLemmas.{three}
use Rattle.content_write.specs.Rest.{spaces_text}
use Rattle.content_write.proofs.PieceLemmas.{many_spaces}
use Rattle.content_write.proofs.pieces.push_spaces.Goals as goal

pub returns-then-count-eq1 : goal.returns-then-count-eq1
unfolding chars
returns-then-count-eq1 c =
    subst (λ (count : ℕ). OnOk c.push_bare.result (chars (string_bytes c.push_bare.new.out) ≡ chars (string_bytes c.args.out.now) ++ spaces_text count)) (sym c.if-count-eq1.true) c.push_bare.ensures

pub returns : goal.returns
unfolding chars
returns c =
    let tag = codes "text:s" in
    let attrs : List Attr = attribute (codes "text:c") (decimal c.args.count) ∷ [] in
    three c.push_empty_end.result (chars (string_bytes c.push_empty_end.new.out)) (chars (string_bytes c.push_count.new.out)) (chars (string_bytes c.push_name.new.out)) (chars (string_bytes c.args.out.now))
    (tag_text tag []) (flat_map attr_text attrs) (codes "/>") c.in_ok-push_name.ensures c.in_ok-push_count.ensures c.push_empty_end.ensures (many_spaces c.args.count c.if-count-eq0.false c.if-count-eq1.false)
