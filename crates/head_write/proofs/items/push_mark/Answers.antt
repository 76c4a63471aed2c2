-- Each mark by its name.
use Rattle.std.proofs.Common.{◌≡◌, ◌++◌, [], ◌∷◌, ℕ, List, OnOk, codes, sym, subst}
use Rattle.std.specs.Str.{chars}
use Rattle.std.specs.String.{string_bytes}
use Rattle.doc_model.specs.declared.paragraph.Mark.{Mark}
use Rattle.tree_text.specs.Writing.{child_text}
use Rattle.written_model.specs.Content.{mark_element}
use Rattle.written_model.specs.Elements.{attribute, empty_element}
use Rattle.head_write.proofs.items.push_mark.Goals as goal

pub returns-in-Point : goal.returns-in-Point
unfolding chars
returns-in-Point c =
    let named = subst (λ (name : List ℕ). OnOk c.push_named.result (chars (string_bytes c.push_named.new.out) ≡ chars (string_bytes c.args.out.now) ++ child_text (empty_element (codes "text:bookmark") (attribute (codes "text:name") name ∷ [])))) c.get.ensures c.push_named.ensures in
    subst (λ (mark : Mark). OnOk c.push_named.result (chars (string_bytes c.push_named.new.out) ≡ chars (string_bytes c.args.out.now) ++ child_text (mark_element mark))) (sym c.in-Point.is) named

pub returns-in-Start : goal.returns-in-Start
unfolding chars
returns-in-Start c =
    let named = subst (λ (name : List ℕ). OnOk c.push_named-in-Start.result (chars (string_bytes c.push_named-in-Start.new.out) ≡ chars (string_bytes c.args.out.now) ++ child_text (empty_element (codes "text:bookmark-start") (attribute (codes "text:name") name ∷ [])))) c.get-in-Start.ensures c.push_named-in-Start.ensures in
    subst (λ (mark : Mark). OnOk c.push_named-in-Start.result (chars (string_bytes c.push_named-in-Start.new.out) ≡ chars (string_bytes c.args.out.now) ++ child_text (mark_element mark))) (sym c.in-Start.is) named

pub returns-in-End : goal.returns-in-End
unfolding chars
returns-in-End c =
    let named = subst (λ (name : List ℕ). OnOk c.push_named-in-End.result (chars (string_bytes c.push_named-in-End.new.out) ≡ chars (string_bytes c.args.out.now) ++ child_text (empty_element (codes "text:bookmark-end") (attribute (codes "text:name") name ∷ [])))) c.get-in-End.ensures c.push_named-in-End.ensures in
    subst (λ (mark : Mark). OnOk c.push_named-in-End.result (chars (string_bytes c.push_named-in-End.new.out) ≡ chars (string_bytes c.args.out.now) ++ child_text (mark_element mark))) (sym c.in-End.is) named
