-- Each kind of mark with its name.
use Rattle.std.proofs.Common.{◌≡◌, ◌++◌, [], ◌∷◌, ℕ, List, OnOk, codes, sym, subst}
use Rattle.std.specs.Str.{chars}
use Rattle.std.specs.String.{string_bytes}
use Rattle.doc_model.specs.declared.paragraph.Mark.{Mark}
use Rattle.tree_text.specs.Writing.{child_text}
use Rattle.written_model.specs.Elements.{attribute, empty_element}
use Rattle.written_model.specs.Content.{mark_element}
use Rattle.content_write.proofs.pieces.push_mark.Goals as goal

pub returns-in-Point : goal.returns-in-Point
unfolding chars
returns-in-Point c =
    subst (λ (mark : Mark). OnOk c.push_with.result (chars (string_bytes c.push_with.new.out) ≡ chars (string_bytes c.args.out.now) ++ child_text (mark_element mark))) (sym c.in-Point.is)
    (subst (λ (name : List ℕ). OnOk c.push_with.result (chars (string_bytes c.push_with.new.out) ≡ chars (string_bytes c.args.out.now) ++ child_text (empty_element (codes "text:bookmark") (attribute (codes "text:name") name ∷ [])))) c.get.ensures c.push_with.ensures)

pub returns-in-Start : goal.returns-in-Start
unfolding chars
returns-in-Start c =
    subst (λ (mark : Mark). OnOk c.push_with-in-Start.result (chars (string_bytes c.push_with-in-Start.new.out) ≡ chars (string_bytes c.args.out.now) ++ child_text (mark_element mark))) (sym c.in-Start.is)
    (subst (λ (name : List ℕ). OnOk c.push_with-in-Start.result (chars (string_bytes c.push_with-in-Start.new.out) ≡ chars (string_bytes c.args.out.now) ++ child_text (empty_element (codes "text:bookmark-start") (attribute (codes "text:name") name ∷ [])))) c.get-in-Start.ensures c.push_with-in-Start.ensures)

pub returns-in-End : goal.returns-in-End
unfolding chars
returns-in-End c =
    subst (λ (mark : Mark). OnOk c.push_with-in-End.result (chars (string_bytes c.push_with-in-End.new.out) ≡ chars (string_bytes c.args.out.now) ++ child_text (mark_element mark))) (sym c.in-End.is)
    (subst (λ (name : List ℕ). OnOk c.push_with-in-End.result (chars (string_bytes c.push_with-in-End.new.out) ≡ chars (string_bytes c.args.out.now) ++ child_text (empty_element (codes "text:bookmark-end") (attribute (codes "text:name") name ∷ [])))) c.get-in-End.ensures c.push_with-in-End.ensures)
