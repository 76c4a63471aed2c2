-- The end of the tag, the header, the footer and the end of the element.
use Rattle.std.proofs.Common.{◌≡◌, ◌++◌, ◌∷◌, ℕ, List, map, OnOk, codes, sym, ap, ◌∙◌, subst, true, false}
use Rattle.std.specs.Str.{chars}
use Rattle.std.specs.String.{string_bytes}
use Rattle.markup_nodes.specs.Node.{Node}
use Rattle.markup_nodes.specs.declared.tree.Elem.{Elem}
use Rattle.doc_model.specs.declared.page_layout.HeadPar.{HeadPar}
use Rattle.spelling_model.specs.Spelling.{is_there}
use Rattle.tree_text.specs.Writing.{end_text, content_text}
use Rattle.written_model.specs.Elements.{part}
use Rattle.written_model.specs.Styles.{head_paragraph}
use Rattle.value_write.proofs.ChainLemmas.{four}
use Rattle.sheet_write.proofs.HeldLemmas.{held_none, held_some, contents_join}
use Rattle.head_write.specs.Masters.{master_nodes}
use Rattle.head_write.proofs.MasterLemmas.{there-heads}
use Rattle.head_write.proofs.masters.push_held_heads.Goals as goal

pub returns-then-not-has_head : goal.returns-then-not-has_head
unfolding chars
returns-then-not-has_head c =
    let tag = codes "style:master-page" in
    let nodes : List (Node Elem) = master_nodes c.args.master.now in
    let none : is_there nodes ≡ false = there-heads c.args.master.now ∙ (sym c.has_head.ensures ∙ c.if-not-has_head.true) in
    subst (λ (text : List ℕ). OnOk c.push_empty_end.result (chars (string_bytes c.push_empty_end.new.out) ≡ chars (string_bytes c.args.out.now) ++ text)) (held_none tag nodes none) c.push_empty_end.ensures

pub returns : goal.returns
unfolding chars
returns c =
    let tag = codes "style:master-page" in
    let header : List (Node Elem) = part (codes "style:header") (map head_paragraph c.args.master.now.header) in
    let footer : List (Node Elem) = part (codes "style:footer") (map head_paragraph c.args.master.now.footer) in
    let nodes : List (Node Elem) = master_nodes c.args.master.now in
    let some : is_there nodes ≡ true = there-heads c.args.master.now ∙ (sym c.has_head.ensures ∙ c.if-not-has_head.false) in
    four c.push_end.result (chars (string_bytes c.push_end.new.out)) (chars (string_bytes c.push_head-2.new.out)) (chars (string_bytes c.push_head.new.out)) (chars (string_bytes c.push_tag_end.new.out)) (chars (string_bytes c.args.out.now))
    (codes ">") (content_text header) (content_text footer) (end_text tag) c.in_ok-push_tag_end.ensures
    (subst (λ (pars : List HeadPar). chars (string_bytes c.push_head.new.out) ≡ chars (string_bytes c.push_tag_end.new.out) ++ content_text (part (codes "style:header") (map head_paragraph pars))) c.get.ensures c.in_ok-push_head.ensures)
    (subst (λ (pars : List HeadPar). chars (string_bytes c.push_head-2.new.out) ≡ chars (string_bytes c.push_head.new.out) ++ content_text (part (codes "style:footer") (map head_paragraph pars))) c.get-2.ensures c.in_ok-push_head-2.ensures)
    c.push_end.ensures (ap (λ (t : List ℕ). 0x3e ∷ t) (contents_join header footer (end_text tag)) ∙ held_some tag nodes some)
