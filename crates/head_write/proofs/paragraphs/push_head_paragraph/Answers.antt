use Rattle.std.proofs.Common.{◌≡◌, ◌++◌, [], List, OnOk, codes, subst}
use Rattle.std.specs.Str.{chars}
use Rattle.std.specs.String.{string_bytes}
use Rattle.doc_model.specs.declared.paragraph.What.{What}
use Rattle.tree_text.specs.Writing.{tag_text}
use Rattle.written_model.specs.Content.{head_content}
use Rattle.value_write.proofs.ChainLemmas.{two}
use Rattle.sheet_write.specs.Held.{held_text}
use Rattle.sheet_write.proofs.HeldLemmas.{holding}
use Rattle.head_write.proofs.paragraphs.push_head_paragraph.Goals as goal

pub returns : goal.returns
unfolding chars
returns c =
    let tag = codes "text:p" in
    two c.push_held_items.result (chars (string_bytes c.push_held_items.new.out)) (chars (string_bytes c.push_name.new.out)) (chars (string_bytes c.args.out.now)) (tag_text tag []) (held_text tag (head_content c.args.par.now.items))
    c.in_ok-push_name.ensures
    (subst (λ (whats : List What). OnOk c.push_held_items.result (chars (string_bytes c.push_held_items.new.out) ≡ chars (string_bytes c.push_name.new.out) ++ held_text tag (head_content whats))) c.get.ensures c.push_held_items.ensures)
    (holding tag [] (head_content c.args.par.now.items))
