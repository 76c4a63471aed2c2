use Rattle.std.proofs.Common.{◌≡◌, ◌++◌, Bool, OnOk, codes, ap, ◌∙◌, subst}
use Rattle.std.specs.Str.{chars}
use Rattle.std.specs.String.{string_bytes}
use Rattle.tree_text.specs.Writing.{content_text}
use Rattle.value_write.proofs.ChainLemmas.{three}
use Rattle.paragraph_write.specs.Around.{element_close}
use Rattle.text_write.specs.Held.{held, holds_something, text_start}
use Rattle.text_write.proofs.HeldLemmas.{text_around}
use Rattle.text_write.proofs.text.push_text_element.Goals as goal

pub returns : goal.returns
unfolding chars
returns c =
    let doc = c.args.doc.now in
    let old = chars (string_bytes c.args.out.now) in
    let inside = chars (string_bytes c.push_held.new.out) in
    three c.push_close.result (chars (string_bytes c.push_close.new.out)) inside (chars (string_bytes c.push_start.new.out)) old
    (text_start doc.global (holds_something doc)) (content_text (held doc)) (element_close (codes "office:text") (holds_something doc))
    (c.in_ok-push_start.ensures ∙ ap (λ (some : Bool). old ++ text_start doc.global some) c.holds-some.ensures) c.in_ok-push_held.ensures
    (subst (λ (some : Bool). OnOk c.push_close.result (chars (string_bytes c.push_close.new.out) ≡ inside ++ element_close (codes "office:text") some)) c.holds-some.ensures c.push_close.ensures)
    (text_around doc)
