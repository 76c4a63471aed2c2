-- What stands before the content, the content, and what stands behind it.
use Rattle.std.proofs.Common.{◌≡◌, ◌++◌, [], ℕ, Bool, List, OnOk, ap, ◌∙◌, subst}
use Rattle.std.proofs.lemmas.List.{append-nil}
use Rattle.std.specs.Str.{chars}
use Rattle.std.specs.String.{string_bytes}
use Rattle.doc_model.specs.declared.paragraph.Item.{Item}
use Rattle.doc_model.specs.declared.paragraph.Par.{out-Par}
use Rattle.spelling_model.specs.Spelling.{is_there}
use Rattle.tree_text.specs.Writing.{content_text}
use Rattle.written_model.specs.Content.{content}
use Rattle.content_write.specs.Rest.{no_note}
use Rattle.value_write.proofs.ChainLemmas.{three}
use Rattle.paragraph_write.specs.Around.{paragraph_start, paragraph_end}
use Rattle.paragraph_write.proofs.ParagraphLemmas.{paragraph_text}
use Rattle.paragraph_write.proofs.paragraphs.push_note_paragraph.Goals as goal

pub returns : goal.returns
returns c =
    let par = out-Par c.args.par.now in
    let old = chars (string_bytes c.args.out.now) in
    let before = chars (string_bytes c.push_paragraph_start.new.out) in
    let inside = chars (string_bytes c.push_content.new.out) in
    let holds : c.holds-some.result ≡ is_there par.items = c.holds-some.ensures ∙ ap is_there c.as_slice-items.ensures in
    let items : c.as_slice-items.result.now ++ [] ≡ par.items = append-nil c.as_slice-items.result.now ∙ c.as_slice-items.ensures in
    three c.push_paragraph_end.result (chars (string_bytes c.push_paragraph_end.new.out)) inside before old
    (paragraph_start par.style par.level par.list (is_there par.items)) (content_text (content no_note par.items)) (paragraph_end par.level par.list (is_there par.items))
    (c.in_ok-push_paragraph_start.ensures
    ∙ (ap (λ (style : List ℕ). old ++ paragraph_start style par.level par.list c.holds-some.result) c.get.ensures
    ∙ ap (λ (some : Bool). old ++ paragraph_start par.style par.level par.list some) holds))
    (c.in_ok-push_content.ensures ∙ ap (λ (all : List Item). before ++ content_text (content no_note all)) items)
    (subst (λ (some : Bool). OnOk c.push_paragraph_end.result (chars (string_bytes c.push_paragraph_end.new.out) ≡ inside ++ paragraph_end par.level par.list some)) holds c.push_paragraph_end.ensures)
    (paragraph_text no_note c.args.par.now)
