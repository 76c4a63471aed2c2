use Rattle.std.proofs.Common.{◌++◌, ℕ, List, Vec, Global, IsUtf8, ap, sym, ◌∙◌, subst}
use Rattle.std.proofs.lemmas.Str.{chars-nil, IsUtf8-string_bytes}
use Rattle.std.specs.Str.{chars}
use Rattle.tree_text.specs.Writing.{document_text}
use Rattle.written_model.specs.Written.{written}
use Rattle.doc_write.proofs.document.save.Goals as goal

pub returns-clause-utf8 : goal.returns-clause-utf8
returns-clause-utf8 c =
    subst (λ (bytes : List ℕ). IsUtf8 bytes) (sym (c.from_list.ensures ∙ ap (λ (bytes : Vec ℕ Global). bytes.items) c.into_bytes.ensures.value)) (IsUtf8-string_bytes c.push_document.new.out)

pub returns-clause-text : goal.returns-clause-text
returns-clause-text c =
    ap chars (c.from_list.ensures ∙ ap (λ (bytes : Vec ℕ Global). bytes.items) c.into_bytes.ensures.value)
    ∙ (c.in_ok-push_document.ensures ∙ ap (λ (before : List ℕ). before ++ document_text (written c.args.doc.now)) (ap chars c.new-out.ensures.bytes ∙ chars-nil))
