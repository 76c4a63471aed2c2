-- One tag more is out.
use Rattle.std.proofs.Common.{◌++◌, List, ap, sym, ◌∙◌}
use Rattle.std.specs.Str.{chars}
use Rattle.std.specs.String.{string_bytes}
use Rattle.doc_model.specs.declared.texts.Name.{Name}
use Rattle.element_text.proofs.AddedLemmas.{more}
use Rattle.content_write.specs.Rest.{span_start, starts}
use Rattle.content_write.proofs.Fronts.{front, rest}
use Rattle.content_write.proofs.spans.push_starts.Goals as goal

pub names-preserved : goal.names-preserved
names-preserved c =
    let old = chars (string_bytes c.names.out) in
    let inner : List Name = rest c.names.left.now in
    more (chars (string_bytes c.push_span_start.new.out)) old (span_start c.name-item.result) c.in_ok-push_span_start.ensures (starts inner)
    ∙ (ap (λ (names : List Name). old ++ starts names) (sym (front c.names.left.now c.name-item.result _ c.in-len1-up.len_at_least c.name-item.is)) ∙ c.names.invariant)
