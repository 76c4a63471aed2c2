use Rattle.std.proofs.Common.{◌∙◌, ◌==◌, length, string_bytes, ap, sym}
use Rattle.std.proofs.lemmas.Str.{IsUtf8-string_bytes}
use Rattle.markup_nodes.proofs.WordLemmas.{zero_tested, no_length, none_chars, chars_none}
use Rattle.markup_nodes.proofs.words.Word.is_empty.Goals as goal

pub returns : goal.returns
returns c =
    let bytes = string_bytes c.self.inside.text in
    let test = zero_tested c.is_empty.result (length bytes) (c.is_empty.ensures ∙ ap (λ n. n == 0) c.self.inside.text.bytes.ok.0) in (
      λ t. sym c.self.view_is ∙ none_chars bytes (no_length bytes (test.0 t)),
      λ e. test.1 (ap length (chars_none bytes (IsUtf8-string_bytes c.self.inside.text) (c.self.view_is ∙ e))),
    )
