-- Bytes that spell a document's text are its canonical ones.
use Rattle.std.proofs.Common.{◌≡◌, ℕ, List, chars, IsUtf8, encode_utf8_all, sym, ap, ◌∙◌}
use Rattle.std.proofs.lemmas.Str.{encodes-chars}
use Rattle.doc_model.specs.declared.document.Document.{Document}
use Rattle.tree_text.specs.Writing.{document_text}
use Rattle.written_model.specs.Written.{written}
use Rattle.file_save.specs.Saves.{canonical_bytes}

pub canonical : (doc : Document) (bytes : List ℕ) → IsUtf8 bytes → chars bytes ≡ document_text (written doc) → bytes ≡ canonical_bytes doc
canonical doc bytes utf8 text = sym (encodes-chars bytes utf8) ∙ ap encode_utf8_all text
