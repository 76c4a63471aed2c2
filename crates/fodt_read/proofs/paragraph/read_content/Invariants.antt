use Rattle.std.proofs.Common.{◌≡◌, ℕ, ◌≤◌, List, ◌++◌, length, false}
use Rattle.spelling_model.specs.Spelling.{paragraph_end}
use Rattle.plain_doc.specs.PlainSpelling.{plain_content}
use Rattle.fodt_read.specs.PlainText.{IsPlainText}
use Rattle.fodt_read.proofs.Content.{Reads}
use Rattle.fodt_read.proofs.paragraph.read_content.Given as goal

-- where a paragraph's characters are spelled, some are read and the others are left
abbrev pub invariant-pieces : goal.invariant-pieces
invariant-pieces l = record {
  plain : IsPlainText l.text.items;
  shorter : length l.rest ≤ length l.fn.bytes;
  left : (chars more : List ℕ) → IsPlainText chars → l.fn.bytes ≡ plain_content 0 false chars ++ (paragraph_end ++ more) → Reads chars more l.text.items l.rest;
}

abbrev pub decreases-pieces : goal.decreases-pieces
decreases-pieces l = length l.rest
