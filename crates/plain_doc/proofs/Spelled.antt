-- What the definitions on documents come to at plain documents.
use Rattle.std.proofs.Common.{◌≡◌, ℕ, ◌+◌, Bool, List, [], ◌∷◌, ◌++◌, refl, ap, sym, ◌∙◌, subst, arith}
use Rattle.std.specs.Prelude.{map, if◌then◌else◌, ◌==◌, ◌&&◌, not, false, None}
use Rattle.std.specs.List.{AllByRecursion as Each, flat_map}
use Rattle.doc_model.specs.declared.block.Block.TheViews.{out-roll-Block}
use Rattle.doc_model.specs.declared.document.Document.{Document}
use Rattle.doc_model.specs.Plain.{plain_item, plain_paragraph, plain_blocks, plain_document, IsPlain}
use Rattle.spelling_model.specs.Spelling.{head, opening, tail, paragraph_start, paragraph_end, is_space, item_bytes, content_bytes, paragraph_bytes, block_bytes, canonical, escaped, is_there, IsWrittenItem, IsWrittenPar, IsWrittenBlock, IsWritten}
use Rattle.spelling_model.proofs.Content.{content, content_written}
use Rattle.doc_model.specs.declared.paragraph.What.TheViews.{out-roll-Item, out-roll-What, out-roll-Par}
use Rattle.doc_model.specs.declared.block.Block.TheFolds.{fold-roll-Block}
use Rattle.plain_doc.specs.PlainSpelling.{plain_content, plain_paragraph_bytes, plain_bytes}

pub is_space-plain : (c : ℕ) → is_space (plain_item c) ≡ (c == 0x20)
is_space-plain c = simp out-roll-What

pub item_bytes-plain : (c : ℕ) → item_bytes (plain_item c) ≡ escaped c
item_bytes-plain c = simp out-roll-What

is_there-plain : (text : List ℕ) → is_there (map plain_item text) ≡ is_there text
is_there-plain [] = refl
is_there-plain (c ∷ cs) = refl

pub content-plain : (waiting : ℕ) (after_word : Bool) (text : List ℕ) → content waiting after_word (map plain_item text) ≡ plain_content waiting after_word text
content-plain waiting after_word [] = refl
content-plain waiting after_word (c ∷ cs) =
    simp (out-roll-What, is_there-plain cs, content-plain (waiting + 1) false cs, content-plain 0 (not (c == 0x20)) cs)

-- plain items have a spelling
pub written-plain : (text : List ℕ) → Each IsWrittenItem (map plain_item text)
written-plain [] = tt
written-plain (c ∷ cs) = ((simp out-roll-What tt, refl), written-plain cs)

content_bytes-plain : (text : List ℕ) → content_bytes (map plain_item text) ≡ plain_content 0 false text
content_bytes-plain text = sym (content_written (map plain_item text) (written-plain text)) ∙ content-plain 0 false text

pub paragraph_bytes-plain : (number : ℕ) (text : List ℕ) → paragraph_bytes (plain_paragraph number text) ≡ plain_paragraph_bytes text
paragraph_bytes-plain number [] = simp out-roll-Par
paragraph_bytes-plain number (c ∷ cs) =
    rw (out-roll-Par (record { id = record { 0 = number }; style = []; level = 0; list = None; items = map plain_item (c ∷ cs) }))
    (ap (λ (bytes : List ℕ). paragraph_start ++ bytes ++ paragraph_end) (content_bytes-plain (c ∷ cs)))

pub flat_map-block_bytes-plain : (number : ℕ) (texts : List (List ℕ)) → flat_map block_bytes (plain_blocks number texts) ≡ flat_map plain_paragraph_bytes texts
flat_map-block_bytes-plain number [] = refl
flat_map-block_bytes-plain number (text ∷ texts) = simp (fold-roll-Block, paragraph_bytes-plain number text, flat_map-block_bytes-plain (number + 1) texts)

pub canonical-plain : (texts : List (List ℕ)) → canonical (plain_document texts) ≡ plain_bytes texts
unfolding plain_document
canonical-plain texts = ap (λ (body : List ℕ). head ++ (opening ++ (body ++ tail))) (flat_map-block_bytes-plain 1 texts)

written_par : (number : ℕ) (text : List ℕ) → IsWrittenPar (plain_paragraph number text)
written_par number text = record {
  items = simp out-roll-Par (written-plain text);
  style = simp out-roll-Par;
  level = simp out-roll-Par;
  list = simp out-roll-Par;
}

written_blocks : (number : ℕ) (texts : List (List ℕ)) → Each IsWrittenBlock (plain_blocks number texts)
written_blocks number [] = tt
written_blocks number (text ∷ texts) = (simp out-roll-Block (written_par number text), written_blocks (number + 1) texts)

written_document : (texts : List (List ℕ)) → IsWritten (plain_document texts)
unfolding plain_document
written_document texts = (written_blocks 1 texts, refl)

-- a plain document has a spelling
pub written_texts : (texts : List (List ℕ)) (doc : Document) → doc ≡ plain_document texts → IsWritten doc
written_texts texts doc e = subst IsWritten (sym e) (written_document texts)

pub written_plain : (doc : Document) → IsPlain doc → IsWritten doc
written_plain doc plain = written_texts plain.0 doc plain.1.alone
