-- Texts in UTF-8: those of a list of items, and how long they are.
use Rattle.std.proofs.Common.{◌≡◌, ℕ, ◌+◌, ◌*◌, ◌≤◌, ◌<◌, List, [], ◌∷◌, ◌++◌, length, take, get_or, ap, sym, ◌∙◌, arith}
use Rattle.std.specs.List.{flat_map}
use Rattle.std.specs.Str.{encode_utf8_all}
use Rattle.std.proofs.lemmas.Str.{encodes-append, length-encode, len_utf8_bounds}
use Rattle.std.proofs.lemmas.List.{length-append, take_more}
use Rattle.std.proofs.lemmas.Grind.{flat_map-append}
use Rattle.std.proofs.lemmas.List.{append-nil}
use Rattle.doc_model.specs.declared.paragraph.Item.{Item}
use Rattle.doc_model.specs.declared.paragraph.Par.{Par}
use Rattle.doc_model.specs.declared.paragraph.What.{What}
use Rattle.doc_model.specs.declared.paragraph.What.TheOpen.{What-F}
use Rattle.doc_model.specs.declared.paragraph.Note.{Note}
use Rattle.doc_model.specs.Parts.{items_of, what_of}
use Rattle.line_model.specs.Keys.{text_of}
use Rattle.par_keys.specs.ItemText.{text_of_item}

-- one more item
pub text_more : (bytes : List ℕ) (items : List Item) (i : ℕ) (d : Item) → i < length items → bytes ≡ encode_utf8_all (flat_map text_of_item (take i items))
    → bytes ++ encode_utf8_all (text_of_item (get_or items i d)) ≡ encode_utf8_all (flat_map text_of_item (take (i + 1) items))
text_more bytes items i d within e =
    ap (λ (front : List ℕ). front ++ encode_utf8_all (text_of_item (get_or items i d))) e
    ∙ sym (encodes-append (flat_map text_of_item (take i items)) (text_of_item (get_or items i d)))
    ∙ ap (λ (last : List ℕ). encode_utf8_all (flat_map text_of_item (take i items) ++ last)) (sym (append-nil (text_of_item (get_or items i d))))
    ∙ ap (λ (text : List ℕ). encode_utf8_all text) (sym (flat_map-append text_of_item (take i items) (get_or items i d ∷ [])))
    ∙ ap (λ (front : List Item). encode_utf8_all (flat_map text_of_item front)) (sym (take_more items i d within))

-- a character takes at most four bytes
pub length-bytes : (text : List ℕ) → length (encode_utf8_all text) ≤ 4 * length text
length-bytes [] = omega arith
length-bytes (c ∷ text) = omega (arith, length-append (lib.Utf8.encode c) (encode_utf8_all text), length-encode c, len_utf8_bounds c, length-bytes text)

-- the text of what an item is, as the definition has it
abbrev of_layer : What-F What Item Note Par → List ℕ
of_layer (What-F.Char c) = c ∷ []
of_layer What-F.Tab = 0x9 ∷ []
of_layer What-F.Break = 0xa ∷ []
of_layer _ = []

one_of_layer : (layer : What-F What Item Note Par) → length (of_layer layer) ≤ 1
one_of_layer (What-F.Char c) = omega arith
one_of_layer What-F.Tab = omega arith
one_of_layer What-F.Break = omega arith
one_of_layer _ = omega arith

-- an item shows at most one character
one_of_item : (item : Item) → length (text_of_item item) ≤ 1
one_of_item item = one_of_layer (what_of item)

pub length-text : (items : List Item) → length (flat_map text_of_item items) ≤ length items
length-text [] = omega arith
length-text (item ∷ items) = omega (arith, length-append (text_of_item item) (flat_map text_of_item items), one_of_item item, length-text items)

-- the text of a paragraph in UTF-8 is short
pub short_text : (par : Par) → length (items_of par) ≤ 32768 → length (encode_utf8_all (text_of par)) < 4294967296
short_text par few = omega (arith, length-bytes (text_of par), length-text (items_of par))
