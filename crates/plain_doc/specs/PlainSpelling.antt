-- The canonical bytes of plain documents, by the characters of their paragraphs.
use Rattle.std.specs.Prelude.{ℕ, ◌+◌, ◌==◌, if◌then◌else◌, Bool, true, false, not, ◌&&◌, List, [], ◌∷◌, ◌++◌}
use Rattle.std.specs.List.{flat_map}
use Rattle.spelling_model.specs.Spelling.{head, opening, tail, empty_paragraph, paragraph_start, paragraph_end, spaces, escaped, is_there}

-- characters behind so many spaces that can't stand for themselves; after_word says that the character before these is there and isn't a space
abbrev pub plain_content : ℕ → Bool → List ℕ → List ℕ
plain_content waiting after_word [] = spaces waiting
plain_content waiting after_word (c ∷ cs) =
    if (c == 0x20) && not (after_word && is_there cs)
    then plain_content (waiting + 1) false cs
    else spaces waiting ++ escaped c ++ plain_content 0 (not (c == 0x20)) cs

-- a paragraph of this text
abbrev pub plain_paragraph_bytes : List ℕ → List ℕ
plain_paragraph_bytes [] = empty_paragraph
plain_paragraph_bytes (c ∷ cs) = paragraph_start ++ plain_content 0 false (c ∷ cs) ++ paragraph_end

-- a document of paragraphs of these texts
abbrev pub plain_bytes : List (List ℕ) → List ℕ
plain_bytes texts = head ++ (opening ++ (flat_map plain_paragraph_bytes texts ++ tail))
