-- The key of a paragraph from its parts.
use Rattle.std.specs.Prelude.{ℕ, pos, ◌||◌, true, List, [], ◌∷◌, ◌++◌, Option, Some, None, unwrap_or, encode_utf8_all}
use Rattle.doc_model.specs.declared.paragraph.ListPos.{ListPos}
use Rattle.doc_model.specs.declared.style.Align.TheVariants.{Start}
use Rattle.line_model.specs.declared.key.Key.{Key}
use Rattle.key_parts.specs.declared.parts.KeyParts.{KeyParts}
use Rattle.key_parts.specs.Shows.{Piece, pieces, text_of, citations}

-- a text in front of a paragraph with a space behind it, or nothing where it is empty
abbrev pub with_space : List ℕ → List ℕ
with_space [] = []
with_space (c ∷ text) = (c ∷ text) ++ 0x20 ∷ []

-- what stands in front of the items, in UTF-8: the citation of the note, and then the label
abbrev pub front_of : List ℕ → List ℕ → List ℕ
front_of citation label = encode_utf8_all (with_space citation) ++ encode_utf8_all (with_space label)

-- the level of a list place; 0 is none
abbrev pub level_of : Option ListPos → ℕ
level_of None = 0
level_of (Some place) = place.level

-- what the items of a paragraph show. Where no span states it, its effective properties say whether they are shown
abbrev pub shown_of : KeyParts → List Piece
shown_of parts = pieces parts.displays.now (unwrap_or parts.props.now.display true) (parts.items.now ++ parts.more_items.now) parts.shown.now

-- the key of the paragraph of these parts
abbrev pub key_from : KeyParts → Key
key_from parts = record {
  hidden = parts.in_hidden_section || parts.in_hidden_note;
  text = front_of parts.citation.now parts.label.now ++ text_of (shown_of parts);
  notes = citations (front_of parts.citation.now parts.label.now) (shown_of parts);
  columns = parts.columns;
  left = unwrap_or parts.props.now.margin_left (pos 0);
  right = unwrap_or parts.props.now.margin_right (pos 0);
  indent = unwrap_or parts.props.now.indent (pos 0);
  level = level_of parts.list.now;
  align = unwrap_or parts.props.now.align Start;
  tabs = unwrap_or parts.props.now.tabs [];
}
