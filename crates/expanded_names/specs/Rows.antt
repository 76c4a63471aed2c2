-- The tables of names, shut.
use Rattle.std.specs.Prelude.{ℕ, List, map}
use Rattle.load_model.specs.declared.names.TheConstants.{KNOWN_TAGS, KNOWN_KEYS}
use Rattle.load_model.specs.declared.names.Tag.{Tag}
use Rattle.load_model.specs.declared.names.Key.{Key}

-- the rows of the elements that are read
unfoldable pub tag_rows : List (List ℕ × List ℕ × Tag)
tag_rows = map (λ row. (row.0.now, row.1.now, row.2)) KNOWN_TAGS.now

-- the rows of the attributes that are known
unfoldable pub key_rows : List (List ℕ × List ℕ × Key)
key_rows = map (λ row. (row.0.now, row.1.now, row.2)) KNOWN_KEYS.now
