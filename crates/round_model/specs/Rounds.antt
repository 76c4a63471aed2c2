-- The rounds of a document: in each, every paragraph has a key, and their lines make the pages. The keys of a round may depend on the pages of the round before. Until pages are broken, there is one page, which has all rows.
use Rattle.std.specs.Prelude.{ℕ, List, [], ◌∷◌, map, chars}
use Rattle.std.specs.List.{flat_map}
use Rattle.doc_model.specs.declared.document.Document.{Document}
use Rattle.doc_model.specs.declared.page.Page.{Page}
use Rattle.doc_model.specs.Reading.{paragraphs, number_of}
use Rattle.line_model.specs.declared.key.Key.{Key}
use Rattle.line_model.specs.Lines.{lines_of}
use Rattle.line_model.specs.Rows.{printed_row}
use Rattle.line_model.specs.Keys.{key_of}

-- a paragraph, by its number, with its key of a round
pub record SetPar : Type 0 where
  pub par : ℕ
  pub key : Key

-- the paragraphs in the order in which they are set, with their keys of a round. The keys of all rounds are the same
abbrev pub set_in : Document → ℕ → List SetPar
set_in doc round = map (λ par. record { par = number_of par; key = key_of par }) (paragraphs doc)

-- the last round, whose pages a further one would leave as they are
abbrev pub last_round : Document → ℕ
last_round doc = 1

-- the printed rows of a key
abbrev pub rows_of : Key → List (List ℕ)
rows_of key = map (λ line. chars (printed_row key line)) (lines_of key)

-- the pages of a round: one, with the rows of all paragraphs
abbrev pub pages_in : Document → ℕ → List Page
pages_in doc round = record { index = 1; number = 1; rows = flat_map (λ set. rows_of set.key) (set_in doc round) } ∷ []
