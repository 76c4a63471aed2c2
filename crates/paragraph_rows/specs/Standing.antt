-- Where the row of a paragraph stands.
use Rattle.std.specs.Prelude.{◌≡◌, ◌≢◌, ℕ, true, false, List, [], ◌∷◌, ◌++◌, AllPairs}
use Rattle.std.specs.List.{flat_map, list_any}
use Rattle.doc_model.specs.declared.paragraph.ParId.{ParId}
use Rattle.node_array.specs.declared.row.Row.{Row}
use Rattle.node_array.specs.declared.row.Row.TheVariants as row
use Rattle.node_array.specs.Places.{is_par}

-- the number of the paragraph that a row is, if it is one
abbrev pub number_in : Row → List ℕ
number_in (row.Start head) = []
number_in row.End = []
number_in (row.Par head items) = head.id.0 ∷ []
number_in row.NoteText = []

-- no two paragraphs have one number
abbrev pub AreApart : List Row → Type 0
AreApart rows = AllPairs (λ left right. left ≢ right) (flat_map number_in rows)

-- a row is that of the paragraph with this number, and none before it or behind it is
pub record Stands (par : ParId) (rows before : List Row) (one : Row) (behind : List Row) : Type 0 where
  pub rows_are : rows ≡ before ++ one ∷ behind
  pub own : is_par par one ≡ true
  pub none_before : list_any (is_par par) before ≡ false
  pub none_behind : list_any (is_par par) behind ≡ false
