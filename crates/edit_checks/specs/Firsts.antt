-- The first of some paragraphs or places by which an edit is refused.
use Rattle.std.specs.Prelude.{ℕ, nat_lt, List, [], find, is_none, option_map, Option}
use Rattle.doc_model.specs.declared.document.Document.{Document}
use Rattle.doc_model.specs.declared.paragraph.Item.{Item}
use Rattle.doc_model.specs.declared.paragraph.ParId.{ParId}
use Rattle.doc_model.specs.declared.refusal.Refusal.{Refusal}
use Rattle.doc_model.specs.declared.refusal.Refusal.TheVariants.{NoPar, PastEnd}
use Rattle.edit_rules.specs.Places.{live_paragraph, item_count}
use Rattle.node_array.specs.declared.row.Row.{Row}
use Rattle.node_array.specs.declared.row.Row.TheVariants as row

-- the refusal by the first paragraph that isn't live
abbrev pub first_absent : Document → List ParId → Option Refusal
first_absent doc pars = option_map NoPar (find (λ par. is_none (live_paragraph doc par)) pars)

-- the refusal by the first place that is above its paragraph's item count
abbrev pub first_past_end : Document → List (ParId × ℕ) → Option Refusal
first_past_end doc places = option_map (λ place. PastEnd place.0 (item_count doc place.0)) (find (λ place. nat_lt (item_count doc place.0) place.1) places)

-- the items of a row, none where it is no paragraph's
abbrev pub items_in : Row → List Item
items_in (row.Start head) = []
items_in row.End = []
items_in (row.Par head items) = items
items_in row.NoteText = []
