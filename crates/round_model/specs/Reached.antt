-- What holds in every state of the idle work that commands reach.
use Rattle.std.specs.Prelude.{◌≡◌, ℕ, ◌≤◌, true, map, length, Some}
use Rattle.std.specs.List.{AllByRecursion as Each}
use Rattle.doc_model.specs.declared.document.Document.{Document}
use Rattle.doc_model.specs.Reading.{paragraphs, number_of}
use Rattle.line_model.specs.declared.key.Key.{Key}
use Rattle.round_model.specs.Stops.{paragraph_count, full_debt}
use Rattle.round_model.specs.Idle.{Idle, Live, live_at, keeps, is_in_use, most_keys}

-- the live paragraphs are those of the document, the debt is at most the full one, each paragraph keeps the lines of at most ten keys, and those of every key in use are kept
pub record IsReached (doc : Document) (idle : Idle) : Type 0 where
  pub live : map (λ live. live.par) idle.live ≡ map number_of (paragraphs doc)
  pub owed : idle.debt ≤ full_debt (paragraph_count doc)
  pub few : Each (λ live. length live.keys ≤ most_keys) idle.live
  pub used : (number : ℕ) (key : Key) (live : Live) → is_in_use doc idle.debt number key ≡ true → live_at number idle.live ≡ Some live → keeps live key ≡ true
