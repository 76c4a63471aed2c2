-- The stops of the idle work, in order: one for each paragraph, at which it is gathered; then, in each round, two for each paragraph, at which its lines are formed and placed; then one at which the pages are finished. The debt tells the stop.
use Rattle.std.specs.Prelude.{ℕ, ◌+◌, ◌-◌, ◌*◌, ◌/◌, ◌%◌, ◌==◌, nat_lt, if◌then◌else◌, List, length}
use Rattle.doc_model.specs.declared.document.Document.{Document}
use Rattle.doc_model.specs.Reading.{paragraphs}
use Rattle.round_model.specs.Rounds.{last_round}

-- where the idle work stands. Rounds, and places in the order in which paragraphs are set, are counted from 0
pub data Stop : Type 0 where
  Gather : (place : ℕ) → Stop
  Form : (round place : ℕ) → Stop
  Place : (round place : ℕ) → Stop
  Finish : Stop
  Settled : Stop

-- how many paragraphs a document has, those of notes with them
abbrev pub paragraph_count : Document → ℕ
paragraph_count doc = length (paragraphs doc)

-- the debt before the first stop: P gather stops, 18P in nine rounds, and the last one
abbrev pub full_debt : ℕ → ℕ
full_debt count = 19 * count + 1

-- the stop at a debt, for so many paragraphs
abbrev pub stop_at : ℕ → ℕ → Stop
stop_at count debt =
    if debt == 0 then Settled else if debt == 1 then Finish
    else if nat_lt (18 * count + 1) debt then Gather (full_debt count - debt) else in_rounds (18 * count + 1 - debt) where
      in_rounds : ℕ → Stop
      in_rounds passed =
          if passed % 2 == 0 then Form (passed / (2 * count)) (passed % (2 * count) / 2)
          else Place (passed / (2 * count)) (passed % (2 * count) / 2)

-- the debt behind a stop: one less, but behind the last place stop of the last round only the finish is left
abbrev pub debt_behind : Document → ℕ → ℕ
debt_behind doc debt = of_stop (stop_at (paragraph_count doc) debt) where
  of_stop : Stop → ℕ
  of_stop (Place round place) = if round == last_round doc then (if place + 1 == paragraph_count doc then 1 else debt - 1) else debt - 1
  of_stop _ = debt - 1
