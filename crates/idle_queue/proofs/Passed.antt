-- How many paragraphs have the form stop of the present round behind them, before and behind a stop.
use Rattle.std.proofs.Common.{◌≡◌, ℕ, ◌+◌, ◌-◌, ◌*◌, ◌/◌, ◌%◌, ◌≤◌, ◌⊎◌, refl, ap, ◌∙◌, arith, inl, inr}
use Rattle.doc_model.specs.declared.document.Document.{Document}
use Rattle.round_model.specs.Stops.{Stop, stop_at, debt_behind, paragraph_count}
use Rattle.round_model.proofs.StopLemmas.{StopCase, at_settled, at_finish, at_gather, at_form, at_place, stop_case, place_even, place_odd, place_last, place_first, behind_stop, behind_place, debt_behind-at}
use Rattle.idle_queue.specs.StopOf.{places_passed}

-- how many have it behind them once a stop is passed, at most
abbrev pub passed_after : ℕ → Stop → ℕ
passed_after count (Stop.Form round place) = place + 1
passed_after count stop = places_passed count stop

-- the place that a debt tells
abbrev pub told : ℕ → ℕ → ℕ
told count debt = (18 * count + 1 - debt) % (2 * count) / 2

abbrev Passed : ℕ → ℕ → ℕ → Type 0
Passed count debt bound = places_passed count (stop_at count debt) ≤ bound

passed-at : (count debt bound : ℕ) (stop : Stop) → stop_at count debt ≡ stop → places_passed count stop ≤ bound → Passed count debt bound
passed-at count debt bound stop at h = omega (arith, ap (λ (s : Stop). places_passed count s) at)

behind_gather : (count debt : ℕ) → 1 ≤ count → 18 * count + 1 ≤ debt → StopCase count debt → Passed count debt 0
behind_gather count debt some many (at_settled none at) = absurd (omega arith)
behind_gather count debt some many (at_finish one at) = absurd (omega arith)
behind_gather count debt some many (at_gather more at) = passed-at count debt 0 _ at (omega arith)
behind_gather count debt some many (at_form more few even at) =
    passed-at count debt 0 _ at (omega (arith, place_first (18 * count + 1 - debt) count some (omega arith)))
behind_gather count debt some many (at_place more few odd at) = absurd (omega arith)

behind_form : (count debt : ℕ) → 1 ≤ count → 1 ≤ debt → debt ≤ 18 * count → (18 * count - debt) % 2 ≡ 0 → StopCase count debt
    → Passed count debt ((18 * count - debt) % (2 * count) / 2 + 1)
behind_form count debt some more few even (at_settled none at) = absurd (omega arith)
behind_form count debt some more few even (at_finish one at) = absurd (omega arith)
behind_form count debt some more few even (at_gather many at) = absurd (omega arith)
behind_form count debt some more few even (at_form more' few' even' at) = absurd (omega arith)
behind_form count debt some more few even (at_place more' few' odd at) =
    let steps : 18 * count + 1 - debt ≡ 18 * count - debt + 1 = omega arith in
    passed-at count debt ((18 * count - debt) % (2 * count) / 2 + 1) _ at
    (omega (arith, ap (λ (n : ℕ). n % (2 * count) / 2) steps, place_even (18 * count - debt) count some even))

behind_placed : (count debt : ℕ) → 1 ≤ count → 1 ≤ debt → debt ≤ 18 * count → (18 * count - debt) % 2 ≡ 1 → StopCase count debt
    → Passed count debt ((18 * count - debt) % (2 * count) / 2 + 1)
behind_placed count debt some more few odd (at_settled none at) = absurd (omega arith)
behind_placed count debt some more few odd (at_finish one at) =
    passed-at count debt ((18 * count - debt) % (2 * count) / 2 + 1) _ at (omega (arith, place_last (18 * count - debt) count some (omega arith)))
behind_placed count debt some more few odd (at_gather many at) = absurd (omega arith)
behind_placed count debt some more few odd (at_form more' few' even at) =
    let steps : 18 * count + 1 - debt ≡ 18 * count - debt + 1 = omega arith in
    passed-at count debt ((18 * count - debt) % (2 * count) / 2 + 1) _ at
    (omega (arith, ap (λ (n : ℕ). n % (2 * count) / 2) steps, place_odd (18 * count - debt) count some))
behind_placed count debt some more few odd (at_place more' few' odd' at) = absurd (omega arith)

-- behind a stop no more have it behind them, but for the one that the stop formed
pub passed_behind : (doc : Document) (debt : ℕ) → 1 ≤ paragraph_count doc
    → places_passed (paragraph_count doc) (stop_at (paragraph_count doc) (debt_behind doc debt)) ≤ passed_after (paragraph_count doc) (stop_at (paragraph_count doc) debt)
passed_behind doc debt some = of_case (paragraph_count doc) refl some (debt_behind-at doc debt) (stop_case (paragraph_count doc) debt) where
  by : (count : ℕ) (stop : Stop) (less : ℕ) → stop_at count debt ≡ stop → debt_behind doc debt ≡ less → Passed count less (passed_after count stop)
      → places_passed count (stop_at count (debt_behind doc debt)) ≤ passed_after count (stop_at count debt)
  by count stop less at behind h =
      omega (arith, ap (λ (s : Stop). passed_after count s) at, ap (λ (n : ℕ). places_passed count (stop_at count n)) behind)

  of_place : (count round place : ℕ) → paragraph_count doc ≡ count → 1 ≤ count → 2 ≤ debt → debt ≤ 18 * count + 1 → (18 * count + 1 - debt) % 2 ≡ 1
      → place ≡ told count debt → stop_at count debt ≡ Stop.Place round place → debt_behind doc debt ≡ behind_stop doc debt (Stop.Place round place)
      → (behind_stop doc debt (Stop.Place round place) ≡ debt - 1) ⊎ ((behind_stop doc debt (Stop.Place round place) ≡ 1) × (place + 1 ≡ paragraph_count doc))
      → places_passed count (stop_at count (debt_behind doc debt)) ≤ passed_after count (stop_at count debt)
  of_place count round place is some more few odd there at behind (inl e) =
      let steps : 18 * count - (debt - 1) ≡ 18 * count + 1 - debt = omega arith in
      by count (Stop.Place round place) (debt - 1) at (behind ∙ e)
      (omega (arith, there, ap (λ (n : ℕ). n % (2 * count) / 2) steps, behind_placed count (debt - 1) some (omega arith) (omega arith) (ap (λ (n : ℕ). n % 2) steps ∙ odd) (stop_case count (debt - 1))))
  of_place count round place is some more few odd there at behind (inr e) = by count (Stop.Place round place) 1 at (behind ∙ e.0) (omega (arith, e.1))

  of_case : (count : ℕ) → paragraph_count doc ≡ count → 1 ≤ count → ((stop : Stop) → stop_at count debt ≡ stop → debt_behind doc debt ≡ behind_stop doc debt stop) → StopCase count debt
      → places_passed count (stop_at count (debt_behind doc debt)) ≤ passed_after count (stop_at count debt)
  of_case count is some behind (at_settled none at) =
      let nothing : debt - 1 ≡ 0 = omega arith in
      by count Stop.Settled 0 at (behind Stop.Settled at ∙ nothing) (omega arith)
  of_case count is some behind (at_finish one at) =
      let nothing : debt - 1 ≡ 0 = omega arith in
      by count Stop.Finish 0 at (behind Stop.Finish at ∙ nothing) (omega arith)
  of_case count is some behind (at_gather many at) =
      by count _ (debt - 1) at (behind _ at) (omega (arith, behind_gather count (debt - 1) some (omega arith) (stop_case count (debt - 1))))
  of_case count is some behind (at_form more few even at) =
      let steps : 18 * count - (debt - 1) ≡ 18 * count + 1 - debt = omega arith in
      by count _ (debt - 1) at (behind _ at)
      (omega (arith, ap (λ (n : ℕ). n % (2 * count) / 2) steps, behind_form count (debt - 1) some (omega arith) (omega arith) (ap (λ (n : ℕ). n % 2) steps ∙ even) (stop_case count (debt - 1))))
  of_case count is some behind (at_place more few odd at) =
      let round : ℕ = (18 * count + 1 - debt) / (2 * count) in
      of_place count round (told count debt) is some more few odd refl at (behind _ at) (behind_place doc debt round (told count debt))
