-- Which stop stands at a debt, and which one behind it.
use Rattle.std.proofs.Common.{◌≡◌, ℕ, ◌+◌, ◌-◌, ◌*◌, ◌/◌, ◌%◌, ◌≤◌, ◌<◌, Bool, true, false, ◌≢◌, ◌⊎◌, refl, ap, sym, ◌∙◌, arith, inl, inr}
use Rattle.std.specs.Prelude.{◌==◌, nat_lt, if◌then◌else◌}
use Rattle.std.proofs.lemmas.Bool.{cases_lt, lt-ltb, le-ltb}
use Rattle.std.proofs.lemmas.Bool.Decides.{eqb_tells}
use Rattle.std.proofs.lemmas.Nat.{mod-mul-add, div-add-mod', mod_below}
use native.Mathlib.Nat.{mul_left_comm, add-mul}
use Rattle.doc_model.specs.declared.document.Document.{Document}
use Rattle.round_model.specs.Rounds.{last_round}
use Rattle.round_model.specs.Stops.{Stop, stop_at, full_debt, debt_behind, paragraph_count}

-- which stop stands at a debt, with what the debt then is
pub data StopCase (count debt : ℕ) : Type 0 where
  at_settled : (none : debt ≡ 0) (at : stop_at count debt ≡ Stop.Settled) → StopCase count debt
  at_finish : (one : debt ≡ 1) (at : stop_at count debt ≡ Stop.Finish) → StopCase count debt
  at_gather : (many : 18 * count + 1 < debt) (at : stop_at count debt ≡ Stop.Gather (full_debt count - debt)) → StopCase count debt
  at_form : (more : 2 ≤ debt) (few : debt ≤ 18 * count + 1) (even : (18 * count + 1 - debt) % 2 ≡ 0)
      (at : stop_at count debt ≡ Stop.Form ((18 * count + 1 - debt) / (2 * count)) ((18 * count + 1 - debt) % (2 * count) / 2)) → StopCase count debt
  at_place : (more : 2 ≤ debt) (few : debt ≤ 18 * count + 1) (odd : (18 * count + 1 - debt) % 2 ≡ 1)
      (at : stop_at count debt ≡ Stop.Place ((18 * count + 1 - debt) / (2 * count)) ((18 * count + 1 - debt) % (2 * count) / 2)) → StopCase count debt

neq-eqb : (a b : ℕ) → (a ≡ b → ⊥) → (a == b) ≡ false
neq-eqb a b apart = elim (eqb_tells a b) [ inl e ↦ absurd (apart e.1) | inr e ↦ e.0 ]

-- the stop at each debt
pub stop_case : (count debt : ℕ) → StopCase count debt
stop_case count debt = by_zero (eqb_tells debt 0) where
  by_even : (debt == 0) ≡ false → (debt == 1) ≡ false → nat_lt (18 * count + 1) debt ≡ false → 2 ≤ debt → debt ≤ 18 * count + 1
      → (((18 * count + 1 - debt) % 2 == 0) ≡ true) × ((18 * count + 1 - debt) % 2 ≡ 0) ⊎ (((18 * count + 1 - debt) % 2 == 0) ≡ false) × ((18 * count + 1 - debt) % 2 ≢ 0) → StopCase count debt
  by_even a b c more few (inl e) = at_form more few e.1 (rw (a, b, c, e.0) refl)
  by_even a b c more few (inr e) = at_place more few (omega (arith, mod_below (18 * count + 1 - debt) 2 (omega arith), e.1)) (rw (a, b, c, e.0) refl)

  by_many : (debt == 0) ≡ false → (debt == 1) ≡ false → debt ≢ 0 → debt ≢ 1 → (18 * count + 1 < debt) ⊎ (debt ≤ 18 * count + 1) → StopCase count debt
  by_many a b none one (inl many) = let c = lt-ltb (18 * count + 1) debt many in at_gather many (rw (a, b, c) refl)
  by_many a b none one (inr few) = by_even a b (le-ltb (18 * count + 1) debt few) (omega arith) few (eqb_tells ((18 * count + 1 - debt) % 2) 0)

  by_one : (debt == 0) ≡ false → debt ≢ 0 → ((debt == 1) ≡ true) × (debt ≡ 1) ⊎ ((debt == 1) ≡ false) × (debt ≢ 1) → StopCase count debt
  by_one a none (inl e) = at_finish e.1 (rw (a, e.0) refl)
  by_one a none (inr e) = by_many a e.0 none e.1 (cases_lt (18 * count + 1) debt)

  by_zero : ((debt == 0) ≡ true) × (debt ≡ 0) ⊎ ((debt == 0) ≡ false) × (debt ≢ 0) → StopCase count debt
  by_zero (inl e) = at_settled e.1 (rw e.0 refl)
  by_zero (inr e) = by_one e.0 e.1 (eqb_tells debt 1)

-- how many whole rounds some steps are, and how many steps more
record Split (steps count : ℕ) : Type 0 where
  rounds : ℕ
  rest : ℕ
  is_rest : steps % (2 * count) ≡ rest
  whole : steps ≡ 2 * (rounds * count) + rest
  below : rest < 2 * count

split_of : (steps count : ℕ) → 1 ≤ count → Split steps count
split_of steps count some = record {
  rounds = steps / (2 * count);
  rest = steps % (2 * count);
  is_rest = refl;
  whole = sym (div-add-mod' steps (2 * count)) ∙ ap (λ (n : ℕ). n + steps % (2 * count)) (mul_left_comm (steps / (2 * count)) 2 count);
  below = mod_below steps (2 * count) (omega arith);
}

-- the steps behind whole rounds
rest_of : (steps count rounds rest : ℕ) → steps ≡ 2 * (rounds * count) + rest → rest < 2 * count → steps % (2 * count) ≡ rest
rest_of steps count rounds rest whole below =
    ap (λ (n : ℕ). n % (2 * count)) (whole ∙ ap (λ (n : ℕ). n + rest) (sym (mul_left_comm rounds 2 count))) ∙ mod-mul-add rounds (2 * count) rest below

half_even : (rest : ℕ) → rest % 2 ≡ 0 → (rest + 1) / 2 ≡ rest / 2
half_even rest even = omega arith

-- behind an even number of steps in the rounds the place stays
pub place_even : (steps count : ℕ) → 1 ≤ count → steps % 2 ≡ 0 → (steps + 1) % (2 * count) / 2 ≡ steps % (2 * count) / 2
place_even steps count some even =
    let s = split_of steps count some in
    let whole = s.whole in
    let below = s.below in
    let even_rest : s.rest % 2 ≡ 0 = omega arith in
    let next : (steps + 1) % (2 * count) ≡ s.rest + 1 = rest_of (steps + 1) count s.rounds (s.rest + 1) (omega arith) (omega arith) in
    ap (λ (n : ℕ). n / 2) next ∙ half_even s.rest even_rest ∙ ap (λ (n : ℕ). n / 2) (sym s.is_rest)

odd_case : (steps count : ℕ) (s : Split steps count) → 1 ≤ count → (s.rest + 1 < 2 * count) ⊎ (2 * count ≤ s.rest + 1) → (steps + 1) % (2 * count) / 2 ≤ s.rest / 2 + 1
odd_case steps count s some (inl more) =
    let whole = s.whole in
    let next : (steps + 1) % (2 * count) ≡ s.rest + 1 = rest_of (steps + 1) count s.rounds (s.rest + 1) (omega arith) more in
    let half : (steps + 1) % (2 * count) / 2 ≡ (s.rest + 1) / 2 = ap (λ (n : ℕ). n / 2) next in
    let small : (s.rest + 1) / 2 ≤ s.rest / 2 + 1 = omega arith in
    omega (arith, half, small)
odd_case steps count s some (inr all) =
    let whole = s.whole in
    let below = s.below in
    let more : (s.rounds + 1) * count ≡ s.rounds * count + count = add-mul s.rounds 1 count ∙ omega arith in
    let next : (steps + 1) % (2 * count) ≡ 0 = rest_of (steps + 1) count (s.rounds + 1) 0 (omega arith) (omega arith) in
    let half : (steps + 1) % (2 * count) / 2 ≡ 0 = ap (λ (n : ℕ). n / 2) next in
    omega (arith, half)

-- behind an odd number of steps in the rounds the place is at most the next one
pub place_odd : (steps count : ℕ) → 1 ≤ count → (steps + 1) % (2 * count) / 2 ≤ steps % (2 * count) / 2 + 1
place_odd steps count some =
    let s = split_of steps count some in
    let half : steps % (2 * count) / 2 ≡ s.rest / 2 = ap (λ (n : ℕ). n / 2) s.is_rest in
    let odd : (steps + 1) % (2 * count) / 2 ≤ s.rest / 2 + 1 = odd_case steps count s some (cases_lt (s.rest + 1) (2 * count)) in
    omega (arith, half, odd)

-- the last stop of all rounds is that of the last place
pub place_last : (steps count : ℕ) → 1 ≤ count → steps + 1 ≡ 18 * count → steps % (2 * count) / 2 + 1 ≡ count
place_last steps count some last =
    let rest : steps % (2 * count) ≡ 2 * count - 1 = rest_of steps count 8 (2 * count - 1) (omega arith) (omega arith) in
    let half : steps % (2 * count) / 2 ≡ (2 * count - 1) / 2 = ap (λ (n : ℕ). n / 2) rest in
    let half' : (2 * count - 1) / 2 + 1 ≡ count = omega arith in
    omega (arith, half, half')

-- a place is one of the paragraphs
pub place_below : (steps count : ℕ) → 1 ≤ count → steps % (2 * count) / 2 < count
place_below steps count some =
    let below : steps % (2 * count) < 2 * count = mod_below steps (2 * count) (omega arith) in
    half_below (steps % (2 * count)) count below where
      half_below : (rest count : ℕ) → rest < 2 * count → rest / 2 < count
      half_below rest count below = omega arith

-- the debt behind a stop, by the stop
abbrev pub behind_stop : Document → ℕ → Stop → ℕ
behind_stop doc debt (Stop.Place round place) = if round == last_round doc then (if place + 1 == paragraph_count doc then 1 else debt - 1) else debt - 1
behind_stop doc debt _ = debt - 1

pub debt_behind-at : (doc : Document) (debt : ℕ) (stop : Stop) → stop_at (paragraph_count doc) debt ≡ stop → debt_behind doc debt ≡ behind_stop doc debt stop
debt_behind-at doc debt stop e = ap (λ (s : Stop). behind_stop doc debt s) e

-- behind the stop of a place one less is left, or the finish alone
pub behind_place : (doc : Document) (debt round place : ℕ)
    → (behind_stop doc debt (Stop.Place round place) ≡ debt - 1) ⊎ ((behind_stop doc debt (Stop.Place round place) ≡ 1) × (place + 1 ≡ paragraph_count doc))
behind_place doc debt round place = by_round (round == last_round doc) (eqb_tells (place + 1) (paragraph_count doc)) where
  by_round : (b : Bool) → ((place + 1 == paragraph_count doc) ≡ true) × (place + 1 ≡ paragraph_count doc) ⊎ ((place + 1 == paragraph_count doc) ≡ false) × (place + 1 ≢ paragraph_count doc)
      → ((if b then (if place + 1 == paragraph_count doc then 1 else debt - 1) else debt - 1) ≡ debt - 1)
      ⊎ (((if b then (if place + 1 == paragraph_count doc then 1 else debt - 1) else debt - 1) ≡ 1) × (place + 1 ≡ paragraph_count doc))
  by_round false e = inl refl
  by_round true (inl e) = inr (ap (λ (b : Bool). if b then 1 else debt - 1) e.0, e.1)
  by_round true (inr e) = inl (ap (λ (b : Bool). if b then 1 else debt - 1) e.0)

-- the debt behind a stop is less
pub debt_behind-lt : (doc : Document) (debt : ℕ) → 1 ≤ debt → debt_behind doc debt < debt
debt_behind-lt doc debt some = of_case (stop_case (paragraph_count doc) debt) where
  of_place : (round place : ℕ) → 2 ≤ debt
      → (behind_stop doc debt (Stop.Place round place) ≡ debt - 1) ⊎ ((behind_stop doc debt (Stop.Place round place) ≡ 1) × (place + 1 ≡ paragraph_count doc))
      → behind_stop doc debt (Stop.Place round place) < debt
  of_place round place more (inl e) = omega (arith, e)
  of_place round place more (inr e) = omega (arith, e.0)

  of_case : StopCase (paragraph_count doc) debt → debt_behind doc debt < debt
  of_case (at_settled none at) = absurd (omega arith)
  of_case (at_finish one at) = omega (arith, debt_behind-at doc debt Stop.Finish at)
  of_case (at_gather many at) = omega (arith, debt_behind-at doc debt _ at)
  of_case (at_form more few even at) = omega (arith, debt_behind-at doc debt _ at)
  of_case (at_place more few odd at) =
      let round : ℕ = (18 * paragraph_count doc + 1 - debt) / (2 * paragraph_count doc) in
      let place : ℕ = (18 * paragraph_count doc + 1 - debt) % (2 * paragraph_count doc) / 2 in
      omega (arith, debt_behind-at doc debt (Stop.Place round place) at, of_place round place more (behind_place doc debt round place))

-- before the first step of the rounds stands the first place
pub place_first : (steps count : ℕ) → 1 ≤ count → steps ≡ 0 → steps % (2 * count) / 2 ≡ 0
place_first steps count some none =
    let rest : steps % (2 * count) ≡ 0 = rest_of steps count 0 0 (omega arith) (omega arith) in
    ap (λ (n : ℕ). n / 2) rest
