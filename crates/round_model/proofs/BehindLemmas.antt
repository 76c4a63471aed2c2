-- Which keys are in use behind a stop.
use Rattle.std.proofs.Common.{◌≡◌, ◌≢◌, ℕ, ◌+◌, ◌-◌, ◌*◌, ◌/◌, ◌%◌, ◌≤◌, ◌<◌, ◌⊎◌, inl, inr, true, false, ap, sym, ◌∙◌, subst, arith}
use Rattle.std.proofs.lemmas.Bool.{cases_lt, and_parts, ltb-true}
use Rattle.std.proofs.lemmas.Nat.{mod-mul-add}
use Rattle.doc_model.specs.declared.document.Document.{Document}
use Rattle.line_model.specs.declared.key.Key.{Key}
use Rattle.round_model.specs.Rounds.{set_in}
use Rattle.round_model.specs.Stops.{Stop, stop_at, paragraph_count, debt_behind}
use Rattle.round_model.specs.Idle.{place_of, is_in_use}
use Rattle.round_model.proofs.StopLemmas.{StopCase, stop_case, place_even, place_odd, place_last, behind_stop, debt_behind-at, behind_place}
use Rattle.round_model.proofs.StopLemmas.StopCase.{at_settled, at_finish, at_gather, at_form, at_place}
use Rattle.round_model.proofs.InUseLemmas.{has_key, in_use_at, has_key_in_use, none_set, place_of_set, in_use_form, in_use_place, IsPlaced, is_placed}

-- the key was in use before, or is that of the paragraph at the form stop that was passed
abbrev pub WasInUse : Document → ℕ → ℕ → Key → Type 0
WasInUse doc debt number key = (is_in_use doc debt number key ≡ true) ⊎ IsPlaced doc debt number key

place_zero : (count : ℕ) → 1 ≤ count → 0 % (2 * count) / 2 ≡ 0
place_zero count some =
    let zero : 0 * (2 * count) + 0 ≡ 0 = omega arith in
    ap (λ (n : ℕ). n / 2) (ap (λ (n : ℕ). n % (2 * count)) (sym zero) ∙ mod-mul-add 0 (2 * count) 0 (omega arith))

-- behind a gather stop no key is in use
behind_gather : (doc : Document) (debt number : ℕ) (key : Key) → 18 * paragraph_count doc + 1 < debt → is_in_use doc (debt - 1) number key ≡ true → ⊥
behind_gather doc debt number key many used = of_case (stop_case (paragraph_count doc) (debt - 1)) where
  of_case : StopCase (paragraph_count doc) (debt - 1) → ⊥
  of_case (at_settled none at) = omega arith
  of_case (at_finish one at) = none_set doc number key (omega arith) (has_key_in_use doc (debt - 1) number key used)
  of_case (at_gather more at) = let clash : false ≡ true = sym (in_use_at doc (debt - 1) number key _ at) ∙ used in absurd (cc)
  of_case (at_form more few even at) =
      let steps : 18 * paragraph_count doc + 1 - (debt - 1) ≡ 0 = omega arith in
      let place : (18 * paragraph_count doc + 1 - (debt - 1)) % (2 * paragraph_count doc) / 2 ≡ 0 = ap (λ (n : ℕ). n % (2 * paragraph_count doc) / 2) steps ∙ place_zero (paragraph_count doc) (omega arith) in
      let before = ltb-true _ _ (and_parts _ (has_key doc number key) (sym (in_use_at doc (debt - 1) number key _ at) ∙ used)).0 in
      omega (arith, before, place)
  of_case (at_place more few odd at) = omega arith

behind_form : (doc : Document) (debt number : ℕ) (key : Key) → 2 ≤ debt → debt ≤ 18 * paragraph_count doc + 1 → (18 * paragraph_count doc + 1 - debt) % 2 ≡ 0
    → stop_at (paragraph_count doc) debt ≡ Stop.Form ((18 * paragraph_count doc + 1 - debt) / (2 * paragraph_count doc)) ((18 * paragraph_count doc + 1 - debt) % (2 * paragraph_count doc) / 2)
    → is_in_use doc (debt - 1) number key ≡ true → WasInUse doc debt number key
behind_form doc debt number key more few even at used = of_case (stop_case (paragraph_count doc) (debt - 1)) where
  of_case : StopCase (paragraph_count doc) (debt - 1) → WasInUse doc debt number key
  of_case (at_settled none at') = absurd (omega arith)
  of_case (at_finish one at') = absurd (omega arith)
  of_case (at_gather many at') = absurd (omega arith)
  of_case (at_form more' few' even' at') = absurd (omega arith)
  of_case (at_place more' few' odd' at') =
      let place : ℕ = (18 * paragraph_count doc + 1 - debt) % (2 * paragraph_count doc) / 2 in
      let steps : 18 * paragraph_count doc + 1 - (debt - 1) ≡ 18 * paragraph_count doc + 1 - debt + 1 = omega arith in
      let same : (18 * paragraph_count doc + 1 - (debt - 1)) % (2 * paragraph_count doc) / 2 ≡ place =
      ap (λ (n : ℕ). n % (2 * paragraph_count doc) / 2) steps ∙ place_even (18 * paragraph_count doc + 1 - debt) (paragraph_count doc) (omega arith) even in
      let parts = and_parts _ (has_key doc number key) (sym (in_use_at doc (debt - 1) number key _ at') ∙ used) in
      let before : place_of number (set_in doc 0) < (18 * paragraph_count doc + 1 - (debt - 1)) % (2 * paragraph_count doc) / 2 + 1 = ltb-true _ _ parts.0 in
      elim (cases_lt (place_of number (set_in doc 0)) place) [
        | inl less ↦ inl (in_use_form doc debt number key _ place at less parts.1)
        | inr least ↦ let here : place_of number (set_in doc 0) ≡ place = omega (arith, least, before, same) in inr (is_placed doc debt number key _ place at here parts.1)
      ]

behind_place_one : (doc : Document) (debt number : ℕ) (key : Key) → 2 ≤ debt → debt ≤ 18 * paragraph_count doc + 1 → (18 * paragraph_count doc + 1 - debt) % 2 ≡ 1
    → stop_at (paragraph_count doc) debt ≡ Stop.Place ((18 * paragraph_count doc + 1 - debt) / (2 * paragraph_count doc)) ((18 * paragraph_count doc + 1 - debt) % (2 * paragraph_count doc) / 2)
    → is_in_use doc (debt - 1) number key ≡ true → is_in_use doc debt number key ≡ true
behind_place_one doc debt number key more few odd at used = of_case (stop_case (paragraph_count doc) (debt - 1)) where
  of_case : StopCase (paragraph_count doc) (debt - 1) → is_in_use doc debt number key ≡ true
  of_case (at_settled none at') = absurd (omega arith)
  of_case (at_finish one at') =
      let place : ℕ = (18 * paragraph_count doc + 1 - debt) % (2 * paragraph_count doc) / 2 in
      let has = has_key_in_use doc (debt - 1) number key used in
      let last : place + 1 ≡ paragraph_count doc = place_last (18 * paragraph_count doc + 1 - debt) (paragraph_count doc) (omega arith) (omega arith) in
      in_use_place doc debt number key _ place at (omega (arith, place_of_set doc number key has, last)) has
  of_case (at_gather many at') = absurd (omega arith)
  of_case (at_form more' few' even' at') =
      let place : ℕ = (18 * paragraph_count doc + 1 - debt) % (2 * paragraph_count doc) / 2 in
      let steps : 18 * paragraph_count doc + 1 - (debt - 1) ≡ 18 * paragraph_count doc + 1 - debt + 1 = omega arith in
      let same : (18 * paragraph_count doc + 1 - (debt - 1)) % (2 * paragraph_count doc) / 2 ≡ (18 * paragraph_count doc + 1 - debt + 1) % (2 * paragraph_count doc) / 2 =
      ap (λ (n : ℕ). n % (2 * paragraph_count doc) / 2) steps in
      let next : (18 * paragraph_count doc + 1 - debt + 1) % (2 * paragraph_count doc) / 2 ≤ place + 1 = place_odd (18 * paragraph_count doc + 1 - debt) (paragraph_count doc) (omega arith) in
      let parts = and_parts _ (has_key doc number key) (sym (in_use_at doc (debt - 1) number key _ at') ∙ used) in
      let before : place_of number (set_in doc 0) < (18 * paragraph_count doc + 1 - (debt - 1)) % (2 * paragraph_count doc) / 2 = ltb-true _ _ parts.0 in
      in_use_place doc debt number key _ place at (omega (arith, before, same, next)) parts.1
  of_case (at_place more' few' odd' at') = absurd (omega arith)

-- a key that is in use behind a stop was so before, or is that of the paragraph whose form stop was passed
pub was_in_use : (doc : Document) (debt number : ℕ) (key : Key) → debt ≢ 0 → is_in_use doc (debt_behind doc debt) number key ≡ true → WasInUse doc debt number key
was_in_use doc debt number key some used = of_case (stop_case (paragraph_count doc) debt) where
  at_debt : (behind : ℕ) → debt_behind doc debt ≡ behind → is_in_use doc behind number key ≡ true
  at_debt behind e = subst (λ (debt : ℕ). is_in_use doc debt number key ≡ true) e used

  of_place : (round place : ℕ) → stop_at (paragraph_count doc) debt ≡ Stop.Place round place → (is_in_use doc (debt - 1) number key ≡ true → is_in_use doc debt number key ≡ true)
      → (behind_stop doc debt (Stop.Place round place) ≡ debt - 1) ⊎ ((behind_stop doc debt (Stop.Place round place) ≡ 1) × (place + 1 ≡ paragraph_count doc)) → WasInUse doc debt number key
  of_place round place at one (inl e) = inl (one (at_debt (debt - 1) (debt_behind-at doc debt (Stop.Place round place) at ∙ e)))
  of_place round place at one (inr e) =
      let has = has_key_in_use doc 1 number key (at_debt 1 (debt_behind-at doc debt (Stop.Place round place) at ∙ e.0)) in
      inl (in_use_place doc debt number key round place at (omega (arith, place_of_set doc number key has, e.1)) has)

  of_case : StopCase (paragraph_count doc) debt → WasInUse doc debt number key
  of_case (at_settled none at) = absurd (some none)
  of_case (at_finish one at) = inl (in_use_at doc debt number key Stop.Finish at ∙ has_key_in_use doc (debt_behind doc debt) number key used)
  of_case (at_gather many at) = absurd (behind_gather doc debt number key many (at_debt (debt - 1) (debt_behind-at doc debt _ at)))
  of_case (at_form more few even at) = behind_form doc debt number key more few even at (at_debt (debt - 1) (debt_behind-at doc debt _ at))
  of_case (at_place more few odd at) =
      let round : ℕ = (18 * paragraph_count doc + 1 - debt) / (2 * paragraph_count doc) in
      let place : ℕ = (18 * paragraph_count doc + 1 - debt) % (2 * paragraph_count doc) / 2 in
      of_place round place at (behind_place_one doc debt number key more few odd at) (behind_place doc debt round place)
