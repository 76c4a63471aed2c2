-- Which keys are in use at a debt.
use Rattle.std.proofs.Common.{◌≡◌, ℕ, ◌+◌, ◌<◌, Bool, true, false, List, [], ◌∷◌, length, drop, add-one, refl, ap, sym, ◌∙◌, subst, arith, Option, Some, None}
use Rattle.std.specs.Prelude.{◌==◌, ◌&&◌, nat_lt, if◌then◌else◌, find}
use Rattle.std.specs.Option.{option_map_or}
use Rattle.std.proofs.lemmas.Bool.{and_parts, and_from, lt-ltb, eqb-true}
use Rattle.std.proofs.lemmas.List.{length-map}
use Rattle.doc_model.specs.declared.document.Document.{Document}
use Rattle.doc_model.specs.declared.paragraph.Par.{Par}
use Rattle.doc_model.specs.Reading.{paragraphs, number_of}
use Rattle.line_model.specs.declared.key.Key.{Key}
use Rattle.line_model.specs.Keys.{is_same_key, key_of}
use Rattle.round_model.specs.Rounds.{SetPar, set_in, last_round}
use Rattle.round_model.specs.Stops.{Stop, stop_at, paragraph_count, full_debt}
use Rattle.round_model.specs.Idle.{set_at, place_of, is_in_use}
use Rattle.line_model.proofs.KeyLemmas.{is_same_key-true}
use Rattle.round_model.proofs.StopLemmas.{StopCase, stop_case}
use Rattle.round_model.proofs.StopLemmas.StopCase.{at_settled, at_finish, at_gather, at_form, at_place}

-- whether the key is that of the paragraph, in all rounds
abbrev pub has_key : Document → ℕ → Key → Bool
has_key doc number key = option_map_or (λ (set : SetPar). is_same_key set.key key) (find (λ (set : SetPar). set.par == number) (set_in doc (last_round doc))) false

-- whether a key is in use at a stop
abbrev pub use_at : Document → Stop → ℕ → Key → Bool
use_at doc (Stop.Gather place) number key = false
use_at doc (Stop.Form round place) number key = nat_lt (place_of number (set_in doc round)) place && has_key doc number key
use_at doc (Stop.Place round place) number key = nat_lt (place_of number (set_in doc round)) (place + 1) && has_key doc number key
use_at doc _ number key = has_key doc number key

pub in_use_at : (doc : Document) (debt number : ℕ) (key : Key) (stop : Stop) → stop_at (paragraph_count doc) debt ≡ stop → is_in_use doc debt number key ≡ use_at doc stop number key
in_use_at doc debt number key (Stop.Gather place) e = rw (e, is_in_use)
in_use_at doc debt number key (Stop.Form round place) e = rw (e, is_in_use)
in_use_at doc debt number key (Stop.Place round place) e = rw (e, is_in_use)
in_use_at doc debt number key Stop.Finish e = rw (e, is_in_use)
in_use_at doc debt number key Stop.Settled e = rw (e, is_in_use)

-- the paragraph of a number, where its key is in use
pub record IsSet (doc : Document) (number : ℕ) (key : Key) : Type 0 where
  pub set : SetPar
  pub found : find (λ (set : SetPar). set.par == number) (set_in doc (last_round doc)) ≡ Some set
  pub same : set.key ≡ key

pub set_of : (doc : Document) (number : ℕ) (key : Key) → has_key doc number key ≡ true → IsSet doc number key
set_of doc number key has = of_set (find (λ (set : SetPar). set.par == number) (set_in doc (last_round doc))) refl has where
  of_set : (set : Option SetPar) → find (λ (set : SetPar). set.par == number) (set_in doc (last_round doc)) ≡ set → option_map_or (λ (set : SetPar). is_same_key set.key key) set false ≡ true → IsSet doc number key
  of_set None is h = absurd (let clash : false ≡ true = h in cc)
  of_set (Some set) is h = record { set = set; found = is; same = is_same_key-true set.key key h }

-- the place of a paragraph that is there
place_below : (number : ℕ) (sets : List SetPar) (set : SetPar) → find (λ (set : SetPar). set.par == number) sets ≡ Some set → place_of number sets < length sets
place_below number [] set e = absurd (let clash : None ≡ Some set = e in cc)
place_below number (other ∷ sets) set e = of_test (other.par == number) e (place_below number sets set) where
  of_test : (here : Bool) → (if here then Some other else find (λ (set : SetPar). set.par == number) sets) ≡ Some set
      → (find (λ (set : SetPar). set.par == number) sets ≡ Some set → place_of number sets < length sets) → (if here then 0 else place_of number sets + 1) < length (other ∷ sets)
  of_test true e more = omega arith
  of_test false e more = omega (arith, more e)

-- the first of some
abbrev pub first_of : List SetPar → Option SetPar
first_of [] = None
first_of (set ∷ more) = Some set

placed : (number : ℕ) (sets : List SetPar) (set : SetPar) → find (λ (set : SetPar). set.par == number) sets ≡ Some set → first_of (drop (place_of number sets) sets) ≡ Some set
placed number [] set e = absurd (let clash : None ≡ Some set = e in cc)
placed number (other ∷ sets) set e = of_test (other.par == number) e (placed number sets set) where
  of_test : (here : Bool) → (if here then Some other else find (λ (set : SetPar). set.par == number) sets) ≡ Some set
      → (find (λ (set : SetPar). set.par == number) sets ≡ Some set → first_of (drop (place_of number sets) sets) ≡ Some set)
      → first_of (drop (if here then 0 else place_of number sets + 1) (other ∷ sets)) ≡ Some set
  of_test true e more = e
  of_test false e more = rw add-one (more e)

found_par : (number : ℕ) (sets : List SetPar) (set : SetPar) → find (λ (set : SetPar). set.par == number) sets ≡ Some set → set.par ≡ number
found_par number [] set e = absurd (let clash : None ≡ Some set = e in cc)
found_par number (other ∷ sets) set e = of_test (other.par == number) refl e (found_par number sets set) where
  of_test : (here : Bool) → (other.par == number) ≡ here → (if here then Some other else find (λ (set : SetPar). set.par == number) sets) ≡ Some set
      → (find (λ (set : SetPar). set.par == number) sets ≡ Some set → set.par ≡ number) → set.par ≡ number
  of_test true is e more = let same : other ≡ set = cc in ap (λ (set : SetPar). set.par) (sym same) ∙ eqb-true other.par number is
  of_test false is e more = more e

count_set : (doc : Document) (round : ℕ) → length (set_in doc round) ≡ paragraph_count doc
count_set doc round = length-map (paragraphs doc) (λ (par : Par). let set : SetPar = record { par = number_of par; key = key_of par } in set)

pub place_of_set : (doc : Document) (number : ℕ) (key : Key) → has_key doc number key ≡ true → place_of number (set_in doc (last_round doc)) < paragraph_count doc
place_of_set doc number key has =
    let is = set_of doc number key has in
    omega (arith, place_below number (set_in doc (last_round doc)) is.set is.found, count_set doc (last_round doc))

-- a key in use is that of its paragraph
pub has_key_in_use : (doc : Document) (debt number : ℕ) (key : Key) → is_in_use doc debt number key ≡ true → has_key doc number key ≡ true
has_key_in_use doc debt number key used = of_case (stop_case (paragraph_count doc) debt) where
  of_case : StopCase (paragraph_count doc) debt → has_key doc number key ≡ true
  of_case (at_settled none at) = sym (in_use_at doc debt number key Stop.Settled at) ∙ used
  of_case (at_finish one at) = sym (in_use_at doc debt number key Stop.Finish at) ∙ used
  of_case (at_gather many at) = absurd (let clash : false ≡ true = sym (in_use_at doc debt number key _ at) ∙ used in cc)
  of_case (at_form more few even at) = (and_parts _ (has_key doc number key) (sym (in_use_at doc debt number key _ at) ∙ used)).1
  of_case (at_place more few odd at) = (and_parts _ (has_key doc number key) (sym (in_use_at doc debt number key _ at) ∙ used)).1

-- without paragraphs no key is in use
pub none_set : (doc : Document) (number : ℕ) (key : Key) → paragraph_count doc ≡ 0 → has_key doc number key ≡ true → ⊥
none_set doc number key none has = omega (arith, place_of_set doc number key has, none)

unused : (used : Bool) → (used ≡ true → ⊥) → used ≡ false
unused true never = absurd (never refl)
unused false never = refl

-- when all is to be done no key is in use
pub none_in_use : (doc : Document) (number : ℕ) (key : Key) → is_in_use doc (full_debt (paragraph_count doc)) number key ≡ false
none_in_use doc number key = of_case (stop_case (paragraph_count doc) (full_debt (paragraph_count doc))) where
  of_case : StopCase (paragraph_count doc) (full_debt (paragraph_count doc)) → is_in_use doc (full_debt (paragraph_count doc)) number key ≡ false
  of_case (at_settled none at) = absurd (omega arith)
  of_case (at_finish one at) = in_use_at doc (full_debt (paragraph_count doc)) number key Stop.Finish at ∙ unused (has_key doc number key) (none_set doc number key (omega arith))
  of_case (at_gather many at) = in_use_at doc (full_debt (paragraph_count doc)) number key _ at
  of_case (at_form more few even at) = absurd (omega arith)
  of_case (at_place more few odd at) = absurd (omega arith)

pub in_use_form : (doc : Document) (debt number : ℕ) (key : Key) (round place : ℕ) → stop_at (paragraph_count doc) debt ≡ Stop.Form round place → place_of number (set_in doc round) < place
    → has_key doc number key ≡ true → is_in_use doc debt number key ≡ true
in_use_form doc debt number key round place at before has = in_use_at doc debt number key (Stop.Form round place) at ∙ and_from _ _ (lt-ltb (place_of number (set_in doc round)) place before) has

pub in_use_place : (doc : Document) (debt number : ℕ) (key : Key) (round place : ℕ) → stop_at (paragraph_count doc) debt ≡ Stop.Place round place → place_of number (set_in doc round) < place + 1
    → has_key doc number key ≡ true → is_in_use doc debt number key ≡ true
in_use_place doc debt number key round place at before has = in_use_at doc debt number key (Stop.Place round place) at ∙ and_from _ _ (lt-ltb (place_of number (set_in doc round)) (place + 1) before) has

-- the paragraph is the one at the present form stop, and the key is its own
pub record IsPlaced (doc : Document) (debt number : ℕ) (key : Key) : Type 0 where
  pub round : ℕ
  pub place : ℕ
  pub set : SetPar
  pub at : stop_at (paragraph_count doc) debt ≡ Stop.Form round place
  pub is : set_at doc round place ≡ Some set
  pub par : set.par ≡ number
  pub same : set.key ≡ key

pub is_placed : (doc : Document) (debt number : ℕ) (key : Key) (round place : ℕ) → stop_at (paragraph_count doc) debt ≡ Stop.Form round place → place_of number (set_in doc round) ≡ place
    → has_key doc number key ≡ true → IsPlaced doc debt number key
is_placed doc debt number key round place at here has =
    let is = set_of doc number key has in
    record {
      round = round;
      place = place;
      set = is.set;
      at = at;
      is = subst (λ (place : ℕ). set_at doc round place ≡ Some is.set) here (placed number (set_in doc round) is.set is.found);
      par = found_par number (set_in doc round) is.set is.found;
      same = is.same;
    }
