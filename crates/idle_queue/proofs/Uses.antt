-- Which keys are in use, by the places of paragraphs.
use Rattle.std.proofs.Common.{◌≡◌, ℕ, ◌+◌, ◌<◌, Bool, true, false, cond, List, [], ◌∷◌, length, refl, ap, sym, ◌∙◌, arith, zero, suc, Option, Some, None, inl, inr}
use Rattle.std.specs.Prelude.{map, slice_get, find, ◌==◌, ◌&&◌, nat_lt}
use Rattle.std.specs.Option.{option_map, option_map_or}
use Rattle.std.proofs.lemmas.Bool.{eq-eqb, lt-ltb, le-ltb, ltb-true}
use Rattle.std.proofs.lemmas.Bool.Decides.{eqb_tells}
use Rattle.std.proofs.lemmas.Option.{slice_get-map, slice_get_within}
use Rattle.doc_model.specs.declared.document.Document.{Document}
use Rattle.doc_model.specs.declared.paragraph.Par.{Par}
use Rattle.doc_model.specs.Plain.{IsPlain}
use Rattle.doc_model.specs.Reading.{paragraphs, upwards}
use Rattle.line_model.specs.declared.key.Key.{Key}
use Rattle.line_model.specs.Keys.{key_of, is_same_key}
use Rattle.round_model.specs.Rounds.{SetPar, set_in}
use Rattle.round_model.specs.Idle.{is_in_use, place_of}
use Rattle.round_model.specs.Stops.{Stop, stop_at, paragraph_count}
use Rattle.line_model.proofs.KeyLemmas.{is_same_key-true}
use Rattle.idle_queue.specs.StopOf.{places_passed}
use Rattle.idle_queue.proofs.PlainPlaces.{found-at, found-below, set_of, set_numbers}

neq-eqb : (a b : ℕ) → (a ≡ b → ⊥) → (a == b) ≡ false
neq-eqb a b apart = elim (eqb_tells a b) [ inl e ↦ absurd (apart e.1) | inr e ↦ e.0 ]

-- whether the key is that of the paragraph of this number
abbrev pub has_key : Document → ℕ → Key → Bool
has_key doc number key = option_map_or (λ set. is_same_key set.key key) (find (λ set. set.par == number) (set_in doc 0)) false

-- whether a key is in use at a stop
abbrev pub use_at : Document → ℕ → Key → Stop → Bool
use_at doc number key (Stop.Gather place) = false
use_at doc number key (Stop.Form round place) = nat_lt (place_of number (set_in doc 0)) place && has_key doc number key
use_at doc number key (Stop.Place round place) = nat_lt (place_of number (set_in doc 0)) (place + 1) && has_key doc number key
use_at doc number key _ = has_key doc number key

use-is : (doc : Document) (debt number : ℕ) (key : Key) → is_in_use doc debt number key ≡ use_at doc number key (stop_at (paragraph_count doc) debt)
use-is doc debt number key = refl

place_of-number : (number first place count : ℕ) (sets : List SetPar) → map (λ set. set.par) sets ≡ upwards first count → number ≡ first + place → place < length sets → place_of number sets ≡ place
place_of-number number first place count [] numbers e within = absurd (omega arith)
place_of-number number first place zero (set ∷ sets) numbers e within = absurd (cc)
place_of-number number first zero (suc count) (set ∷ sets) numbers e within =
    let here : set.par ≡ first = cc numbers in
    ap (λ (b : Bool). cond b 0 (place_of number sets + 1)) (eq-eqb set.par number (omega arith))
place_of-number number first (suc place) (suc count) (set ∷ sets) numbers e within =
    let here : set.par ≡ first = cc numbers in
    let behind : map (λ set. set.par) sets ≡ upwards (first + 1) count = cc numbers in
    let next : place_of number sets ≡ place = place_of-number number (first + 1) place count sets behind (omega arith) (omega arith) in
    ap (λ (b : Bool). cond b 0 (place_of number sets + 1)) (neq-eqb set.par number (λ same. absurd (omega (arith, here, same)))) ∙ omega arith

set_here : (doc : Document) (place : ℕ) (par : Par) → slice_get (paragraphs doc) place ≡ Some par → slice_get (set_in doc 0) place ≡ Some (set_of par)
set_here doc place par at = slice_get-map set_of (paragraphs doc) place ∙ ap (option_map set_of) at

has_key-at : (doc : Document) → IsPlain doc → (number place : ℕ) (par : Par) (key : Key) → number ≡ place + 1 → slice_get (paragraphs doc) place ≡ Some par
    → has_key doc number key ≡ is_same_key (key_of par) key
has_key-at doc plain number place par key e at =
    ap (λ (found : Option SetPar). option_map_or (λ (set : SetPar). is_same_key set.key key) found false)
    (found-at (λ (set : SetPar). set.par) number 1 place (paragraph_count doc) (set_in doc 0) (set_numbers doc 0 plain) (omega arith) ∙ set_here doc place par at)

place-at : (doc : Document) → IsPlain doc → (number place : ℕ) (par : Par) → number ≡ place + 1 → slice_get (paragraphs doc) place ≡ Some par → place_of number (set_in doc 0) ≡ place
place-at doc plain number place par e at =
    place_of-number number 1 place (paragraph_count doc) (set_in doc 0) (set_numbers doc 0 plain) (omega arith) (slice_get_within (set_in doc 0) place (set_of par) (set_here doc place par at))

-- whether a key is in use, by the place of its paragraph
use_at-place : (doc : Document) → IsPlain doc → (number place : ℕ) (par : Par) (key : Key) (stop : Stop) → number ≡ place + 1 → slice_get (paragraphs doc) place ≡ Some par
    → use_at doc number key stop ≡ (nat_lt place (places_passed (paragraph_count doc) stop) && is_same_key (key_of par) key)
use_at-place doc plain number place par key (Stop.Gather gathered) e at = ap (λ (b : Bool). b && is_same_key (key_of par) key) (sym (le-ltb place 0 (omega arith)))
use_at-place doc plain number place par key (Stop.Form round formed) e at =
    ap (λ (n : ℕ). nat_lt n formed && has_key doc number key) (place-at doc plain number place par e at)
    ∙ ap (λ (b : Bool). nat_lt place formed && b) (has_key-at doc plain number place par key e at)
use_at-place doc plain number place par key (Stop.Place round placed) e at =
    ap (λ (n : ℕ). nat_lt n (placed + 1) && has_key doc number key) (place-at doc plain number place par e at)
    ∙ ap (λ (b : Bool). nat_lt place (placed + 1) && b) (has_key-at doc plain number place par key e at)
use_at-place doc plain number place par key Stop.Finish e at =
    has_key-at doc plain number place par key e at
    ∙ ap (λ (b : Bool). b && is_same_key (key_of par) key) (sym (lt-ltb place (paragraph_count doc) (slice_get_within (paragraphs doc) place par at)))
use_at-place doc plain number place par key Stop.Settled e at =
    has_key-at doc plain number place par key e at
    ∙ ap (λ (b : Bool). b && is_same_key (key_of par) key) (sym (lt-ltb place (paragraph_count doc) (slice_get_within (paragraphs doc) place par at)))

pub in_use-place : (doc : Document) → IsPlain doc → (debt number place : ℕ) (par : Par) (key : Key) → number ≡ place + 1 → slice_get (paragraphs doc) place ≡ Some par
    → is_in_use doc debt number key ≡ (nat_lt place (places_passed (paragraph_count doc) (stop_at (paragraph_count doc) debt)) && is_same_key (key_of par) key)
in_use-place doc plain debt number place par key e at = use_at-place doc plain number place par key (stop_at (paragraph_count doc) debt) e at

and_false : (b : Bool) → (b && false) ≡ false
and_false true = refl
and_false false = refl

-- no key of a number that no paragraph has is in use
use_at-none : (doc : Document) (number : ℕ) (key : Key) (stop : Stop) → find (λ set. set.par == number) (set_in doc 0) ≡ None → use_at doc number key stop ≡ false
use_at-none doc number key stop none = of_stop stop where
  no_key : has_key doc number key ≡ false
  no_key = ap (λ (found : Option SetPar). option_map_or (λ (set : SetPar). is_same_key set.key key) found false) none

  of_stop : (stop : Stop) → use_at doc number key stop ≡ false
  of_stop (Stop.Gather place) = refl
  of_stop (Stop.Form round place) = ap (λ (b : Bool). nat_lt (place_of number (set_in doc 0)) place && b) no_key ∙ and_false (nat_lt (place_of number (set_in doc 0)) place)
  of_stop (Stop.Place round place) = ap (λ (b : Bool). nat_lt (place_of number (set_in doc 0)) (place + 1) && b) no_key ∙ and_false (nat_lt (place_of number (set_in doc 0)) (place + 1))
  of_stop Stop.Finish = no_key
  of_stop Stop.Settled = no_key

-- a key in use is that of a paragraph whose form stop of the round is passed
pub record Used (doc : Document) (debt number : ℕ) (key : Key) : Type 0 where
  pub place : ℕ
  pub par : Par
  pub numbered : number ≡ place + 1
  pub at : slice_get (paragraphs doc) place ≡ Some par
  pub passed : place < places_passed (paragraph_count doc) (stop_at (paragraph_count doc) debt)
  pub same : key_of par ≡ key

both : (b c : Bool) → (b && c) ≡ true → (b ≡ true) × (c ≡ true)
both true c e = (refl, e)
both false c e = absurd (cc)

never : (b : Bool) → b ≡ true → b ≡ false → ⊥
never b e f = cc

pub used-found : (doc : Document) → IsPlain doc → (debt number : ℕ) (key : Key) → is_in_use doc debt number key ≡ true → Used doc debt number key
used-found doc plain debt zero key used =
    absurd (never (is_in_use doc debt 0 key) used (use_at-none doc 0 key (stop_at (paragraph_count doc) debt) (found-below (λ (set : SetPar). set.par) 0 1 (paragraph_count doc) (set_in doc 0) (set_numbers doc 0 plain) (omega arith))))
used-found doc plain debt (suc place) key used = of_par (slice_get (paragraphs doc) place) refl where
  numbered : suc place ≡ place + 1
  numbered = omega arith

  of_par : (found : Option Par) → slice_get (paragraphs doc) place ≡ found → Used doc debt (suc place) key
  of_par None at =
      let none = found-at (λ (set : SetPar). set.par) (suc place) 1 place (paragraph_count doc) (set_in doc 0) (set_numbers doc 0 plain) (omega arith)
      ∙ slice_get-map set_of (paragraphs doc) place ∙ ap (option_map set_of) at in
      absurd (never (is_in_use doc debt (suc place) key) used (use_at-none doc (suc place) key (stop_at (paragraph_count doc) debt) none))
  of_par (Some par) at =
      let parts = both (nat_lt place (places_passed (paragraph_count doc) (stop_at (paragraph_count doc) debt))) (is_same_key (key_of par) key)
      (sym (in_use-place doc plain debt (suc place) place par key numbered at) ∙ used) in
      record {
        place = place;
        par = par;
        numbered = numbered;
        at = at;
        passed = ltb-true place (places_passed (paragraph_count doc) (stop_at (paragraph_count doc) debt)) parts.0;
        same = is_same_key-true (key_of par) key parts.1;
      }
