-- The idle work of a document that is opened, or that a change made.
use Rattle.std.proofs.Common.{◌≡◌, ℕ, ◌+◌, ◌≤◌, List, [], ◌∷◌, ◌++◌, length, refl, ap, sym, ◌∙◌, arith, zero, suc}
use Rattle.std.specs.Prelude.{map}
use Rattle.std.specs.List.{AllByRecursion as Each}
use Rattle.doc_model.specs.declared.document.Document.{Document}
use Rattle.doc_model.specs.declared.paragraph.Par.{Par}
use Rattle.doc_model.specs.Plain.{IsPlain}
use Rattle.doc_model.specs.Reading.{paragraphs, number_of, upwards}
use Rattle.line_model.specs.declared.key.Key.{Key}
use Rattle.round_model.specs.Idle.{Idle, Live, idle_at, most_keys}
use Rattle.round_model.specs.Reached.{IsReached}
use Rattle.round_model.specs.Stops.{stop_at, full_debt, paragraph_count}
use Rattle.round_model.proofs.StopLemmas.{StopCase, at_settled, at_finish, at_gather, at_form, at_place, stop_case}
use Rattle.idle_queue.specs.StopOf.{places_passed}
use Rattle.idle_queue.proofs.PlainPlaces.{numbers_of, map-of-map, some_paragraphs}
use Rattle.idle_queue.proofs.Uses.{Used, used-found}

-- a live paragraph of which no lines are kept
abbrev pub fresh : ℕ → ℕ → Live
fresh version number = record { par = number; revision = version; keys = [] }

upwards_more : (first count : ℕ) → upwards first (count + 1) ≡ upwards first count ++ (first + count) ∷ []
upwards_more first count = rw_suc (count + 1) (omega arith) ∙ more first count where
  rw_suc : (n : ℕ) → n ≡ suc count → upwards first n ≡ upwards first (suc count)
  rw_suc n e = ap (λ (m : ℕ). upwards first m) e

  more : (first count : ℕ) → upwards first (suc count) ≡ upwards first count ++ (first + count) ∷ []
  more first zero = let same : first ≡ first + 0 = omega arith in ap (λ (n : ℕ). n ∷ []) same
  more first (suc count) =
      let same : first + 1 + count ≡ first + suc count = omega arith in
      ap (λ (ns : List ℕ). first ∷ ns) (more (first + 1) count ∙ ap (λ (n : ℕ). upwards (first + 1) count ++ n ∷ []) same)

map_push : {X Y : Type 0} (f : X → Y) (xs : List X) (x : X) → map f (xs ++ x ∷ []) ≡ map f xs ++ f x ∷ []
map_push f [] x = refl
map_push {Y = Y} f (y ∷ xs) x = ap (λ (ys : List Y). f y ∷ ys) (map_push f xs x)

-- one more live paragraph
pub fresh_more : (version count : ℕ) (live more : List Live) → live ≡ map (fresh version) (upwards 1 count) → more ≡ live ++ fresh version (count + 1) ∷ []
    → more ≡ map (fresh version) (upwards 1 (count + 1))
fresh_more version count live more e is =
    let next : count + 1 ≡ 1 + count = omega arith in
    is ∙ ap (λ (front : List Live). front ++ fresh version (count + 1) ∷ []) e
    ∙ ap (λ (n : ℕ). map (fresh version) (upwards 1 count) ++ fresh version n ∷ []) next
    ∙ sym (map_push (fresh version) (upwards 1 count) (1 + count))
    ∙ ap (λ (ns : List ℕ). map (fresh version) ns) (sym (upwards_more 1 count))

-- the live paragraphs of a document that is opened
pub fresh_live : (doc : Document) → IsPlain doc → (version count : ℕ) → count ≡ paragraph_count doc → map (fresh version) (upwards 1 count) ≡ map (λ par. fresh version (number_of par)) (paragraphs doc)
fresh_live doc plain version count e =
    ap (λ (n : ℕ). map (fresh version) (upwards 1 n)) e
    ∙ ap (λ (ns : List ℕ). map (fresh version) ns) (sym (numbers_of doc plain))
    ∙ map-of-map (fresh version) number_of (paragraphs doc)

-- where all idle work is to do, and few lines are kept, the state is reached
pub reached_full : (doc : Document) (idle : Idle) → IsPlain doc → map (λ live. live.par) idle.live ≡ map number_of (paragraphs doc) → idle.debt ≡ full_debt (paragraph_count doc)
    → Each (λ live. length live.keys ≤ most_keys) idle.live → IsReached doc idle
reached_full doc idle plain live full few = record {
  live = live;
  owed = omega (arith, full);
  few = few;
  used = λ number key live is_used here. absurd (unused number key (used-found doc plain idle.debt number key is_used));
} where
  nothing : (count : ℕ) → 1 ≤ count → idle.debt ≡ full_debt count → StopCase count idle.debt → places_passed count (stop_at count idle.debt) ≡ 0
  nothing count some full (at_settled none at) = absurd (omega arith)
  nothing count some full (at_finish one at) = absurd (omega arith)
  nothing count some full (at_gather many at) = ap (λ (s : Rattle.round_model.specs.Stops.Stop). places_passed count s) at
  nothing count some full (at_form more few even at) = absurd (omega arith)
  nothing count some full (at_place more few odd at) = absurd (omega arith)

  unused : (number : ℕ) (key : Key) → Used doc idle.debt number key → ⊥
  unused number key u =
      absurd (omega (arith, u.passed, nothing (paragraph_count doc) (some_paragraphs doc plain) full (stop_case (paragraph_count doc) idle.debt)))

Each-fresh : (version : ℕ) (pars : List Par) → Each (λ (live : Live). length live.keys ≤ most_keys) (map (λ par. fresh version (number_of par)) pars)
Each-fresh version [] = tt
Each-fresh version (par ∷ pars) = (omega arith, Each-fresh version pars)

pub reached_start : (doc : Document) (version : ℕ) → IsPlain doc → IsReached doc (idle_at doc version)
reached_start doc version plain =
    reached_full doc (idle_at doc version) plain (map-of-map (λ (live : Live). live.par) (λ (par : Par). fresh version (number_of par)) (paragraphs doc)) refl (Each-fresh version (paragraphs doc))
