-- The pages, when all idle work is done.
use Rattle.std.proofs.Common.{◌≡◌, ℕ, ◌+◌, ◌≤◌, ◌<◌, Bool, true, false, List, [], ◌∷◌, ◌++◌, length, take, get_or, refl, ap, sym, ◌∙◌, subst, arith, Option, Some}
use Rattle.std.specs.Prelude.{slice_get}
use Rattle.std.specs.List.{flat_map}
use Rattle.std.proofs.lemmas.List.{take_more, take_all, append-nil}
use Rattle.std.proofs.lemmas.List.Folds.{flat_map-map}
use Rattle.std.proofs.lemmas.Grind.{flat_map-append}
use Rattle.std.proofs.lemmas.Option.{slice_get_within, get_or_from_slice_get}
use Rattle.doc_model.specs.declared.document.Document.{Document}
use Rattle.doc_model.specs.declared.page.Page.{Page}
use Rattle.doc_model.specs.declared.paragraph.Par.{Par}
use Rattle.doc_model.specs.Plain.{IsPlain}
use Rattle.doc_model.specs.Reading.{paragraphs}
use Rattle.line_model.specs.declared.key.Key.{Key}
use Rattle.line_model.specs.Keys.{key_of}
use Rattle.round_model.specs.Rounds.{SetPar, set_in, rows_of, pages_in, last_round}
use Rattle.round_model.specs.Idle.{Idle, Live, keeps}
use Rattle.round_model.specs.Reached.{IsReached}
use Rattle.round_model.specs.Stops.{stop_at, paragraph_count}
use Rattle.idle_queue.specs.StopOf.{places_passed}
use Rattle.idle_queue.proofs.PlainPlaces.{set_of, there}
use Rattle.idle_queue.proofs.Turns.{live_numbers, live_at-place, in_use-from}

-- where nothing is left to do, the lines of each paragraph are kept
pub settled_keeps : (doc : Document) (idle : Idle) → IsPlain doc → IsReached doc idle → idle.debt ≡ 0 → (place : ℕ) (par : Par) (live : Live) (key : Key) → slice_get (paragraphs doc) place ≡ Some par
    → slice_get idle.live place ≡ Some live → key ≡ key_of par → keeps live key ≡ true
settled_keeps doc idle plain reached none place par live key at here of_par =
    let passed : place < places_passed (paragraph_count doc) (stop_at (paragraph_count doc) idle.debt) =
    subst (λ (debt : ℕ). place < places_passed (paragraph_count doc) (stop_at (paragraph_count doc) debt)) (sym none) (slice_get_within (paragraphs doc) place par at) in
    reached.used (place + 1) key live (in_use-from doc plain idle.debt (place + 1) place par key refl at passed (sym of_par))
    (live_at-place (place + 1) place (paragraph_count doc) idle.live (live_numbers doc idle plain reached) refl ∙ here)

-- the rows of paragraphs
abbrev pub rows_up_to : Document → ℕ → List (List ℕ)
rows_up_to doc place = flat_map (λ par. rows_of (key_of par)) (take place (paragraphs doc))

pub rows_more : (doc : Document) (place : ℕ) (old new : List (List ℕ)) → place < paragraph_count doc → old ≡ rows_up_to doc place
    → ((par : Par) → slice_get (paragraphs doc) place ≡ Some par → new ≡ old ++ rows_of (key_of par)) → new ≡ rows_up_to doc (place + 1)
rows_more doc place old new within e more =
    let here = there (paragraphs doc) place within in
    let of_par : Par → List (List ℕ) = λ par. rows_of (key_of par) in
    more here.0 here.1
    ∙ ap (λ (front : List (List ℕ)). front ++ of_par here.0) e
    ∙ ap (λ (last : List (List ℕ)). rows_up_to doc place ++ last) (sym (append-nil (of_par here.0)))
    ∙ sym (flat_map-append of_par (take place (paragraphs doc)) (here.0 ∷ []))
    ∙ ap (λ (par : Par). flat_map of_par (take place (paragraphs doc) ++ par ∷ [])) (sym (get_or_from_slice_get (paragraphs doc) place here.0 here.0 here.1))
    ∙ ap (λ (pars : List Par). flat_map of_par pars) (sym (take_more (paragraphs doc) place here.0 within))

pub rows_whole : (doc : Document) (place : ℕ) (rows : List (List ℕ)) → place ≡ paragraph_count doc → rows ≡ rows_up_to doc place
    → ◌≡◌ {A = List Page} (record { index = 1; number = 1; rows = rows } ∷ []) (pages_in doc (last_round doc))
rows_whole doc place rows all e =
    ap (λ (rs : List (List ℕ)). record { index = 1; number = 1; rows = rs } ∷ [])
    (e ∙ ap (λ (pars : List Par). flat_map (λ (par : Par). rows_of (key_of par)) pars) (take_all place (paragraphs doc) (omega (arith, all)))
    ∙ sym (flat_map-map (λ (set : SetPar). rows_of set.key) set_of (paragraphs doc)))
