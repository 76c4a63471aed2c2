-- What takes come to, and that what holds in reached states stays.
use Rattle.std.proofs.Common.{◌≡◌, ℕ, ◌+◌, ◌≤◌, ◌<◌, ◌⊎◌, Bool, true, false, List, [], ◌∷◌, length, set, get_or, refl, ap, sym, ◌∙◌, subst, arith, zero, suc, Option, Some, None, inl, inr}
use Rattle.std.specs.Prelude.{map, slice_get, ◌==◌, ◌&&◌, if◌then◌else◌}
use Rattle.std.specs.Option.{option_map}
use Rattle.std.proofs.lemmas.Bool.{lt-ltb, cases_lt}
use Rattle.std.proofs.lemmas.Bool.Decides.{eqb_tells}
use Rattle.std.proofs.lemmas.Option.{slice_get_read, none-some}
use Rattle.doc_model.specs.declared.document.Document.{Document}
use Rattle.doc_model.specs.declared.paragraph.Par.{Par, out-Par}
use Rattle.doc_model.specs.Plain.{IsPlain}
use Rattle.doc_model.specs.Reading.{paragraphs, number_of, upwards}
use Rattle.line_model.specs.declared.key.Key.{Key}
use Rattle.line_model.specs.declared.job.Job.{Job}
use Rattle.line_model.specs.declared.job.Stamp.{Stamp}
use Rattle.round_model.specs.declared.turn.Taken.{Taken}
use Rattle.round_model.specs.declared.turn.Taken.TheVariants as took
use Rattle.line_model.specs.Keys.{key_of, is_same_key}
use Rattle.round_model.specs.Rounds.{SetPar}
use Rattle.round_model.specs.Idle.{Idle, Live, take, job_at, live_at, keeps, stamp_of, is_in_use}
use Rattle.round_model.specs.Reached.{IsReached}
use Rattle.round_model.specs.Stops.{Stop, stop_at, debt_behind, paragraph_count}
use Rattle.line_model.proofs.KeyLemmas.{is_same_key-refl}
use Rattle.round_model.proofs.StopLemmas.{StopCase, at_settled, at_finish, at_gather, at_form, at_place, stop_case, debt_behind-at, debt_behind-lt}
use Rattle.idle_queue.specs.declared.stop.Stop as code
use Rattle.idle_queue.specs.declared.stop.Stop.TheVariants as code_stop
use Rattle.idle_queue.specs.StopOf.{stop_of, places_passed}
use Rattle.idle_queue.proofs.Passed.{passed_after, passed_behind}
use Rattle.idle_queue.proofs.PlainPlaces.{found-at, set_of, set_at-place, numbers_of, number_at, some_paragraphs}
use Rattle.idle_queue.proofs.Uses.{Used, used-found, in_use-place}

neq-eqb : (a b : ℕ) → (a ≡ b → ⊥) → (a == b) ≡ false
neq-eqb a b apart = elim (eqb_tells a b) [ inl e ↦ absurd (apart e.1) | inr e ↦ e.0 ]

-- the live paragraphs of a reached state are numbered from 1
pub live_numbers : (doc : Document) (idle : Idle) → IsPlain doc → IsReached doc idle → map (λ live. live.par) idle.live ≡ upwards 1 (paragraph_count doc)
live_numbers doc idle plain reached = reached.live ∙ numbers_of doc plain

pub length-upwards : (first count : ℕ) → length (upwards first count) ≡ count
length-upwards first zero = refl
length-upwards first (suc count) = ap suc (length-upwards (first + 1) count)

pub length-of-map : {X Y : Type 0} (f : X → Y) (xs : List X) → length (map f xs) ≡ length xs
length-of-map f [] = refl
length-of-map f (x ∷ xs) = ap suc (length-of-map f xs)

pub live_count : (doc : Document) (idle : Idle) → IsPlain doc → IsReached doc idle → length idle.live ≡ paragraph_count doc
live_count doc idle plain reached =
    sym (length-of-map (λ (live : Live). live.par) idle.live) ∙ ap (length {A = ℕ}) (live_numbers doc idle plain reached) ∙ length-upwards 1 (paragraph_count doc)

-- the live paragraph of a number is the one at its place
pub live_at-place : (number place count : ℕ) (live : List Live) → map (λ l. l.par) live ≡ upwards 1 count → number ≡ place + 1 → live_at number live ≡ slice_get live place
live_at-place number place count live numbers e = found-at (λ (l : Live). l.par) number 1 place count live numbers (omega arith)

-- ---- jobs

abbrev job_of_live : Idle → SetPar → Option Live → Option Job
job_of_live idle set None = None
job_of_live idle set (Some live) = if keeps live set.key then None else Some (record { par = record { 0 = set.par }; stamp = stamp_of idle live; key = set.key })

abbrev job_of_set : Idle → Option SetPar → Option Job
job_of_set idle None = None
job_of_set idle (Some set) = job_of_live idle set (live_at set.par idle.live)

-- the job at a place
pub job_at-live : (doc : Document) (idle : Idle) → IsPlain doc → IsReached doc idle → (round place : ℕ) (par : Par) (live : Live) → slice_get (paragraphs doc) place ≡ Some par
    → slice_get idle.live place ≡ Some live
    → job_at doc idle round place ≡ (if keeps live (key_of par) then None else Some (record { par = record { 0 = number_of par }; stamp = stamp_of idle live; key = key_of par }))
job_at-live doc idle plain reached round place par live at here =
    ap (λ (found : Option SetPar). job_of_set idle found) (set_at-place doc round place ∙ ap (option_map set_of) at)
    ∙ ap (λ (found : Option Live). job_of_live idle (set_of par) found)
    (live_at-place (number_of par) place (paragraph_count doc) idle.live (live_numbers doc idle plain reached) (number_at doc plain place par at) ∙ here)

-- ---- takes

-- a stop is passed
abbrev pub passed : Document → Idle → Taken × Idle
passed doc old = (took.Moved (debt_behind doc old.debt), record old { debt = debt_behind doc old.debt })

abbrev pub take_job : Document → Idle → Option Job → Taken × Idle
take_job doc old None = passed doc old
take_job doc old (Some job) = (took.Job job, old)

abbrev pub take_at : Document → Idle → Stop → Taken × Idle
take_at doc old Stop.Settled = (took.Settled, old)
take_at doc old (Stop.Form round place) = take_job doc old (job_at doc old round place)
take_at doc old _ = passed doc old

pub take-at : (doc : Document) (old : Idle) (stop : Stop) → stop_at (paragraph_count doc) old.debt ≡ stop → take doc old ≡ take_at doc old stop
take-at doc old stop at = ap (λ (s : Stop). take_at doc old s) at

pub take-form : (doc : Document) (old : Idle) (round place : ℕ) (job : Option Job) → stop_at (paragraph_count doc) old.debt ≡ Stop.Form round place → job ≡ job_at doc old round place
    → take_job doc old job ≡ take doc old
take-form doc old round place job at is = ap (λ (j : Option Job). take_job doc old j) is ∙ sym (take-at doc old (Stop.Form round place) at)

-- ---- reached states

pub debt_behind-le : (doc : Document) (debt : ℕ) → debt_behind doc debt ≤ debt
debt_behind-le doc debt = by (cases_lt 0 debt) (stop_case (paragraph_count doc) debt) where
  by : (0 < debt) ⊎ (debt ≤ 0) → StopCase (paragraph_count doc) debt → debt_behind doc debt ≤ debt
  by (inl some) case = omega (arith, debt_behind-lt doc debt (omega arith))
  by (inr none) (at_settled none' at) = omega (arith, debt_behind-at doc debt Stop.Settled at)
  by (inr none) (at_finish one at) = absurd (omega arith)
  by (inr none) (at_gather many at) = absurd (omega arith)
  by (inr none) (at_form more few even at) = absurd (omega arith)
  by (inr none) (at_place more few odd at) = absurd (omega arith)

-- a key is in use where the form stop of its paragraph is passed
pub in_use-from : (doc : Document) → IsPlain doc → (debt number place : ℕ) (par : Par) (key : Key) → number ≡ place + 1 → slice_get (paragraphs doc) place ≡ Some par
    → place < places_passed (paragraph_count doc) (stop_at (paragraph_count doc) debt) → key_of par ≡ key → is_in_use doc debt number key ≡ true
in_use-from doc plain debt number place par key e at passed same =
    in_use-place doc plain debt number place par key e at
    ∙ ap (λ (b : Bool). b && is_same_key (key_of par) key) (lt-ltb place (places_passed (paragraph_count doc) (stop_at (paragraph_count doc) debt)) passed)
    ∙ ap (λ (k : Key). is_same_key (key_of par) k) (sym same) ∙ is_same_key-refl (key_of par)

-- a stop is passed where the key of the form stop, if it is one, is kept
pub reached_behind : (doc : Document) (idle : Idle) → IsPlain doc → IsReached doc idle
    → ((round place : ℕ) → stop_at (paragraph_count doc) idle.debt ≡ Stop.Form round place → (par : Par) (live : Live) → slice_get (paragraphs doc) place ≡ Some par
    → slice_get idle.live place ≡ Some live → keeps live (key_of par) ≡ true)
    → IsReached doc (record idle { debt = debt_behind doc idle.debt })
reached_behind doc idle plain reached formed = record {
  live = reached.live;
  owed = omega (arith, debt_behind-le doc idle.debt, reached.owed);
  few = reached.few;
  used = λ number key live is_used here. of_used number key live here (used-found doc plain (debt_behind doc idle.debt) number key is_used);
} where
  of_used : (number : ℕ) (key : Key) (live : Live) → live_at number idle.live ≡ Some live → Used doc (debt_behind doc idle.debt) number key → keeps live key ≡ true
  of_used number key live here u =
      of_stop (stop_at (paragraph_count doc) idle.debt) refl (omega (arith, u.passed, passed_behind doc idle.debt (some_paragraphs doc plain))) where
        before : u.place < places_passed (paragraph_count doc) (stop_at (paragraph_count doc) idle.debt) → keeps live key ≡ true
        before less = reached.used number key live (in_use-from doc plain idle.debt number u.place u.par key u.numbered u.at less u.same) here

        at_form_stop : (round place : ℕ) → stop_at (paragraph_count doc) idle.debt ≡ Stop.Form round place → (u.place < place) ⊎ (place ≤ u.place) → u.place < place + 1 → keeps live key ≡ true
        at_form_stop round place is (inl less) most = before (subst (λ (s : Stop). u.place < places_passed (paragraph_count doc) s) (sym is) less)
        at_form_stop round place is (inr more) most =
            let same : u.place ≡ place = omega arith in
            ap (λ (k : Key). keeps live k) (sym u.same)
            ∙ formed round u.place (is ∙ ap (λ (n : ℕ). Stop.Form round n) (sym same)) u.par live u.at
            (sym (live_at-place number u.place (paragraph_count doc) idle.live (live_numbers doc idle plain reached) u.numbered) ∙ here)

        of_stop : (stop : Stop) → stop_at (paragraph_count doc) idle.debt ≡ stop → u.place < passed_after (paragraph_count doc) stop → keeps live key ≡ true
        of_stop (Stop.Gather place) is most = absurd (omega arith)
        of_stop (Stop.Form round place) is most = at_form_stop round place is (cases_lt u.place place) most
        of_stop (Stop.Place round place) is most = before (subst (λ (s : Stop). u.place < places_passed (paragraph_count doc) s) (sym is) most)
        of_stop Stop.Finish is most = before (subst (λ (s : Stop). u.place < places_passed (paragraph_count doc) s) (sym is) most)
        of_stop Stop.Settled is most = before (subst (λ (s : Stop). u.place < places_passed (paragraph_count doc) s) (sym is) most)

-- ---- what the code reads and answers

pub read_live : (doc : Document) (idle : Idle) → IsPlain doc → IsReached doc idle → (place : ℕ) (items : List Live) (live : Live) → items ≡ idle.live → place < paragraph_count doc
    → live ≡ get_or items place live → slice_get idle.live place ≡ Some live
read_live doc idle plain reached place items live same within is =
    ap (λ (ls : List Live). slice_get ls place) (sym same)
    ∙ slice_get_read items (paragraph_count doc) place live (sym (ap (length {A = Live}) same ∙ live_count doc idle plain reached)) within is

pub job_kept : (doc : Document) (idle : Idle) → IsPlain doc → IsReached doc idle → (round place : ℕ) (par : Par) (live : Live) (key : Key) (kept : Bool) → slice_get (paragraphs doc) place ≡ Some par
    → slice_get idle.live place ≡ Some live → key ≡ key_of par → kept ≡ keeps live key → kept ≡ true → None ≡ job_at doc idle round place
job_kept doc idle plain reached round place par live key kept at here of_par is kept_is =
    sym (job_at-live doc idle plain reached round place par live at here
    ∙ ap (λ (b : Bool). if b then None else Some (record { par = record { 0 = number_of par }; stamp = stamp_of idle live; key = key_of par }))
    (ap (λ (k : Key). keeps live k) (sym of_par) ∙ sym is ∙ kept_is))

pub job_wanted : (doc : Document) (idle : Idle) → IsPlain doc → IsReached doc idle → (round place : ℕ) (par : Par) (live : Live) (key : Key) (kept : Bool) (stamp : Stamp)
    → slice_get (paragraphs doc) place ≡ Some par → slice_get idle.live place ≡ Some live → key ≡ key_of par → kept ≡ keeps live key → kept ≡ false → stamp ≡ stamp_of idle live
    → Some (record { par = (out-Par par).id; stamp = stamp; key = key }) ≡ job_at doc idle round place
job_wanted doc idle plain reached round place par live key kept stamp at here of_par is kept_is same_stamp =
    ap (λ (s : Stamp). Some (record { par = (out-Par par).id; stamp = s; key = key })) same_stamp
    ∙ ap (λ (k : Key). Some (record { par = (out-Par par).id; stamp = stamp_of idle live; key = k })) of_par
    ∙ sym (job_at-live doc idle plain reached round place par live at here
    ∙ ap (λ (b : Bool). if b then None else Some (record { par = record { 0 = number_of par }; stamp = stamp_of idle live; key = key_of par }))
    (ap (λ (k : Key). keeps live k) (sym of_par) ∙ sym is ∙ kept_is))

pub reached_formed : (doc : Document) (old : Idle) → IsPlain doc → IsReached doc old → (round place : ℕ) → stop_at (paragraph_count doc) old.debt ≡ Stop.Form round place
    → None ≡ job_at doc old round place → IsReached doc (passed doc old).1
reached_formed doc old plain reached round place is none = reached_behind doc old plain reached formed where
  kept : (b : Bool) (job : Job) → None ≡ (if b then None else Some job) → b ≡ true
  kept true job e = refl
  kept false job e = absurd (none-some job e)

  formed : (round' place' : ℕ) → stop_at (paragraph_count doc) old.debt ≡ Stop.Form round' place' → (par : Par) (live : Live) → slice_get (paragraphs doc) place' ≡ Some par
      → slice_get old.live place' ≡ Some live → keeps live (key_of par) ≡ true
  formed round' place' is' par live at here =
      let both : Stop.Form round place ≡ Stop.Form round' place' = sym is ∙ is' in
      let same : place ≡ place' = cc both in
      kept (keeps live (key_of par)) (record { par = record { 0 = number_of par }; stamp = stamp_of old live; key = key_of par })
      (none ∙ ap (λ (n : ℕ). job_at doc old round n) same ∙ job_at-live doc old plain reached round place' par live at here)

pub take-passes : (doc : Document) (old new : Idle) (taken : Taken) → taken ≡ took.Moved (debt_behind doc old.debt) → new ≡ record old { debt = debt_behind doc old.debt } → (taken, new) ≡ passed doc old
take-passes doc old new taken e same =
    ap (λ (t : Taken). (t, new)) e ∙ ap (λ (idle : Idle). (took.Moved (debt_behind doc old.debt), idle)) same

-- a stop that is neither the last one nor a form stop is passed
pub take-other : (doc : Document) (old : Idle) (stop : code.Stop) → stop_of stop ≡ stop_at (paragraph_count doc) old.debt → (stop ≡ code_stop.Settled → ⊥)
    → ((round place : ℕ) → stop ≡ code_stop.Form round place → ⊥) → passed doc old ≡ take doc old
take-other doc old (code_stop.Gather place) at unsettled unformed = ap (λ (s : Stop). take_at doc old s) at
take-other doc old (code_stop.Form round place) at unsettled unformed = absurd (unformed round place refl)
take-other doc old (code_stop.Place round place) at unsettled unformed = ap (λ (s : Stop). take_at doc old s) at
take-other doc old code_stop.Finish at unsettled unformed = ap (λ (s : Stop). take_at doc old s) at
take-other doc old code_stop.Settled at unsettled unformed = absurd (unsettled refl)

pub reached_other : (doc : Document) (old : Idle) → IsPlain doc → IsReached doc old → (stop : code.Stop) → stop_of stop ≡ stop_at (paragraph_count doc) old.debt
    → ((round place : ℕ) → stop ≡ code_stop.Form round place → ⊥) → IsReached doc (passed doc old).1
reached_other doc old plain reached stop at unformed =
    reached_behind doc old plain reached (λ round place is par live par_here live_here. absurd (no_form stop unformed round place (at ∙ is))) where
      no_form : (stop : code.Stop) → ((round place : ℕ) → stop ≡ code_stop.Form round place → ⊥) → (round place : ℕ) → stop_of stop ≡ Stop.Form round place → ⊥
      no_form (code_stop.Gather place') unformed round place e = cc
      no_form (code_stop.Form round' place') unformed round place e = unformed round' place' refl
      no_form (code_stop.Place round' place') unformed round place e = cc
      no_form code_stop.Finish unformed round place e = cc
      no_form code_stop.Settled unformed round place e = cc
