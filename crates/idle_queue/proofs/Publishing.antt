-- What publishes come to, and that what holds in reached states stays.
use Rattle.std.proofs.Common.{◌≡◌, ◌≢◌, ℕ, ◌+◌, ◌-◌, ◌≤◌, ◌<◌, ◌⊎◌, Bool, true, false, List, [], ◌∷◌, ◌++◌, length, set, refl, ap, sym, ◌∙◌, subst, arith, zero, suc, Option, Some, None, inl, inr}
use Rattle.std.specs.Prelude.{map, slice_get, ◌==◌, ◌&&◌, nat_lt, not, if◌then◌else◌}
use Rattle.std.specs.List.{list_any}
use Rattle.std.specs.Option.{option_map, option_map_or}
use Rattle.std.proofs.lemmas.Bool.{eq-eqb, eqb-true, cases_lt}
use Rattle.std.proofs.lemmas.Bool.Decides.{eqb_tells}
use Rattle.std.proofs.lemmas.Option.{slice_get_within, same_Some, none-some}
use Rattle.doc_model.specs.declared.document.Document.{Document}
use Rattle.doc_model.specs.declared.paragraph.Par.{Par}
use Rattle.doc_model.specs.Plain.{IsPlain}
use Rattle.doc_model.specs.Reading.{paragraphs, number_of, upwards}
use Rattle.line_model.specs.declared.key.Key.{Key}
use Rattle.line_model.specs.declared.job.Job.{Job}
use Rattle.line_model.specs.declared.job.Stamp.{Stamp}
use Rattle.round_model.specs.declared.turn.Published.{Published}
use Rattle.round_model.specs.declared.turn.Published.TheVariants.{Stale, Already, Entered}
use Rattle.line_model.specs.Keys.{key_of, is_same_key}
use Rattle.round_model.specs.Rounds.{SetPar}
use Rattle.round_model.specs.Idle.{Idle, Live, publish, set_at, live_at, keeps, stamp_of, is_in_use, is_form_stop_of, with_key, with_live, most_keys, is_same_stamp}
use Rattle.round_model.specs.Reached.{IsReached}
use Rattle.round_model.specs.Stops.{Stop, stop_at, full_debt, debt_behind, paragraph_count}
use Rattle.line_model.proofs.KeyLemmas.{is_same_key-true, is_same_key-refl}
use Rattle.idle_queue.specs.StopOf.{places_passed}
use Rattle.idle_queue.specs.Current.{is_current}
use Rattle.idle_queue.specs.FormTest.{is_form_at}
use Rattle.idle_queue.specs.MayEnter.{MayEnter}
use Rattle.idle_queue.proofs.Passed.{passed_after, passed_behind}
use Rattle.idle_queue.proofs.PlainPlaces.{found-below, set_of, set_at-place, number_at, some_paragraphs}
use Rattle.idle_queue.proofs.Uses.{Used, used-found, in_use-place}
use Rattle.idle_queue.proofs.Entering.{few_with, kept_with, any_front, any_last, with_live-set, with_key-same, map-set, Each-set, Each-at, slice_get-set_same, slice_get-set_other}
use Rattle.idle_queue.proofs.Turns.{live_numbers, live_count, live_at-place, debt_behind-le, in_use-from}

neq-eqb : (a b : ℕ) → (a ≡ b → ⊥) → (a == b) ≡ false
neq-eqb a b apart = elim (eqb_tells a b) [ inl e ↦ absurd (apart e.1) | inr e ↦ e.0 ]

-- ---- publishes

-- the debt behind a publish that enters
abbrev pub debt_of : Document → Idle → Job → ℕ
debt_of doc old job = if is_form_stop_of doc (stop_at (paragraph_count doc) old.debt) job.par.0 job.key then debt_behind doc old.debt else old.debt

-- the live paragraph behind it
abbrev pub entered : Document → Idle → Job → Live → Live
entered doc old job live = record live { keys = with_key (is_in_use doc (debt_of doc old job) job.par.0) live.keys job.key }

abbrev pub publish_live : Document → Idle → Job → Option Live → Published × Idle
publish_live doc old job None = (Stale job.stamp None, old)
publish_live doc old job (Some live) =
    if not (is_same_stamp job.stamp (stamp_of old live)) then (Stale job.stamp (Some (stamp_of old live)), old)
    else if keeps live job.key then (Already, old)
    else (Entered (debt_of doc old job), record old { debt = debt_of doc old job; live = with_live job.par.0 (entered doc old job) old.live })

pub publish-at : (doc : Document) (old : Idle) (job : Job) (found : Option Live) → live_at job.par.0 old.live ≡ found → publish doc old job ≡ publish_live doc old job found
publish-at doc old job found at = ap (λ (l : Option Live). publish_live doc old job l) at

-- a form stop by its place
pub form_stop-place : (doc : Document) → IsPlain doc → (number place : ℕ) (par : Par) (key : Key) (stop : Stop) → number ≡ place + 1 → slice_get (paragraphs doc) place ≡ Some par
    → is_form_stop_of doc stop number key ≡ is_form_at place (is_same_key (key_of par) key) stop
form_stop-place doc plain number place par key (Stop.Gather gathered) e at = refl
form_stop-place doc plain number place par key (Stop.Place round placed) e at = refl
form_stop-place doc plain number place par key Stop.Finish e at = refl
form_stop-place doc plain number place par key Stop.Settled e at = refl
form_stop-place doc plain number place par key (Stop.Form round formed) e at = by (eqb_tells formed place) (slice_get (paragraphs doc) formed) refl where
  test : Option SetPar → Bool
  test found = option_map_or (λ (set : SetPar). set.par == number && is_same_key set.key key) found false

  found : (here : Option Par) → slice_get (paragraphs doc) formed ≡ here → test (set_at doc round formed) ≡ test (option_map set_of here)
  found here is = ap test (set_at-place doc round formed ∙ ap (option_map set_of) is)

  by : ((formed == place) ≡ true) × (formed ≡ place) ⊎ ((formed == place) ≡ false) × (formed ≢ place) → (here : Option Par) → slice_get (paragraphs doc) formed ≡ here
      → is_form_stop_of doc (Stop.Form round formed) number key ≡ ((formed == place) && is_same_key (key_of par) key)
  by (inl same) here is =
      let there : slice_get (paragraphs doc) formed ≡ Some par = ap (λ (n : ℕ). slice_get (paragraphs doc) n) same.1 ∙ at in
      found (Some par) there
      ∙ ap (λ (b : Bool). b && is_same_key (key_of par) key) (eq-eqb (number_of par) number (number_at doc plain place par at ∙ sym e) ∙ sym same.0)
  by (inr apart) None is = found None is ∙ ap (λ (b : Bool). b && is_same_key (key_of par) key) (sym apart.0)
  by (inr apart) (Some other) is =
      found (Some other) is
      ∙ ap (λ (b : Bool). b && is_same_key (key_of other) key) (neq-eqb (number_of other) number (λ same. absurd (apart.1 (omega (arith, number_at doc plain formed other is, same, e)))))
      ∙ ap (λ (b : Bool). b && is_same_key (key_of par) key) (sym apart.0)

-- lines enter, and what holds in reached states stays
pub reached_entered : (doc : Document) (old : Idle) → IsPlain doc → IsReached doc old → (number place debt : ℕ) (par : Par) (live : Live) (key : Key) → number ≡ place + 1
    → slice_get (paragraphs doc) place ≡ Some par → slice_get old.live place ≡ Some live → keeps live key ≡ false → debt ≤ full_debt (paragraph_count doc)
    → ((at : ℕ) → at < places_passed (paragraph_count doc) (stop_at (paragraph_count doc) debt)
    → (at < places_passed (paragraph_count doc) (stop_at (paragraph_count doc) old.debt)) ⊎ ((at ≡ place) × (key_of par ≡ key)))
    → IsReached doc (record old { debt = debt; live = set old.live place (record live { keys = with_key (is_in_use doc debt number) live.keys key }) })
reached_entered doc old plain reached number place debt par live key numbered at here wanted owed bound = record {
  live = map-set (λ (l : Live). l.par) old.live place live new here refl ∙ reached.live;
  owed = owed;
  few = Each-set (λ (l : Live). length l.keys ≤ most_keys) old.live place new reached.few
      (few_with (is_in_use doc debt number) live.keys key (Each-at (λ (l : Live). length l.keys ≤ most_keys) old.live place live reached.few here) one wanted);
  used = λ number' key' live' is_used found. of_used number' key' live' is_used found (used-found doc plain debt number' key' is_used);
} where
  new : Live
  new = record live { keys = with_key (is_in_use doc debt number) live.keys key }

  -- the key in use is that of the paragraph
  same_as : (other : Key) → is_in_use doc debt number other ≡ true → key_of par ≡ other
  same_as other is_used =
      let u = used-found doc plain debt number other is_used in
      let same_place : u.place ≡ place = omega (arith, u.numbered, numbered) in
      let same_par : u.par ≡ par = same_Some u.par par (sym u.at ∙ ap (λ (n : ℕ). slice_get (paragraphs doc) n) same_place ∙ at) in
      ap (λ (p : Par). key_of p) (sym same_par) ∙ u.same

  one : (other : Key) → is_in_use doc debt number other ≡ true → is_in_use doc debt number key ≡ true → key ≡ other
  one other other_used key_used = sym (same_as key key_used) ∙ same_as other other_used

  numbers : map (λ (l : Live). l.par) (set old.live place new) ≡ upwards 1 (paragraph_count doc)
  numbers = map-set (λ (l : Live). l.par) old.live place live new here refl ∙ live_numbers doc old plain reached

  of_used : (number' : ℕ) (key' : Key) (live' : Live) → is_in_use doc debt number' key' ≡ true → live_at number' (set old.live place new) ≡ Some live' → Used doc debt number' key' → keeps live' key' ≡ true
  of_used number' key' live' is_used found u = by_place (eqb_tells u.place place) where
    at_place : slice_get (set old.live place new) u.place ≡ Some live'
    at_place = sym (live_at-place number' u.place (paragraph_count doc) (set old.live place new) numbers u.numbered) ∙ found

    in_old : u.place < places_passed (paragraph_count doc) (stop_at (paragraph_count doc) old.debt) → (l : Live) → slice_get old.live u.place ≡ Some l → keeps l key' ≡ true
    in_old less l l_here =
        reached.used number' key' l (in_use-from doc plain old.debt number' u.place u.par key' u.numbered u.at less u.same)
        (live_at-place number' u.place (paragraph_count doc) old.live (live_numbers doc old plain reached) u.numbered ∙ l_here)

    with_new : u.place ≡ place → (u.place < places_passed (paragraph_count doc) (stop_at (paragraph_count doc) old.debt)) ⊎ ((u.place ≡ place) × (key_of par ≡ key))
        → list_any (is_same_key key') (live.keys ++ key ∷ []) ≡ true
    with_new same (inl less) = any_front (is_same_key key') live.keys key (in_old less live (ap (λ (n : ℕ). slice_get old.live n) same ∙ here))
    with_new same (inr own) =
        let same_par : u.par ≡ par = same_Some u.par par (sym u.at ∙ ap (λ (n : ℕ). slice_get (paragraphs doc) n) same ∙ at) in
        let same_key : key' ≡ key = sym u.same ∙ ap (λ (p : Par). key_of p) same_par ∙ own.1 in
        any_last (is_same_key key') live.keys key (ap (λ (k : Key). is_same_key key' k) (sym same_key) ∙ is_same_key-refl key')

    by_place : ((u.place == place) ≡ true) × (u.place ≡ place) ⊎ ((u.place == place) ≡ false) × (u.place ≢ place) → keeps live' key' ≡ true
    by_place (inl same) =
        let same_number : number' ≡ number = omega (arith, u.numbered, numbered, same.1) in
        let here' : slice_get (set old.live place new) place ≡ Some live' = ap (λ (n : ℕ). slice_get (set old.live place new) n) (sym same.1) ∙ at_place in
        let is_new : live' ≡ new = same_Some live' new (sym here' ∙ slice_get-set_same old.live place new (slice_get_within old.live place live here)) in
        ap (λ (l : Live). keeps l key') is_new
        ∙ kept_with (is_in_use doc debt number) live.keys key key' (ap (λ (n : ℕ). is_in_use doc debt n key') (sym same_number) ∙ is_used) (with_new same.1 (bound u.place u.passed))
    by_place (inr apart) = of_bound (bound u.place u.passed) where
      of_bound : (u.place < places_passed (paragraph_count doc) (stop_at (paragraph_count doc) old.debt)) ⊎ ((u.place ≡ place) × (key_of par ≡ key)) → keeps live' key' ≡ true
      of_bound (inl less) = in_old less live' (sym (slice_get-set_other old.live place u.place new apart.1) ∙ at_place)
      of_bound (inr own) = absurd (apart.1 own.0)

-- where a live paragraph stands
pub record Placed (doc : Document) (old : Idle) (number : ℕ) (live : Live) : Type 0 where
  pub some : 1 ≤ number
  pub numbered : number ≡ number - 1 + 1
  pub within : number - 1 < paragraph_count doc
  pub here : slice_get old.live (number - 1) ≡ Some live

pub placed : (doc : Document) (old : Idle) → IsPlain doc → IsReached doc old → (number : ℕ) (live : Live) → live_at number old.live ≡ Some live → Placed doc old number live
placed doc old plain reached zero live found =
    absurd (none-some live (sym (found-below (λ (l : Live). l.par) 0 1 (paragraph_count doc) old.live (live_numbers doc old plain reached) (omega arith)) ∙ found))
placed doc old plain reached (suc place) live found =
    let numbered : suc place ≡ suc place - 1 + 1 = omega arith in
    let here : slice_get old.live (suc place - 1) ≡ Some live =
    sym (live_at-place (suc place) (suc place - 1) (paragraph_count doc) old.live (live_numbers doc old plain reached) numbered) ∙ found in
    record { some = omega arith; numbered = numbered; within = omega (arith, slice_get_within old.live (suc place - 1) live here, live_count doc old plain reached); here = here }

-- a publish makes the debt no greater
pub debt_if-le : (doc : Document) (debt : ℕ) (b : Bool) → (if b then debt_behind doc debt else debt) ≤ debt
debt_if-le doc debt true = debt_behind-le doc debt
debt_if-le doc debt false = omega arith

-- a test whether a key is the one in use
pub is_current-if : (b : Bool) (current key : Key) → is_current (if b then Some current else None) key ≡ (b && is_same_key current key)
is_current-if true current key = refl
is_current-if false current key = refl

-- how far a round has come behind a publish
entered_bound : (doc : Document) → IsPlain doc → (old debt place : ℕ) (key current : Key) (b : Bool) → b ≡ is_form_at place (is_same_key current key) (stop_at (paragraph_count doc) old)
    → debt ≡ (if b then debt_behind doc old else old)
    → (at : ℕ) → at < places_passed (paragraph_count doc) (stop_at (paragraph_count doc) debt)
    → (at < places_passed (paragraph_count doc) (stop_at (paragraph_count doc) old)) ⊎ ((at ≡ place) × (current ≡ key))
entered_bound doc plain old debt place key current false is e at less = inl (subst (λ (n : ℕ). at < places_passed (paragraph_count doc) (stop_at (paragraph_count doc) n)) e less)
entered_bound doc plain old debt place key current true is e at less = of_stop (stop_at (paragraph_count doc) old) refl where
  most : at < passed_after (paragraph_count doc) (stop_at (paragraph_count doc) old)
  most =
      let less' : at < places_passed (paragraph_count doc) (stop_at (paragraph_count doc) (debt_behind doc old)) =
      subst (λ (n : ℕ). at < places_passed (paragraph_count doc) (stop_at (paragraph_count doc) n)) e less in
      omega (arith, less', passed_behind doc old (some_paragraphs doc plain))

  both : (b c : Bool) → true ≡ (b && c) → (b ≡ true) × (c ≡ true)
  both true c e = (refl, sym e)
  both false c e = absurd (cc)

  no_form : true ≡ false → ⊥
  no_form e = cc

  by_place : (formed : ℕ) → true ≡ (formed == place && is_same_key current key) → (at < formed) ⊎ (formed ≤ at) → at < formed + 1 → (at < formed) ⊎ ((at ≡ place) × (current ≡ key))
  by_place formed is' (inl below) most' = inl below
  by_place formed is' (inr above) most' =
      let parts = both (formed == place) (is_same_key current key) is' in
      inr (omega (arith, eqb-true formed place parts.0), is_same_key-true current key parts.1)

  of_stop : (stop : Stop) → stop_at (paragraph_count doc) old ≡ stop → (at < places_passed (paragraph_count doc) (stop_at (paragraph_count doc) old)) ⊎ ((at ≡ place) × (current ≡ key))
  of_stop (Stop.Gather gathered) at_stop = absurd (no_form (is ∙ ap (λ (s : Stop). is_form_at place (is_same_key current key) s) at_stop))
  of_stop (Stop.Form round formed) at_stop =
      subst (λ (s : Stop). (at < places_passed (paragraph_count doc) s) ⊎ ((at ≡ place) × (current ≡ key))) (sym at_stop)
      (by_place formed (is ∙ ap (λ (s : Stop). is_form_at place (is_same_key current key) s) at_stop) (cases_lt at formed)
      (subst (λ (s : Stop). at < passed_after (paragraph_count doc) s) at_stop most))
  of_stop (Stop.Place round there) at_stop = absurd (no_form (is ∙ ap (λ (s : Stop). is_form_at place (is_same_key current key) s) at_stop))
  of_stop Stop.Finish at_stop = absurd (no_form (is ∙ ap (λ (s : Stop). is_form_at place (is_same_key current key) s) at_stop))
  of_stop Stop.Settled at_stop = absurd (no_form (is ∙ ap (λ (s : Stop). is_form_at place (is_same_key current key) s) at_stop))

-- what the code has computed where lines enter
pub record Entering (doc : Document) (old : Idle) (job : Job) (live : Live) (place debt : ℕ) (par : Par) (current : Key) (in_use : Option Key) (new : Idle) : Type 0 where
  pub at : slice_get (paragraphs doc) place ≡ Some par
  pub key : current ≡ key_of par
  pub numbered : job.par.0 ≡ place + 1
  pub left : debt ≡ (if is_form_at place (is_same_key current job.key) (stop_at (paragraph_count doc) old.debt) then debt_behind doc old.debt else old.debt)
  pub used : in_use ≡ (if nat_lt place (places_passed (paragraph_count doc) (stop_at (paragraph_count doc) debt)) then Some current else None)
  pub new_is : new ≡ record old { debt = debt; live = set old.live place (record live { keys = with_key (is_current in_use) live.keys job.key }) }

pub publish-entering : (doc : Document) (old : Idle) → IsPlain doc → IsReached doc old → (job : Job) (live : Live) → MayEnter old job live → (place debt : ℕ) (par : Par) (current : Key)
    (in_use : Option Key) (new : Idle) → Entering doc old job live place debt par current in_use new → ((Entered debt, new) ≡ publish doc old job) × IsReached doc new
publish-entering doc old plain reached job live may place debt par current in_use new e = (ok, reached_new) where
  stop : Stop
  stop = stop_at (paragraph_count doc) old.debt

  here : slice_get old.live place ≡ Some live
  here = sym (live_at-place job.par.0 place (paragraph_count doc) old.live (live_numbers doc old plain reached) e.numbered) ∙ may.found

  left : debt ≡ (if is_form_at place (is_same_key (key_of par) job.key) stop then debt_behind doc old.debt else old.debt)
  left = e.left ∙ ap (λ (k : Key). if is_form_at place (is_same_key k job.key) stop then debt_behind doc old.debt else old.debt) e.key

  left_is : debt ≡ debt_of doc old job
  left_is =
      left ∙ ap (λ (b : Bool). if b then debt_behind doc old.debt else old.debt) (sym (form_stop-place doc plain job.par.0 place par job.key stop e.numbered e.at))

  same_use : (k : Key) → is_current in_use k ≡ is_in_use doc debt job.par.0 k
  same_use k =
      ap (λ (o : Option Key). is_current o k) e.used
      ∙ is_current-if (nat_lt place (places_passed (paragraph_count doc) (stop_at (paragraph_count doc) debt))) current k
      ∙ ap (λ (c : Key). nat_lt place (places_passed (paragraph_count doc) (stop_at (paragraph_count doc) debt)) && is_same_key c k) e.key
      ∙ sym (in_use-place doc plain debt job.par.0 place par k e.numbered e.at)

  kept_at : ℕ → Idle
  kept_at d = record old { debt = d; live = set old.live place (record live { keys = with_key (is_in_use doc d job.par.0) live.keys job.key }) }

  new_is : new ≡ kept_at debt
  new_is =
      e.new_is
      ∙ ap (λ (keys : List Key). record old { debt = debt; live = set old.live place (record live { keys = keys }) })
      (with_key-same (is_current in_use) (is_in_use doc debt job.par.0) live.keys job.key same_use)

  reached_new : IsReached doc new
  reached_new =
      subst (λ (idle : Idle). IsReached doc idle) (sym new_is)
      (reached_entered doc old plain reached job.par.0 place debt par live job.key e.numbered e.at here may.wanted
      (omega (arith, left, debt_if-le doc old.debt (is_form_at place (is_same_key (key_of par) job.key) stop), reached.owed))
      (entered_bound doc plain old.debt debt place job.key (key_of par) (is_form_at place (is_same_key (key_of par) job.key) stop) refl left))

  answer : Published × Idle
  answer = (Entered (debt_of doc old job), record old { debt = debt_of doc old job; live = with_live job.par.0 (entered doc old job) old.live })

  published : publish doc old job ≡ answer
  published =
      publish-at doc old job (Some live) may.found
      ∙ ap (λ (b : Bool). if not b then (Stale job.stamp (Some (stamp_of old live)), old) else if keeps live job.key then (Already, old) else answer) may.fresh
      ∙ ap (λ (b : Bool). if b then (Already, old) else answer) may.wanted

  ok : (Entered debt, new) ≡ publish doc old job
  ok =
      ap (λ (idle : Idle). (Entered debt, idle)) new_is
      ∙ ap (λ (d : ℕ). (Entered d, kept_at d)) left_is
      ∙ ap (λ (live' : List Live). (Entered (debt_of doc old job), record old { debt = debt_of doc old job; live = live' }))
      (sym (with_live-set job.par.0 1 place (paragraph_count doc) (entered doc old job) old.live live (live_numbers doc old plain reached) (omega (arith, e.numbered)) here))
      ∙ sym published

-- ---- what the code reads and answers

-- the live paragraph of a number, in the list that the code has
pub live_at-items : (idle : Idle) (number : ℕ) (items : List Live) → items ≡ idle.live → map (λ (l : Live). l.par) idle.live ≡ upwards 1 (length idle.live) → 1 ≤ number
    → live_at number idle.live ≡ slice_get items (number - 1)
live_at-items idle number items same numbers some =
    live_at-place number (number - 1) (length idle.live) idle.live numbers (omega arith) ∙ ap (λ (ls : List Live). slice_get ls (number - 1)) (sym same)

pub stamp-zero : (idle : Idle) (number : ℕ) → map (λ (l : Live). l.par) idle.live ≡ upwards 1 (length idle.live) → number ≡ 0 → None ≡ option_map (stamp_of idle) (live_at number idle.live)
stamp-zero idle number numbers none = sym (ap (option_map (stamp_of idle)) (found-below (λ (l : Live). l.par) number 1 (length idle.live) idle.live numbers (omega arith)))

pub own_numbers : (doc : Document) (old : Idle) → IsPlain doc → IsReached doc old → map (λ (l : Live). l.par) old.live ≡ upwards 1 (length old.live)
own_numbers doc old plain reached = live_numbers doc old plain reached ∙ ap (λ (n : ℕ). upwards 1 n) (sym (live_count doc old plain reached))

-- a live paragraph whose stamp was read
pub record Stamped (doc : Document) (old : Idle) (number : ℕ) (now : Stamp) : Type 0 where
  pub live : Live
  pub found : live_at number old.live ≡ Some live
  pub now_is : now ≡ stamp_of old live
  pub place : Placed doc old number live

pub stamped : (doc : Document) (old : Idle) → IsPlain doc → IsReached doc old → (number : ℕ) (now : Stamp) → Some now ≡ option_map (stamp_of old) (live_at number old.live) → Stamped doc old number now
stamped doc old plain reached number now e = of_found (live_at number old.live) refl where
  of_found : (found : Option Live) → live_at number old.live ≡ found → Stamped doc old number now
  of_found None at = absurd (none-some now (sym (e ∙ ap (option_map (stamp_of old)) at)))
  of_found (Some live) at = record {
    live = live;
    found = at;
    now_is = same_Some now (stamp_of old live) (e ∙ ap (option_map (stamp_of old)) at);
    place = placed doc old plain reached number live at;
  }

same_stamp : (stamp other : Stamp) → stamp ≡ other → is_same_stamp stamp other ≡ true
same_stamp stamp other e =
    ap (λ (b : Bool). b && stamp.epoch == other.epoch) (eq-eqb stamp.revision other.revision (ap (λ (s : Stamp). s.revision) e)) ∙ eq-eqb stamp.epoch other.epoch (ap (λ (s : Stamp). s.epoch) e)

may_enter_at : (doc : Document) (old : Idle) → IsPlain doc → IsReached doc old → (job : Job) (now : Stamp) (kept : Bool) → Some now ≡ option_map (stamp_of old) (live_at job.par.0 old.live)
    → job.stamp ≡ now → ((live : Live) → slice_get old.live (job.par.0 - 1) ≡ Some live → kept ≡ keeps live job.key) → kept ≡ false → (live : Live) × MayEnter old job live
may_enter_at doc old plain reached job now kept e same is unkept =
    let s = stamped doc old plain reached job.par.0 now e in
    (s.live, record { found = s.found; fresh = same_stamp job.stamp (stamp_of old s.live) (same ∙ s.now_is); wanted = sym (is s.live s.place.here) ∙ unkept })

pub may_enter : (doc : Document) (old : Idle) → IsPlain doc → IsReached doc old → (job read : Job) (now : Stamp) (kept : Bool) → read ≡ job → Some now ≡ option_map (stamp_of old) (live_at read.par.0 old.live)
    → read.stamp ≡ now → ((live : Live) → slice_get old.live (read.par.0 - 1) ≡ Some live → kept ≡ keeps live read.key) → kept ≡ false → (live : Live) × MayEnter old job live
may_enter doc old plain reached job read now kept e found same is unkept =
    subst (λ (j : Job). (live : Live) × MayEnter old j live) e (may_enter_at doc old plain reached read now kept found same is unkept)

already_at : (doc : Document) (old : Idle) → IsPlain doc → IsReached doc old → (job : Job) (now : Stamp) (kept : Bool) → Some now ≡ option_map (stamp_of old) (live_at job.par.0 old.live)
    → job.stamp ≡ now → ((live : Live) → slice_get old.live (job.par.0 - 1) ≡ Some live → kept ≡ keeps live job.key) → kept ≡ true → (Already, old) ≡ publish doc old job
already_at doc old plain reached job now kept e same is kept_is =
    let s = stamped doc old plain reached job.par.0 now e in
    let answer : Published × Idle = (Entered (debt_of doc old job), record old { debt = debt_of doc old job; live = with_live job.par.0 (entered doc old job) old.live }) in
    sym
    (publish-at doc old job (Some s.live) s.found
    ∙ ap (λ (b : Bool). if not b then (Stale job.stamp (Some (stamp_of old s.live)), old) else if keeps s.live job.key then (Already, old) else answer)
    (same_stamp job.stamp (stamp_of old s.live) (same ∙ s.now_is))
    ∙ ap (λ (b : Bool). if b then (Already, old) else answer) (sym (is s.live s.place.here) ∙ kept_is))

pub already : (doc : Document) (old : Idle) → IsPlain doc → IsReached doc old → (job read : Job) (now : Stamp) (kept : Bool) → read ≡ job → Some now ≡ option_map (stamp_of old) (live_at read.par.0 old.live)
    → read.stamp ≡ now → ((live : Live) → slice_get old.live (read.par.0 - 1) ≡ Some live → kept ≡ keeps live read.key) → kept ≡ true → (Already, old) ≡ publish doc old job
already doc old plain reached job read now kept e found same is kept_is =
    already_at doc old plain reached read now kept found same is kept_is ∙ ap (λ (j : Job). publish doc old j) e

pub entering : (doc : Document) (old : Idle) (job read copied : Job) (live : Live) (count now debt : ℕ) (par : Par) (current : Key) (is_present : Bool) (in_use : Option Key) (new : Idle)
    → read ≡ job → copied ≡ job → count ≡ paragraph_count doc → now ≡ old.debt → 1 ≤ job.par.0 → slice_get (paragraphs doc) (read.par.0 - 1) ≡ Some par → current ≡ key_of par
    → is_present ≡ is_same_key current read.key
    → debt ≡ (if is_form_at (read.par.0 - 1) is_present (stop_at count now) then debt_behind doc now else now)
    → in_use ≡ (if nat_lt (read.par.0 - 1) (places_passed count (stop_at count debt)) then Some current else None)
    → new ≡ record old { debt = debt; live = set old.live (read.par.0 - 1) (record live { keys = with_key (is_current in_use) live.keys copied.key }) }
    → Entering doc old job live (read.par.0 - 1) debt par current in_use new
entering doc old job read copied live count now debt par current is_present in_use new e copy counted owed some at key present left used new_is = record {
  at = at;
  key = key;
  numbered = omega (arith, ap (λ (j : Job). j.par.0) e, some);
  left = left
      ∙ ap (λ (b : Bool). if is_form_at (read.par.0 - 1) b (stop_at count now) then debt_behind doc now else now) (present ∙ ap (λ (j : Job). is_same_key current j.key) e)
      ∙ ap (λ (n : ℕ). if is_form_at (read.par.0 - 1) (is_same_key current job.key) (stop_at n now) then debt_behind doc now else now) counted
      ∙ ap (λ (n : ℕ). if is_form_at (read.par.0 - 1) (is_same_key current job.key) (stop_at (paragraph_count doc) n) then debt_behind doc n else n) owed;
  used = used ∙ ap (λ (n : ℕ). if nat_lt (read.par.0 - 1) (places_passed n (stop_at n debt)) then Some current else None) counted;
  new_is = new_is
      ∙ ap (λ (j : Job). record old { debt = debt; live = set old.live (read.par.0 - 1) (record live { keys = with_key (is_current in_use) live.keys j.key }) }) copy;
}
