-- Takes, publishes and changes keep what holds in every reached state.
use Rattle.std.proofs.Common.{◌≡◌, ◌≢◌, ℕ, ◌+◌, ◌≤◌, ◌<◌, ◌⊎◌, inl, inr, Bool, true, false, List, [], ◌∷◌, ◌++◌, length, refl, ap, sym, ◌∙◌, subst, arith, zero, suc, Option, Some, None}
use Rattle.std.specs.Prelude.{◌==◌, ◌&&◌, ◌||◌, if◌then◌else◌, map}
use Rattle.std.specs.List.{AllByRecursion as Each, list_any}
use Rattle.std.specs.Option.{option_map, option_map_or}
use Rattle.std.proofs.lemmas.Bool.{and_parts, eqb-true, eqb-false, eq-eqb, ne_eqb, cond_both}
use Rattle.doc_model.specs.declared.document.Document.{Document}
use Rattle.doc_model.specs.declared.paragraph.Par.{Par}
use Rattle.doc_model.specs.Reading.{paragraphs, number_of, upwards}
use Rattle.line_model.specs.declared.key.Key.{Key}
use Rattle.line_model.specs.declared.job.Job.{Job}
use Rattle.round_model.specs.declared.turn.Taken.{Taken}
use Rattle.round_model.specs.declared.turn.Published.{Published}
use Rattle.line_model.specs.Keys.{is_same_key}
use Rattle.round_model.specs.Rounds.{SetPar}
use Rattle.round_model.specs.Stops.{Stop, stop_at, paragraph_count, debt_behind}
use Rattle.round_model.specs.Idle.{Idle, Live, idle_at, restarted, live_at, live_after, job_at, keeps, is_form_stop_of, is_in_use, most_keys, with_key, take, publish}
use Rattle.round_model.specs.Reached.{IsReached}
use Rattle.line_model.proofs.KeyLemmas.{is_same_key-true}
use Rattle.round_model.proofs.TakeCases.{TakeCase, take_case, no_job_keeps}
use Rattle.round_model.proofs.PublishCases.{PublishCase, publish_case, debt_after, debt_after-le, debt_behind-le}
use Rattle.round_model.proofs.LiveLemmas.{renewed, renewed_par, found_par, Each-found, live_at-map}
use Rattle.round_model.proofs.InUseLemmas.{has_key_in_use, set_of, none_in_use, IsPlaced}
use Rattle.round_model.proofs.BehindLemmas.{WasInUse, was_in_use}
use Rattle.round_model.proofs.KeptKeys.{is_among, among_last, among_first, among_with_key, few_with_key}

-- paragraphs of one number are one: the first with its number is it
abbrev pub AreFirst : List Live → Type 0
AreFirst lives = Each (λ live. live_at live.par lives ≡ Some live) lives

or_true-left : (one other : Bool) → one ≡ true → (one || other) ≡ true
or_true-left true other e = refl
or_true-left false other e = absurd (let clash : false ≡ true = e in cc)

or_true-right : (one other : Bool) → other ≡ true → (one || other) ≡ true
or_true-right true other e = refl
or_true-right false other e = e

-- each number is among the numbers
each_among : (pars all : List Par) → ((number : ℕ) → list_any (λ par. number_of par == number) pars ≡ true → list_any (λ par. number_of par == number) all ≡ true)
    → Each (λ (par : Par). list_any (λ other. number_of other == number_of par) all ≡ true) pars
each_among [] all more = tt
each_among (par ∷ pars) all more = (
  more (number_of par) (or_true-left (number_of par == number_of par) (list_any (λ other. number_of other == number_of par) pars) (eq-eqb (number_of par) (number_of par) refl)),
  each_among pars all (λ number e. more number (or_true-right (number_of par == number) (list_any (λ other. number_of other == number) pars) e)),
)

-- what is made of numbers alone is first for its number
first_of_numbers : (f : ℕ → Live) → ((n : ℕ) → (f n).par ≡ n) → (pars all : List Par) → Each (λ (par : Par). list_any (λ other. number_of other == number_of par) all ≡ true) pars
    → Each (λ live. live_at live.par (map (λ par. f (number_of par)) all) ≡ Some live) (map (λ par. f (number_of par)) pars)
first_of_numbers f numbered [] all among = tt
first_of_numbers f numbered (par ∷ pars) all among = (
  subst (λ (number : ℕ). live_at number (map (λ par. f (number_of par)) all) ≡ Some (f (number_of par))) (sym (numbered (number_of par)))
      (live_at-map (number_of par) f numbered all ∙ ap (λ (there : Bool). if there then Some (f (number_of par)) else None) among.0),
  first_of_numbers f numbered pars all among.1,
)

pub AreFirst-numbers : (f : ℕ → Live) → ((n : ℕ) → (f n).par ≡ n) → (pars : List Par) → AreFirst (map (λ par. f (number_of par)) pars)
AreFirst-numbers f numbered pars = first_of_numbers f numbered pars pars (each_among pars pars (λ number e. e))

pub AreFirst-live_after : (old : List Live) (doc : Document) (touched : List ℕ) (version : ℕ) → AreFirst (live_after old doc touched version)
AreFirst-live_after old doc touched version = AreFirst-numbers (λ n. renewed touched version n (live_at n old)) (λ n. renewed_par touched version n old (live_at n old) refl) (paragraphs doc)

pub AreFirst-start : (doc : Document) (version : ℕ) → AreFirst (idle_at doc version).live
AreFirst-start doc version = AreFirst-numbers (λ n. record { par = n; revision = version; keys = [] }) (λ n. refl) (paragraphs doc)

numbers_of : (f : ℕ → Live) → ((n : ℕ) → (f n).par ≡ n) → (pars : List Par) → map (λ (live : Live). live.par) (map (λ par. f (number_of par)) pars) ≡ map number_of pars
numbers_of f numbered [] = refl
numbers_of f numbered (par ∷ pars) =
    ap (λ (n : ℕ). n ∷ map (λ (live : Live). live.par) (map (λ par. f (number_of par)) pars)) (numbered (number_of par))
    ∙ ap (λ (numbers : List ℕ). number_of par ∷ numbers) (numbers_of f numbered pars)

few_of_numbers : (f : ℕ → Live) → ((n : ℕ) → length (f n).keys ≤ most_keys) → (pars : List Par) → Each (λ live. length live.keys ≤ most_keys) (map (λ par. f (number_of par)) pars)
few_of_numbers f few [] = tt
few_of_numbers f few (par ∷ pars) = (few (number_of par), few_of_numbers f few pars)

renewed_few : (touched : List ℕ) (version number : ℕ) (lives : List Live) → Each (λ live. length live.keys ≤ most_keys) lives → (live : Option Live) → live_at number lives ≡ live
    → length (renewed touched version number live).keys ≤ most_keys
renewed_few touched version number lives few None e = omega arith
renewed_few touched version number lives few (Some live) e = Each-found (λ live. length live.keys ≤ most_keys) number lives live few e

-- no key is in use
used_never : (used : Bool) → used ≡ false → used ≡ true → ⊥
used_never used none e = let clash : false ≡ true = sym none ∙ e in absurd (cc)

pub IsReached-restarted : (old : Idle) (doc : Document) (touched : List ℕ) (restyling : Bool) (version : ℕ) → Each (λ live. length live.keys ≤ most_keys) old.live
    → IsReached doc (restarted old doc touched restyling version)
IsReached-restarted old doc touched restyling version few = record {
  live = numbers_of (λ n. renewed touched version n (live_at n old.live)) (λ n. renewed_par touched version n old.live (live_at n old.live) refl) (paragraphs doc);
  owed = omega arith;
  few = few_of_numbers (λ n. renewed touched version n (live_at n old.live)) (λ n. renewed_few touched version n old.live few (live_at n old.live) refl) (paragraphs doc);
  used = λ number key live used e. absurd (used_never _ (none_in_use doc number key) used);
}

pub IsReached-start : (doc : Document) (version : ℕ) → IsReached doc (idle_at doc version)
IsReached-start doc version = record {
  live = numbers_of (λ n. record { par = n; revision = version; keys = [] }) (λ n. refl) (paragraphs doc);
  owed = omega arith;
  few = few_of_numbers (λ n. record { par = n; revision = version; keys = [] }) (λ n. omega arith) (paragraphs doc);
  used = λ number key live used e. absurd (used_never _ (none_in_use doc number key) used);
}

passed_keeps : (doc : Document) (old : Idle) → IsReached doc old → ((round place : ℕ) → stop_at (paragraph_count doc) old.debt ≡ Stop.Form round place → job_at doc old round place ≡ None)
    → (number : ℕ) (key : Key) (live : Live) → WasInUse doc old.debt number key → live_at number old.live ≡ Some live → keeps live key ≡ true
passed_keeps doc old reached none number key live (inl used) e = reached.used number key live used e
passed_keeps doc old reached none number key live (inr placed) e =
    subst (λ (key : Key). keeps live key ≡ true) placed.same
    (no_job_keeps doc old placed.round placed.place placed.set live (none placed.round placed.place placed.at) placed.is
    (subst (λ (number : ℕ). live_at number old.live ≡ Some live) (sym placed.par) e))

pub IsReached-take : (doc : Document) (old : Idle) → IsReached doc old → IsReached doc (take doc old).1
IsReached-take doc old reached = elim (take_case doc old) [
  | TakeCase.Done e f ↦ subst (λ (idle : Idle). IsReached doc idle) (sym (ap (λ (t : Taken × Idle). t.1) f)) reached
  | TakeCase.Asked round place set live some at is lives none f ↦ subst (λ (idle : Idle). IsReached doc idle) (sym (ap (λ (t : Taken × Idle). t.1) f)) reached
  | TakeCase.Passed some none f ↦ subst (λ (idle : Idle). IsReached doc idle) (sym (ap (λ (t : Taken × Idle). t.1) f)) (record {
    live = reached.live;
    owed = omega (arith, reached.owed, debt_behind-le doc old.debt);
    few = reached.few;
    used = λ number key live used e. passed_keeps doc old reached none number key live (was_in_use doc old.debt number key some used) e;
  })
]

-- a live paragraph with other keys, if it has the number
abbrev rekeyed : ℕ → (Live → List Key) → Live → Live
rekeyed number keys live = if live.par == number then record live { keys = keys live } else live

par-rekeyed : (number : ℕ) (keys : Live → List Key) (live : Live) → (rekeyed number keys live).par ≡ live.par
par-rekeyed number keys live = cond_both (live.par == number) (record live { keys = keys live }) live (λ (other : Live). other.par ≡ live.par) (λ b. refl) (λ b. refl)

numbers-rekeyed : (number : ℕ) (keys : Live → List Key) (lives : List Live) → map (λ (live : Live). live.par) (map (rekeyed number keys) lives) ≡ map (λ (live : Live). live.par) lives
numbers-rekeyed number keys [] = refl
numbers-rekeyed number keys (live ∷ lives) =
    ap (λ (n : ℕ). n ∷ map (λ (live : Live). live.par) (map (rekeyed number keys) lives)) (par-rekeyed number keys live)
    ∙ ap (λ (numbers : List ℕ). live.par ∷ numbers) (numbers-rekeyed number keys lives)

live_at-rekeyed : (number : ℕ) (keys : Live → List Key) (other : ℕ) (lives : List Live) → live_at other (map (rekeyed number keys) lives) ≡ option_map (rekeyed number keys) (live_at other lives)
live_at-rekeyed number keys other [] = refl
live_at-rekeyed number keys other (live ∷ lives) =
    ap (λ (n : ℕ). if n == other then Some (rekeyed number keys live) else live_at other (map (rekeyed number keys) lives)) (par-rekeyed number keys live)
    ∙ of_test (live.par == other) (live_at-rekeyed number keys other lives) where
      of_test : (here : Bool) → live_at other (map (rekeyed number keys) lives) ≡ option_map (rekeyed number keys) (live_at other lives)
          → (if here then Some (rekeyed number keys live) else live_at other (map (rekeyed number keys) lives)) ≡ option_map (rekeyed number keys) (if here then Some live else live_at other lives)
      of_test true e = refl
      of_test false e = e

first-rekeyed : (number : ℕ) (keys : Live → List Key) (lives all : List Live) → Each (λ live. live_at live.par all ≡ Some live) lives
    → Each (λ live. live_at live.par (map (rekeyed number keys) all) ≡ Some live) (map (rekeyed number keys) lives)
first-rekeyed number keys [] all first = tt
first-rekeyed number keys (live ∷ lives) all first = (
  subst (λ (n : ℕ). live_at n (map (rekeyed number keys) all) ≡ Some (rekeyed number keys live)) (sym (par-rekeyed number keys live))
      (live_at-rekeyed number keys live.par all ∙ ap (λ (found : Option Live). option_map (rekeyed number keys) found) first.0),
  first-rekeyed number keys lives all first.1,
)

same_live : (live other : Live) → Some live ≡ Some other → live ≡ other
same_live live other e = cc

few-rekeyed : (number : ℕ) (keys : Live → List Key) (found : Live) (lives all : List Live) → live_at number all ≡ Some found → length (keys found) ≤ most_keys
    → Each (λ live. live_at live.par all ≡ Some live) lives → Each (λ live. length live.keys ≤ most_keys) lives → Each (λ live. length live.keys ≤ most_keys) (map (rekeyed number keys) lives)
few-rekeyed number keys found [] all is few first each = tt
few-rekeyed number keys found (live ∷ lives) all is few first each = (
  cond_both (live.par == number) (record live { keys = keys live }) live (λ (other : Live). length other.keys ≤ most_keys)
      (λ b. subst (λ (other : Live). length (keys other) ≤ most_keys)
      (same_live _ _ (sym is ∙ subst (λ (n : ℕ). live_at n all ≡ Some live) (eqb-true live.par number b) first.0)) few)
      (λ b. each.0),
  few-rekeyed number keys found lives all is few first.1 each.1,
)

-- the keys in use of a paragraph are one
single_in_use : (doc : Document) (debt number : ℕ) (one other : Key) → is_in_use doc debt number one ≡ true → is_in_use doc debt number other ≡ true → one ≡ other
single_in_use doc debt number one other used used' =
    let is = set_of doc number one (has_key_in_use doc debt number one used) in
    let is' = set_of doc number other (has_key_in_use doc debt number other used') in
    let same : is.set ≡ is'.set = same_set _ _ (sym is.found ∙ is'.found) in
    sym is.same ∙ ap (λ (set : SetPar). set.key) same ∙ is'.same where
      same_set : (set set' : SetPar) → Some set ≡ Some set' → set ≡ set'
      same_set set set' e = cc

-- the key was in use before, or is that of the job
abbrev IsOfJob : Document → Idle → Job → ℕ → Key → Type 0
IsOfJob doc old job number key = (is_in_use doc old.debt number key ≡ true) ⊎ ((job.par.0 ≡ number) × (job.key ≡ key))

job_placed : (doc : Document) (old : Idle) (job : Job) (number : ℕ) (key : Key) → is_form_stop_of doc (stop_at (paragraph_count doc) old.debt) job.par.0 job.key ≡ true
    → IsPlaced doc old.debt number key → (job.par.0 ≡ number) × (job.key ≡ key)
job_placed doc old job number key own placed =
    let stop : is_form_stop_of doc (Stop.Form placed.round placed.place) job.par.0 job.key ≡ true = subst (λ (stop : Stop). is_form_stop_of doc stop job.par.0 job.key ≡ true) placed.at own in
    let tests : ((placed.set.par == job.par.0) && is_same_key placed.set.key job.key) ≡ true =
    subst (λ (set : Option SetPar). option_map_or (λ (set : SetPar). (set.par == job.par.0) && is_same_key set.key job.key) set false ≡ true) placed.is stop in
    let both = and_parts (placed.set.par == job.par.0) (is_same_key placed.set.key job.key) tests in
    (sym (eqb-true placed.set.par job.par.0 both.0) ∙ placed.par, sym (is_same_key-true placed.set.key job.key both.1) ∙ placed.same)

use_before : (doc : Document) (old : Idle) (job : Job) (number : ℕ) (key : Key) → is_in_use doc (debt_after doc old job) number key ≡ true → IsOfJob doc old job number key
use_before doc old job number key used = of_test (is_form_stop_of doc (stop_at (paragraph_count doc) old.debt) job.par.0 job.key) refl used where
  some_debt : is_form_stop_of doc (stop_at (paragraph_count doc) old.debt) job.par.0 job.key ≡ true → old.debt ≢ 0
  some_debt own none = let clash : false ≡ true = subst (λ (debt : ℕ). is_form_stop_of doc (stop_at (paragraph_count doc) debt) job.par.0 job.key ≡ true) none own in absurd (cc)

  of_was : is_form_stop_of doc (stop_at (paragraph_count doc) old.debt) job.par.0 job.key ≡ true → WasInUse doc old.debt number key → IsOfJob doc old job number key
  of_was own (inl before) = inl before
  of_was own (inr placed) = inr (job_placed doc old job number key own placed)

  of_test : (own : Bool) → is_form_stop_of doc (stop_at (paragraph_count doc) old.debt) job.par.0 job.key ≡ own
      → is_in_use doc (if own then debt_behind doc old.debt else old.debt) number key ≡ true → IsOfJob doc old job number key
  of_test true own used = of_was own (was_in_use doc old.debt number key (some_debt own) used)
  of_test false own used = inl used

-- the keys of a paragraph after the lines of a job are entered
abbrev keys_after : Document → Idle → Job → Live → List Key
keys_after doc old job live = with_key (is_in_use doc (debt_after doc old job) job.par.0) live.keys job.key

entered_keeps : (doc : Document) (old : Idle) (job : Job) → IsReached doc old → (number : ℕ) (key : Key) (live : Live) → is_in_use doc (debt_after doc old job) number key ≡ true
    → live_at number old.live ≡ Some live → keeps (rekeyed job.par.0 (keys_after doc old job) live) key ≡ true
entered_keeps doc old job reached number key live used is =
    cond_both (live.par == job.par.0) (record live { keys = keys_after doc old job live }) live (λ (other : Live). keeps other key ≡ true)
    (λ b. own (sym (found_par number old.live live is) ∙ eqb-true live.par job.par.0 b) (use_before doc old job number key used))
    (λ b. others (eqb-false live.par job.par.0 b) (use_before doc old job number key used)) where
      own : number ≡ job.par.0 → IsOfJob doc old job number key → keeps (record live { keys = keys_after doc old job live }) key ≡ true
      own same (inl before) = among_with_key (is_in_use doc (debt_after doc old job) job.par.0) key job.key live.keys (subst (λ (n : ℕ). is_in_use doc (debt_after doc old job) n key ≡ true) same used)
          (among_first key job.key live.keys (reached.used number key live before is))
      own same (inr new) = among_with_key (is_in_use doc (debt_after doc old job) job.par.0) key job.key live.keys (subst (λ (n : ℕ). is_in_use doc (debt_after doc old job) n key ≡ true) same used)
          (subst (λ (new : Key). is_among key (live.keys ++ new ∷ []) ≡ true) (sym new.1) (among_last key live.keys))

      others : live.par ≢ job.par.0 → IsOfJob doc old job number key → keeps live key ≡ true
      others apart (inl before) = reached.used number key live before is
      others apart (inr new) = absurd (apart (found_par number old.live live is ∙ sym new.0))

IsReached-entered : (doc : Document) (old : Idle) (job : Job) (live : Live) → AreFirst old.live → IsReached doc old → live_at job.par.0 old.live ≡ Some live → keeps live job.key ≡ false
    → IsReached doc (record old { debt = debt_after doc old job; live = map (rekeyed job.par.0 (keys_after doc old job)) old.live })
IsReached-entered doc old job live first reached is fresh = record {
  live = numbers-rekeyed job.par.0 (keys_after doc old job) old.live ∙ reached.live;
  owed = omega (arith, reached.owed, debt_after-le doc old job);
  few = few-rekeyed job.par.0 (keys_after doc old job) live old.live old.live is
      (few_with_key (is_in_use doc (debt_after doc old job) job.par.0) (single_in_use doc (debt_after doc old job) job.par.0) job.key live.keys fresh
      (Each-found (λ live. length live.keys ≤ most_keys) job.par.0 old.live live reached.few is)) first reached.few;
  used = λ number key later used e. of_found number key later used (live_at number old.live) refl (sym (live_at-rekeyed job.par.0 (keys_after doc old job) number old.live) ∙ e);
} where
  of_found : (number : ℕ) (key : Key) (later : Live) → is_in_use doc (debt_after doc old job) number key ≡ true → (found : Option Live) → live_at number old.live ≡ found
      → option_map (rekeyed job.par.0 (keys_after doc old job)) found ≡ Some later → keeps later key ≡ true
  of_found number key later used None at e = absurd (let clash : None ≡ Some later = e in cc)
  of_found number key later used (Some found) at e = subst (λ (later : Live). keeps later key ≡ true) (same_live _ _ e) (entered_keeps doc old job reached number key found used at)

pub IsReached-publish : (doc : Document) (old : Idle) (job : Job) → AreFirst old.live → IsReached doc old → IsReached doc (publish doc old job).1
IsReached-publish doc old job first reached = elim (publish_case doc old job) [
  | PublishCase.Gone e f ↦ subst (λ (idle : Idle). IsReached doc idle) (sym (ap (λ (t : Published × Idle). t.1) f)) reached
  | PublishCase.Outdated live e s f ↦ subst (λ (idle : Idle). IsReached doc idle) (sym (ap (λ (t : Published × Idle). t.1) f)) reached
  | PublishCase.Kept live e s k f ↦ subst (λ (idle : Idle). IsReached doc idle) (sym (ap (λ (t : Published × Idle). t.1) f)) reached
  | PublishCase.Fresh live e s k f ↦ subst (λ (idle : Idle). IsReached doc idle) (sym (ap (λ (t : Published × Idle). t.1) f)) (IsReached-entered doc old job live first reached e k)
]

pub AreFirst-publish : (doc : Document) (old : Idle) (job : Job) → AreFirst old.live → AreFirst (publish doc old job).1.live
AreFirst-publish doc old job first = elim (publish_case doc old job) [
  | PublishCase.Gone e f ↦ subst (λ (idle : Idle). AreFirst idle.live) (sym (ap (λ (t : Published × Idle). t.1) f)) first
  | PublishCase.Outdated live e s f ↦ subst (λ (idle : Idle). AreFirst idle.live) (sym (ap (λ (t : Published × Idle). t.1) f)) first
  | PublishCase.Kept live e s k f ↦ subst (λ (idle : Idle). AreFirst idle.live) (sym (ap (λ (t : Published × Idle). t.1) f)) first
  | PublishCase.Fresh live e s k f ↦ subst (λ (idle : Idle). AreFirst idle.live) (sym (ap (λ (t : Published × Idle). t.1) f)) (first-rekeyed job.par.0 (keys_after doc old job) old.live old.live first)
]

pub AreFirst-take : (doc : Document) (old : Idle) → AreFirst old.live → AreFirst (take doc old).1.live
AreFirst-take doc old first = elim (take_case doc old) [
  | TakeCase.Done e f ↦ subst (λ (idle : Idle). AreFirst idle.live) (sym (ap (λ (t : Taken × Idle). t.1) f)) first
  | TakeCase.Asked round place set live some at is lives none f ↦ subst (λ (idle : Idle). AreFirst idle.live) (sym (ap (λ (t : Taken × Idle). t.1) f)) first
  | TakeCase.Passed some none f ↦ subst (λ (idle : Idle). AreFirst idle.live) (sym (ap (λ (t : Taken × Idle). t.1) f)) first
]

after_head : (head : Live) (tail lives : List Live) → Each (λ live. head.par < live.par) lives → Each (λ live. live_at live.par tail ≡ Some live) lives → Each (λ live. live_at live.par (head ∷ tail) ≡ Some live) lives
after_head head tail [] above first = tt
after_head head tail (live ∷ lives) above first = (
  ap (λ (here : Bool). if here then Some head else live_at live.par tail) (ne_eqb head.par live.par (λ e. omega (arith, above.0, e))) ∙ first.0,
  after_head head tail lives above.1 first.1,
)

each_above : (bound first count : ℕ) (lives : List Live) → bound < first → map (λ (live : Live). live.par) lives ≡ upwards first count → Each (λ live. bound < live.par) lives
each_above bound first count [] less e = tt
each_above bound first zero (live ∷ lives) less e = absurd (cc)
each_above bound first (suc count) (live ∷ lives) less e =
    let head : live.par ≡ first = cc in
    (omega (arith, less, head), each_above bound (first + 1) count lives (omega (arith, less)) (cc))

-- paragraphs that are numbered in order are first for their numbers
pub AreFirst-upwards : (first count : ℕ) (lives : List Live) → map (λ (live : Live). live.par) lives ≡ upwards first count → AreFirst lives
AreFirst-upwards first count [] e = tt
AreFirst-upwards first zero (live ∷ lives) e = absurd (cc)
AreFirst-upwards first (suc count) (live ∷ lives) e =
    let head : live.par ≡ first = cc in
    let tail : map (λ (live : Live). live.par) lives ≡ upwards (first + 1) count = cc in (
      ap (λ (here : Bool). if here then Some live else live_at live.par lives) (eq-eqb live.par live.par refl),
      after_head live lives lives (each_above live.par (first + 1) count lives (omega (arith, head)) tail) (AreFirst-upwards (first + 1) count lives tail),
    )
