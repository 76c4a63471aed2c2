-- The idle work of a desk: which paragraphs are live, which lines are kept, and how much is left to do.
use Rattle.std.specs.Prelude.{ℕ, ◌+◌, ◌-◌, ◌==◌, nat_lt, ◌&&◌, if◌then◌else◌, Bool, false, not, List, [], ◌∷◌, ◌++◌, map, length, drop, find, Option, Some, None}
use Rattle.std.specs.List.{list_any}
use Rattle.std.specs.Option.{option_map_or}
use Rattle.doc_model.specs.declared.document.Document.{Document}
use Rattle.doc_model.specs.Reading.{paragraphs, number_of}
use Rattle.line_model.specs.declared.key.Key.{Key}
use Rattle.line_model.specs.declared.job.Job.{Job}
use Rattle.line_model.specs.declared.job.Stamp.{Stamp}
use Rattle.round_model.specs.declared.turn.Taken.{Taken}
use Rattle.round_model.specs.declared.turn.Taken.TheVariants as took
use Rattle.round_model.specs.declared.turn.Published.{Published}
use Rattle.round_model.specs.declared.turn.Published.TheVariants.{Stale, Already, Entered}
use Rattle.line_model.specs.Keys.{is_same_key}
use Rattle.round_model.specs.Rounds.{SetPar, set_in, last_round}
use Rattle.round_model.specs.Stops.{Stop, stop_at, paragraph_count, full_debt, debt_behind}

-- what is kept of a live paragraph: its number, the version that last touched it, and the keys whose lines are kept, in order of entry
pub record Live : Type 0 where
  pub par : ℕ
  pub revision : ℕ
  pub keys : List Key

-- the version that last changed styles, the live paragraphs in reading order, and the debt, which is how much is left to do
pub record Idle : Type 0 where
  pub epoch : ℕ
  pub live : List Live
  pub debt : ℕ

-- the idle work of a document that is opened at a version
abbrev pub idle_at : Document → ℕ → Idle
idle_at doc version = record {
  epoch = version;
  live = map (λ par. record { par = number_of par; revision = version; keys = [] }) (paragraphs doc);
  debt = full_debt (paragraph_count doc);
}

-- the live paragraph with this number
abbrev pub live_at : ℕ → List Live → Option Live
live_at number live = find (λ other. other.par == number) live

-- the live paragraphs after a change to a document: one that is touched, or wasn't live before, has the new version as its revision. All kept lines of paragraphs that stay live stay
abbrev pub live_after : List Live → Document → List ℕ → ℕ → List Live
live_after old doc touched version = map (λ par. of_number (number_of par)) (paragraphs doc) where
  of_number : ℕ → Live
  of_number number = of_live (live_at number old) where
    of_live : Option Live → Live
    of_live None = record { par = number; revision = version; keys = [] }
    of_live (Some live) = record live { revision = if list_any (λ other. other == number) touched then version else live.revision }

-- the idle work after a change to a document, which has this version: all of it is to be done again
abbrev pub restarted : Idle → Document → List ℕ → Bool → ℕ → Idle
restarted old doc touched restyling version = record {
  epoch = if restyling then version else old.epoch;
  live = live_after old.live doc touched version;
  debt = full_debt (paragraph_count doc);
}

-- the stamp of a live paragraph
abbrev pub stamp_of : Idle → Live → Stamp
stamp_of idle live = record { revision = live.revision; epoch = idle.epoch }

-- the paragraph at a place in the order in which they are set, with its key of a round
abbrev pub set_at : Document → ℕ → ℕ → Option SetPar
set_at doc round place = first (drop place (set_in doc round)) where
  first : List SetPar → Option SetPar
  first [] = None
  first (set ∷ more) = Some set

-- whether the lines of a key are kept
abbrev pub keeps : Live → Key → Bool
keeps live key = list_any (is_same_key key) live.keys

-- the job at the form stop of a paragraph, unless the lines of its key are kept
abbrev pub job_at : Document → Idle → ℕ → ℕ → Option Job
job_at doc idle round place = of_set (set_at doc round place) where
  of_live : SetPar → Option Live → Option Job
  of_live set None = None
  of_live set (Some live) =
      if keeps live set.key then None
      else Some (record { par = record { 0 = set.par }; stamp = stamp_of idle live; key = set.key })

  of_set : Option SetPar → Option Job
  of_set None = None
  of_set (Some set) = of_live set (live_at set.par idle.live)

-- what a take is answered, and the idle work after it
abbrev pub take : Document → Idle → Taken × Idle
take doc old = of_stop (stop_at (paragraph_count doc) old.debt) where
  passed : Taken × Idle
  passed = (took.Moved (debt_behind doc old.debt), record old { debt = debt_behind doc old.debt })

  of_job : Option Job → Taken × Idle
  of_job None = passed
  of_job (Some job) = (took.Job job, old)

  of_stop : Stop → Taken × Idle
  of_stop Stop.Settled = (took.Settled, old)
  of_stop (Stop.Form round place) = of_job (job_at doc old round place)
  of_stop _ = passed

-- whether a stop is the form stop of this paragraph and key
abbrev pub is_form_stop_of : Document → Stop → ℕ → Key → Bool
is_form_stop_of doc (Stop.Form round place) number key =
    option_map_or (λ set. set.par == number && is_same_key set.key key) (set_at doc round place) false
is_form_stop_of doc _ number key = false

-- the place of a paragraph in the order in which they are set
abbrev pub place_of : ℕ → List SetPar → ℕ
place_of number [] = 0
place_of number (set ∷ sets) = if set.par == number then 0 else place_of number sets + 1

-- whether the key is that of the paragraph in the present round, and its form stop of this round is passed. Where all rounds are, the last one is present
abbrev pub is_in_use : Document → ℕ → ℕ → Key → Bool
is_in_use doc debt number key = of_stop (stop_at (paragraph_count doc) debt) where
  has_key : ℕ → Bool
  has_key round = option_map_or (λ set. is_same_key set.key key) (find (λ set. set.par == number) (set_in doc round)) false

  of_stop : Stop → Bool
  of_stop (Stop.Gather place) = false
  of_stop (Stop.Form round place) = nat_lt (place_of number (set_in doc round)) place && has_key round
  of_stop (Stop.Place round place) = nat_lt (place_of number (set_in doc round)) (place + 1) && has_key round
  of_stop _ = has_key (last_round doc)

-- how many keys of a paragraph are kept at most
abbrev pub most_keys : ℕ
most_keys = 10

-- keys without the first one that is not in use
abbrev pub without_oldest : (Key → Bool) → List Key → List Key
without_oldest in_use [] = []
without_oldest in_use (key ∷ keys) = if in_use key then key ∷ without_oldest in_use keys else keys

-- the keys that are kept after a further one
abbrev pub with_key : (Key → Bool) → List Key → Key → List Key
with_key in_use keys key =
    if length keys == most_keys then without_oldest in_use (keys ++ key ∷ []) else keys ++ key ∷ []

-- the live paragraphs with a change made to the one of a number
abbrev pub with_live : ℕ → (Live → Live) → List Live → List Live
with_live number change live = map (λ other. if other.par == number then change other else other) live

-- whether two stamps are the same
abbrev pub is_same_stamp : Stamp → Stamp → Bool
is_same_stamp stamp other = stamp.revision == other.revision && stamp.epoch == other.epoch

-- what the lines of a job are answered, and the idle work after them
abbrev pub publish : Document → Idle → Job → Published × Idle
publish doc old job = of_live (live_at job.par.0 old.live) where
  debt : ℕ
  debt = if is_form_stop_of doc (stop_at (paragraph_count doc) old.debt) job.par.0 job.key then debt_behind doc old.debt else old.debt

  entered : Live → Live
  entered live = record live { keys = with_key (is_in_use doc debt job.par.0) live.keys job.key }

  of_live : Option Live → Published × Idle
  of_live None = (Stale job.stamp None, old)
  of_live (Some live) =
      if not (is_same_stamp job.stamp (stamp_of old live)) then (Stale job.stamp (Some (stamp_of old live)), old)
      else if keeps live job.key then (Already, old)
      else (Entered debt, record old { debt = debt; live = with_live job.par.0 entered old.live })
