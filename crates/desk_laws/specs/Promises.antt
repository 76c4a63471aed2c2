-- What the desk promises of lines, and what its promises rest on.
use Rattle.std.specs.Prelude.{◌≡◌, ℕ, ◌≤◌, ◌==◌, Bool, true, false, find, Option, Some}
use Rattle.std.specs.List.{AllByRecursion as Each}
use Rattle.std.specs.Option.{option_map}
use Rattle.doc_model.specs.declared.document.Document.{Document}
use Rattle.line_model.specs.declared.key.Key.{Key}
use Rattle.line_model.specs.declared.job.Stamp.{Stamp}
use Rattle.desk_model.specs.declared.reply.Reply.{Reply}
use Rattle.desk_model.specs.declared.reply.Reply.TheVariants.{Already, Entered}
use Rattle.round_model.specs.Rounds.{set_in, last_round}
use Rattle.round_model.specs.Idle.{Idle, Live, live_at, stamp_of, keeps}
use Rattle.desk_model.specs.Desk.{State}

-- no paragraph, and no style, changed at a version that is still to come
pub record AreStampsPast (state : State) : Type 0 where
  pub epoch : state.idle.epoch ≤ state.version
  pub revisions : Each (λ live. live.revision ≤ state.version) state.idle.live

-- the present stamp of the paragraph with this number, if it is live
abbrev pub present_stamp : Idle → ℕ → Option Stamp
present_stamp idle number = option_map (stamp_of idle) (live_at number idle.live)

-- whether a reply tells that the lines of a job are kept: since now, or since before
abbrev pub are_kept : Reply → Bool
are_kept Already = true
are_kept (Entered debt) = true
are_kept _ = false

-- the key of a round of the paragraph with this number, if the document has it
abbrev pub key_in : Document → ℕ → ℕ → Option Key
key_in doc round number = option_map (λ set. set.key) (find (λ set. set.par == number) (set_in doc round))

-- the lines of a key of the paragraph with this number are kept
abbrev pub KeepsLines : Idle → ℕ → Key → Type 0
KeepsLines idle number key = (live : Live) × (live_at number idle.live ≡ Some live) × (keeps live key ≡ true)

-- every paragraph's lines of the last round are kept
abbrev pub KeepsLastRound : Document → Idle → Type 0
KeepsLastRound doc idle = (number : ℕ) (key : Key) → key_in doc (last_round doc) number ≡ Some key → KeepsLines idle number key
