-- The rule of a lock's table: word 0 is the number of entries, word 1 the turn, and slot 0 has the machine with its journal.
use Rattle.std.specs.Prelude.{◌≡◌, ℕ, ◌+◌, ◌-◌, ◌^◌, ◌<◌, ◌≤◌, List, [], ◌∷◌, ◌++◌, length, nat_lt, if◌then◌else◌, All, Contains, Option, Some, None}
use mathlib.Core.Option as maybe
use lib.ListN.{get_elem?}
use Rattle.atomic_table.specs.Table.{State}
use Rattle.turn_lock.specs.declared.machine.Machine.{Ghosts}
use Rattle.turn_lock.specs.declared.machine.Entry.{Entry}
use Rattle.turn_lock.specs.declared.book.Book.{Book}
use Rattle.turn_lock.specs.declared.view.Terms.{Terms}
use Rattle.turn_lock.specs.declared.view.Known.{Known}
use Rattle.turn_lock.specs.declared.view.View.{View}
use Rattle.turn_lock.specs.declared.view.Stage.{Stage}
use Rattle.turn_lock.specs.declared.view.Stage.TheVariants.{Resting, Holding, Counted, Met}
use Rattle.turn_lock.specs.History.{calls_of, IsLegal}
use Rattle.turn_lock.specs.Numbers.{IsUngiven, Has, Gains, numbers_of}

module _ {M C R S : Type 0} where
  -- the longer of two histories
  abbrev pub longer : List (Entry M C R S) → List (Entry M C R S) → List (Entry M C R S)
  longer xs ys = if nat_lt (length xs) (length ys) then ys else xs

  -- the seat has the turn
  abbrev pub HasTurn : Stage M C R S → Type 0
  HasTurn Resting = ⊥
  HasTurn Holding = Unit {0}
  HasTurn Counted = Unit {0}
  HasTurn (Met a b) = ⊥

  -- the seat at the start, with all numbers
  abbrev pub first_view : Terms M C R S → View M C R S
  first_view t = record { terms = Some t; known = record { number = 0; left = t.seats - 1; joined = []; seen = [] }; tries = 0; read = 0; stage = Resting }

  -- a seat that was joined to another
  abbrev pub spent_view : View M C R S
  spent_view = record { terms = None; known = record { number = 0; left = 0; joined = []; seen = [] }; tries = 0; read = 0; stage = Resting }

  -- the seat that gave its last number, and the new seat that has it
  abbrev pub giving_view : View M C R S → View M C R S
  giving_view v = record v { known = record v.known { left = v.known.left - 1 } }

  abbrev pub given_view : View M C R S → View M C R S
  given_view v = record { terms = v.terms; known = record { number = v.known.left; left = 0; joined = []; seen = v.known.seen }; tries = 0; read = 0; stage = Resting }

  -- the numbers and the history of two seats that became one
  abbrev pub both : Known M C R S → Known M C R S → Known M C R S
  both k l = record k { joined = k.joined ++ numbers_of l; seen = longer k.seen l.seen }

  abbrev pub joined_view : View M C R S → View M C R S → View M C R S
  joined_view v w = record v { known = both v.known w.known; stage = Met v.known w.known }

  -- some seat has the turn
  abbrev pub Held : Terms M C R S → ℕ → List (View M C R S) → Type 0
  Held t turn views = (id : ℕ) × (v : View M C R S) × (get_elem? views id ≡ maybe.some v) × (v.terms ≡ Some t) × HasTurn v.stage × (turn ≡ v.known.number + 1)

  -- owner: the place of the seat that a number belongs to. kind: 0 for a seat's own number, 1 for one that is yet to be given, 2 for one that was joined
  module _ (t : Terms M C R S) (history : List (Entry M C R S)) (owner kind : ℕ → ℕ) (turn id : ℕ) where
    -- the numbers belong to the seat, and all entries of these numbers stand in what the seat has seen
    abbrev pub Belongs : Known M C R S → Type 0
    Belongs k = Gains k history × ((n : ℕ) → Has k n → owner n ≡ id)

    -- the seat's stage fits the turn: the seat that has it knows the whole history
    abbrev pub AtStage : Known M C R S → Stage M C R S → Type 0
    AtStage k Resting = Unit {0}
    AtStage k Holding = (turn ≡ k.number + 1) × (k.seen ≡ history)
    AtStage k Counted = (turn ≡ k.number + 1) × (k.seen ≡ history)
    AtStage k (Met a b) = Belongs a × Belongs b × (k.seen ≡ longer a.seen b.seen)

    pub record Sits (v : View M C R S) : Type 0 where
      pub terms : v.terms ≡ Some t
      pub gains : Gains v.known history
      pub own : (owner v.known.number ≡ id) × (kind v.known.number ≡ 0) × (v.known.number < t.seats)
      pub yet : (n : ℕ) → IsUngiven v.known n → (owner n ≡ id) × (kind n ≡ 1) × (n < t.seats)
      pub joined : (n : ℕ) → Contains v.known.joined n → (owner n ≡ id) × (kind n ≡ 2) × (n < t.seats)
      pub stage : AtStage v.known v.stage

module _ {M C R S : Type 0} {g : Ghosts M C R S} where
  -- the machine is at home, with this journal
  abbrev pub Home : Terms M C R S → List (Entry M C R S) → List (maybe.Option (Option (Book M C R S g))) → Type 0
  Home t history homes = (b : Book M C R S g) × (homes ≡ maybe.some (Some b) ∷ []) × (b.journal.items ≡ history) × (b.start.value ≡ t.start.value)

  -- the slot is empty: the seat that has the turn has the machine
  abbrev pub IsOut : List (maybe.Option (Option (Book M C R S g))) → Type 0
  IsOut homes = homes ≡ maybe.none ∷ []

  -- there is one legal history, of which each seat has seen a beginning; the machine is at home where the turn is free, and else out
  pub record Kept (t : Terms M C R S) (s : State (Option (Book M C R S g)) (View M C R S)) : Type 0 where
    pub history : List (Entry M C R S)
    pub owner : ℕ → ℕ
    pub kind : ℕ → ℕ
    pub turn : ℕ
    pub narrow : (t.limit < 2 ^ 32) × (t.seats < 2 ^ 32)
    pub words : s.words ≡ length history ∷ turn ∷ []
    pub within : length history ≤ t.limit
    pub legal : IsLegal g.reply g.after (g.state t.start.value) history
    pub callers : All (λ e. e.caller < t.seats) history
    pub ungiven : (n : ℕ) → kind n ≡ 1 → calls_of n history ≡ []
    pub each : (id : ℕ) (v : View M C R S) → get_elem? s.views id ≡ maybe.some v → (u : Terms M C R S) → v.terms ≡ Some u → Sits t history owner kind turn id v
    pub free : turn ≡ 0 → Home t history s.homes
    pub held : 0 < turn → Held t turn s.views × IsOut s.homes
