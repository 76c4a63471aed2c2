-- What each kind of step tells the seat that makes it.
use Rattle.std.specs.Prelude.{◌≡◌, ◌≢◌, ℕ, ◌+◌, ◌<◌, ◌≤◌, List, [], ◌∷◌, length, Option, Some}
use Rattle.atomic_table.specs.Table.{Me}
use Rattle.atomic_table.specs.Seated.{TableId}
use Rattle.atomic_table.specs.declared.shared.Seat.{Seat}
use Rattle.turn_lock.specs.declared.machine.Machine.{Ghosts}
use Rattle.turn_lock.specs.declared.machine.Entry.{Entry}
use Rattle.turn_lock.specs.declared.book.Book.{Book}
use Rattle.turn_lock.specs.declared.view.Terms.{Terms}
use Rattle.turn_lock.specs.declared.view.Known.{Known}
use Rattle.turn_lock.specs.declared.view.View.{View}
use Rattle.turn_lock.specs.declared.view.Stage.{Stage}
use Rattle.turn_lock.specs.declared.view.Stage.TheVariants.{Resting, Holding, Counted, Met}
use Rattle.turn_lock.specs.declared.fault.CallFault.{CallFault}
use Rattle.turn_lock.specs.declared.fault.CallFault.TheVariants.{JournalFull, NoMemory}
use Rattle.turn_lock.specs.History.{IsLegal}
use Rattle.turn_lock.specs.Numbers.{IsApart, Gains}

module _ {M C R S : Type 0} where
  -- what a seat learns of the history that it sees: it is legal, and no longer than the limit
  pub record Saw (g : Ghosts M C R S) (t : Terms M C R S) (k : Known M C R S) : Type 0 where
    pub legal : IsLegal g.reply g.after (g.state t.start.value) k.seen
    pub within : (length k.seen ≤ t.limit) × (t.limit < 4294967296)

  abbrev pub seeing : View M C R S → List (Entry M C R S) → Stage M C R S → View M C R S
  seeing v h stage = record v { known = record v.known { seen = h }; stage = stage }

  abbrev pub tried : View M C R S → ℕ → View M C R S
  tried v n = record v { tries = v.tries + 1; read = n }

-- why the call of a seat that has the turn is refused, where the journal has so many entries
abbrev pub Refuses : ℕ → ℕ → CallFault → Type 0
Refuses limit count (JournalFull n) = (n ≡ limit) × (count ≡ limit)
Refuses limit count NoMemory = Unit {0}

module _ {M C R S : Type 0} {g : Ghosts M C R S} where
  abbrev pub IsSameSeat : Seat (Option (Book M C R S g)) (View M C R S) → Seat (Option (Book M C R S g)) (View M C R S) → Type 0
  IsSameSeat p q = (q.table_id ≡ p.table_id) × (q.id ≡ p.id)

  -- the seat is one of this table, on these terms
  abbrev pub IsSeated : TableId → Terms M C R S → Seat (Option (Book M C R S g)) (View M C R S) → Type 0
  IsSeated z t p = (p.table_id ≡ z) × (z.words ≡ 2) × (z.slots ≡ 1) × (p.me.0.terms ≡ Some t)

  -- the seat has the slot, with this in it
  abbrev pub Carries : Seat (Option (Book M C R S g)) (View M C R S) → Option (Book M C R S g) → Type 0
  Carries p x = p.me.1 ≡ (0, x) ∷ []

  -- the seat has the turn after so many tries, of which the last read 0, with the machine and the whole history
  abbrev pub Turns : Me (Option (Book M C R S g)) (View M C R S) → ℕ → Me (Option (Book M C R S g)) (View M C R S) → Type 0
  Turns m tries m' = (b : Book M C R S g) × (m' ≡ (seeing (record m.0 { tries = tries; read = 0 }) b.journal.items Holding, (0, Some b) ∷ m.1)) × Gains m.0.known b.journal.items
      × ((t : Terms M C R S) → m.0.terms ≡ Some t → (b.start.value ≡ t.start.value) × Saw g t m'.0.known)

  -- another seat has the turn
  abbrev pub Misses : Me (Option (Book M C R S g)) (View M C R S) → ℕ → Me (Option (Book M C R S g)) (View M C R S) → Type 0
  Misses m n m' = (m' ≡ (tried m.0 n, m.1)) × (n ≢ m.0.known.number + 1) × (n < 4294967296)

  abbrev pub took : Me (Option (Book M C R S g)) (View M C R S) → ℕ → Me (Option (Book M C R S g)) (View M C R S) → Type 0
  took m n m' = (n ≡ 0 → Turns m (m.0.tries + 1) m') × (n ≢ 0 → Misses m n m')

  -- the journal that the seat has in hand was counted
  abbrev pub counted : Me (Option (Book M C R S g)) (View M C R S) → ℕ → Me (Option (Book M C R S g)) (View M C R S) → Type 0
  counted m n m' = (b : Book M C R S g) → m.1 ≡ (0, Some b) ∷ []
      → (m' ≡ (seeing m.0 b.journal.items Counted, m.1)) × ((t : Terms M C R S) → m.0.terms ≡ Some t → Saw g t m'.0.known)

  abbrev pub freed : Me (Option (Book M C R S g)) (View M C R S) → ℕ → Me (Option (Book M C R S g)) (View M C R S) → Type 0
  freed m n m' = m' ≡ (record m.0 { stage = Resting }, [])

  -- the seat sees the whole history
  abbrev pub loaded : Me (Option (Book M C R S g)) (View M C R S) → ℕ → Me (Option (Book M C R S g)) (View M C R S) → Type 0
  loaded m n m' = (h : List (Entry M C R S)) × (m' ≡ (seeing m.0 h Resting, m.1)) × Gains m.0.known h × (n ≡ length h)
      × ((t : Terms M C R S) → m.0.terms ≡ Some t → Saw g t m'.0.known)

  -- what each of two joined seats has seen begins the one history that was kept, and the seat's own number is none of its others
  abbrev pub compared : Me (Option (Book M C R S g)) (View M C R S) → ℕ → Me (Option (Book M C R S g)) (View M C R S) → Type 0
  compared m n m' = (m' ≡ (record m.0 { stage = Resting }, m.1)) × ((a b : Known M C R S) → m.0.stage ≡ Met a b → Gains a m.0.known.seen × Gains b m.0.known.seen)
      × IsApart m.0.known m.0.known.number
