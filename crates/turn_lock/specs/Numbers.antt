-- The numbers of a seat, and what a history gains beyond what a seat has seen.
use Rattle.std.specs.Prelude.{◌≡◌, ◌⊎◌, ℕ, zero, suc, ◌<◌, ◌≤◌, List, [], ◌∷◌, ◌++◌, Contains}
use Rattle.turn_lock.specs.declared.machine.Entry.{Entry}
use Rattle.turn_lock.specs.declared.view.Known.{Known}
use Rattle.turn_lock.specs.History.{calls_of}

-- 1 to n
abbrev pub one_to : ℕ → List ℕ
one_to zero = []
one_to (suc n) = one_to n ++ suc n ∷ []

module _ {M C R S : Type 0} where
  -- a number that the seat has yet to give
  abbrev pub IsUngiven : Known M C R S → ℕ → Type 0
  IsUngiven k n = (0 < n) × (n ≤ k.left)

  -- one of the seat's numbers: its own, one that it has yet to give, or one that was joined to it
  abbrev pub Has : Known M C R S → ℕ → Type 0
  Has k n = (n ≡ k.number) ⊎ (IsUngiven k n ⊎ Contains k.joined n)

  -- the number is neither one that the seat has yet to give nor one that was joined to it
  pub record IsApart (k : Known M C R S) (n : ℕ) : Type 0 where
    pub ungiven : ¬ IsUngiven k n
    pub joined : ¬ Contains k.joined n

  -- all numbers of a seat
  abbrev pub numbers_of : Known M C R S → List ℕ
  numbers_of k = k.number ∷ (one_to k.left ++ k.joined)

  abbrev pub SameNumbers : Known M C R S → Known M C R S → Type 0
  SameNumbers k l = (l.number ≡ k.number) × (l.left ≡ k.left) × (l.joined ≡ k.joined)

  -- no entry has one of the seat's numbers
  abbrev pub HasNoneOf : Known M C R S → List (Entry M C R S) → Type 0
  HasNoneOf k es = (n : ℕ) → Has k n → calls_of n es ≡ []

  -- the history begins with what the seat has seen, and no later entry has one of the seat's numbers
  abbrev pub Gains : Known M C R S → List (Entry M C R S) → Type 0
  Gains k h = (more : List (Entry M C R S)) × (h ≡ k.seen ++ more) × HasNoneOf k more
