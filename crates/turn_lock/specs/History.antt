-- Histories of a machine: lists of entries, numbered from 1.
use Rattle.std.specs.Prelude.{◌≡◌, ◌==◌, ℕ, ◌+◌, List, [], ◌∷◌, filter}
use Rattle.turn_lock.specs.declared.machine.Entry.{Entry}

module _ {M C R S : Type 0} where
  -- an answered call
  abbrev pub entry : ℕ → ℕ → C → R → Entry M C R S
  entry n caller c r = record { number = n; caller = caller; cmd = c; reply = r }

  -- the entries of one caller, in order
  abbrev pub calls_of : ℕ → List (Entry M C R S) → List (Entry M C R S)
  calls_of caller = filter (λ e. e.caller == caller)

  -- the state of the machine after these calls
  abbrev pub state_after : (S → C → S) → S → List (Entry M C R S) → S
  state_after after s [] = s
  state_after after s (e ∷ es) = state_after after (after s e.cmd) es

  -- entries that follow n others: numbered on from there, each with the reply that the machine gives in its place
  abbrev pub IsLegalAfter : (S → C → R) → (S → C → S) → ℕ → S → List (Entry M C R S) → Type 0
  IsLegalAfter reply after n s [] = Unit {0}
  IsLegalAfter reply after n s (e ∷ es) = (e.number ≡ n + 1) × (e.reply ≡ reply s e.cmd) × IsLegalAfter reply after (n + 1) (after s e.cmd) es

  -- a legal history: numbered from 1, and each reply is the one that the machine gives there, from its start
  abbrev pub IsLegal : (S → C → R) → (S → C → S) → S → List (Entry M C R S) → Type 0
  IsLegal reply after s h = IsLegalAfter reply after 0 s h
