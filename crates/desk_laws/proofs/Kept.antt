-- What a command that is no change keeps.
use Rattle.std.proofs.Common.{◌≡◌, ℕ, ◌≤◌, Bool, true, false, List, [], ◌∷◌, refl, ap, ◌∙◌, arith, Option, Some}
use Rattle.std.specs.Prelude.{if◌then◌else◌, ◌==◌}
use Rattle.std.specs.List.{AllByRecursion as Each}
use Rattle.std.specs.Option.{option_map}
use Rattle.line_model.specs.declared.key.Key.{Key}
use Rattle.round_model.specs.Idle.{Live, live_at, with_live}
use Rattle.desk_model.specs.Desk.{State}

-- the version that last touched the paragraph with this number, if it is live
abbrev pub revision_at : ℕ → List Live → Option ℕ
revision_at number live = option_map (λ (found : Live). found.revision) (live_at number live)

-- a state after a command that is no change
pub record IsKept (old new : State) : Type 0 where
  pub past : new.past ≡ old.past
  pub next : new.next ≡ old.next
  pub version : new.version ≡ old.version
  pub epoch : new.idle.epoch ≡ old.idle.epoch
  pub debt : new.idle.debt ≤ old.idle.debt
  pub revisions : (number : ℕ) → revision_at number new.idle.live ≡ revision_at number old.idle.live
  pub each : (bound : ℕ) → Each (λ live. live.revision ≤ bound) old.idle.live → Each (λ live. live.revision ≤ bound) new.idle.live

pub IsKept-same : (state : State) → IsKept state state
IsKept-same state = record { past = refl; next = refl; version = refl; epoch = refl; debt = omega arith; revisions = λ number. refl; each = λ bound each. each }

revision_of_found : (here is : Bool) (live : Live) (keys : List Key) (found later : List Live) (number : ℕ) → revision_at number later ≡ revision_at number found
    → option_map (λ (found : Live). found.revision) (if here then Some (if is then record live { keys = keys } else live) else live_at number later)
    ≡ option_map (λ (found : Live). found.revision) (if here then Some live else live_at number found)
revision_of_found true true live keys found later number e = refl
revision_of_found true false live keys found later number e = refl
revision_of_found false is live keys found later number e = e

par_of : (is : Bool) (live : Live) (keys : List Key) → (if is then record live { keys = keys } else live).par ≡ live.par
par_of true live keys = refl
par_of false live keys = refl

pub revision_at-with_live : (number par : ℕ) (keys : Live → List Key) (lives : List Live) → revision_at number (with_live par (λ live. record live { keys = keys live }) lives) ≡ revision_at number lives
revision_at-with_live number par keys [] = refl
revision_at-with_live number par keys (live ∷ lives) =
    ap (λ (n : ℕ). option_map (λ (found : Live). found.revision) (if n == number then Some (if live.par == par then record live { keys = keys live } else live) else live_at number (with_live par (λ live. record live { keys = keys live }) lives))) (par_of (live.par == par) live (keys live))
    ∙ revision_of_found (live.par == number) (live.par == par) live (keys live) lives (with_live par (λ live. record live { keys = keys live }) lives) number (revision_at-with_live number par keys lives)

revision_le : (is : Bool) (live : Live) (keys : List Key) (bound : ℕ) → live.revision ≤ bound → (if is then record live { keys = keys } else live).revision ≤ bound
revision_le true live keys bound h = h
revision_le false live keys bound h = h

pub Each-with_live : (bound par : ℕ) (keys : Live → List Key) (lives : List Live) → Each (λ live. live.revision ≤ bound) lives
    → Each (λ live. live.revision ≤ bound) (with_live par (λ live. record live { keys = keys live }) lives)
Each-with_live bound par keys [] each = tt
Each-with_live bound par keys (live ∷ lives) each = (revision_le (live.par == par) live (keys live) bound each.0, Each-with_live bound par keys lives each.1)
