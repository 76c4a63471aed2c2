-- A script is one list of commands at most, and how it is read line by line.
use Rattle.std.proofs.Common.{◌≡◌, ℕ, ◌+◌, List, [], ◌∷◌, ◌++◌, length, refl, ap, sym, ◌∙◌, subst, inl, inr, append_assoc, append-nil}
use Rattle.std.specs.List.{AllByRecursion as Each}
use Rattle.std.proofs.lemmas.List.{length_push}
use Rattle.desk_model.specs.declared.script.ScriptCommand.{ScriptCommand}
use Rattle.desk_model.specs.declared.script.Numbered.{Numbered}
use Rattle.desk_model.specs.Script.{IsCommandLine, IsSkipped, IsBadLine, AreCommandsFrom}
use Rattle.script_lang.specs.declared.script.ScriptFault.{ScriptFault}
use Rattle.script_lang.specs.declared.script.ScriptFault.TheVariants.{BadLine, NoMemory}
use Rattle.script_lang.specs.Fault.{OnBadLine}
use Rattle.script_lang.specs.Parts.{AddsLine}
use Rattle.script_lang.proofs.CommandLemmas.{command_same}

numbered_same : (line : List ℕ) (number : ℕ) (one other : Numbered) → one.line ≡ number → other.line ≡ number → IsCommandLine line one.command → IsCommandLine line other.command → other ≡ one
numbered_same line number one other p q r s =
    ap (λ (n : ℕ). record { line = n; command = other.command }) (q ∙ sym p)
    ∙ ap (λ (command : ScriptCommand). record { line = one.line; command = command }) (command_same line one.command other.command r s)

-- lines are one list of commands at most
pub commands_same : (number : ℕ) (lines : List (List ℕ)) (script other : List Numbered) → AreCommandsFrom number lines script → AreCommandsFrom number lines other → other ≡ script
commands_same number [] script other p q = q ∙ sym p
commands_same number (line ∷ lines) [] [] p q = refl
commands_same number (line ∷ lines) [] (b ∷ other) p q =
    elim q [ inl w ↦ commands_same (number + 1) lines [] (b ∷ other) p.1 w.1 | inr w ↦ absurd (w.0 p.0) ]
commands_same number (line ∷ lines) (a ∷ script) [] p q =
    elim p [ inl v ↦ commands_same (number + 1) lines (a ∷ script) [] v.1 q.1 | inr v ↦ absurd (v.0 q.0) ]
commands_same number (line ∷ lines) (a ∷ script) (b ∷ other) p q =
    elim p [
      | inl v ↦ elim q [ inl w ↦ commands_same (number + 1) lines (a ∷ script) (b ∷ other) v.1 w.1 | inr w ↦ absurd (w.0 v.0) ]
      | inr v ↦ elim q [
        | inl w ↦ absurd (v.0 w.0)
        | inr w ↦ ap (λ (c : Numbered). c ∷ other) (numbered_same line number a b v.1 w.1 v.2 w.2)
            ∙ ap (λ (cs : List Numbered). a ∷ cs) (commands_same (number + 1) lines script other v.3 w.3)
      ]
    ]

-- lines with a bad one are no script
pub bad_none : (number : ℕ) (before : List (List ℕ)) (line : List ℕ) (after : List (List ℕ)) (script : List Numbered) → IsBadLine line → AreCommandsFrom number (before ++ line ∷ after) script → ⊥
bad_none number [] line after [] bad h = bad.0 h.0
bad_none number [] line after (c ∷ script) bad h = elim h [ inl w ↦ bad.0 w.0 | inr w ↦ bad.1 c.command w.2 ]
bad_none number (other ∷ before) line after [] bad h = bad_none (number + 1) before line after [] bad h.1
bad_none number (other ∷ before) line after (c ∷ script) bad h =
    elim h [ inl w ↦ bad_none (number + 1) before line after (c ∷ script) bad w.1 | inr w ↦ bad_none (number + 1) before line after script bad w.3 ]

-- of all lines those before the rest are read, so many, and are these commands
pub record HasRead (all rest : List (List ℕ)) (number : ℕ) (commands : List Numbered) : Type 0 where
  pub before : List (List ℕ)
  pub parts : all ≡ before ++ rest
  pub count : length before ≡ number
  pub good : Each (λ line. IsBadLine line → ⊥) before
  pub onward : (later : List Numbered) → AreCommandsFrom (number + 1) rest later → AreCommandsFrom 1 all (commands ++ later)

pub nothing_read : (all : List (List ℕ)) → HasRead all all 0 []
nothing_read all = record { before = []; parts = refl; count = refl; good = tt; onward = λ later h. h }

skipped_more : (number : ℕ) (line : List ℕ) (lines : List (List ℕ)) (later : List Numbered) → IsSkipped line → AreCommandsFrom (number + 1) lines later → AreCommandsFrom number (line ∷ lines) later
skipped_more number line lines [] skipped h = (skipped, h)
skipped_more number line lines (c ∷ later) skipped h = inl (skipped, h)

Each-push : {X : Type 0} (P : X → Type 0) (xs : List X) (x : X) → Each P xs → P x → Each P (xs ++ x ∷ [])
Each-push P [] x each h = (h, tt)
Each-push P (y ∷ xs) x each h = (each.0, Each-push P xs x each.1 h)

adds_good : (number : ℕ) (line : List ℕ) (old new : List Numbered) → AddsLine number line old new → IsBadLine line → ⊥
adds_good number line old new adds bad = elim adds [ inl w ↦ bad.0 w.0 | inr w ↦ bad.1 w.1 w.2 ]

adds_onward : (number : ℕ) (line : List ℕ) (lines : List (List ℕ)) (old new : List Numbered) (all : List (List ℕ)) → AddsLine number line old new
    → ((later : List Numbered) → AreCommandsFrom number (line ∷ lines) later → AreCommandsFrom 1 all (old ++ later))
    → (later : List Numbered) → AreCommandsFrom (number + 1) lines later → AreCommandsFrom 1 all (new ++ later)
adds_onward number line lines old new all adds onward later h =
    elim adds [
      | inl w ↦ subst (λ (cs : List Numbered). AreCommandsFrom 1 all (cs ++ later)) (sym w.1) (onward later (skipped_more number line lines later w.0 h))
      | inr w ↦
          let numbered : Numbered = record { line = number; command = w.1 } in
          let joined : new ++ later ≡ old ++ numbered ∷ later = ap (λ (cs : List Numbered). cs ++ later) w.3 ∙ append_assoc old (numbered ∷ []) later in
          subst (λ (cs : List Numbered). AreCommandsFrom 1 all cs) (sym joined) (onward (numbered ∷ later) (inr (w.0, refl, w.2, h)))
    ]

-- one more line is read
pub line_read : (all rest : List (List ℕ)) (line : List ℕ) (number : ℕ) (old new : List Numbered) → HasRead all (line ∷ rest) number old → AddsLine (number + 1) line old new → HasRead all rest (number + 1) new
line_read all rest line number old new read adds = record {
  before = read.before ++ line ∷ [];
  parts = read.parts ∙ sym (append_assoc read.before (line ∷ []) rest);
  count = length_push read.before line ∙ ap (λ (n : ℕ). n + 1) read.count;
  good = Each-push (λ other. IsBadLine other → ⊥) read.before line read.good (adds_good (number + 1) line old new adds);
  onward = adds_onward (number + 1) line rest old new all adds read.onward;
}

-- all lines are read
pub all_read : (all rest : List (List ℕ)) (number : ℕ) (commands : List Numbered) → HasRead all rest number commands → rest ≡ [] → AreCommandsFrom 1 all commands
all_read all rest number commands read none =
    let ended = subst (λ (lines : List (List ℕ)). AreCommandsFrom (number + 1) lines []) (sym none) refl in
    subst (λ (cs : List Numbered). AreCommandsFrom 1 all cs) (append-nil commands) (read.onward [] ended)

-- where the next line is bad there is no script
pub no_script : (all rest : List (List ℕ)) (line : List ℕ) (number : ℕ) (commands script : List Numbered) → HasRead all (line ∷ rest) number commands → IsBadLine line → AreCommandsFrom 1 all script → ⊥
no_script all rest line number commands script read bad h =
    bad_none 1 read.before line rest script bad (subst (λ (lines : List (List ℕ)). AreCommandsFrom 1 lines script) read.parts h)

pub OnBadLine-weaker : (P Q : ℕ → Type 0) → ((number : ℕ) → P number → Q number) → (fault : ScriptFault) → OnBadLine P fault → OnBadLine Q fault
OnBadLine-weaker P Q weaker (BadLine number) h = weaker number h
OnBadLine-weaker P Q weaker NoMemory h = tt
