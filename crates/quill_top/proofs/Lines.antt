-- The lines of scripts: a script has no bad line, and one line is the first bad one.
use Rattle.std.proofs.Common.{◌≡◌, ℕ, ◌+◌, suc, List, [], ◌∷◌, ◌++◌, length, refl, sym, ap, ◌∙◌, subst, inl, inr, arith}
use Rattle.std.specs.List.{AllByRecursion as Each}
use Rattle.desk_model.specs.declared.script.Numbered.{Numbered}
use Rattle.desk_model.specs.Script.{IsBadLine, AreCommandsFrom, IsScript, IsFirstBadLine}

no_bad_line : (number : ℕ) (before : List (List ℕ)) (line : List ℕ) (after : List (List ℕ)) (commands : List Numbered)
    → IsBadLine line → AreCommandsFrom number (before ++ line ∷ after) commands → ⊥
no_bad_line number [] line after [] bad are = bad.0 are.0
no_bad_line number [] line after (command ∷ commands) bad (inl are) = bad.0 are.0
no_bad_line number [] line after (command ∷ commands) bad (inr are) = bad.1 command.command are.2
no_bad_line number (first ∷ before) line after [] bad are = no_bad_line (number + 1) before line after [] bad are.1
no_bad_line number (first ∷ before) line after (command ∷ commands) bad (inl are) = no_bad_line (number + 1) before line after (command ∷ commands) bad are.1
no_bad_line number (first ∷ before) line after (command ∷ commands) bad (inr are) = no_bad_line (number + 1) before line after commands bad are.3

-- a script has no bad line
pub no_first_bad_line : (bytes : List ℕ) (commands : List Numbered) (number : ℕ) → IsScript bytes commands → IsFirstBadLine bytes number → ⊥
no_first_bad_line bytes commands number is bad =
    no_bad_line 1 bad.0 bad.1 bad.2 commands bad.5 (subst (λ (all : List (List ℕ)). AreCommandsFrom 1 all commands) bad.3 is)

-- no line of these is bad
abbrev AreGood : List (List ℕ) → Type 0
AreGood lines = Each (λ line. IsBadLine line → ⊥) lines

one_front : (front other : List (List ℕ)) (line another : List ℕ) (after rest : List (List ℕ)) → front ++ line ∷ after ≡ other ++ another ∷ rest
    → IsBadLine line → IsBadLine another → AreGood front → AreGood other → length front ≡ length other
one_front [] [] line another after rest same bad too good fine = refl
one_front [] (first ∷ other) line another after rest same bad too good fine =
    let e : line ≡ first = cc in absurd (fine.0 (subst (λ (l : List ℕ). IsBadLine l) e bad))
one_front (first ∷ front) [] line another after rest same bad too good fine =
    let e : another ≡ first = cc in absurd (good.0 (subst (λ (l : List ℕ). IsBadLine l) e too))
one_front (first ∷ front) (second ∷ other) line another after rest same bad too good fine =
    let e : front ++ line ∷ after ≡ other ++ another ∷ rest = cc in
    ap suc (one_front front other line another after rest e bad too good.1 fine.1)

-- the first bad line has one number
pub one_first_bad_line : (bytes : List ℕ) (number other : ℕ) → IsFirstBadLine bytes number → IsFirstBadLine bytes other → other ≡ number
one_first_bad_line bytes number other bad too =
    let e = one_front bad.0 too.0 bad.1 too.1 bad.2 too.2 (sym bad.3 ∙ too.3) bad.5 too.5 bad.6 too.6 in
    omega (arith, e, bad.4, too.4)
