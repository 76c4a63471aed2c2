use Rattle.std.proofs.Common.{◌≡◌, ℕ, List, ◌∷◌, ap, sym, subst, MatchOption}
use Rattle.script_lang.specs.Parts.{SpellsThen}
use Rattle.script_lang.proofs.SpellLemmas.{escaped_then}
use Rattle.script_lang.proofs.escapes.escaped_char.Goals as goal

pub returns-in-Some : goal.returns-in-Some
returns-in-Some c =
    subst (λ (bytes : List ℕ). MatchOption c.numbered_char.result ((d : ℕ) (rest : List ℕ) → SpellsThen (0x5c ∷ bytes) d rest → ⊥) (λ found. SpellsThen (0x5c ∷ bytes) found.0 found.1.now))
    (sym c.in-Some.ensures) c.numbered_char.ensures

pub returns-in-34 : goal.returns-in-34
returns-in-34 c =
    let bytes = c.args.bytes.now in
    let whole : bytes ≡ c.in_ok-first.first.now ∷ c.in_ok-first.rest.now = c.in_ok-first.ensures.cases.0 in
    escaped_then (0x5c ∷ bytes) c.in_ok-first.rest.now c.in_ok-first.first.now (c.in-34.is, ap (λ (bs : List ℕ). 0x5c ∷ bs) whole)
