use Rattle.std.proofs.Common.{◌≡◌, ℕ, List, ◌∷◌, sym, ap, ◌∙◌, subst, arith, MatchOption}
use Rattle.script_lang.specs.Parts.{SpellsThen}
use Rattle.script_lang.proofs.SpellLemmas.{bare_then}
use Rattle.script_lang.proofs.escapes.next_char.Goals as goal

pub returns-in-92 : goal.returns-in-92
returns-in-92 c =
    let whole : 0x5c ∷ c.in_ok-first.rest.now ≡ c.args.bytes.now = sym (c.in_ok-first.ensures.cases.0 ∙ ap (λ (d : ℕ). d ∷ c.in_ok-first.rest.now) c.in-92.is) in
    subst (λ (bytes : List ℕ). MatchOption c.escaped_char.result ((d : ℕ) (rest : List ℕ) → SpellsThen bytes d rest → ⊥) (λ found. SpellsThen bytes found.0 found.1.now)) whole c.escaped_char.ensures

pub returns-in-32-to-126 : goal.returns-in-32-to-126
returns-in-32-to-126 c =
    let whole : c.args.bytes.now ≡ c.in_ok-first.first.now ∷ c.in_ok-first.rest.now = c.in_ok-first.ensures.cases.0 in
    bare_then c.args.bytes.now c.in_ok-first.rest.now c.in_ok-first.first.now (omega arith, omega arith) (λ e. omega arith, λ e. omega arith, whole)
