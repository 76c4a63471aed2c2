use Rattle.std.proofs.Common.{◌≡◌, ◌++◌, ℕ, List, [], ◌∷◌, sym, ap, ◌∙◌, subst, arith}
use Rattle.std.specs.Prelude.{OnOk}
use Rattle.script_lang.proofs.PrintLemmas.{hex_one, hex_two}
use Rattle.script_lang.proofs.quotes.push_hex.Goals as goal

pub returns-then-number-lt16-clause-ok : goal.returns-then-number-lt16-clause-ok
returns-then-number-lt16-clause-ok c =
    subst (λ (bytes : List ℕ). OnOk c.push_bytes.result (c.push_bytes.new.out.items ≡ c.args.out.now.items ++ bytes))
    (ap (λ (digit : ℕ). digit ∷ []) c.hex_digit.ensures ∙ sym (hex_one c.args.number (omega arith))) c.push_bytes.ensures.ok

pub returns-else-number-lt16-clause-ok : goal.returns-else-number-lt16-clause-ok
returns-else-number-lt16-clause-ok c =
    subst (λ (bytes : List ℕ). OnOk c.push_bytes-else-number-lt16.result (c.push_bytes-else-number-lt16.new.out.items ≡ c.args.out.now.items ++ bytes))
    (ap (λ (digit : ℕ). 0x31 ∷ digit ∷ []) c.hex_digit-else-number-lt16.ensures ∙ sym (hex_two c.args.number (omega arith) (omega arith))) c.push_bytes-else-number-lt16.ensures.ok
