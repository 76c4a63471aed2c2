use Rattle.std.proofs.Common.{◌≡◌, ℕ, List, [], ◌∷◌, ◌++◌, ap, sym, ◌∙◌, subst, arith, chars, string_bytes}
use Rattle.std.specs.Char.{encode_utf8}
use Rattle.std.proofs.lemmas.Str.{chars-nil, IsUtf8-string_bytes}
use Rattle.std.proofs.lemmas.Bool.Decides.{nat_tests}
use Rattle.script_lang.proofs.SpellLemmas.{HasSpelled, nothing_spelled, char_spelled, chars_push, no_text, no_empty}
use Rattle.script_lang.proofs.texts.read_text.Goals as goal

pub chars-init : goal.chars-init
chars-init c = subst (λ (text : List ℕ). HasSpelled c.args.bytes.now c.args.bytes.now text) (sym (ap chars c.new-text.ensures.bytes ∙ chars-nil)) (nothing_spelled c.args.bytes.now)

pub chars-preserved : goal.chars-preserved
chars-preserved c =
    let bytes = c.args.bytes.now in
    let text = string_bytes c.chars.text in
    let spells = c.in-Some.ensures in
    let same : chars (string_bytes c.push.new.self) ≡ chars text ++ c.in-Some.c ∷ [] =
    ap chars (c.in_ok-push-in-Some.ensures.bytes ∙ ap (λ (d : ℕ). text ++ encode_utf8 d) c.from.ensures)
    ∙ chars_push text c.in-Some.c (IsUtf8-string_bytes c.chars.text) (omega (arith, spells.2.1)) in
    subst (λ (read : List ℕ). HasSpelled bytes c.in-Some.after.now read) (sym same)
    (char_spelled bytes c.chars.rest.now (chars text) c.in-Some.after.now c.in-Some.c c.chars.invariant spells)

pub returns-in-None : goal.returns-in-None
returns-in-None c = λ text h. no_text c.args.bytes.now c.chars.rest.now (chars (string_bytes c.chars.text)) text c.chars.invariant (grind (arith, nat_tests)) c.in-None.ensures h

pub returns-then-is_empty : goal.returns-then-is_empty
returns-then-is_empty c = λ text h. no_empty c.args.bytes.now text (grind (arith, nat_tests)) h
