use Rattle.std.proofs.Common.{ℕ, List, ◌∷◌, [], ◌++◌, length, chars, ap, sym, ◌∙◌, arith, length-append}
use Rattle.std.specs.Prelude.{string_bytes}
use Rattle.std.proofs.lemmas.Str.{IsUtf8-string_bytes}
use Rattle.number_text.proofs.CutLemmas.{cut_full, cut_short, chars_push}
use Rattle.number_text.proofs.cut.CutText.push.Goals as goal

pub returns-then-self-eq0-clause-ok : goal.returns-then-self-eq0-clause-ok
returns-then-self-eq0-clause-ok c = cut_full c.args.self.now (c.args.letter ∷ []) (omega (arith, c.self.invariant, ap (length {A = ℕ}) c.self.view_is, c.if-self-eq0.true))

pub invariant_of-self-2 : goal.invariant_of-self-2
invariant_of-self-2 c =
    let pushed = ap chars c.in_ok-push.ensures.bytes ∙ chars_push (string_bytes c.self.inside.text) c.args.letter (IsUtf8-string_bytes c.self.inside.text) c.ranges.letter.0 in
    let longer = ap (length {A = ℕ}) pushed ∙ length-append (chars (string_bytes c.self.inside.text)) (c.args.letter ∷ []) in
    omega (arith, longer, c.self.invariant, c.if-self-eq0.false)

pub returns-clause-ok : goal.returns-clause-ok
returns-clause-ok c =
    let pushed = ap chars c.in_ok-push.ensures.bytes ∙ chars_push (string_bytes c.self.inside.text) c.args.letter (IsUtf8-string_bytes c.self.inside.text) c.ranges.letter.0 in
    let whole = pushed ∙ ap (λ (cs : List ℕ). cs ++ c.args.letter ∷ []) c.self.view_is in
    whole ∙ sym (cut_short (c.args.self.now ++ c.args.letter ∷ []) (omega (arith, length-append c.args.self.now (c.args.letter ∷ []), c.self.invariant, ap (length {A = ℕ}) c.self.view_is, c.if-self-eq0.false)))
