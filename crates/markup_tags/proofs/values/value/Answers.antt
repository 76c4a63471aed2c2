-- The last quote, or one more character.
use Rattle.std.proofs.Common.{◌≡◌, ℕ, List, [], ◌∷◌, ◌++◌, chars, ap, sym, ◌∙◌, subst, arith, rules}
use Rattle.std.proofs.lemmas.List.{append-nil}
use Rattle.std.proofs.lemmas.Str.{chars-append, chars-nil, IsUtf8-string_bytes}
use Rattle.std.specs.String.{string_bytes}
use Rattle.markup_parts.specs.Outcomes.{Found, Stopped, Reads, IsRead}
use Rattle.markup_parts.proofs.ReadsLemmas.{mapped, mapped_more, reads_on}
use Rattle.markup_tags.specs.Tags.{IsValue}
use Rattle.markup_tags.proofs.AttemptLemmas.{mapped_none, pushed_chars}
use Rattle.markup_tags.proofs.ValueLemmas.{value_last, value_char, value_stop}
use Rattle.markup_tags.proofs.ValueRunLemmas.{run_on}
use Rattle.markup_tags.proofs.values.value.Goals as goal

pub characters-init : goal.characters-init
characters-init c =
    let empty : chars (string_bytes c.new-value.result) ≡ [] = ap chars c.new-value.ensures.bytes ∙ chars-nil in (
      omega arith,
      (λ o r. subst (Reads (IsValue c.args.quote) (chars c.args.text.now)) (sym (mapped_none (chars (string_bytes c.new-value.result)) empty o)) r),
      search rules,
    )

pub returns-in-Err-clause-read : goal.returns-in-Err-clause-read
returns-in-Err-clause-read c =
    c.characters.invariant.1 (Stopped c.in-Err.stop) (value_stop c.args.quote (chars c.characters.rest.now) c.in-Err.stop c.in-Err.ensures.read)

pub returns-in-Ok-None-default-clause-read : goal.returns-in-Ok-None-default-clause-read
returns-in-Ok-None-default-clause-read c =
    subst (λ (t : List ℕ). IsRead (IsValue c.args.quote) (chars c.args.text.now) t (chars c.in-Ok-None-default.behind.now)) (append-nil (chars (string_bytes c.characters.value)))
    (c.characters.invariant.1 (Found [] (chars c.in-Ok-None-default.behind.now)) (value_last (rw c.in-Ok-None-default.field-0-0-is at c.in-Ok-None-default.ensures.read)))

pub characters-preserved : goal.characters-preserved
characters-preserved c =
    let text = chars c.args.text.now in
    let front = chars (string_bytes c.characters.value) in
    let char = c.in-Ok-Some-default.c in
    let more : chars (string_bytes c.push.new.self) ≡ front ++ char ∷ [] =
    pushed_chars (string_bytes c.characters.value) (string_bytes c.push.new.self) char (IsUtf8-string_bytes c.characters.value) (IsUtf8-string_bytes c.push.new.self) c.in_ok-push-in-Ok-Some-default.ensures.bytes in (
      omega (arith, c.in-Ok-Some-default.ensures.shorter),
      (λ o r. subst (λ (t : List ℕ). Reads (IsValue c.args.quote) text (mapped (λ (value : List ℕ). t ++ value) o)) (sym more)
          (subst (Reads (IsValue c.args.quote) text) (mapped_more front char o)
          (c.characters.invariant.1 (mapped (λ (cs : List ℕ). char ∷ cs) o)
          (reads_on (value_char (rw c.in-Ok-Some-default.field-0-0-is at c.in-Ok-Some-default.ensures.read)) o r)))),
      search rules,
    )

pub characters-preserved-then-not-is_nothing : goal.characters-preserved-then-not-is_nothing
characters-preserved-then-not-is_nothing c =
    let front = chars (string_bytes c.characters.value) in
    let plain = chars c.run.result.0.now in
    let more : chars (string_bytes c.push_str.new.self) ≡ front ++ plain =
    ap chars c.in_ok-push_str.ensures.bytes ∙ chars-append (string_bytes c.characters.value) c.run.result.0.now (IsUtf8-string_bytes c.characters.value) in (
      omega (arith, c.run.ensures.shorter, c.characters.invariant.0),
      run_on {quote = c.args.quote} {text = chars c.args.text.now} {rest = chars c.characters.rest.now} front plain (chars c.run.result.1.now) _ c.requires c.run.ensures.text c.run.ensures.all more c.characters.invariant.1,
      search rules,
    )
