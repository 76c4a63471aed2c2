-- The bytes begin with the encoding of the first character.
use Rattle.std.proofs.Common.{List, ℕ, ◌++◌, sym, ap, ◌∙◌}
use Rattle.std.specs.Char.{encode_utf8}
use Rattle.std.proofs.lemmas.Str.{chars_past_char}
use Rattle.markup_parts.proofs.text.first.Goals as goal

pub returns-clause-first : goal.returns-clause-first
returns-clause-first c =
    chars_past_char c.args.text.now c.as_str.result.now c.in_ok-first.first c.utf8.text
    (sym c.chars-characters.ensures.rest ∙ (c.in_ok-first.ensures.steps.0 ∙ ap (λ (rest : List ℕ). encode_utf8 c.in_ok-first.first ++ rest) (sym c.as_str.ensures)))
