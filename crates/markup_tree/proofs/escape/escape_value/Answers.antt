-- Nothing is written at the start.
use Rattle.markup_tags.specs.Tags.{IsValue}
use Rattle.markup_parts.specs.Outcomes.{IsRead}
use Rattle.markup_tree.specs.Escapes.{escaped_value}
use Rattle.std.proofs.Common.{[], List, ℕ, ◌++◌, ◌∷◌, chars, string_bytes, sym, ap, subst}
use Rattle.markup_tree.proofs.EscapeLemmas.{started, finished}
use Rattle.markup_tree.proofs.ReadBackLemmas.{value_back}
use Rattle.markup_tree.proofs.escape.escape_value.Goals as goal

pub characters-init : goal.characters-init
characters-init c = (started (string_bytes c.new-out.result) (escaped_value (chars c.args.text.now)) c.new-out.ensures.bytes, c.utf8.text)

pub returns-clause-read_back : goal.returns-clause-read_back
returns-clause-read_back c = λ legal.
    subst (λ (t : List ℕ). IsRead (IsValue 0x22) (t ++ 0x22 ∷ []) (chars c.args.text.now) [])
    (sym (finished (chars (string_bytes c.characters.out)) (escaped_value (chars c.characters.rest.now)) (escaped_value (chars c.args.text.now)) c.characters.invariant.0 (ap escaped_value c.in_default.ensures.first)))
    (value_back (chars c.args.text.now) legal)
