-- Nothing is written at the start.
use Rattle.markup_tree.specs.Escapes.{escaped_text, IsCharacterData}
use Rattle.markup_parts.specs.Outcomes.{IsRead}
use Rattle.markup_tree.specs.Pieces.{line_ends}
use Rattle.std.proofs.Common.{codes, [], List, ℕ, ◌++◌, chars, string_bytes, sym, ap, subst}
use Rattle.markup_tree.proofs.EscapeLemmas.{started, finished}
use Rattle.markup_tree.proofs.ReadBackLemmas.{data_back}
use Rattle.markup_tree.proofs.escape.escape_text.Goals as goal

pub characters-init : goal.characters-init
characters-init c = (started (string_bytes c.new-out.result) (escaped_text (chars c.args.text.now)) c.new-out.ensures.bytes, c.utf8.text)

pub returns-clause-read_back : goal.returns-clause-read_back
returns-clause-read_back c = λ legal.
    subst (λ (t : List ℕ). IsRead IsCharacterData (t ++ codes "<") (line_ends (chars c.args.text.now)) [])
    (sym (finished (chars (string_bytes c.characters.out)) (escaped_text (chars c.characters.rest.now)) (escaped_text (chars c.args.text.now)) c.characters.invariant.0 (ap escaped_text c.in_default.ensures.first)))
    (data_back (chars c.args.text.now) legal)
