-- The bytes of a text are those of its characters.
use Rattle.std.proofs.Common.{ℕ, ◌-◌, List, length, chars, encode_utf8_all, ap, sym, ◌∙◌}
use Rattle.std.proofs.lemmas.Str.{encodes-chars}
use Rattle.markup_tree.proofs.reader.place.Goals as goal

pub returns-clause-place : goal.returns-clause-place
returns-clause-place c =
    sym (ap (λ (t : List ℕ). length t - length (encode_utf8_all (chars c.args.rest.now))) (encodes-chars c.args.whole.now c.utf8.whole)
    ∙ ap (λ (t : List ℕ). length c.args.whole.now - length t) (encodes-chars c.args.rest.now c.utf8.rest))
