-- `<` and the name.
use Rattle.std.proofs.Common.{◌∷◌, ◌++◌, ℕ, List, codes, ap, sym, ◌∙◌}
use Rattle.std.proofs.lemmas.List.{append-nil}
use Rattle.std.specs.Str.{chars}
use Rattle.std.specs.String.{string_bytes}
use Rattle.element_text.proofs.AddedLemmas.{more, last}
use Rattle.element_text.proofs.pieces.push_name.Goals as goal

pub returns : goal.returns
unfolding chars
returns c =
    let old = chars (string_bytes c.args.out.now) in
    let less = chars (string_bytes c.push_plain.new.out) in
    let name = chars c.args.name.now in
    last c.push_plain-2.result (chars (string_bytes c.push_plain-2.new.out)) less name c.push_plain-2.ensures
    (more less old (codes "<") c.in_ok-push_plain.ensures name ∙ ap (λ (t : List ℕ). old ++ 0x3c ∷ t) (sym (append-nil name)))
