-- The bytes are those of the characters.
use Rattle.std.proofs.Common.{◌≡◌, List, ℕ, sym, subst, codes, bytes_eq, Decides, chars}
use Rattle.std.proofs.lemmas.Bool.Decides.{same_from_decides}
use Rattle.std.proofs.lemmas.Slice.Eq.{bytes_eq-Decides}
use Rattle.std.proofs.lemmas.Str.{encodes-chars}
use Rattle.std.specs.Str.{str_to_ascii_lowercase}
use Rattle.markup_tags.specs.Instructions.{is_reserved}
use Rattle.markup_tags.proofs.instructions.is_reserved.Goals as goal

pub returns : goal.returns
unfolding is_reserved
returns c =
    let target = c.args.target.now in
    same_from_decides c.eq_ignore_ascii_case.result (is_reserved (chars target)) c.eq_ignore_ascii_case.ensures.test
    (subst (λ (t : List ℕ). Decides (bytes_eq (str_to_ascii_lowercase t) (str_to_ascii_lowercase (codes "xml"))) (str_to_ascii_lowercase target ≡ str_to_ascii_lowercase (codes "xml")))
    (sym (encodes-chars target c.utf8.target)) (bytes_eq-Decides (str_to_ascii_lowercase target) (str_to_ascii_lowercase (codes "xml"))))
