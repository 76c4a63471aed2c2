-- Texts are the same where their characters are, and lists of names where their names are.

use Rattle.std.proofs.Common.{◌≡◌, List, ℕ, chars, ap, sym, ◌∙◌, IsTrue, ◌↔◌}
use Rattle.std.specs.Cmp.Lexicographic.{pointwise, pointwise_decides}
use Rattle.std.specs.Str.{bytes_eq, IsUtf8}
use Rattle.std.proofs.lemmas.Bool.Decides.{same_from_decides}
use Rattle.std.proofs.lemmas.Slice.Eq.{bytes_eq-Decides}
use Rattle.std.proofs.lemmas.Str.{encodes-chars}
use Rattle.std.proofs.Math.Utf8.{encodes}

pub same_chars : (xs ys : List ℕ) → IsUtf8 xs → IsUtf8 ys → bytes_eq xs ys ≡ bytes_eq (chars xs) (chars ys)
same_chars xs ys p q =
    let d = bytes_eq-Decides xs ys in
    let e = bytes_eq-Decides (chars xs) (chars ys) in
    same_from_decides {P = xs ≡ ys} (bytes_eq xs ys) (bytes_eq (chars xs) (chars ys)) d
    ((λ t. sym (encodes-chars xs p) ∙ ap encodes (e.0 t) ∙ encodes-chars ys q), (λ s. e.1 (ap chars s)))

pub same_names : (xs ys : List (List ℕ)) → IsTrue (pointwise bytes_eq xs ys) ↔ (xs ≡ ys)
same_names xs ys = search (pointwise_decides bytes_eq-Decides xs ys)
