-- Texts that are the same.
use Rattle.std.proofs.Common.{◌≡◌, ℕ, List, sym}
use Rattle.std.specs.Str.{bytes_eq}
use Rattle.std.proofs.lemmas.Bool.Decides.{same_from_decides}
use Rattle.std.proofs.lemmas.Slice.Eq.{bytes_eq-Decides}

pub same_back : (text other : List ℕ) → bytes_eq text other ≡ bytes_eq other text
same_back text other =
    let d = bytes_eq-Decides text other in
    let e = bytes_eq-Decides other text in
    same_from_decides {P = text ≡ other} (bytes_eq text other) (bytes_eq other text) d ((λ t. sym (e.0 t)), (λ s. e.1 (sym s)))
