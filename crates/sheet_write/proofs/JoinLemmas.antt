-- What six pieces, one after another, add to a string.
use Rattle.std.proofs.Common.{◌≡◌, ℕ, List, ◌++◌, ◌∙◌, append_assoc, Result, OnOk}
use Rattle.element_text.proofs.AddedLemmas.{more}
use Rattle.value_write.proofs.ChainLemmas.{five}

pub six : {E : Type 0} (result : Result (Unit {0}) E) (new five_is four_is three_is two_is one old a b c d x y : List ℕ) {whole : List ℕ} → one ≡ old ++ a → two_is ≡ one ++ b → three_is ≡ two_is ++ c
    → four_is ≡ three_is ++ d → five_is ≡ four_is ++ x → OnOk result (new ≡ five_is ++ y) → a ++ (b ++ (c ++ (d ++ (x ++ y)))) ≡ whole → OnOk result (new ≡ old ++ whole)
six result new five_is four_is three_is two_is one old a b c d x y e f g k m h is = five result new five_is four_is three_is two_is old (a ++ b) c d x y (f ∙ more one old a e b) g k m h (append_assoc a b (c ++ (d ++ (x ++ y))) ∙ is)
