-- What several pieces, one after another, add to a string.
use Rattle.std.proofs.Common.{◌≡◌, ℕ, List, ◌++◌, ap, ◌∙◌, append_assoc, Result, OnOk}
use Rattle.element_text.proofs.AddedLemmas.{more, last}

pub two : {E : Type 0} (result : Result (Unit {0}) E) (new one old a b : List ℕ) {whole : List ℕ} → one ≡ old ++ a → OnOk result (new ≡ one ++ b) → a ++ b ≡ whole → OnOk result (new ≡ old ++ whole)
two result new one old a b e h f = last result new one b h (more one old a e b ∙ ap (λ (t : List ℕ). old ++ t) f)

pub three : {E : Type 0} (result : Result (Unit {0}) E) (new two_is one old a b c : List ℕ) {whole : List ℕ} → one ≡ old ++ a → two_is ≡ one ++ b → OnOk result (new ≡ two_is ++ c)
    → a ++ (b ++ c) ≡ whole → OnOk result (new ≡ old ++ whole)
three result new two_is one old a b c e f h is = two result new two_is old (a ++ b) c (f ∙ more one old a e b) h (append_assoc a b c ∙ is)

pub four : {E : Type 0} (result : Result (Unit {0}) E) (new three_is two_is one old a b c d : List ℕ) {whole : List ℕ} → one ≡ old ++ a → two_is ≡ one ++ b → three_is ≡ two_is ++ c
    → OnOk result (new ≡ three_is ++ d) → a ++ (b ++ (c ++ d)) ≡ whole → OnOk result (new ≡ old ++ whole)
four result new three_is two_is one old a b c d e f g h is = three result new three_is two_is old (a ++ b) c d (f ∙ more one old a e b) g h (append_assoc a b (c ++ d) ∙ is)

pub five : {E : Type 0} (result : Result (Unit {0}) E) (new four_is three_is two_is one old a b c d x : List ℕ) {whole : List ℕ} → one ≡ old ++ a → two_is ≡ one ++ b → three_is ≡ two_is ++ c
    → four_is ≡ three_is ++ d → OnOk result (new ≡ four_is ++ x) → a ++ (b ++ (c ++ (d ++ x))) ≡ whole → OnOk result (new ≡ old ++ whole)
five result new four_is three_is two_is one old a b c d x e f g k h is = four result new four_is three_is two_is old (a ++ b) c d x (f ∙ more one old a e b) g k h (append_assoc a b (c ++ (d ++ x)) ∙ is)
