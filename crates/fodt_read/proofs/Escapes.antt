-- What entities and the element for spaces begin with, and what follows.
use Rattle.std.proofs.Common.{◌≡◌, ◌≢◌, ℕ, ◌≤◌, List, ◌++◌, get_or, refl, ap, sym, ◌∙◌, arith, zero, suc, append_assoc, inl, inr}
use Rattle.std.specs.Prelude.{codes, decimal}
use Rattle.std.proofs.lemmas.List.{append_cancel_left}
use Rattle.spelling_model.specs.declared.pieces.TheConstants.{SPACE, SPACES, SPACES_END}
use Rattle.spelling_model.specs.Spelling.{escaped, spaces}
use Rattle.fodt_read.specs.PlainText.{IsEntity}

-- two texts that begin with different entities differ in their second byte
apart : (left right : List ℕ) → left ≡ right → (get_or left 1 0 ≡ get_or right 1 0 → ⊥) → ⊥
apart left right e differ = differ (ap (λ (xs : List ℕ). get_or xs 1 0) e)

pub entity_and : (c : ℕ) (bytes more rest : List ℕ) → IsEntity c → bytes ≡ escaped c ++ more → bytes ≡ codes "&amp;" ++ rest → (0x26 ≡ c) × (rest ≡ more)
unfolding escaped
entity_and c bytes more rest (inl is) e found = (sym is, append_cancel_left (codes "&amp;") rest more (sym found ∙ e ∙ ap (λ (x : ℕ). escaped x ++ more) is))
entity_and c bytes more rest (inr (inl is)) e found = absurd (apart (codes "&amp;" ++ rest) (codes "&lt;" ++ more) (sym found ∙ e ∙ ap (λ (x : ℕ). escaped x ++ more) is) (λ same. absurd (omega (arith, same))))
entity_and c bytes more rest (inr (inr is)) e found = absurd (apart (codes "&amp;" ++ rest) (codes "&gt;" ++ more) (sym found ∙ e ∙ ap (λ (x : ℕ). escaped x ++ more) is) (λ same. absurd (omega (arith, same))))

pub entity_less : (c : ℕ) (bytes more rest : List ℕ) → IsEntity c → bytes ≡ escaped c ++ more → bytes ≡ codes "&lt;" ++ rest → (0x3c ≡ c) × (rest ≡ more)
unfolding escaped
entity_less c bytes more rest (inl is) e found = absurd (apart (codes "&lt;" ++ rest) (codes "&amp;" ++ more) (sym found ∙ e ∙ ap (λ (x : ℕ). escaped x ++ more) is) (λ same. absurd (omega (arith, same))))
entity_less c bytes more rest (inr (inl is)) e found = (sym is, append_cancel_left (codes "&lt;") rest more (sym found ∙ e ∙ ap (λ (x : ℕ). escaped x ++ more) is))
entity_less c bytes more rest (inr (inr is)) e found = absurd (apart (codes "&lt;" ++ rest) (codes "&gt;" ++ more) (sym found ∙ e ∙ ap (λ (x : ℕ). escaped x ++ more) is) (λ same. absurd (omega (arith, same))))

pub entity_greater : (c : ℕ) (bytes more rest : List ℕ) → IsEntity c → bytes ≡ escaped c ++ more → bytes ≡ codes "&gt;" ++ rest → (0x3e ≡ c) × (rest ≡ more)
unfolding escaped
entity_greater c bytes more rest (inl is) e found = absurd (apart (codes "&gt;" ++ rest) (codes "&amp;" ++ more) (sym found ∙ e ∙ ap (λ (x : ℕ). escaped x ++ more) is) (λ same. absurd (omega (arith, same))))
entity_greater c bytes more rest (inr (inl is)) e found = absurd (apart (codes "&gt;" ++ rest) (codes "&lt;" ++ more) (sym found ∙ e ∙ ap (λ (x : ℕ). escaped x ++ more) is) (λ same. absurd (omega (arith, same))))
entity_greater c bytes more rest (inr (inr is)) e found = (sym is, append_cancel_left (codes "&gt;") rest more (sym found ∙ e ∙ ap (λ (x : ℕ). escaped x ++ more) is))

-- an entity is one of three
pub entity_known : (c : ℕ) (bytes more : List ℕ) → IsEntity c → bytes ≡ escaped c ++ more
    → ((rest : List ℕ) → bytes ≢ codes "&amp;" ++ rest) → ((rest : List ℕ) → bytes ≢ codes "&lt;" ++ rest) → ((rest : List ℕ) → bytes ≢ codes "&gt;" ++ rest) → ⊥
unfolding escaped
entity_known c bytes more (inl is) e no_and no_less no_greater = no_and more (e ∙ ap (λ (x : ℕ). escaped x ++ more) is)
entity_known c bytes more (inr (inl is)) e no_and no_less no_greater = no_less more (e ∙ ap (λ (x : ℕ). escaped x ++ more) is)
entity_known c bytes more (inr (inr is)) e no_and no_less no_greater = no_greater more (e ∙ ap (λ (x : ℕ). escaped x ++ more) is)

-- one space
pub spaces_one : (count : ℕ) (bytes more rest : List ℕ) → 1 ≤ count → bytes ≡ spaces count ++ more → bytes ≡ SPACE.now ++ rest → (1 ≡ count) × (rest ≡ more)
unfolding spaces
spaces_one zero bytes more rest some e found = absurd (omega arith)
spaces_one (suc zero) bytes more rest some e found = (refl, append_cancel_left SPACE.now rest more (sym found ∙ e))
spaces_one (suc (suc count)) bytes more rest some e found = absurd (omega (arith, ap (λ (xs : List ℕ). get_or xs 7 0) (sym found ∙ e)))

-- several spaces
pub spaces_many : (count : ℕ) (bytes more : List ℕ) → 1 ≤ count → bytes ≡ spaces count ++ more → ((rest : List ℕ) → bytes ≢ SPACE.now ++ rest)
    → bytes ≡ SPACES.now ++ (decimal count ++ (SPACES_END.now ++ more))
unfolding spaces
spaces_many zero bytes more some e not_one = absurd (omega arith)
spaces_many (suc zero) bytes more some e not_one = absurd (not_one more e)
spaces_many (suc (suc count)) bytes more some e not_one =
    e ∙ append_assoc (SPACES.now ++ decimal (suc (suc count))) SPACES_END.now more ∙ append_assoc SPACES.now (decimal (suc (suc count))) (SPACES_END.now ++ more)
