-- Spaces and what items are.
use Rattle.std.proofs.Common.{◌≡◌, ◌≢◌, ℕ, [], ◌∷◌, ◌++◌, codes, decimal, refl, subst, zero, suc, Option, Some}
use Rattle.std.specs.Prelude.{MatchOption}
use Rattle.std.specs.List.{flat_map}
use Rattle.tree_text.specs.Writing.{attr_text, tag_text}
use Rattle.written_model.specs.Elements.{attribute}
use Rattle.value_write.proofs.ElementLemmas.{empty_one}
use Rattle.content_write.specs.Rest.{spaces_text}

-- more spaces than one
pub many_spaces : (count : ℕ) → count ≢ 0 → count ≢ 1 → tag_text (codes "text:s") [] ++ (flat_map attr_text (attribute (codes "text:c") (decimal count) ∷ []) ++ codes "/>") ≡ spaces_text count
many_spaces zero some more = absurd (some refl)
many_spaces (suc zero) some more = absurd (more refl)
many_spaces (suc (suc n)) some more = empty_one (codes "text:s") (attribute (codes "text:c") (decimal (suc (suc n))) ∷ [])

-- what is said of what is there
pub some_is : {X : Type 0} (found : Option X) (x : X) (P : Type 0) (Q : X → Type 0) → found ≡ Some x → MatchOption found P Q → Q x
some_is {X} found x P Q e h = subst (λ (o : Option X). MatchOption o P Q) e h
