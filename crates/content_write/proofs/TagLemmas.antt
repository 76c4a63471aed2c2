-- The tags between two lists of spans, by their first ones.
use Rattle.std.proofs.Common.{◌≡◌, ◌<◌, ℕ, Bool, true, false, List, [], ◌∷◌, ◌++◌, length, refl, ap, sym, ◌∙◌, arith}
use Rattle.std.specs.Str.{bytes_eq}
use Rattle.tree_text.proofs.ConstructsWritten.{bytes_same}
use Rattle.content_write.specs.Rest.{starts, ends, tags}
use Rattle.content_write.proofs.SpansWritten.{ends_all}
use Rattle.content_write.proofs.TextLemmas.{bytes_are}

none : {X : Type 0} (xs : List X) → length xs < 1 → xs ≡ []
none [] h = refl
none (x ∷ xs) h = absurd (omega arith)

unequal : (xs ys : List ℕ) → (xs ≡ ys → ⊥) → bytes_eq xs ys ≡ false
unequal xs ys apart = by_test (bytes_eq xs ys) refl where
  by_test : (same : Bool) → bytes_eq xs ys ≡ same → bytes_eq xs ys ≡ false
  by_test true e = absurd (apart (bytes_are xs ys e))
  by_test false e = e

first_apart : (name other : List ℕ) (inner others : List (List ℕ)) → bytes_eq name other ≡ false → tags (name ∷ inner) (other ∷ others) ≡ ends (name ∷ inner) ++ starts (other ∷ others)
first_apart name other inner others e = rw e refl

first_same : (name : List ℕ) (inner others : List (List ℕ)) → tags (name ∷ inner) (name ∷ others) ≡ tags inner others
first_same name inner others = rw (bytes_same name) refl

module _ (ending beginning : List (List ℕ)) (whole : List ℕ) where
  -- no span is open, or none begins
  pub none_ends : length ending < 1 → tags ending beginning ≡ whole → starts beginning ≡ whole
  none_ends h e = ap (λ (names : List (List ℕ)). tags names beginning) (sym (none ending h)) ∙ e

  pub none_begins : length beginning < 1 → tags ending beginning ≡ whole → ends ending ≡ whole
  none_begins h e = sym (ends_all ending) ∙ (ap (tags ending) (sym (none beginning h)) ∙ e)

  module _ (name other : List ℕ) (inner others : List (List ℕ)) (first : ending ≡ name ∷ inner) (next : beginning ≡ other ∷ others) where
    both_are : tags ending beginning ≡ tags (name ∷ inner) (other ∷ others)
    both_are = ap (λ (names : List (List ℕ)). tags names beginning) first ∙ ap (tags (name ∷ inner)) next

    -- the first ones differ, or are the same
    pub all_change : (name ≡ other → ⊥) → tags ending beginning ≡ whole → ends ending ++ starts beginning ≡ whole
    all_change apart e =
        ap (λ (names : List (List ℕ)). ends names ++ starts beginning) first
        ∙ (ap (λ (names : List (List ℕ)). ends (name ∷ inner) ++ starts names) next ∙ (sym (first_apart name other inner others (unequal name other apart)) ∙ (sym both_are ∙ e)))

    pub one_stays : name ≡ other → tags ending beginning ≡ whole → tags inner others ≡ whole
    one_stays same e =
        sym (first_same name inner others) ∙ (ap (λ (n : List ℕ). tags (name ∷ inner) (n ∷ others)) same ∙ (sym both_are ∙ e))
