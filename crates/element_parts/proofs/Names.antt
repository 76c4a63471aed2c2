-- Names that are kept as texts.
use Rattle.std.proofs.Common.{◌≡◌, ℕ, false, cond, ◌||◌, List, [], ◌∷◌, ◌++◌, map, refl, sym, ap, ap₂, ◌∙◌, String, string_bytes, IsUtf8}
use Rattle.std.specs.List.{list_any}
use Rattle.std.specs.Str.{bytes_eq, chars}
use Rattle.std.proofs.lemmas.Bool.Decides.{same_from_decides, Decides-like}
use Rattle.std.proofs.lemmas.List.{map-append}
use Rattle.std.proofs.lemmas.Slice.Eq.{bytes_eq-Decides}
use Rattle.std.proofs.lemmas.Str.{IsUtf8-string_bytes}
use Rattle.doc_model.proofs.SameText.{same_chars}
use Rattle.load_model.specs.Left.{is_one_of}

pub either_text : (xs ys : List ℕ) → bytes_eq xs ys ≡ bytes_eq ys xs
either_text xs ys = same_from_decides (bytes_eq xs ys) (bytes_eq ys xs) (bytes_eq-Decides xs ys) (Decides-like (bytes_eq ys xs) (λ e. sym e) (λ e. sym e) (bytes_eq-Decides ys xs))

module _ {Z : Type 0} where
  abbrev pub characters : String Z → List ℕ
  characters name = chars (string_bytes name)

  -- whether a text is kept
  pub found : (kept : List (String Z)) (text : List ℕ) → IsUtf8 text → list_any (λ (one : String Z). bytes_eq text (string_bytes one)) kept ≡ is_one_of (map characters kept) (chars text)
  found [] text u = refl
  found (one ∷ kept) text u =
      ap₂ (λ a b. a || b) (same_chars text (string_bytes one) u (IsUtf8-string_bytes one) ∙ either_text (chars text) (characters one)) (found kept text u)

  -- the names with one more that wasn't there
  pub put_behind : (kept later : List (String Z)) (name : String Z) (names : List (List ℕ)) → map characters kept ≡ names → is_one_of names (characters name) ≡ false
      → later ≡ cond (list_any (λ (one : String Z). bytes_eq (string_bytes name) (string_bytes one)) kept) kept (kept ++ name ∷ [])
      → map characters later ≡ names ++ characters name ∷ []
  put_behind kept later name names view absent is =
      let not_there : list_any (λ (one : String Z). bytes_eq (string_bytes name) (string_bytes one)) kept ≡ false =
      found kept (string_bytes name) (IsUtf8-string_bytes name) ∙ ap (λ (all : List (List ℕ)). is_one_of all (characters name)) view ∙ absent in
      ap (map characters) (is ∙ ap (λ b. cond b kept (kept ++ name ∷ [])) not_there) ∙ map-append characters kept (name ∷ []) ∙ ap (λ (all : List (List ℕ)). all ++ characters name ∷ []) view
