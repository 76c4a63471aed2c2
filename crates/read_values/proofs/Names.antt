-- Names and single characters, by the bytes of a text.
use Rattle.std.proofs.Common.{◌≡◌, ℕ, Bool, true, false, not, ◌||◌, List, [], ◌∷◌, ◌++◌, length, refl, ap, sym, ◌∙◌, chars, bytes_eq, IsUtf8, arith, Some, None, if◌then◌else◌, nat_le, ◌==◌, true≢false}
use Rattle.std.proofs.Math.Utf8.{encode, encodes}
use Rattle.std.proofs.lemmas.Bool.{eqb-true}
use Rattle.std.proofs.lemmas.Str.{chars-nil, chars_past_char, IsUtf8-past_char, IsUtf8-from_ascii, encodes-chars}
use Rattle.std.proofs.lemmas.Str.Ascii.{IsAscii-nil}
use Rattle.doc_model.proofs.SameText.{same_chars}
use Rattle.load_model.specs.Fields.{own_name}
use Rattle.load_model.specs.Values.{name, name_or_none, one_character}

empty_list : {X : Type 0} (xs : List X) → length xs ≡ 0 → xs ≡ []
empty_list [] h = refl
empty_list (x ∷ xs) h = absurd (omega (arith, h))

pub name_empty : (text : List ℕ) → (length text == 0) ≡ true → name (chars text) ≡ None
name_empty text none = ap name (ap chars (empty_list text (eqb-true _ _ none)) ∙ chars-nil)

no_empty : (text : List ℕ) → (length text == 0) ≡ false → bytes_eq text [] ≡ false
no_empty [] some = absurd (cc)
no_empty (c ∷ cs) some = refl

either_way : (short : Bool) (text : List ℕ) → (if not short then None else Some text) ≡ (if short then Some text else None)
either_way true text = refl
either_way false text = refl

pub name_some : (text : List ℕ) → IsUtf8 text → (length text == 0) ≡ false → name (chars text) ≡ name_or_none (chars text)
name_some text utf8 some =
    let shut : bytes_eq (chars text) [] ≡ false = ap (bytes_eq (chars text)) (sym chars-nil) ∙ sym (same_chars text [] utf8 (IsUtf8-from_ascii [] IsAscii-nil)) ∙ no_empty text some in
    ap (λ none. if none || not (nat_le (length (chars text)) 1024) then None else Some (chars text)) shut ∙ either_way (nat_le (length (chars text)) 1024) (chars text)

pub only_one : (text rest : List ℕ) (c : ℕ) → IsUtf8 text → text ≡ encode c ++ rest → length rest ≡ 0 → Some c ≡ one_character (chars text)
only_one text rest c utf8 first none = ap one_character (sym (chars_past_char text rest c utf8 first ∙ ap (λ more. c ∷ more) (ap chars (empty_list rest none) ∙ chars-nil)))

pub more_than_one : (text rest behind : List ℕ) (c d : ℕ) → IsUtf8 text → text ≡ encode c ++ rest → rest ≡ encode d ++ behind → None ≡ one_character (chars text)
more_than_one text rest behind c d utf8 first second =
    ap one_character (sym (chars_past_char text rest c utf8 first ∙ ap (λ more. c ∷ more) (chars_past_char rest behind d (IsUtf8-past_char text rest c utf8 first) second)))

pub own_empty : (is_first : Bool) (text : List ℕ) → (length text == 0) ≡ true → own_name is_first (chars text) ≡ Some (chars text)
own_empty is_first text none =
    let same : chars text ≡ [] = ap chars (empty_list text (eqb-true _ _ none)) ∙ chars-nil in
    ap (own_name is_first) same ∙ ap (λ letters. Some letters) (sym same)

own_by : (is_first : Bool) (text : List ℕ) → IsUtf8 text → (length text == 0) ≡ false → own_name is_first (chars text) ≡ (if is_first then name (chars text) else None)
own_by is_first text utf8 some = by_letters (chars text) refl
  where
    by_letters : (letters : List ℕ) → chars text ≡ letters → own_name is_first letters ≡ (if is_first then name letters else None)
    by_letters [] e = let none : text ≡ [] = sym (encodes-chars text utf8) ∙ ap encodes e in absurd (true≢false (ap (λ bytes. length bytes == 0) (sym none) ∙ some))
    by_letters (c ∷ cs) e = refl

pub own_first : (text : List ℕ) → IsUtf8 text → (length text == 0) ≡ false → own_name true (chars text) ≡ name (chars text)
own_first text utf8 some = own_by true text utf8 some

pub own_later : (text : List ℕ) → IsUtf8 text → (length text == 0) ≡ false → own_name false (chars text) ≡ None
own_later text utf8 some = own_by false text utf8 some
