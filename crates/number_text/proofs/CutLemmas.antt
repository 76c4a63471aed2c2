-- What is kept of texts that are put together.
use Rattle.std.proofs.Common.{◌≡◌, ℕ, zero, suc, ◌+◌, ◌≤◌, List, [], ◌∷◌, ◌++◌, length, take, refl, ap, sym, ◌∙◌, arith, append_assoc, append-nil, encode_utf8, chars, IsUtf8, Result, Ok, Err}
use Rattle.std.specs.Prelude.{OnOk}
use Rattle.std.proofs.Math.Seq.{take-append-add}
use Rattle.std.proofs.lemmas.List.{take_all, take-append-le, length-take}
use Rattle.std.proofs.lemmas.Str.{chars-append, chars_from_encodes, IsUtf8-encode}
use Rattle.std.specs.Char.{IsScalar}
use Rattle.field_model.specs.Cut.{cut, kept_characters}

take_take : (n : ℕ) (front back : List ℕ) → take n (take n front ++ back) ≡ take n (front ++ back)
take_take zero front back = refl
take_take (suc n) [] back = refl
take_take (suc n) (c ∷ front) back = ap (λ (cs : List ℕ). c ∷ cs) (take_take n front back)

-- what is left out before matters no more
pub cut_cut : (front back : List ℕ) → cut (cut front ++ back) ≡ cut (front ++ back)
cut_cut front back = take_take kept_characters front back

pub cut_more : (front middle back : List ℕ) → cut (cut (front ++ middle) ++ back) ≡ cut (front ++ (middle ++ back))
cut_more front middle back = cut_cut (front ++ middle) back ∙ ap cut (append_assoc front middle back)

-- a text that was added, and then another
pub cut_then : (old between new middle back : List ℕ) → between ≡ cut (old ++ middle) → new ≡ cut (between ++ back) → new ≡ cut (old ++ (middle ++ back))
cut_then old between new middle back e f = f ∙ ap (λ (front : List ℕ). cut (front ++ back)) e ∙ cut_more old middle back

pub cut_short : (text : List ℕ) → length text ≤ kept_characters → cut text ≡ text
cut_short text few = take_all kept_characters text few

pub cut_full : (text more : List ℕ) → length text ≡ kept_characters → text ≡ cut (text ++ more)
cut_full text more full = sym (take-append-le kept_characters text more (omega arith) ∙ take_all kept_characters text (omega arith))

-- a full text stays what is kept of it and of the rest
pub cut_rest : (old kept front back : List ℕ) → kept ≡ cut (old ++ front) → length kept ≡ kept_characters → kept ≡ cut (old ++ (front ++ back))
cut_rest old kept front back e full = cut_then old kept kept front back e (cut_full kept back full)

-- a character is pushed onto a text
pub chars_push : (bytes : List ℕ) (c : ℕ) → IsUtf8 bytes → IsScalar c → chars (bytes ++ encode_utf8 c) ≡ chars bytes ++ c ∷ []
chars_push bytes c utf8 is =
    chars-append bytes (encode_utf8 c) utf8
    ∙ ap (λ (cs : List ℕ). chars bytes ++ cs) (sym (chars_from_encodes (c ∷ []) (encode_utf8 c) (IsUtf8-encode c is) (append-nil (encode_utf8 c))))

-- so many characters of a text fit behind one that leaves this room
pub cut_room : (old text : List ℕ) (room : ℕ) → length old + room ≡ kept_characters → cut (old ++ take room text) ≡ cut (old ++ text)
cut_room old text room e =
    let short : length (take room text) ≤ room = omega (arith, length-take room text) in
    ap (λ (n : ℕ). take n (old ++ take room text)) (sym e)
    ∙ take-append-add old (take room text) room
    ∙ ap (λ (end : List ℕ). old ++ end) (take_all room (take room text) short)
    ∙ sym (ap (λ (n : ℕ). take n (old ++ text)) (sym e) ∙ take-append-add old text room)

-- the last of several texts is added
pub cut_last : {T E : Type 0} (r : Result T E) (old between new middle back text : List ℕ) → between ≡ cut (old ++ middle) → middle ++ back ≡ text → OnOk r (new ≡ cut (between ++ back)) → OnOk r (new ≡ cut (old ++ text))
cut_last (Ok v) old between new middle back text e whole last = cut_then old between new middle back e last ∙ ap (λ (t : List ℕ). cut (old ++ t)) whole
cut_last (Err v) old between new middle back text e whole last = tt

-- what is added has another spelling
pub cut_same : {T E : Type 0} (r : Result T E) (old new added text : List ℕ) → added ≡ text → OnOk r (new ≡ cut (old ++ added)) → OnOk r (new ≡ cut (old ++ text))
cut_same (Ok v) old new added text e h = h ∙ ap (λ (t : List ℕ). cut (old ++ t)) e
cut_same (Err v) old new added text e h = tt

-- nothing is added
pub cut_none : (text : List ℕ) → length text ≤ kept_characters → text ≡ cut (text ++ [])
cut_none text short = sym (ap cut (append-nil text) ∙ cut_short text short)
