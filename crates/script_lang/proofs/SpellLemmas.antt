-- A text is spelled in one way: what its bytes are character by character.
use Rattle.std.proofs.Common.{◌≡◌, ◌≢◌, ℕ, ◌<◌, true, List, [], ◌∷◌, ◌++◌, length, refl, ap, sym, ◌∙◌, subst, arith, inl, inr, append_assoc, append-nil, get_or, drop, length-append, chars, IsUtf8}
use Rattle.std.specs.Prelude.{codes, ◌⊎◌}
use Rattle.std.specs.List.{AllByRecursion as Each}
use Rattle.std.specs.Char.{IsScalar, encode_utf8, is_ascii_hexdigit}
use Rattle.std.specs.Str.Parse.{digits_value}
use Rattle.std.proofs.lemmas.List.{append_cancel_left}
use Rattle.std.proofs.lemmas.List.Elements.{All-from_recursion, All-weaker}
use Rattle.std.proofs.lemmas.Bool.Decides.{nat_tests}
use Rattle.std.proofs.lemmas.Str.{encode_ascii, chars-append, chars_from_encodes, IsUtf8-encode}
use Rattle.doc_model.specs.Chars.{IsPlainChar}
use Rattle.desk_model.specs.Script.{SpellsChar, SpellsText}
use Rattle.script_lang.specs.Parts.{IsHexNumber, SpellsThen, SpellsLineText}
use Rattle.script_lang.proofs.CutLemmas.{IsWithout, cut_same, no_cut}

-- the bytes begin with the character itself
abbrev pub BeginsBare : List ℕ → ℕ → List ℕ → Type 0
BeginsBare bytes c rest = (c ≢ 0x22) × (c ≢ 0x5c) × (bytes ≡ c ∷ rest)

-- the bytes begin with a backslash and a quote or a backslash
abbrev pub BeginsEscaped : List ℕ → ℕ → List ℕ → Type 0
BeginsEscaped bytes c rest = ((c ≡ 0x22) ⊎ (c ≡ 0x5c)) × (bytes ≡ 0x5c ∷ c ∷ rest)

-- the bytes begin with the number of a character
abbrev pub BeginsCode : List ℕ → ℕ → List ℕ → Type 0
BeginsCode bytes c rest = (digits : List ℕ) × IsHexNumber digits c × (bytes ≡ codes "\\u{" ++ (digits ++ 0x7d ∷ rest))

joined : (bytes front same rest : List ℕ) → bytes ≡ front ++ rest → front ≡ same → bytes ≡ same ++ rest
joined bytes front same rest e f = e ∙ ap (λ (xs : List ℕ). xs ++ rest) f

char_forms : (bytes front rest : List ℕ) (c : ℕ) → SpellsChar front c → IsPlainChar c → bytes ≡ front ++ rest → BeginsBare bytes c rest ⊎ BeginsEscaped bytes c rest ⊎ BeginsCode bytes c rest
char_forms bytes front rest c (inl w) plain e = inl (w.1, w.2, joined bytes front (c ∷ []) rest e (w.3 ∙ encode_ascii c (omega (arith, plain.1))))
char_forms bytes front rest c (inr (inl w)) plain e = inr (inl (inl w.0, joined bytes front (0x5c ∷ c ∷ []) rest e (w.1 ∙ ap (λ (x : ℕ). 0x5c ∷ x ∷ []) (sym w.0))))
char_forms bytes front rest c (inr (inr (inl w))) plain e = inr (inl (inr w.0, joined bytes front (0x5c ∷ c ∷ []) rest e (w.1 ∙ ap (λ (x : ℕ). 0x5c ∷ x ∷ []) (sym w.0))))
char_forms bytes front rest c (inr (inr (inr (inl w)))) plain e = absurd (omega (arith, plain.0, w.0))
char_forms bytes front rest c (inr (inr (inr (inr (inl w))))) plain e = absurd (omega (arith, plain.0, w.0))
char_forms bytes front rest c (inr (inr (inr (inr (inr w))))) plain e =
    let digits = w.0 in
    inr (inr (
      digits,
      (w.1, w.2, (w.3, w.4, omega (arith, plain.1))),
      joined bytes front (codes "\\u{" ++ (digits ++ codes "}")) rest e w.6 ∙ ap (λ (xs : List ℕ). codes "\\u{" ++ xs) (append_assoc digits (codes "}") rest),
    ))

pub then_forms : (bytes rest : List ℕ) (c : ℕ) → SpellsThen bytes c rest → BeginsBare bytes c rest ⊎ BeginsEscaped bytes c rest ⊎ BeginsCode bytes c rest
then_forms bytes rest c h = char_forms bytes h.0 rest c h.1 h.2 h.3

pub plain_scalar_below : (c : ℕ) → c < 128 → IsScalar c
plain_scalar_below c small = grind (arith, nat_tests)

pub plain_scalar : (c : ℕ) → IsPlainChar c → IsScalar c
plain_scalar c plain = grind (arith, nat_tests)

pub bare_then : (bytes rest : List ℕ) (c : ℕ) → IsPlainChar c → BeginsBare bytes c rest → SpellsThen bytes c rest
bare_then bytes rest c plain h = (c ∷ [], inl (plain_scalar c plain, h.0, h.1, sym (encode_ascii c (omega (arith, plain.1)))), plain, h.2)

pub escaped_then : (bytes rest : List ℕ) (c : ℕ) → BeginsEscaped bytes c rest → SpellsThen bytes c rest
escaped_then bytes rest c (inl e, is) = (0x5c ∷ c ∷ [], inr (inl (e, ap (λ (x : ℕ). 0x5c ∷ x ∷ []) e)), (omega (arith, e), omega (arith, e)), is)
escaped_then bytes rest c (inr e, is) = (0x5c ∷ c ∷ [], inr (inr (inl (e, ap (λ (x : ℕ). 0x5c ∷ x ∷ []) e))), (omega (arith, e), omega (arith, e)), is)

pub code_then : (bytes rest : List ℕ) (c : ℕ) → IsPlainChar c → BeginsCode bytes c rest → SpellsThen bytes c rest
code_then bytes rest c plain h =
    let digits = h.0 in
    let front : List ℕ = codes "\\u{" ++ (digits ++ codes "}") in (
      front,
      inr (inr (inr (inr (inr (digits, h.1.0, h.1.1, h.1.2.0, h.1.2.1, plain_scalar c plain, refl))))),
      plain,
      h.2 ∙ ap (λ (xs : List ℕ). codes "\\u{" ++ xs) (sym (append_assoc digits (codes "}") rest)),
    )

hex_no_brace : (digit : ℕ) → is_ascii_hexdigit digit ≡ true → digit ≢ 0x7d
hex_no_brace digit h e = grind (arith, nat_tests)

no_brace : (digits : List ℕ) → Each (λ digit. is_ascii_hexdigit digit ≡ true) digits → IsWithout 0x7d digits
no_brace digits each = All-weaker (λ digit. is_ascii_hexdigit digit ≡ true) (λ digit. digit ≢ 0x7d) hex_no_brace digits (All-from_recursion (λ digit. is_ascii_hexdigit digit ≡ true) digits each)

-- bytes behind `\u{` are digits, a brace and a rest in one way
pub code_same : (digits others rest other : List ℕ) (c d : ℕ) → IsHexNumber digits c → IsHexNumber others d → digits ++ 0x7d ∷ rest ≡ others ++ 0x7d ∷ other → (c ≡ d) × (rest ≡ other)
code_same digits others rest other c d p q e =
    let cut = cut_same 0x7d digits others rest other (no_brace digits p.2.0) (no_brace others q.2.0) e in
    (sym p.2.1 ∙ ap (digits_value 16) cut.0 ∙ q.2.1, cut.1)

first_at : (xs ys : List ℕ) → xs ≡ ys → get_or xs 0 0 ≡ get_or ys 0 0
first_at xs ys e = ap (λ (zs : List ℕ). get_or zs 0 0) e

second_at : (xs ys : List ℕ) → xs ≡ ys → get_or xs 1 0 ≡ get_or ys 1 0
second_at xs ys e = ap (λ (zs : List ℕ). get_or zs 1 0) e

forms_same : (bytes rest other : List ℕ) (c d : ℕ) → BeginsBare bytes c rest ⊎ BeginsEscaped bytes c rest ⊎ BeginsCode bytes c rest
    → BeginsBare bytes d other ⊎ BeginsEscaped bytes d other ⊎ BeginsCode bytes d other → (c ≡ d) × (rest ≡ other)
forms_same bytes rest other c d (inl v) (inl w) =
    let e : c ∷ rest ≡ d ∷ other = sym v.2 ∙ w.2 in
    (first_at (c ∷ rest) (d ∷ other) e, ap (drop 1) e)
forms_same bytes rest other c d (inl v) (inr (inl w)) = absurd (v.1 (first_at (c ∷ rest) (0x5c ∷ d ∷ other) (sym v.2 ∙ w.1)))
forms_same bytes rest other c d (inl v) (inr (inr w)) = absurd (v.1 (first_at (c ∷ rest) (codes "\\u{" ++ (w.0 ++ 0x7d ∷ other)) (sym v.2 ∙ w.2)))
forms_same bytes rest other c d (inr (inl v)) (inl w) = absurd (w.1 (first_at (d ∷ other) (0x5c ∷ c ∷ rest) (sym w.2 ∙ v.1)))
forms_same bytes rest other c d (inr (inl v)) (inr (inl w)) =
    let e : 0x5c ∷ c ∷ rest ≡ 0x5c ∷ d ∷ other = sym v.1 ∙ w.1 in
    (second_at (0x5c ∷ c ∷ rest) (0x5c ∷ d ∷ other) e, ap (drop 2) e)
forms_same bytes rest other c d (inr (inl (inl v, is))) (inr (inr w)) = absurd (omega (arith, v, second_at (0x5c ∷ c ∷ rest) (codes "\\u{" ++ (w.0 ++ 0x7d ∷ other)) (sym is ∙ w.2)))
forms_same bytes rest other c d (inr (inl (inr v, is))) (inr (inr w)) = absurd (omega (arith, v, second_at (0x5c ∷ c ∷ rest) (codes "\\u{" ++ (w.0 ++ 0x7d ∷ other)) (sym is ∙ w.2)))
forms_same bytes rest other c d (inr (inr v)) (inl w) = absurd (w.1 (first_at (d ∷ other) (codes "\\u{" ++ (v.0 ++ 0x7d ∷ rest)) (sym w.2 ∙ v.2)))
forms_same bytes rest other c d (inr (inr v)) (inr (inl (inl w, is))) = absurd (omega (arith, w, second_at (0x5c ∷ d ∷ other) (codes "\\u{" ++ (v.0 ++ 0x7d ∷ rest)) (sym is ∙ v.2)))
forms_same bytes rest other c d (inr (inr v)) (inr (inl (inr w, is))) = absurd (omega (arith, w, second_at (0x5c ∷ d ∷ other) (codes "\\u{" ++ (v.0 ++ 0x7d ∷ rest)) (sym is ∙ v.2)))
forms_same bytes rest other c d (inr (inr v)) (inr (inr w)) =
    code_same v.0 w.0 rest other c d v.1 w.1 (append_cancel_left (codes "\\u{") (v.0 ++ 0x7d ∷ rest) (w.0 ++ 0x7d ∷ other) (sym v.2 ∙ w.2))

-- bytes begin with one spelled character at most
pub then_same : (bytes rest other : List ℕ) (c d : ℕ) → SpellsThen bytes c rest → SpellsThen bytes d other → (c ≡ d) × (rest ≡ other)
then_same bytes rest other c d p q = forms_same bytes rest other c d (then_forms bytes rest c p) (then_forms bytes other d q)

forms_shorter : (bytes rest : List ℕ) (c : ℕ) → BeginsBare bytes c rest ⊎ BeginsEscaped bytes c rest ⊎ BeginsCode bytes c rest → length rest < length bytes
forms_shorter bytes rest c (inl v) = omega (arith, ap length v.2)
forms_shorter bytes rest c (inr (inl v)) = omega (arith, ap length v.1)
forms_shorter bytes rest c (inr (inr v)) = omega (arith, ap length v.2, length-append v.0 (0x7d ∷ rest))

-- a spelled character has bytes
pub then_shorter : (bytes rest : List ℕ) (c : ℕ) → SpellsThen bytes c rest → length rest < length bytes
then_shorter bytes rest c h = forms_shorter bytes rest c (then_forms bytes rest c h)

-- of the bytes those before the rest are read, and stand for this text
pub record HasSpelled (bytes rest text : List ℕ) : Type 0 where
  pub front : List ℕ
  pub parts : bytes ≡ front ++ rest
  pub spelled : SpellsText front text
  pub plain : Each IsPlainChar text

pub nothing_spelled : (bytes : List ℕ) → HasSpelled bytes bytes []
nothing_spelled bytes = record { front = []; parts = refl; spelled = refl; plain = tt }

text_push : (bytes text front : List ℕ) (c : ℕ) → SpellsText bytes text → SpellsChar front c → SpellsText (bytes ++ front) (text ++ c ∷ [])
text_push bytes [] front c h spells = (front, [], ap (λ (xs : List ℕ). xs ++ front) h ∙ sym (append-nil front), spells, refl)
text_push bytes (d ∷ text) front c h spells =
    (h.0, h.1 ++ front, ap (λ (xs : List ℕ). xs ++ front) h.2 ∙ append_assoc h.0 h.1 front, h.3, text_push h.1 text front c h.4 spells)

plain_push : (text : List ℕ) (c : ℕ) → Each IsPlainChar text → IsPlainChar c → Each IsPlainChar (text ++ c ∷ [])
plain_push [] c each h = (h, tt)
plain_push (d ∷ text) c each h = (each.0, plain_push text c each.1 h)

-- one more character is read
pub char_spelled : (bytes rest text after : List ℕ) (c : ℕ) → HasSpelled bytes rest text → SpellsThen rest c after → HasSpelled bytes after (text ++ c ∷ [])
char_spelled bytes rest text after c read h = record {
  front = read.front ++ h.0;
  parts = read.parts ∙ ap (λ (xs : List ℕ). read.front ++ xs) h.3 ∙ sym (append_assoc read.front h.0 after);
  spelled = text_push read.front text h.0 c read.spelled h.1;
  plain = plain_push text c read.plain h.2;
}

-- a text that bytes with a read front stand for goes on with a text for their rest
text_onward : (front rest text other : List ℕ) → SpellsText front text → Each IsPlainChar text → SpellsText (front ++ rest) other → Each IsPlainChar other
    → (later : List ℕ) × (other ≡ text ++ later) × SpellsText rest later × Each IsPlainChar later
text_onward front rest [] other p plain q each = (other, refl, subst (λ (xs : List ℕ). SpellsText (xs ++ rest) other) p q, each)
text_onward front rest (c ∷ text) [] p plain q each =
    let more = then_shorter front p.1 c (p.0, p.3, plain.0, p.2) in
    absurd (omega (arith, more, ap length q, length-append front rest))
text_onward front rest (c ∷ text) (d ∷ other) p plain q each =
    let whole : front ++ rest ≡ p.0 ++ (p.1 ++ rest) = ap (λ (xs : List ℕ). xs ++ rest) p.2 ∙ append_assoc p.0 p.1 rest in
    let same = then_same (front ++ rest) (p.1 ++ rest) q.1 c d (p.0, p.3, plain.0, whole) (q.0, q.3, each.0, q.2) in
    let onward = text_onward p.1 rest text other p.4 plain.1 (subst (λ (xs : List ℕ). SpellsText xs other) (sym same.1) q.4) each.1 in (
      onward.0,
      ap (λ (x : ℕ). x ∷ other) (sym same.0) ∙ ap (λ (xs : List ℕ). c ∷ xs) onward.1,
      onward.2,
      onward.3,
    )

-- bytes that begin with no spelled character stand for no text
none_later : (rest later : List ℕ) → 0 < length rest → SpellsText rest later → Each IsPlainChar later → ((c : ℕ) (after : List ℕ) → SpellsThen rest c after → ⊥) → ⊥
none_later rest [] some h each none = absurd (omega (arith, ap length h))
none_later rest (c ∷ later) some h each none = none c h.1 (h.0, h.3, each.0, h.2)

-- where what follows the read front is no spelled character, the bytes stand for no text
pub no_text : (bytes rest text other : List ℕ) → HasSpelled bytes rest text → 0 < length rest → ((c : ℕ) (after : List ℕ) → SpellsThen rest c after → ⊥) → SpellsLineText bytes other → ⊥
no_text bytes rest text other read some none h =
    let onward = text_onward read.front rest text other read.spelled read.plain (subst (λ (xs : List ℕ). SpellsText xs other) read.parts h.1) h.0.1 in
    none_later rest onward.0 some onward.2 onward.3 none

no_later : (later : List ℕ) → SpellsText [] later → Each IsPlainChar later → later ≡ []
no_later [] h each = refl
no_later (c ∷ later) h each = absurd (omega (arith, then_shorter [] h.1 c (h.0, h.3, each.0, h.2)))

-- bytes stand for one text at most
pub text_same : (bytes text other : List ℕ) → SpellsLineText bytes text → SpellsLineText bytes other → text ≡ other
text_same bytes text other p q =
    let onward = text_onward bytes [] text other p.1 p.0.1 (subst (λ (xs : List ℕ). SpellsText xs other) (sym (append-nil bytes)) q.1) q.0.1 in
    sym (onward.1 ∙ ap (λ (xs : List ℕ). text ++ xs) (no_later onward.0 onward.2 onward.3) ∙ append-nil text)

text_of_none : (bytes text : List ℕ) → 0 < length bytes → SpellsText bytes text → text ≢ []
text_of_none bytes [] some h e = omega (arith, ap length h)
text_of_none bytes (c ∷ text) some h e = absurd (omega (arith, ap length e))

-- all is read
pub all_spelled : (bytes rest text : List ℕ) → HasSpelled bytes rest text → length rest ≡ 0 → 0 < length bytes → SpellsLineText bytes text
all_spelled bytes [] text read none some =
    let spelled = subst (λ (xs : List ℕ). SpellsText xs text) (sym (read.parts ∙ append-nil read.front)) read.spelled in
    ((text_of_none bytes text some spelled, read.plain), spelled)
all_spelled bytes (b ∷ rest) text read none some = absurd (omega arith)

pub no_empty : (bytes text : List ℕ) → length bytes ≡ 0 → SpellsLineText bytes text → ⊥
no_empty bytes [] none h = h.0.0 refl
no_empty bytes (c ∷ text) none h = absurd (omega (arith, none, then_shorter bytes h.1.1 c (h.1.0, h.1.3, h.0.1.0, h.1.2)))

-- bytes that begin with a character behind `\u{` are its digits, a brace and the rest
pub code_parts : (bytes rest : List ℕ) (c : ℕ) → SpellsThen (codes "\\u{" ++ bytes) c rest → (digits : List ℕ) × IsHexNumber digits c × IsPlainChar c × (bytes ≡ digits ++ 0x7d ∷ rest)
code_parts bytes rest c h = form_parts bytes rest c h.2 (then_forms (codes "\\u{" ++ bytes) rest c h) where
  form_parts : (bytes rest : List ℕ) (c : ℕ) → IsPlainChar c → BeginsBare (codes "\\u{" ++ bytes) c rest ⊎ BeginsEscaped (codes "\\u{" ++ bytes) c rest ⊎ BeginsCode (codes "\\u{" ++ bytes) c rest
      → (digits : List ℕ) × IsHexNumber digits c × IsPlainChar c × (bytes ≡ digits ++ 0x7d ∷ rest)
  form_parts bytes rest c plain (inl v) = absurd (v.1 (sym (first_at (codes "\\u{" ++ bytes) (c ∷ rest) v.2)))
  form_parts bytes rest c plain (inr (inl (inl v, is))) = absurd (omega (arith, v, second_at (codes "\\u{" ++ bytes) (0x5c ∷ c ∷ rest) is))
  form_parts bytes rest c plain (inr (inl (inr v, is))) = absurd (omega (arith, v, second_at (codes "\\u{" ++ bytes) (0x5c ∷ c ∷ rest) is))
  form_parts bytes rest c plain (inr (inr v)) = (v.0, v.1, plain, append_cancel_left (codes "\\u{") bytes (v.0 ++ 0x7d ∷ rest) v.2)

-- without a brace they begin with none
pub no_code : (bytes rest : List ℕ) (c : ℕ) → IsWithout 0x7d bytes → SpellsThen (codes "\\u{" ++ bytes) c rest → ⊥
no_code bytes rest c none h = let parts = code_parts bytes rest c h in no_cut 0x7d bytes parts.0 rest none parts.3

-- what stands before the first brace are the digits
pub code_digits : (bytes front after rest : List ℕ) (c : ℕ) → IsWithout 0x7d front → bytes ≡ front ++ 0x7d ∷ after → SpellsThen (codes "\\u{" ++ bytes) c rest → IsHexNumber front c × IsPlainChar c
code_digits bytes front after rest c without e h =
    let parts = code_parts bytes rest c h in
    let cut = cut_same 0x7d parts.0 front rest after (no_brace parts.0 parts.1.2.0) without (sym parts.3 ∙ e) in
    (subst (λ (digits : List ℕ). IsHexNumber digits c) cut.0 parts.1, parts.2)

-- a character is pushed onto a text
pub chars_push : (bytes : List ℕ) (c : ℕ) → IsUtf8 bytes → c < 128 → chars (bytes ++ encode_utf8 c) ≡ chars bytes ++ c ∷ []
chars_push bytes c utf8 small =
    chars-append bytes (encode_utf8 c) utf8
    ∙ ap (λ (cs : List ℕ). chars bytes ++ cs) (sym (chars_from_encodes (c ∷ []) (encode_utf8 c) (IsUtf8-encode c (plain_scalar_below c small)) (append-nil (encode_utf8 c))))
