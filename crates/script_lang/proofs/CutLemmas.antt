-- Cuts of lists: at the first place of an element, at the ends of lines, and behind numbers.
use Rattle.std.proofs.Common.{◌≡◌, ◌≢◌, ℕ, ◌≤◌, ◌<◌, Bool, false, List, [], ◌∷◌, ◌++◌, length, refl, ap, sym, ◌∙◌, subst, arith, rules, cond, take, get_or, ◌+◌, ◌*◌}
use Rattle.std.specs.Prelude.{◌==◌}
use Rattle.std.specs.List.{All, AllByRecursion as Each, slice_split}
use Rattle.std.specs.Char.{IsAsciiDigit}
use Rattle.std.specs.Str.Lines.{lines, lines_of_parts, strip_carriage_return}
use Rattle.std.proofs.lemmas.List.Elements.{All-head, All-tail, All-from_recursion, All-weaker}
use Rattle.std.proofs.lemmas.List.Splits.{slice_split_at, slice_split_none, length-slice_split}
use Rattle.std.proofs.lemmas.Bool.{ne_eqb}
use Rattle.std.proofs.lemmas.Int.Digits.{digits_value_more}
use Rattle.std.proofs.lemmas.Str.Parse.{digits_value-take-le}
use Rattle.std.specs.Char.{digit_value}
use Rattle.std.specs.Str.Parse.{digits_value}
use Rattle.desk_model.specs.Script.{IsNumber}
use Rattle.script_lang.specs.Parts.{IsNumberThen}

-- no element is c
abbrev pub IsWithout : ℕ → List ℕ → Type 0
IsWithout c xs = All (λ x. x ≢ c) xs

pub cut_same : (c : ℕ) (xs ys after other : List ℕ) → IsWithout c xs → IsWithout c ys → xs ++ c ∷ after ≡ ys ++ c ∷ other → (xs ≡ ys) × (after ≡ other)
cut_same c [] [] after other p q e = (refl, cc)
cut_same c [] (y ∷ ys) after other p q e = absurd (All-head (λ x. x ≢ c) y ys q (cc))
cut_same c (x ∷ xs) [] after other p q e = absurd (All-head (λ x. x ≢ c) x xs p (cc))
cut_same c (x ∷ xs) (y ∷ ys) after other p q e =
    let tails : xs ++ c ∷ after ≡ ys ++ c ∷ other = cc in
    let heads : x ≡ y = cc in
    let r = cut_same c xs ys after other (All-tail (λ x. x ≢ c) x xs p) (All-tail (λ x. x ≢ c) y ys q) tails in
    let same : xs ≡ ys = r.0 in
    (cc, r.1)

pub no_cut : (c : ℕ) (all xs after : List ℕ) → IsWithout c all → all ≡ xs ++ c ∷ after → ⊥
no_cut c [] [] after p e = cc
no_cut c [] (x ∷ xs) after p e = cc
no_cut c (y ∷ all) [] after p e = All-head (λ x. x ≢ c) y all p (cc)
no_cut c (y ∷ all) (x ∷ xs) after p e = no_cut c all xs after (All-tail (λ x. x ≢ c) y all p) (cc)

pub Each-from_All : {X : Type 0} (P : X → Type 0) (xs : List X) → All P xs → Each P xs
Each-from_All P [] h = tt
Each-from_All P (x ∷ xs) h = (All-head P x xs h, Each-from_All P xs (All-tail P x xs h))

pub no_space : (digits : List ℕ) → Each IsAsciiDigit digits → IsWithout 32 digits
no_space digits each = All-weaker IsAsciiDigit (λ x. x ≢ 32) (λ x range e. omega arith) digits (All-from_recursion IsAsciiDigit digits each)

-- digits spell one number
pub number_same : (digits others : List ℕ) (m n : ℕ) → digits ≡ others → IsNumber digits m → IsNumber others n → m ≡ n
number_same digits others m n e p q = let left = p.2 in let right = q.2 in cc

-- bytes are a number, a space and a rest in one way
pub number_then_same : (bytes after other : List ℕ) (m n : ℕ) → IsNumberThen bytes m after → IsNumberThen bytes n other → (m ≡ n) × (after ≡ other)
number_then_same bytes after other m n p q =
    let cut = cut_same 32 p.0 q.0 after other (no_space p.0 p.1.1) (no_space q.0 q.1.1) (sym p.2 ∙ q.2) in
    (number_same p.0 q.0 m n cut.0 p.1 q.1, cut.1)

differs : (c : ℕ) (line : List ℕ) → IsWithout c line → All (λ x. (x == c) ≡ false) line
differs c line p = All-weaker (λ x. x ≢ c) (λ x. (x == c) ≡ false) (λ x ne. search rules) line p

some_parts : (line : List ℕ) (parts : List (List ℕ)) → 0 < length parts → lines_of_parts (line ∷ parts) ≡ strip_carriage_return line ∷ lines_of_parts parts
some_parts line [] h = absurd (omega arith)
some_parts line (part ∷ parts) h = refl

-- the first line ends before the first line feed
pub lines_cut : (bytes line after : List ℕ) → IsWithout 10 line → bytes ≡ line ++ 10 ∷ after → lines bytes ≡ strip_carriage_return line ∷ lines after
lines_cut bytes line after p e =
    ap lines e
    ∙ ap lines_of_parts (slice_split_at (λ b. b == 10) line 10 after (differs 10 line p) refl)
    ∙ some_parts line (slice_split (λ b. b == 10) after) (omega (arith, length-slice_split (λ b. b == 10) after))

one_line : (bytes : List ℕ) → 0 < length bytes → lines_of_parts (bytes ∷ []) ≡ bytes ∷ []
one_line bytes h = ap (λ (empty : Bool). cond empty [] (bytes ∷ [])) (ne_eqb (length bytes) 0 (λ z. omega arith))

-- bytes without a line feed are one line, if there are any
pub lines_last : (bytes after : List ℕ) → 0 < length bytes → IsWithout 10 bytes → length after ≡ 0 → lines bytes ≡ bytes ∷ lines after
lines_last bytes [] h p none = ap lines_of_parts (slice_split_none (λ b. b == 10) bytes (differs 10 bytes p)) ∙ one_line bytes h
lines_last bytes (b ∷ after) h p none = absurd (omega arith)

-- bytes whose digits before the first space spell no number are no number and a space
pub no_number_then : (bytes digits after : List ℕ) → IsWithout 32 digits → bytes ≡ digits ++ 32 ∷ after → ((number : ℕ) → IsNumber digits number → ⊥)
    → (number : ℕ) (rest : List ℕ) → IsNumberThen bytes number rest → ⊥
no_number_then bytes digits after without e none number rest h =
    let cut = cut_same 32 h.0 digits rest after (no_space h.0 h.1.1) without (sym h.2 ∙ e) in
    none number (subst (λ (ds : List ℕ). IsNumber ds number) cut.0 h.1)

-- the digits up to a place spell no more than all of them
pub digits_value_front : (radix : ℕ) (digits : List ℕ) (at : ℕ) → 1 ≤ radix → at < length digits → digits_value radix (take at digits) * radix + digit_value (get_or digits at 0) ≤ digits_value radix digits
digits_value_front radix digits at some h =
    subst (λ (n : ℕ). n ≤ digits_value radix digits) (digits_value_more radix digits at h) (digits_value-take-le radix digits (at + 1) some)
