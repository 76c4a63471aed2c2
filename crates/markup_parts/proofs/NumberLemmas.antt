-- References by numbers.
use Rattle.std.proofs.Common.{◌≡◌, ◌<◌, ◌≤◌, ◌+◌, ◌*◌, ◌⊎◌, ℕ, List, [], ◌∷◌, ◌++◌, min, Bool, true, false, refl, ap, sym, ◌∙◌, subst, inl, inr, arith, append_assoc, Option, Some, None, cond, lit≤}
use Rattle.std.proofs.lemmas.List.Sums.{fold_push}
use Rattle.std.proofs.lemmas.Bool.{cases_lt}
use Rattle.std.proofs.lemmas.Bool.Decides.{nat_tests}
use Rattle.std.specs.Char.{digit_value}
use Rattle.std.specs.List.{AllByRecursion as Each}
use Rattle.markup_parts.specs.Chars.{is_legal, is_digit_of, number_of, legal_character}
use Rattle.markup_parts.specs.Constructs.{IsRun, IsNumber}
use Rattle.markup_parts.specs.Outcomes.{IsRead, IsRefused, IsUnfinished, IsBroken}
use Rattle.markup_parts.proofs.LiteralLemmas.{head_is, tail_is}
use Rattle.markup_parts.proofs.RunLemmas.{run_once, run_keeps, run_none, each_push}
use Rattle.markup_parts.proofs.TextLemmas.{no_more}

-- how far the rest is from the start, in bytes, behind these characters
abbrev pub IsSpent : List ℕ → ℕ → ℕ → Type 0
IsSpent [] rest whole = rest ≡ whole
IsSpent (c ∷ cs) rest whole = rest < whole

pub spent_push : (front : List ℕ) (c rest behind whole : ℕ) → IsSpent front rest whole → behind < rest → IsSpent (front ++ c ∷ []) behind whole
spent_push [] c rest behind whole h l = omega arith
spent_push (d ∷ ds) c rest behind whole h l = omega arith

pub spent_some : (front : List ℕ) (rest whole : ℕ) → IsSpent front rest whole → rest < whole → front ≡ [] → ⊥
spent_some [] rest whole h l e = absurd (omega arith)
spent_some (d ∷ ds) rest whole h l e = absurd (cc)

pub spent_none : (front : List ℕ) (rest whole : ℕ) → IsSpent front rest whole → whole ≤ rest → front ≡ []
spent_none [] rest whole h l = refl
spent_none (d ∷ ds) rest whole h l = absurd (omega arith)

-- the two bases
pub record IsBase (base : ℕ) : Type 0 where
  pub is : (base ≡ 10) ⊎ (base ≡ 16)
  pub ends : is_digit_of base 0x3b ≡ false
  pub zero_digit : is_digit_of base 0x30 ≡ true

pub base_of : (base : ℕ) → (base ≡ 10) ⊎ (base ≡ 16) → IsBase base
base_of base (inl e) = subst IsBase (sym e) (record { is = inl refl; ends = refl; zero_digit = refl })
base_of base (inr e) = subst IsBase (sym e) (record { is = inr refl; ends = refl; zero_digit = refl })

capped_ten : (old new value digit next : ℕ) → value ≡ min old 0x110000 → new ≡ old * 10 + digit → next ≡ min (value * 10 + digit) 0x110000 → next ≡ min new 0x110000
capped_ten old new value digit next v w n = omega arith

capped_sixteen : (old new value digit next : ℕ) → value ≡ min old 0x110000 → new ≡ old * 16 + digit → next ≡ min (value * 16 + digit) 0x110000 → next ≡ min new 0x110000
capped_sixteen old new value digit next v w n = omega arith

capped_base : (base old new value digit next : ℕ) → (base ≡ 10) ⊎ (base ≡ 16) → value ≡ min old 0x110000 → new ≡ old * base + digit
    → next ≡ min (value * base + digit) 0x110000 → next ≡ min new 0x110000
capped_base base old new value digit next (inl e) v w n =
    capped_ten old new value digit next v (w ∙ ap (λ (b : ℕ). old * b + digit) e) (n ∙ ap (λ (b : ℕ). min (value * b + digit) 0x110000) e)
capped_base base old new value digit next (inr e) v w n =
    capped_sixteen old new value digit next v (w ∙ ap (λ (b : ℕ). old * b + digit) e) (n ∙ ap (λ (b : ℕ). min (value * b + digit) 0x110000) e)

-- one more digit of a number that stays at the least that is too large
pub capped_push : (base : ℕ) → (base ≡ 10) ⊎ (base ≡ 16) → (front : List ℕ) (c value digit next : ℕ) → value ≡ min (number_of base front) 0x110000 → digit ≡ digit_value c
    → next ≡ min (value * base + digit) 0x110000 → next ≡ min (number_of base (front ++ c ∷ [])) 0x110000
capped_push base b front c value digit next v d n =
    capped_base base (number_of base front) (number_of base (front ++ c ∷ [])) value digit next b v
    (fold_push (λ (so_far x : ℕ). so_far * base + digit_value x) 0 front c ∙ ap (λ (x : ℕ). number_of base front * base + x) (sym d)) n

large_illegal : (n : ℕ) → 0x110000 ≤ n → is_legal n ≡ false
unfolding is_legal
large_illegal n h = grind (arith, nat_tests)

none_if : (n : ℕ) → is_legal n ≡ false → legal_character n ≡ None
none_if n e = ap (λ (b : Bool). cond b (Some n) None) e

-- a number that is too large is no character, wherever it stays
pub capped_character : (n : ℕ) → legal_character (min n 0x110000) ≡ legal_character n
capped_character n = elim (cases_lt n 0x110000) [
  | inl below ↦ (let e : min n 0x110000 ≡ n = omega arith in ap legal_character e)
  | inr above ↦ (let e : min n 0x110000 ≡ 0x110000 = omega arith in
      ap legal_character e ∙ (none_if 0x110000 (large_illegal 0x110000 (lit≤ tt)) ∙ sym (none_if n (large_illegal n above))))
]

number_only : {base : ℕ} {text : List ℕ} (front behind : List ℕ) → IsBase base → text ≡ front ++ (0x3b ∷ behind) → Each (λ c. is_digit_of base c ≡ true) front
    → (more : List ℕ) (other : Option ℕ) (after : List ℕ) → IsNumber base (text ++ more) other after → (other ≡ legal_character (number_of base front)) × (after ≡ behind ++ more)
number_only {base} {text} front behind b parts all more other after n =
    let run : IsRun (is_digit_of base) text front (0x3b ∷ behind) = record { parts = parts; all = all; ends = b.ends } in
    let once = run_once more run n.run in
    (n.value ∙ ap (λ (ds : List ℕ). legal_character (number_of base ds)) once.0, tail_is once.1)

number_is : {base : ℕ} {text : List ℕ} (front behind : List ℕ) → IsBase base → text ≡ front ++ (0x3b ∷ behind) → Each (λ c. is_digit_of base c ≡ true) front → (front ≡ [] → ⊥)
    → (c : Option ℕ) → c ≡ legal_character (number_of base front) → (more : List ℕ) → IsNumber base (text ++ more) c (behind ++ more)
number_is {base} {text} front behind b parts all filled c e more =
    let run : IsRun (is_digit_of base) text front (0x3b ∷ behind) = record { parts = parts; all = all; ends = b.ends } in
    record { digits = front; run = run_keeps more run; filled = filled; value = e }

-- the number behind its last digit
pub number_found : {base : ℕ} {text : List ℕ} (front behind : List ℕ) → IsBase base → text ≡ front ++ (0x3b ∷ behind) → Each (λ c. is_digit_of base c ≡ true) front → (front ≡ [] → ⊥)
    → (c : ℕ) → legal_character (number_of base front) ≡ Some c → IsRead (IsNumber base) text c behind
number_found front behind b parts all filled c e = record {
  is = λ more. number_is front behind b parts all filled (Some c) (sym e) more;
  only = λ more other after n. let q = number_only front behind b parts all more other after n in (q.0 ∙ e, q.1);
}

pub number_refused : {base : ℕ} {text : List ℕ} (front behind : List ℕ) → IsBase base → text ≡ front ++ (0x3b ∷ behind) → Each (λ c. is_digit_of base c ≡ true) front → (front ≡ [] → ⊥)
    → legal_character (number_of base front) ≡ None → IsRefused (IsNumber base) text
number_refused front behind b parts all filled e = record {
  after = behind;
  is = λ more. number_is front behind b parts all filled None (sym e) more;
  only = λ more other after n. let q = number_only front behind b parts all more other after n in q.0 ∙ e;
}

pushed_some : (xs : List ℕ) (x : ℕ) → xs ++ x ∷ [] ≡ [] → ⊥
pushed_some [] x e = cc
pushed_some (y ∷ ys) x e = cc

-- the text ends in the digits
pub number_cut : {base : ℕ} {text : List ℕ} (front rest : List ℕ) → IsBase base → text ≡ front ++ rest → rest ≡ [] → Each (λ c. is_digit_of base c ≡ true) front → IsUnfinished (IsNumber base) text
number_cut {base} {text} front rest b parts ended all =
    let whole = no_more text front rest parts ended in
    record {
      none = λ value after n. run_none (subst (Each (λ c. is_digit_of base c ≡ true)) (sym whole) all) n.run;
      more = 0x30 ∷ 0x3b ∷ [];
      value = legal_character (number_of base (front ++ 0x30 ∷ []));
      whole = λ after. record {
        digits = front ++ 0x30 ∷ [];
        run = record {
          parts = ap (λ (t : List ℕ). t ++ (0x30 ∷ 0x3b ∷ after)) whole ∙ sym (append_assoc front (0x30 ∷ []) (0x3b ∷ after));
          all = each_push (λ c. is_digit_of base c ≡ true) front 0x30 all b.zero_digit;
          ends = b.ends;
        };
        filled = λ e. pushed_some front 0x30 e;
        value = refl;
      };
    }

-- neither a digit nor the end stands behind the digits
pub number_broken : {base : ℕ} {text : List ℕ} (front rest behind : List ℕ) (c : ℕ) → text ≡ front ++ rest → rest ≡ c ∷ behind → Each (λ c. is_digit_of base c ≡ true) front
    → is_digit_of base c ≡ false → ((c ≡ 0x3b) → front ≡ []) → IsBroken (IsNumber base) text
number_broken {base} {text} front rest behind c parts first all never wrong more value after n =
    let run : IsRun (is_digit_of base) text front (c ∷ behind) = record { parts = parts ∙ ap (λ (t : List ℕ). front ++ t) first; all = all; ends = never } in
    let once = run_once more run n.run in
    n.filled (once.0 ∙ wrong (sym (head_is once.1)))

-- the character of a number, by the value that stays at the least that is too large
pub number_value : (base value : ℕ) (front : List ℕ) (told answer : Option ℕ) → value ≡ min (number_of base front) 0x110000 → told ≡ legal_character value → told ≡ answer
    → legal_character (number_of base front) ≡ answer
number_value base value front told answer v t a = sym (capped_character (number_of base front)) ∙ (ap legal_character (sym v) ∙ (sym t ∙ a))

-- `;` stands behind the digits
pub at_semicolon : (text front rest behind : List ℕ) (c : ℕ) → text ≡ front ++ rest → rest ≡ c ∷ behind → c ≡ 0x3b → text ≡ front ++ (0x3b ∷ behind)
at_semicolon text front rest behind c parts first is = parts ∙ ap (λ (t : List ℕ). front ++ t) (first ∙ ap (λ (x : ℕ). x ∷ behind) is)

pub no_digit : (base c : ℕ) → ((digit_value c < base) → ⊥) → is_digit_of base c ≡ false
no_digit base c h = grind (arith, nat_tests, h)

pub a_digit : (base c : ℕ) → digit_value c < base → is_digit_of base c ≡ true
a_digit base c h = grind (arith, nat_tests)
