-- Texts of legal characters.
use Rattle.std.proofs.Common.{◌≡◌, ℕ, ◌+◌, ◌/◌, ◌%◌, ◌≤◌, ◌<◌, ◌⊎◌, inl, inr, ◌&&◌, ◌||◌, ◌==◌, not, zero, suc, Bool, true, false, cond, List, [], ◌∷◌, ◌++◌, map, codes, decimal, refl, ap, ◌∙◌, arith, ℤ, pos, negsuc}
use Rattle.std.specs.Prelude.{nat_le, unsigned_abs}
use Rattle.std.specs.Fmt.{digits, digit_glyph, digits_onto, sign_text}
use Rattle.std.specs.List.{list_all, AllByRecursion as Each}
use Rattle.std.proofs.lemmas.Bool.{and_parts, and_from, or_left, or_right, le-leb, lt-ltb, ne_eqb, not_from_false}
use Rattle.markup_parts.specs.Chars.{is_legal}
use Rattle.doc_model.specs.Chars.{IsLegal, IsLegalText}
use Rattle.style_model.specs.Lengths.{digit_at, six_digits, millionths, is_below_zero, length_spelling}
use Rattle.written_model.specs.Values.{whole_text}

-- a text of legal characters
abbrev pub AreLegal : List ℕ → Type 0
AreLegal text = list_all is_legal text ≡ true

-- whether a number is in a range
within : (first last c : ℕ) → first ≤ c → c ≤ last → (nat_le first c && nat_le c last) ≡ true
within first last c low high = and_from (nat_le first c) (nat_le c last) (le-leb first c low) (le-leb c last high)

-- the ranges of legal characters, and that each is one of them
abbrev five : Bool → Bool → Bool → Bool → Bool → Bool
five a b d e f = a || (b || (d || (e || (f || false))))

module _ (a b d e f : Bool) where
  one_of : (a ≡ true) ⊎ (b ≡ true) ⊎ (d ≡ true) ⊎ (e ≡ true) ⊎ (f ≡ true) → five a b d e f ≡ true
  one_of (inl is) = or_left a (b || (d || (e || (f || false)))) is
  one_of (inr (inl is)) = or_right a (b || (d || (e || (f || false)))) (or_left b (d || (e || (f || false))) is)
  one_of (inr (inr (inl is))) = or_right a (b || (d || (e || (f || false)))) (or_right b (d || (e || (f || false))) (or_left d (e || (f || false)) is))
  one_of (inr (inr (inr (inl is)))) = or_right a (b || (d || (e || (f || false)))) (or_right b (d || (e || (f || false))) (or_right d (e || (f || false)) (or_left e (f || false) is)))
  one_of (inr (inr (inr (inr is)))) = or_right a (b || (d || (e || (f || false)))) (or_right b (d || (e || (f || false))) (or_right d (e || (f || false)) (or_right e (f || false) (or_left f false is))))

-- a legal character is one by the ranges
pub legal : (c : ℕ) → IsLegal c → is_legal c ≡ true
unfolding is_legal
legal c is =
    one_of (nat_le 0x9 c && nat_le c 0xa) (nat_le 0xd c && nat_le c 0xd) (nat_le 0x20 c && nat_le c 0xd7ff) (nat_le 0xe000 c && nat_le c 0xfffd) (nat_le 0x10000 c && nat_le c 0x10ffff) (by_range is) where
      by_range : IsLegal c → ((nat_le 0x9 c && nat_le c 0xa) ≡ true) ⊎ ((nat_le 0xd c && nat_le c 0xd) ≡ true) ⊎ ((nat_le 0x20 c && nat_le c 0xd7ff) ≡ true) ⊎ ((nat_le 0xe000 c && nat_le c 0xfffd) ≡ true) ⊎ ((nat_le 0x10000 c && nat_le c 0x10ffff) ≡ true)
      by_range (inl e) = inl (within 0x9 0xa c (omega (arith, e)) (omega (arith, e)))
      by_range (inr (inl e)) = inl (within 0x9 0xa c (omega (arith, e)) (omega (arith, e)))
      by_range (inr (inr (inl e))) = inr (inl (within 0xd 0xd c (omega (arith, e)) (omega (arith, e))))
      by_range (inr (inr (inr (inl h)))) = inr (inr (inl (within 0x20 0xd7ff c h.0 h.1)))
      by_range (inr (inr (inr (inr (inl h))))) = inr (inr (inr (inl (within 0xe000 0xfffd c h.0 h.1))))
      by_range (inr (inr (inr (inr (inr h))))) = inr (inr (inr (inr (within 0x10000 0x10ffff c h.0 h.1))))

-- a character of a paragraph is legal and no carriage return
pub legal_text : (c : ℕ) → IsLegalText c → (is_legal c && not (c == 0xd)) ≡ true
legal_text c h = and_from (is_legal c) (not (c == 0xd)) (legal c h.0) (not_from_false (c == 0xd) (ne_eqb c 0xd (λ e. omega (arith, h.1, e))))

pub none_legal : AreLegal []
none_legal = refl

pub one_legal : (c : ℕ) → IsLegal c → AreLegal (c ∷ [])
one_legal c h = and_from (is_legal c) true (legal c h) refl

pub all_legal : (text : List ℕ) → Each IsLegal text → AreLegal text
all_legal [] each = refl
all_legal (c ∷ cs) each = and_from (is_legal c) (list_all is_legal cs) (legal c each.0) (all_legal cs each.1)

pub both_legal : (text other : List ℕ) → AreLegal text → AreLegal other → AreLegal (text ++ other)
both_legal [] other one two = two
both_legal (c ∷ cs) other one two =
    let parts = and_parts (is_legal c) (list_all is_legal cs) one in
    and_from (is_legal c) (list_all is_legal (cs ++ other)) parts.0 (both_legal cs other parts.1 two)

-- digits
digit_legal : (c : ℕ) → 48 ≤ c → c ≤ 57 → is_legal c ≡ true
digit_legal c low high = legal c (inr (inr (inr (inl (omega (arith, low), omega (arith, high))))))

glyph_legal : (d : ℕ) → d < 10 → is_legal (digit_glyph false d) ≡ true
glyph_legal d h = ap (λ (below : Bool). is_legal (cond below (48 + d) (87 + d))) (lt-ltb d 10 h) ∙ digit_legal (48 + d) (omega arith) (omega (arith, h))

onto_legal : (k n : ℕ) (behind : List ℕ) → AreLegal behind → AreLegal (digits_onto k 10 false n behind)
onto_legal zero n behind are = are
onto_legal (suc k) n behind are = either (n / 10 == 0) _ _ more (onto_legal k (n / 10) (digit_glyph false (n % 10) ∷ behind) more) where
  more : AreLegal (digit_glyph false (n % 10) ∷ behind)
  more = and_from (is_legal (digit_glyph false (n % 10))) (list_all is_legal behind) (glyph_legal (n % 10) (omega arith)) are

  either : (b : Bool) (xs ys : List ℕ) → AreLegal xs → AreLegal ys → AreLegal (cond b xs ys)
  either true xs ys one two = one
  either false xs ys one two = two

pub decimal_legal : (n : ℕ) → AreLegal (decimal n)
unfolding digits
decimal_legal n = onto_legal 64 n [] refl

sign_legal : (below : Bool) → AreLegal (sign_text below)
unfolding is_legal
sign_legal true = refl
sign_legal false = refl

places_legal : (n : ℕ) (places : List ℕ) → AreLegal (map (digit_at n) places)
places_legal n [] = refl
places_legal n (place ∷ places) = and_from (is_legal (digit_at n place)) (list_all is_legal (map (digit_at n) places)) (digit_legal (digit_at n place) (omega arith) (omega arith)) (places_legal n places)

six_legal : (n : ℕ) → AreLegal (six_digits n)
six_legal n = places_legal n (100000 ∷ 10000 ∷ 1000 ∷ 100 ∷ 10 ∷ 1 ∷ [])

inches_legal : AreLegal (codes "in")
unfolding is_legal
inches_legal = refl

point_legal : AreLegal (codes ".")
unfolding is_legal
point_legal = refl

minus_legal : AreLegal (codes "-")
unfolding is_legal
minus_legal = refl

pub length_legal : (units : ℤ) → AreLegal (length_spelling units)
length_legal units =
    let size : ℕ = millionths (unsigned_abs units) in
    both_legal (sign_text (is_below_zero units)) (decimal (size / 1000000) ++ (codes "." ++ six_digits size ++ codes "in")) (sign_legal (is_below_zero units))
    (both_legal (decimal (size / 1000000)) (codes "." ++ six_digits size ++ codes "in") (decimal_legal (size / 1000000))
    (both_legal (codes "." ++ six_digits size) (codes "in") (both_legal (codes ".") (six_digits size) point_legal (six_legal size)) inches_legal))

pub whole_legal : (number : ℤ) → AreLegal (whole_text number)
whole_legal (pos number) = decimal_legal number
whole_legal (negsuc more) = both_legal (codes "-") (decimal (more + 1)) minus_legal (decimal_legal (more + 1))
