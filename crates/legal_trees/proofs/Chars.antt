-- Characters that stand for themselves or are named are legal.
use Rattle.std.proofs.Common.{◌≡◌, ℕ, ◌≤◌, ◌<◌, ◌⊎◌, inl, inr, ◌&&◌, ◌||◌, Bool, true, false, cond, List, refl, sym, subst, arith, codes, bytes_eq, Option, Some, None}
use Rattle.std.specs.Prelude.{nat_le}
use Rattle.std.proofs.lemmas.Bool.{and_parts, leb-true, cases_lt, or_cases}
use Rattle.markup_parts.specs.Chars.{is_legal, number_of, legal_character, entity_of}
use Rattle.markup_parts.specs.Constructs.{IsLiteral, IsNumeric, IsReference}
use Rattle.doc_model.specs.Chars.{IsLegal}

pub some_same : {A : Type 0} {x y : A} → Some x ≡ Some y → x ≡ y
some_same e = cc

pub none_some : {A : Type 0} {x : A} → None ≡ Some x → ⊥
none_some e = cc

-- a character from U+20 to U+D7FF, or a line feed
pub ordinary : (c : ℕ) → 0x20 ≤ c → c ≤ 0xd7ff → IsLegal c
ordinary c low high = inr (inr (inr (inl (low, high))))

pub feed : (c : ℕ) → c ≡ 0xa → IsLegal c
feed c e = inr (inl e)

-- whether a number is in a range
within : (first last c : ℕ) → (nat_le first c && nat_le c last) ≡ true → (first ≤ c) × (c ≤ last)
within first last c e = let parts = and_parts (nat_le first c) (nat_le c last) e in (leb-true first c parts.0, leb-true c last parts.1)

-- a character in one of the ranges is legal
tab_or_feed : (c : ℕ) → (0x9 ≤ c) × (c ≤ 0xa) → IsLegal c
tab_or_feed c h = by_order (cases_lt c 0xa) where
  by_order : (c < 0xa) ⊎ (0xa ≤ c) → IsLegal c
  by_order (inl l) = inl (omega (arith, h.0, l))
  by_order (inr l) = inr (inl (omega (arith, h.1, l)))

pub legal : (c : ℕ) → is_legal c ≡ true → IsLegal c
unfolding is_legal
legal c is = first (or_cases (nat_le 0x9 c && nat_le c 0xa) _ is) where
  fifth : (nat_le 0x10000 c && nat_le c 0x10ffff) ≡ true → IsLegal c
  fifth e = inr (inr (inr (inr (inr (within 0x10000 0x10ffff c e)))))

  last : ((nat_le 0x10000 c && nat_le c 0x10ffff) ≡ true) ⊎ (false ≡ true) → IsLegal c
  last (inl e) = fifth e
  last (inr e) = absurd cc

  fourth : ((nat_le 0xe000 c && nat_le c 0xfffd) ≡ true) ⊎ (((nat_le 0x10000 c && nat_le c 0x10ffff) || false) ≡ true) → IsLegal c
  fourth (inl e) = inr (inr (inr (inr (inl (within 0xe000 0xfffd c e)))))
  fourth (inr e) = last (or_cases (nat_le 0x10000 c && nat_le c 0x10ffff) false e)

  third : ((nat_le 0x20 c && nat_le c 0xd7ff) ≡ true) ⊎ (((nat_le 0xe000 c && nat_le c 0xfffd) || ((nat_le 0x10000 c && nat_le c 0x10ffff) || false)) ≡ true) → IsLegal c
  third (inl e) = inr (inr (inr (inl (within 0x20 0xd7ff c e))))
  third (inr e) = fourth (or_cases (nat_le 0xe000 c && nat_le c 0xfffd) ((nat_le 0x10000 c && nat_le c 0x10ffff) || false) e)

  second : ((nat_le 0xd c && nat_le c 0xd) ≡ true) ⊎ (((nat_le 0x20 c && nat_le c 0xd7ff) || ((nat_le 0xe000 c && nat_le c 0xfffd) || ((nat_le 0x10000 c && nat_le c 0x10ffff) || false))) ≡ true) → IsLegal c
  second (inl e) = let h = within 0xd 0xd c e in inr (inr (inl (omega (arith, h.0, h.1))))
  second (inr e) = third (or_cases (nat_le 0x20 c && nat_le c 0xd7ff) ((nat_le 0xe000 c && nat_le c 0xfffd) || ((nat_le 0x10000 c && nat_le c 0x10ffff) || false)) e)

  first : ((nat_le 0x9 c && nat_le c 0xa) ≡ true) ⊎ (((nat_le 0xd c && nat_le c 0xd) || ((nat_le 0x20 c && nat_le c 0xd7ff) || ((nat_le 0xe000 c && nat_le c 0xfffd) || ((nat_le 0x10000 c && nat_le c 0x10ffff) || false)))) ≡ true) → IsLegal c
  first (inl e) = tab_or_feed c (within 0x9 0xa c e)
  first (inr e) = second (or_cases (nat_le 0xd c && nat_le c 0xd) ((nat_le 0x20 c && nat_le c 0xd7ff) || ((nat_le 0xe000 c && nat_le c 0xfffd) || ((nat_le 0x10000 c && nat_le c 0x10ffff) || false))) e)

-- a character as it stands
pub literal_legal : (text : List ℕ) (c : ℕ) (after : List ℕ) → IsLiteral text (Some c) after → IsLegal c
literal_legal text c after (inl h) = legal c h.2
literal_legal text c after (inr (inl h)) = feed c h.1
literal_legal text c after (inr (inr h)) = feed c h.2

-- a character that a reference names
number_legal : (n c : ℕ) → Some c ≡ legal_character n → IsLegal c
number_legal n c e = by_test (is_legal n) refl e where
  by_test : (b : Bool) → is_legal n ≡ b → Some c ≡ cond b (Some n) None → IsLegal c
  by_test true is e = subst IsLegal (sym (some_same e)) (legal n is)
  by_test false is e = absurd (none_some (sym e))

abbrev entity : Bool → Bool → Bool → Bool → Bool → Option ℕ
entity a b d e f = cond a (Some 0x3c) (cond b (Some 0x3e) (cond d (Some 0x26) (cond e (Some 0x27) (cond f (Some 0x22) None))))

named : (a b d e f : Bool) (c : ℕ) → Some c ≡ entity a b d e f → IsLegal c
named true b d e f c is = let same : c ≡ 0x3c = some_same is in ordinary c (omega (arith, same)) (omega (arith, same))
named false true d e f c is = let same : c ≡ 0x3e = some_same is in ordinary c (omega (arith, same)) (omega (arith, same))
named false false true e f c is = let same : c ≡ 0x26 = some_same is in ordinary c (omega (arith, same)) (omega (arith, same))
named false false false true f c is = let same : c ≡ 0x27 = some_same is in ordinary c (omega (arith, same)) (omega (arith, same))
named false false false false true c is = let same : c ≡ 0x22 = some_same is in ordinary c (omega (arith, same)) (omega (arith, same))
named false false false false false c is = absurd (none_some (sym is))

entity_legal : (name : List ℕ) (c : ℕ) → Some c ≡ entity_of name → IsLegal c
unfolding entity_of
entity_legal name c e = named (bytes_eq name (codes "lt")) (bytes_eq name (codes "gt")) (bytes_eq name (codes "amp")) (bytes_eq name (codes "apos")) (bytes_eq name (codes "quot")) c e

numeric_legal : (text : List ℕ) (c : ℕ) (after : List ℕ) → IsNumeric text (Some c) after → IsLegal c
numeric_legal text c after (inl h) = number_legal (number_of 10 h.digits) c h.value
numeric_legal text c after (inr h) = number_legal (number_of 16 h.2.digits) c h.2.value

pub reference_legal : (text : List ℕ) (c : ℕ) (after : List ℕ) → IsReference text (Some c) after → IsLegal c
reference_legal text c after (inl h) = entity_legal h.name c h.value
reference_legal text c after (inr h) = numeric_legal h.0 c after h.2
