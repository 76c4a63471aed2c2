-- What is escaped is read back.
use Rattle.std.proofs.Common.{◌≡◌, ◌≢◌, ◌⊎◌, ◌==◌, ℕ, List, [], ◌∷◌, ◌++◌, Bool, true, false, cond, refl, ap, sym, ◌∙◌, subst, inl, inr, append_assoc, ne_eqb, codes, Option, Some, None, IfSome, arith}
use Rattle.std.proofs.lemmas.Bool.Decides.{eqb_tells, nat_tests}
use Rattle.std.specs.List.{AllByRecursion as Each}
use Rattle.markup_parts.specs.Chars.{is_legal, is_space, is_name_start, is_name_char, entity_of}
use Rattle.markup_parts.specs.Constructs.{EndsBefore, IsLiteral, IsEntity, IsNumber, IsReference}
use Rattle.markup_tags.specs.Tags.{IsValueChar, IsValue}
use Rattle.markup_tree.specs.Escapes.{text_escape, value_escape, escaped_text, escaped_value, IsCharacterData}
use Rattle.markup_parts.specs.Outcomes.{Construct, IsRead}
use Rattle.markup_tree.specs.Pieces.{Holds, lines_from, line_ends, IsPlain}
use Rattle.markup_tree.proofs.ConstructOnceLemmas.{plain_once}
use Rattle.markup_parts.proofs.LiteralLemmas.{head_is, tail_is, literal_head}
use Rattle.markup_tree.proofs.OnceLemmas.{Once}
use Rattle.markup_tree.proofs.TagOnceLemmas.{value_once}
use Rattle.markup_tree.specs.declared.part.Part.TheVariants.{Inside}

-- the entities
amp : (after : List ℕ) → IsEntity (codes "amp;" ++ after) (Some 0x26) after
unfolding is_name_char is_name_start entity_of
amp after = record { name = codes "amp"; is_name = record { run = record { parts = refl; all = (refl, (refl, (refl, tt))); ends = refl }; starts = refl }; value = refl }

lt : (after : List ℕ) → IsEntity (codes "lt;" ++ after) (Some 0x3c) after
unfolding is_name_char is_name_start entity_of
lt after = record { name = codes "lt"; is_name = record { run = record { parts = refl; all = (refl, (refl, tt)); ends = refl }; starts = refl }; value = refl }

gt : (after : List ℕ) → IsEntity (codes "gt;" ++ after) (Some 0x3e) after
unfolding is_name_char is_name_start entity_of
gt after = record { name = codes "gt"; is_name = record { run = record { parts = refl; all = (refl, (refl, tt)); ends = refl }; starts = refl }; value = refl }

quot : (after : List ℕ) → IsEntity (codes "quot;" ++ after) (Some 0x22) after
unfolding is_name_char is_name_start entity_of
quot after = record { name = codes "quot"; is_name = record { run = record { parts = refl; all = (refl, (refl, (refl, (refl, tt)))); ends = refl }; starts = refl }; value = refl }

-- the references by numbers
tab : (after : List ℕ) → IsNumber 10 (codes "9;" ++ after) (Some 0x9) after
unfolding is_legal
tab after = record { digits = codes "9"; run = record { parts = refl; all = (refl, tt); ends = refl }; filled = λ e. cc; value = refl }

feed : (after : List ℕ) → IsNumber 10 (codes "10;" ++ after) (Some 0xa) after
unfolding is_legal
feed after = record { digits = codes "10"; run = record { parts = refl; all = (refl, (refl, tt)); ends = refl }; filled = λ e. cc; value = refl }

return : (after : List ℕ) → IsNumber 10 (codes "13;" ++ after) (Some 0xd) after
unfolding is_legal
return after = record { digits = codes "13"; run = record { parts = refl; all = (refl, (refl, tt)); ends = refl }; filled = λ e. cc; value = refl }

-- a character is escaped as character data or stands for itself
abbrev pub IsPlainText : ℕ → Type 0
IsPlainText c = (c ≢ 0x26) × (c ≢ 0x3c) × (c ≢ 0x3e) × (text_escape c ≡ c ∷ [])

pub text_view : (c : ℕ) → (c ≡ 0x26) ⊎ ((c ≡ 0x3c) ⊎ ((c ≡ 0x3e) ⊎ IsPlainText c))
text_view c = elim (eqb_tells c 0x26) [
  | inl is ↦ inl is.1
  | inr a ↦ elim (eqb_tells c 0x3c) [
    | inl is ↦ inr (inl is.1)
    | inr b ↦ elim (eqb_tells c 0x3e) [
      | inl is ↦ inr (inr (inl is.1))
      | inr d ↦ inr (inr (inr (
        a.1,
        b.1,
        d.1,
        ap (λ (x : Bool). cond x (codes "&amp;") (cond (c == 0x3c) (codes "&lt;") (cond (c == 0x3e) (codes "&gt;") (c ∷ [])))) a.0
            ∙ (ap (λ (x : Bool). cond x (codes "&lt;") (cond (c == 0x3e) (codes "&gt;") (c ∷ []))) b.0 ∙ ap (λ (x : Bool). cond x (codes "&gt;") (c ∷ [])) d.0),
      )))
    ]
  ]
]

-- a character of character data; a `]` may not begin `]]>`
abbrev pub BracketEnds : List ℕ → Type 0
BracketEnds rest = EndsBefore (λ c. c == 0x5d) rest ⊎ ((behind : List ℕ) × (rest ≡ codes "]" ++ behind) × EndsBefore (λ c. c == 0x3e) behind)

abbrev pub IsCharacter : List ℕ → ℕ → List ℕ → Type 0
IsCharacter text c rest = IsPlain Inside text (Some (Holds (c ∷ []))) rest

reference_char : (c : ℕ) (reference rest : List ℕ) → IsReference reference (Some c) rest → IsCharacter (0x26 ∷ reference) c rest
reference_char c reference rest h = inl (record { rest = reference; value = Some c; text_is = refl; is = h; saying_is = refl })

bracket_char : (rest : List ℕ) → BracketEnds rest → IsCharacter (0x5d ∷ rest) 0x5d rest
bracket_char rest h = inr (inl (refl, refl, h))

literal_char : (c : ℕ) (rest : List ℕ) → is_legal c ≡ true → c ≢ 0xd → c ≢ 0x3c → c ≢ 0x26 → c ≢ 0x5d → IsCharacter (c ∷ rest) c rest
literal_char c rest legal r l a b = inr (inr (Some c, inl (refl, r, legal), (l, a, b), refl))

plain_char : (c : ℕ) (rest : List ℕ) → is_legal c ≡ true → c ≢ 0xd → BracketEnds rest → IsPlainText c → IsCharacter (c ∷ rest) c rest
plain_char c rest legal r ends plain = elim (eqb_tells c 0x5d) [
  | inl is ↦ subst (λ (x : ℕ). IsCharacter (x ∷ rest) x rest) (sym is.1) (bracket_char rest ends)
  | inr b ↦ literal_char c rest legal r plain.1 plain.0 b.1
]

pub text_char : (c : ℕ) (rest : List ℕ) → is_legal c ≡ true → c ≢ 0xd → BracketEnds rest → IsCharacter (text_escape c ++ rest) c rest
text_char c rest legal r ends = elim (text_view c) [
  | inl is ↦ subst (λ (x : ℕ). IsCharacter (text_escape x ++ rest) x rest) (sym is) (reference_char 0x26 (codes "amp;" ++ rest) rest (inl (amp rest)))
  | inr (inl is) ↦ subst (λ (x : ℕ). IsCharacter (text_escape x ++ rest) x rest) (sym is) (reference_char 0x3c (codes "lt;" ++ rest) rest (inl (lt rest)))
  | inr (inr (inl is)) ↦ subst (λ (x : ℕ). IsCharacter (text_escape x ++ rest) x rest) (sym is) (reference_char 0x3e (codes "gt;" ++ rest) rest (inl (gt rest)))
  | inr (inr (inr plain)) ↦ subst (λ (t : List ℕ). IsCharacter (t ++ rest) c rest) (sym plain.3) (plain_char c rest legal r ends plain)
]

-- escaped character data up to a `<`
module _ (after : List ℕ) where
  abbrev text_from : List ℕ → List ℕ
  text_from cs = escaped_text cs ++ 0x3c ∷ after

  text_more : (c : ℕ) (cs : List ℕ) → text_from (c ∷ cs) ≡ text_escape c ++ text_from cs
  text_more c cs = append_assoc (text_escape c) (escaped_text cs) (0x3c ∷ after)

  -- it doesn't begin with a character that passes
  begins_apart : (test : ℕ → Bool) (d : ℕ) (ds : List ℕ) → test 0x26 ≡ false → (IsPlainText d → test d ≡ false) → EndsBefore test (text_from (d ∷ ds))
  begins_apart test d ds ampersand first = subst (EndsBefore test) (sym (text_more d ds)) (elim (text_view d) [
    | inl is ↦ subst (λ (x : ℕ). EndsBefore test (text_escape x ++ text_from ds)) (sym is) ampersand
    | inr (inl is) ↦ subst (λ (x : ℕ). EndsBefore test (text_escape x ++ text_from ds)) (sym is) ampersand
    | inr (inr (inl is)) ↦ subst (λ (x : ℕ). EndsBefore test (text_escape x ++ text_from ds)) (sym is) ampersand
    | inr (inr (inr plain)) ↦ subst (λ (t : List ℕ). EndsBefore test (t ++ text_from ds)) (sym plain.3) (first plain)
  ])

  no_greater : (cs : List ℕ) → EndsBefore (λ c. c == 0x3e) (text_from cs)
  no_greater [] = refl
  no_greater (d ∷ ds) = begins_apart (λ c. c == 0x3e) d ds refl (λ plain. ne_eqb d 0x3e plain.2)

  bracket_ends : (cs : List ℕ) → BracketEnds (text_from cs)
  bracket_ends [] = inl refl
  bracket_ends (d ∷ ds) = elim (eqb_tells d 0x5d) [
    | inl is ↦ inr (text_from ds, text_more d ds ∙ ap (λ (x : ℕ). text_escape x ++ text_from ds) is.1, no_greater ds)
    | inr apart ↦ inl (begins_apart (λ c. c == 0x5d) d ds refl (λ plain. apart.0))
  ]

  -- a carriage return that stands alone
  return_char : (rest : List ℕ) → EndsBefore (λ d. d == 0xa) rest → IsCharacter (0xd ∷ rest) 0xa rest
  return_char rest ends = inr (inr (Some 0xa, inr (inr (refl, ends, refl)), ((λ e. absurd (omega (arith, e))), (λ e. absurd (omega (arith, e))), (λ e. absurd (omega (arith, e)))), refl))

  return_feed_char : (rest : List ℕ) → IsCharacter (0xd ∷ 0xa ∷ rest) 0xa rest
  return_feed_char rest = inr (inr (Some 0xa, inr (inl (refl, refl)), ((λ e. absurd (omega (arith, e))), (λ e. absurd (omega (arith, e))), (λ e. absurd (omega (arith, e)))), refl))

  lines_plain : (c : ℕ) (cs : List ℕ) → c == 0xd ≡ false → line_ends (c ∷ cs) ≡ c ∷ line_ends cs
  lines_plain c cs e = ap (λ (x : Bool). cond x (0xa ∷ lines_from true cs) (c ∷ lines_from false cs)) e

  lines_behind : (d : ℕ) (ds : List ℕ) → d == 0xa ≡ false → lines_from true (d ∷ ds) ≡ lines_from false (d ∷ ds)
  lines_behind d ds e = ap (λ (x : Bool). cond (d == 0xd) (0xa ∷ lines_from true ds) (cond x (lines_from false ds) (d ∷ lines_from false ds))) e

  data_read : (cs : List ℕ) → Each (λ c. is_legal c ≡ true) cs → IsCharacterData (text_from cs) (Some (line_ends cs)) after
  data_read [] all = refl
  data_read (c ∷ []) all = elim (eqb_tells c 0xd) [
    | inl is ↦ subst (λ (x : ℕ). IsCharacterData (text_from (x ∷ [])) (Some (line_ends (x ∷ []))) after) (sym is.1) (0x3c ∷ after, return_char (0x3c ∷ after) refl, refl)
    | inr apart ↦ subst (λ (t : List ℕ). IsCharacterData (text_from (c ∷ [])) (Some t) after) (sym (lines_plain c [] apart.0))
        (text_from [], subst (λ (t : List ℕ). IsCharacter t c (text_from [])) (sym (text_more c [])) (text_char c (text_from []) all.0 apart.1 (bracket_ends [])), refl)
  ]
  data_read (c ∷ d ∷ ds) all = elim (eqb_tells c 0xd) [
    | inl is ↦ subst (λ (x : ℕ). IsCharacterData (text_from (x ∷ d ∷ ds)) (Some (line_ends (x ∷ d ∷ ds))) after) (sym is.1) (elim (eqb_tells d 0xa) [
      | inl feed ↦ subst (λ (x : ℕ). IsCharacterData (text_from (0xd ∷ x ∷ ds)) (Some (line_ends (0xd ∷ x ∷ ds))) after) (sym feed.1)
          (text_from ds, return_feed_char (text_from ds), data_read ds all.1.1)
      | inr other ↦ subst (λ (t : List ℕ). IsCharacterData (text_from (0xd ∷ d ∷ ds)) (Some (0xa ∷ t)) after) (sym (lines_behind d ds other.0))
          (text_from (d ∷ ds), return_char (text_from (d ∷ ds)) (begins_apart (λ x. x == 0xa) d ds refl (λ plain. other.0)), data_read (d ∷ ds) all.1)
    ])
    | inr apart ↦ subst (λ (t : List ℕ). IsCharacterData (text_from (c ∷ d ∷ ds)) (Some t) after) (sym (lines_plain c (d ∷ ds) apart.0))
        (text_from (d ∷ ds), subst (λ (t : List ℕ). IsCharacter t c (text_from (d ∷ ds))) (sym (text_more c (d ∷ ds))) (text_char c (text_from (d ∷ ds)) all.0 apart.1 (bracket_ends (d ∷ ds))), data_read (d ∷ ds) all.1)
  ]

-- a `<` ends character data
less_ends : (text : List ℕ) (c : ℕ) (after : List ℕ) → IsCharacter (0x3c ∷ text) c after → ⊥
less_ends text c after (inl h) = let e = head_is h.text_is in omega arith
less_ends text c after (inr (inl h)) = let e = head_is h.0 in omega arith
less_ends text c after (inr (inr h)) = go h.0 h.1 h.2 where
  go : (value : Option ℕ) → IsLiteral (0x3c ∷ text) value after → IfSome value (λ d. (d ≢ 0x3c) × (d ≢ 0x26) × (d ≢ 0x5d)) → ⊥
  go None l apart = l
  go (Some d) l apart = elim (literal_head 0x3c text d after l) [ inl same ↦ apart.0 (sym same) | inr is ↦ (let e = is.0 in omega arith) ]

-- there is one reading
held_same : {c d : ℕ} → Some (Holds (c ∷ [])) ≡ Some (Holds (d ∷ [])) → c ≡ d
held_same e = cc

data_once : Once IsCharacterData
data_once text None other after behind h k = absurd h
data_once text (Some one) None after behind h k = absurd k
data_once text (Some one) (Some other) after behind h k = let e = go text one other h k in (ap Some e.0, e.1) where
  go : (text one other : List ℕ) → IsCharacterData text (Some one) after → IsCharacterData text (Some other) behind → (one ≡ other) × (after ≡ behind)
  go text [] [] h k = (refl, tail_is (sym h ∙ k))
  go text [] (d ∷ ds) h k = absurd (less_ends after d k.0 (subst (λ (t : List ℕ). IsCharacter t d k.0) h k.1))
  go text (c ∷ cs) [] h k = absurd (less_ends behind c h.0 (subst (λ (t : List ℕ). IsCharacter t c h.0) k h.1))
  go text (c ∷ cs) (d ∷ ds) h k =
      let first = plain_once Inside text (Some (Holds (c ∷ []))) (Some (Holds (d ∷ []))) h.0 k.0 h.1 k.1 in
      let e = go h.0 cs ds h.2 (subst (λ (t : List ℕ). IsCharacterData t (Some ds) behind) (sym first.1) k.2) in
      (ap (λ (x : ℕ). x ∷ cs) (held_same first.0) ∙ ap (λ (xs : List ℕ). d ∷ xs) e.0, e.1)

-- a construct that stands however the text goes on, and is the only one, is read
only_read : {V : Type 0} {Is : Construct V} → Once Is → (text : List ℕ) (value : V) → ((more : List ℕ) → Is (text ++ more) (Some value) more) → IsRead Is text value []
only_read once text value is = record {
  is = is;
  only = λ more other rest h. once (text ++ more) other (Some value) rest more h (is more);
}

pub data_back : (cs : List ℕ) → Each (λ c. is_legal c ≡ true) cs → IsRead IsCharacterData (escaped_text cs ++ codes "<") (line_ends cs) []
data_back cs legal =
    only_read data_once (escaped_text cs ++ codes "<") (line_ends cs)
    (λ more. subst (λ (t : List ℕ). IsCharacterData t (Some (line_ends cs)) more) (sym (append_assoc (escaped_text cs) (codes "<") more)) (data_read more cs legal))

-- a character is escaped in a value, or as character data
abbrev pub IsPlainValue : ℕ → Type 0
IsPlainValue c = (c ≢ 0x22) × (c ≢ 0x9) × (c ≢ 0xa) × (c ≢ 0xd) × (value_escape c ≡ text_escape c)

pub value_view : (c : ℕ) → (c ≡ 0x22) ⊎ ((c ≡ 0x9) ⊎ ((c ≡ 0xa) ⊎ ((c ≡ 0xd) ⊎ IsPlainValue c)))
value_view c = elim (eqb_tells c 0x22) [
  | inl is ↦ inl is.1
  | inr a ↦ elim (eqb_tells c 0x9) [
    | inl is ↦ inr (inl is.1)
    | inr b ↦ elim (eqb_tells c 0xa) [
      | inl is ↦ inr (inr (inl is.1))
      | inr d ↦ elim (eqb_tells c 0xd) [
        | inl is ↦ inr (inr (inr (inl is.1)))
        | inr f ↦ inr (inr (inr (inr (
          a.1,
          b.1,
          d.1,
          f.1,
          ap (λ (x : Bool). cond x (codes "&quot;") (cond (c == 0x9) (codes "&#9;") (cond (c == 0xa) (codes "&#10;") (cond (c == 0xd) (codes "&#13;") (text_escape c))))) a.0
              ∙ (ap (λ (x : Bool). cond x (codes "&#9;") (cond (c == 0xa) (codes "&#10;") (cond (c == 0xd) (codes "&#13;") (text_escape c)))) b.0
              ∙ (ap (λ (x : Bool). cond x (codes "&#10;") (cond (c == 0xd) (codes "&#13;") (text_escape c))) d.0
              ∙ ap (λ (x : Bool). cond x (codes "&#13;") (text_escape c)) f.0)),
        ))))
      ]
    ]
  ]
]

value_reference : (c : ℕ) (reference rest : List ℕ) → IsReference reference (Some c) rest → IsValueChar 0x22 (0x26 ∷ reference) c rest
value_reference c reference rest h = inr (reference, refl, h)

not_space : (c : ℕ) → c ≢ 0x9 → c ≢ 0xa → c ≢ 0xd → c ≢ 0x20 → is_space c ≡ false
unfolding is_space
not_space c a b d e = grind (arith, nat_tests)

space_space : is_space 0x20 ≡ true
unfolding is_space
space_space = refl

kept_space : (c : ℕ) → IsPlainValue c → c ≡ cond (is_space c) 0x20 c
kept_space c plain = elim (eqb_tells c 0x20) [
  | inl is ↦ is.1 ∙ (sym (ap (λ (x : Bool). cond x 0x20 0x20) space_space) ∙ sym (ap (λ (x : ℕ). cond (is_space x) 0x20 x) is.1))
  | inr apart ↦ sym (ap (λ (x : Bool). cond x 0x20 c) (not_space c plain.1 plain.2 plain.3 apart.1))
]

value_literal : (c : ℕ) (rest : List ℕ) → is_legal c ≡ true → IsPlainValue c → IsPlainText c → IsValueChar 0x22 (c ∷ rest) c rest
value_literal c rest legal plain text = inl (c, inl (refl, plain.3, legal), plain.0, text.1, text.0, kept_space c plain)

value_plain : (c : ℕ) (rest : List ℕ) → is_legal c ≡ true → IsPlainValue c → IsValueChar 0x22 (text_escape c ++ rest) c rest
value_plain c rest legal plain = elim (text_view c) [
  | inl is ↦ subst (λ (x : ℕ). IsValueChar 0x22 (text_escape x ++ rest) x rest) (sym is) (value_reference 0x26 (codes "amp;" ++ rest) rest (inl (amp rest)))
  | inr (inl is) ↦ subst (λ (x : ℕ). IsValueChar 0x22 (text_escape x ++ rest) x rest) (sym is) (value_reference 0x3c (codes "lt;" ++ rest) rest (inl (lt rest)))
  | inr (inr (inl is)) ↦ subst (λ (x : ℕ). IsValueChar 0x22 (text_escape x ++ rest) x rest) (sym is) (value_reference 0x3e (codes "gt;" ++ rest) rest (inl (gt rest)))
  | inr (inr (inr text)) ↦ subst (λ (t : List ℕ). IsValueChar 0x22 (t ++ rest) c rest) (sym text.3) (value_literal c rest legal plain text)
]

value_number : (c : ℕ) (number rest : List ℕ) → IsNumber 10 number (Some c) rest → IsReference (0x23 ∷ number) (Some c) rest
value_number c number rest h = inr (number, refl, inl h)

value_char_read : (c : ℕ) (rest : List ℕ) → is_legal c ≡ true → IsValueChar 0x22 (value_escape c ++ rest) c rest
value_char_read c rest legal = elim (value_view c) [
  | inl is ↦ subst (λ (x : ℕ). IsValueChar 0x22 (value_escape x ++ rest) x rest) (sym is) (value_reference 0x22 (codes "quot;" ++ rest) rest (inl (quot rest)))
  | inr (inl is) ↦ subst (λ (x : ℕ). IsValueChar 0x22 (value_escape x ++ rest) x rest) (sym is) (value_reference 0x9 (codes "#9;" ++ rest) rest (value_number 0x9 (codes "9;" ++ rest) rest (tab rest)))
  | inr (inr (inl is)) ↦ subst (λ (x : ℕ). IsValueChar 0x22 (value_escape x ++ rest) x rest) (sym is) (value_reference 0xa (codes "#10;" ++ rest) rest (value_number 0xa (codes "10;" ++ rest) rest (feed rest)))
  | inr (inr (inr (inl is))) ↦ subst (λ (x : ℕ). IsValueChar 0x22 (value_escape x ++ rest) x rest) (sym is) (value_reference 0xd (codes "#13;" ++ rest) rest (value_number 0xd (codes "13;" ++ rest) rest (return rest)))
  | inr (inr (inr (inr plain))) ↦ subst (λ (t : List ℕ). IsValueChar 0x22 (t ++ rest) c rest) (sym plain.4) (value_plain c rest legal plain)
]

pub value_read : (cs after : List ℕ) → Each (λ c. is_legal c ≡ true) cs → IsValue 0x22 (escaped_value cs ++ 0x22 ∷ after) (Some cs) after
value_read [] after all = refl
value_read (c ∷ cs) after all = (
  escaped_value cs ++ 0x22 ∷ after,
  subst (λ (t : List ℕ). IsValueChar 0x22 t c (escaped_value cs ++ 0x22 ∷ after)) (sym (append_assoc (value_escape c) (escaped_value cs) (0x22 ∷ after))) (value_char_read c (escaped_value cs ++ 0x22 ∷ after) all.0),
  value_read cs after all.1,
)

pub value_back : (cs : List ℕ) → Each (λ c. is_legal c ≡ true) cs → IsRead (IsValue 0x22) (escaped_value cs ++ 0x22 ∷ []) cs []
value_back cs legal =
    only_read (value_once (inl refl)) (escaped_value cs ++ 0x22 ∷ []) cs
    (λ more. subst (λ (t : List ℕ). IsValue 0x22 t (Some cs) more) (sym (append_assoc (escaped_value cs) (0x22 ∷ []) more)) (value_read cs more legal))
