-- A text begins with one attribute value and with one tag at most.
use Rattle.std.proofs.Common.{◌≡◌, ℕ, List, [], ◌∷◌, Bool, true, false, refl, ap, sym, ◌∙◌, subst, inl, inr, Option, Some, None, arith}
use Rattle.std.proofs.lemmas.List.{append-nil}
use Rattle.std.specs.Option.{option_map}
use Rattle.markup_parts.specs.Chars.{is_name_start}
use Rattle.markup_parts.specs.Constructs.{IsGap, IsSpace, IsLiteral, IsReference}
use Rattle.markup_tags.specs.Tags.{IsQuote, IsValueChar, IsValuePart, IsNextOfValue, IsValue, IsOpening, IsEquals, IsAttributeRest, IsAttribute, AreAttributes, IsTagEnd, IsTagRest, IsTag, IsEndTag}
use Rattle.markup_nodes.specs.declared.words.Attr.{Attr}
use Rattle.markup_parts.proofs.LiteralLemmas.{head_is, tail_is, literal_head}
use Rattle.markup_tree.proofs.OnceLemmas.{Once, read_once, run_alone, name_alone, gap_alone, literal_once, reference_once}
use Rattle.markup_parts.proofs.ReferenceLemmas.{starts_apart}
use Rattle.markup_tags.proofs.TagLemmas.{attr_of, tag_of, pair}
use Rattle.markup_tags.proofs.ValueLemmas.{as_space, next_quote, next_reference}

some_is : {A : Type 0} {x y : A} → Some x ≡ Some y → x ≡ y
some_is e = cc

some_none : {A : Type 0} {x : A} → Some x ≡ None → ⊥
some_none e = cc

-- a character of a value
no_ampersand : (text : List ℕ) (d : ℕ) (after reference : List ℕ) → IsLiteral text (Some d) after → (d ≡ 0x26 → ⊥) → text ≡ 0x26 ∷ reference → ⊥
no_ampersand text d after reference h apart e =
    elim (literal_head 0x26 reference d after (subst (λ (t : List ℕ). IsLiteral t (Some d) after) e h)) [
      | inl same ↦ apart (sym same)
      | inr is ↦ (let f = is.0 in absurd (omega arith))
    ]

value_char_once : (quote : ℕ) (text : List ℕ) (c d : ℕ) (after behind : List ℕ) → IsValueChar quote text c after → IsValueChar quote text d behind → (c ≡ d) × (after ≡ behind)
value_char_once quote text c d after behind (inl h) (inl k) =
    let e = literal_once text (Some h.0) (Some k.0) after behind h.1 k.1 in
    (h.5 ∙ (ap as_space (some_is e.0) ∙ sym k.5), e.1)
value_char_once quote text c d after behind (inl h) (inr k) = absurd (no_ampersand text h.0 after k.0 h.1 h.4 k.1)
value_char_once quote text c d after behind (inr h) (inl k) = absurd (no_ampersand text k.0 behind h.0 k.1 k.4 h.1)
value_char_once quote text c d after behind (inr h) (inr k) =
    let e = reference_once h.0 (Some c) (Some d) after behind h.2 (subst (λ (t : List ℕ). IsReference t (Some d) behind) (tail_is (sym k.1 ∙ h.1)) k.2) in
    (some_is e.0, e.1)

-- the next character, or the end
pub next_once : {quote : ℕ} → IsQuote quote → Once (IsNextOfValue quote)
next_once {quote} q text (Some None) other after behind h k = let e = read_once (next_quote q h refl) k in (sym e.0, sym e.1)
next_once {quote} q text one (Some None) after behind h k = read_once (next_quote q k refl) h
next_once {quote} q text (Some (Some c)) (Some (Some d)) after behind h k =
    let e = value_char_once quote text c d after behind h k in
    (ap (λ (x : ℕ). Some (Some x)) e.0, e.1)
next_once {quote} q text None other after behind h k = of_reference h.0 h.1 h.2 k where
  of_reference : (reference : List ℕ) → text ≡ 0x26 ∷ reference → IsReference reference None after → IsNextOfValue quote text other behind → (None ≡ other) × (after ≡ behind)
  of_reference reference first r k =
      let found = (next_reference q first).only [] other behind (subst (λ (t : List ℕ). IsNextOfValue quote t other behind) (sym (append-nil text)) k) in
      let e = reference_once reference None found.0 after behind r (subst (λ (t : List ℕ). IsReference t found.0 behind) (append-nil reference) found.2) in
      (ap (option_map Some) e.0 ∙ sym found.1, e.1)
next_once {quote} q text (Some (Some c)) None after behind h k = of_reference k.0 k.1 k.2 where
  of_reference : (reference : List ℕ) → text ≡ 0x26 ∷ reference → IsReference reference None behind → (Some (Some c) ≡ None) × (after ≡ behind)
  of_reference reference first r =
      let found = (next_reference q first).only [] (Some (Some c)) after (subst (λ (t : List ℕ). IsNextOfValue quote t (Some (Some c)) after) (sym (append-nil text)) h) in
      let e = reference_once reference found.0 None after behind (subst (λ (t : List ℕ). IsReference t found.0 after) (append-nil reference) found.2) r in
      (found.1 ∙ ap (option_map Some) e.0, e.1)

-- the end of a value
abbrev IsLast : Option (Option ℕ) → Type 0
IsLast (Some (Some c)) = ⊥
IsLast _ = Unit {0}

-- characters of a value up to its end
part_once : {quote : ℕ} → IsQuote quote → (cs ds text left right : List ℕ) (one other : Option (Option ℕ)) (after behind : List ℕ) → IsValuePart quote text cs left → IsValuePart quote text ds right
    → IsNextOfValue quote left one after → IsNextOfValue quote right other behind → IsLast one → IsLast other → (cs ≡ ds) × (one ≡ other) × (after ≡ behind)
part_once {quote} q [] [] text left right one other after behind p r n m a b =
    let e = next_once q text one other after behind (subst (λ (t : List ℕ). IsNextOfValue quote t one after) (sym p) n) (subst (λ (t : List ℕ). IsNextOfValue quote t other behind) (sym r) m) in
    (refl, e.0, e.1)
part_once {quote} q [] (d ∷ ds) text left right one other after behind p r n m a b =
    let e = next_once q text one (Some (Some d)) after r.0 (subst (λ (t : List ℕ). IsNextOfValue quote t one after) (sym p) n) r.1 in
    absurd (subst IsLast e.0 a)
part_once {quote} q (c ∷ cs) [] text left right one other after behind p r n m a b =
    let e = next_once q text other (Some (Some c)) behind p.0 (subst (λ (t : List ℕ). IsNextOfValue quote t other behind) (sym r) m) p.1 in
    absurd (subst IsLast e.0 b)
part_once {quote} q (c ∷ cs) (d ∷ ds) text left right one other after behind p r n m a b =
    let first = value_char_once quote text c d p.0 r.0 p.1 r.1 in
    let e = part_once q cs ds p.0 left right one other after behind p.2 (subst (λ (t : List ℕ). IsValuePart quote t ds right) (sym first.1) r.2) n m a b in
    (ap (λ (x : ℕ). x ∷ cs) first.0 ∙ ap (λ (xs : List ℕ). d ∷ xs) e.0, e.1, e.2)

pub value_once : {quote : ℕ} → IsQuote quote → Once (IsValue quote)
value_once {quote} q text (Some cs) (Some ds) after behind h k =
    let e = part_once q cs ds text (quote ∷ after) (quote ∷ behind) (Some None) (Some None) after behind h k refl refl tt tt in
    (ap Some e.0, e.2)
value_once {quote} q text (Some cs) None after behind h k =
    absurd (some_none (part_once q cs k.0 text (quote ∷ after) (0x26 ∷ k.1) (Some None) None after behind h k.2 refl (k.1, refl, k.3) tt tt).1)
value_once {quote} q text None (Some ds) after behind h k =
    absurd (some_none (part_once q ds h.0 text (quote ∷ behind) (0x26 ∷ h.1) (Some None) None behind after k h.2 refl (h.1, refl, h.3) tt tt).1)
value_once {quote} q text None None after behind h k =
    let e = part_once q h.0 k.0 text (0x26 ∷ h.1) (0x26 ∷ k.1) None None after behind h.2 k.2 (h.1, refl, h.3) (k.1, refl, k.3) tt tt in
    (refl, e.2)

-- an attribute behind its name
opening_once : Once IsOpening
opening_once text None other after behind h k = absurd h
opening_once text (Some c) None after behind h k = absurd k
opening_once text (Some c) (Some d) after behind h k = let e = gap_alone h.1 k.1 in (ap Some (head_is e), tail_is e)

equals_once : Once IsEquals
equals_once text one other after behind h k =
    opening_once h.0 one other after behind h.2 (subst (λ (t : List ℕ). IsOpening t other behind) (tail_is (gap_alone k.1 h.1)) k.2)

attribute_rest_once : Once IsAttributeRest
attribute_rest_once text one other after behind h k =
    let e = equals_once text (Some h.0) (Some k.0) h.1 k.1 h.2 k.2 in
    value_once h.2.2.0 h.1 one other after behind h.3
    (subst (λ (t : List ℕ). IsValue h.0 t other behind) (sym e.1) (subst (λ (d : ℕ). IsValue d k.1 other behind) (sym (some_is e.0)) k.3))

attribute_once : Once IsAttribute
attribute_once text (Some one) (Some other) after behind h k =
    let n = name_alone h.1 k.1 in
    let e = attribute_rest_once h.0 (Some one.value) (Some other.value) after behind h.2 (subst (λ (t : List ℕ). IsAttributeRest t (Some other.value) behind) (sym n.1) k.2) in
    (ap (λ (x : List ℕ). Some (attr_of x one.value)) n.0 ∙ ap (λ (x : List ℕ). Some (attr_of other.name x)) (some_is e.0), e.1)
attribute_once text (Some one) None after behind h k =
    let n = name_alone h.1 k.2 in
    absurd (some_none (attribute_rest_once h.0 (Some one.value) None after behind h.2 (subst (λ (t : List ℕ). IsAttributeRest t None behind) (sym n.1) k.3)).0)
attribute_once text None (Some other) after behind h k =
    let n = name_alone k.1 h.2 in
    absurd (some_none (attribute_rest_once k.0 (Some other.value) None behind after k.2 (subst (λ (t : List ℕ). IsAttributeRest t None after) (sym n.1) h.3)).0)
attribute_once text None None after behind h k =
    let n = name_alone h.2 k.2 in
    (refl, (attribute_rest_once h.1 None None after behind h.3 (subst (λ (t : List ℕ). IsAttributeRest t None behind) (sym n.1) k.3)).1)

-- no attribute that is read stands at a gap
abbrev NoAttribute : List ℕ → Type 0
NoAttribute gap = (attr : Attr) (front rest : List ℕ) → IsSpace gap front → IsAttribute front (Some attr) rest → ⊥

attributes_once : (more others : List Attr) (text gap other : List ℕ) → AreAttributes text more gap → AreAttributes text others other → NoAttribute gap → NoAttribute other → (more ≡ others) × (gap ≡ other)
attributes_once [] [] text gap other a b x y = (refl, sym a ∙ b)
attributes_once [] (attr ∷ attrs) text gap other a b x y = absurd (x attr b.0 b.1 (subst (λ (t : List ℕ). IsSpace t b.0) a b.2) b.3)
attributes_once (attr ∷ attrs) [] text gap other a b x y = absurd (y attr a.0 a.1 (subst (λ (t : List ℕ). IsSpace t a.0) b a.2) a.3)
attributes_once (attr ∷ more) (found ∷ others) text gap other a b x y =
    let s = (run_alone a.2.2 b.2.2).1 in
    let first = attribute_once a.0 (Some attr) (Some found) a.1 b.1 a.3 (subst (λ (t : List ℕ). IsAttribute t (Some found) b.1) (sym s) b.3) in
    let e = attributes_once more others a.1 gap other a.4 (subst (λ (t : List ℕ). AreAttributes t others other) (sym first.1) b.4) x y in
    (ap (λ (z : Attr). z ∷ more) (some_is first.0) ∙ ap (λ (zs : List Attr). found ∷ zs) e.0, e.1)

-- the end of a tag
end_no_start : is_name_start 0x3e ≡ false
unfolding is_name_start
end_no_start = refl

slash_no_start : is_name_start 0x2f ≡ false
unfolding is_name_start
slash_no_start = refl

end_once : (text : List ℕ) (one other : Bool) (after behind : List ℕ) → IsTagEnd text one after → IsTagEnd text other behind → (one ≡ other) × (after ≡ behind)
end_once text false false after behind h k = (refl, tail_is (sym h ∙ k))
end_once text false true after behind h k = let e = head_is (sym h ∙ k) in absurd (omega arith)
end_once text true false after behind h k = let e = head_is (sym h ∙ k) in absurd (omega arith)
end_once text true true after behind h k = (refl, tail_is (tail_is (sym h ∙ k)))

attribute_apart : (c : ℕ) (text : List ℕ) (attr : Option Attr) (after : List ℕ) → is_name_start c ≡ false → IsAttribute (c ∷ text) attr after → ⊥
attribute_apart c text (Some attr) after never h = starts_apart c text attr.name h.0 never h.1
attribute_apart c text None after never h = starts_apart c text h.0 h.1 never h.2

end_apart : (text : List ℕ) (closed : Bool) (after : List ℕ) (attr : Option Attr) (rest : List ℕ) → IsTagEnd text closed after → IsAttribute text attr rest → ⊥
end_apart text false after attr rest e h = attribute_apart 0x3e after attr rest end_no_start (subst (λ (t : List ℕ). IsAttribute t attr rest) e h)
end_apart text true after attr rest e h = attribute_apart 0x2f (0x3e ∷ after) attr rest slash_no_start (subst (λ (t : List ℕ). IsAttribute t attr rest) e h)

no_attribute_ended : (gap end after : List ℕ) (closed : Bool) → IsGap gap end → IsTagEnd end closed after → NoAttribute gap
no_attribute_ended gap end after closed g e attr front rest s h =
    end_apart end closed after (Some attr) rest e (subst (λ (t : List ℕ). IsAttribute t (Some attr) rest) (run_alone s.2 g.1).1 h)

no_attribute_refused : (gap start after : List ℕ) → IsSpace gap start → IsAttribute start None after → NoAttribute gap
no_attribute_refused gap start after g n attr front rest s h =
    some_none (attribute_once front (Some attr) None rest after h (subst (λ (t : List ℕ). IsAttribute t None after) (run_alone g.2 s.2).1 n)).0

-- what a tag has behind its name
tag_rest_apart : (text : List ℕ) (found : List Attr × Bool) (after behind : List ℕ) → IsTagRest text (Some found) after → IsTagRest text None behind → ⊥
tag_rest_apart text found after behind h k =
    let e = attributes_once found.0 k.0 text h.0 k.1 h.2 k.3 (no_attribute_ended h.0 h.1 after found.1 h.3 h.4) (no_attribute_refused k.1 k.2 behind k.4 k.5) in
    let s = run_alone (subst (λ (t : List ℕ). IsSpace t k.2) (sym e.1) k.4).2 h.3.1 in
    end_apart h.1 found.1 after None behind h.4 (subst (λ (t : List ℕ). IsAttribute t None behind) s.1 k.5)

tag_rest_once : Once IsTagRest
tag_rest_once text (Some one) (Some other) after behind h k =
    let e = attributes_once one.0 other.0 text h.0 k.0 h.2 k.2 (no_attribute_ended h.0 h.1 after one.1 h.3 h.4) (no_attribute_ended k.0 k.1 behind other.1 k.3 k.4) in
    let g = gap_alone h.3 (subst (λ (t : List ℕ). IsGap t k.1) (sym e.1) k.3) in
    let f = end_once h.1 one.1 other.1 after behind h.4 (subst (λ (t : List ℕ). IsTagEnd t other.1 behind) (sym g) k.4) in
    (ap (λ (x : List Attr). Some (pair x one.1)) e.0 ∙ ap (λ (x : Bool). Some (pair other.0 x)) f.0, f.1)
tag_rest_once text (Some one) None after behind h k = absurd (tag_rest_apart text one after behind h k)
tag_rest_once text None (Some other) after behind h k = absurd (tag_rest_apart text other behind after k h)
tag_rest_once text None None after behind h k =
    let e = attributes_once h.0 k.0 text h.1 k.1 h.3 k.3 (no_attribute_refused h.1 h.2 after h.4 h.5) (no_attribute_refused k.1 k.2 behind k.4 k.5) in
    let s = run_alone h.4.2 (subst (λ (t : List ℕ). IsSpace t k.2) (sym e.1) k.4).2 in
    (refl, (attribute_once h.2 None None after behind h.5 (subst (λ (t : List ℕ). IsAttribute t None behind) (sym s.1) k.5)).1)

-- tags
pub tag_once : Once IsTag
tag_once text (Some one) (Some other) after behind h k =
    let n = name_alone h.1 k.1 in
    let e = tag_rest_once h.0 (Some (pair one.attrs one.closed)) (Some (pair other.attrs other.closed)) after behind h.2 (subst (λ (t : List ℕ). IsTagRest t (Some (pair other.attrs other.closed)) behind) (sym n.1) k.2) in
    (ap (λ (x : List ℕ). Some (tag_of x (pair one.attrs one.closed))) n.0 ∙ ap (λ (x : List Attr × Bool). Some (tag_of other.name x)) (some_is e.0), e.1)
tag_once text (Some one) None after behind h k =
    let n = name_alone h.1 k.2 in
    absurd (tag_rest_apart h.0 (pair one.attrs one.closed) after behind h.2 (subst (λ (t : List ℕ). IsTagRest t None behind) (sym n.1) k.3))
tag_once text None (Some other) after behind h k =
    let n = name_alone k.1 h.2 in
    absurd (tag_rest_apart k.0 (pair other.attrs other.closed) behind after k.2 (subst (λ (t : List ℕ). IsTagRest t None after) (sym n.1) h.3))
tag_once text None None after behind h k =
    let n = name_alone h.2 k.2 in
    (refl, (tag_rest_once h.1 None None after behind h.3 (subst (λ (t : List ℕ). IsTagRest t None behind) (sym n.1) k.3)).1)

pub end_tag_once : Once IsEndTag
end_tag_once text None other after behind h k = absurd h
end_tag_once text (Some one) None after behind h k = absurd k
end_tag_once text (Some one) (Some other) after behind h k =
    let n = name_alone h.1 k.1 in
    (ap Some n.0, tail_is (gap_alone h.2 (subst (λ (t : List ℕ). IsGap t (0x3e ∷ behind)) (sym n.1) k.2)))
