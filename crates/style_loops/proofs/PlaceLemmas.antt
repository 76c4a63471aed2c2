-- Places of styles, by families and names.
use Rattle.std.proofs.Common.{◌≡◌, ℕ, ◌+◌, ◌<◌, ◌≤◌, ◌==◌, ◌&&◌, not, Bool, true, false, cond, List, [], ◌∷◌, ◌++◌, length, refl, sym, ap, ap₂, ◌∙◌, arith, Option, Some, None, Bor, IsTrue, inl, inr, subst}
use Rattle.std.specs.Prelude.{position, is_none}
use Rattle.std.specs.List.{position_or_len}
use Rattle.std.specs.Str.{bytes_eq, IsUtf8, chars}
use Rattle.std.proofs.lemmas.Bool.{cases_lt, false≢true, true≢false, lt-ltb, le-ltb, eq-eqb, ne_eqb}
use Rattle.std.proofs.lemmas.List.{length-append}
use Rattle.std.proofs.lemmas.List.Folds.{position_or_len_push}
use Rattle.std.proofs.lemmas.Slice.Eq.{bytes_eq-Decides}
use Rattle.indexmap.specs.IndexMap.{insert_entry}
use Rattle.doc_model.proofs.SameText.{same_chars}
use Rattle.doc_model.specs.declared.style.Family.{Family}
use Rattle.doc_model.specs.declared.style.Family.TheVariants as family
use Rattle.doc_model.specs.declared.style.Style.{Style}
use Rattle.style_model.specs.Lineage.{is_same_family, is_named}
use Rattle.style_loops.specs.Places.{Entries, Has, found, of_family, put}
use Rattle.style_loops.specs.declared.places.StylePlaces.{StylePlaces}

-- the first one that passes, among some and one more
module _ {X : Type 0} (p : X → Bool) (xs : List X) (y : X) where
  at_most : {Z : Type 0} (q : Z → Bool) (zs : List Z) → position_or_len q zs ≤ length zs
  at_most q [] = omega arith
  at_most q (z ∷ zs) = by_test (q z) (at_most q zs) where
    by_test : (b : Bool) → position_or_len q zs ≤ length zs → cond (not b) (1 + position_or_len q zs) 0 ≤ length (z ∷ zs)
    by_test true l = omega arith
    by_test false l = omega (arith, l)

  abbrev old : ℕ
  old = position_or_len p xs

  abbrev new : ℕ
  new = position_or_len p (xs ++ y ∷ [])

  longer : length (xs ++ y ∷ []) ≡ length xs + 1
  longer = length-append xs (y ∷ []) ∙ omega arith

  pushed : new ≡ cond (old == length xs) (length xs + cond (p y) 0 1) old
  pushed = position_or_len_push p xs y

  found_before : old < length xs → position p (xs ++ y ∷ []) ≡ position p xs
  found_before l =
      let same : new ≡ old = pushed ∙ ap (λ b. cond b (length xs + cond (p y) 0 1) old) (ne_eqb old (length xs) (λ e. omega (arith, e, l))) in
      let size = longer in
      let later : new < length (xs ++ y ∷ []) = omega (arith, same, size, l) in
      ap (λ b. cond b (Some new) None) (lt-ltb new (length (xs ++ y ∷ [])) later) ∙ ap (λ (n : ℕ). Some n) same ∙ sym (ap (λ b. cond b (Some old) None) (lt-ltb old (length xs) l))

  none_before : length xs ≤ old → position p xs ≡ None
  none_before l = ap (λ b. cond b (Some old) None) (le-ltb old (length xs) l)

  at_end : length xs ≤ old → new ≡ length xs + cond (p y) 0 1
  at_end l = let most = at_most p xs in pushed ∙ ap (λ b. cond b (length xs + cond (p y) 0 1) old) (eq-eqb old (length xs) (omega (arith, l, most)))

  pub push_other : p y ≡ false → position p (xs ++ y ∷ []) ≡ position p xs
  push_other fails = elim (cases_lt old (length xs)) [
    | inl l ↦ found_before l
    | inr l ↦
        let is : new ≡ length xs + 1 = at_end l ∙ ap (λ b. length xs + cond b 0 1) fails in
        let size = longer in
        ap (λ b. cond b (Some new) None) (le-ltb new (length (xs ++ y ∷ [])) (omega (arith, is, size))) ∙ sym (none_before l)
  ]

  pub push_first : p y ≡ true → position p xs ≡ None → position p (xs ++ y ∷ []) ≡ Some (length xs)
  push_first passes none = elim (cases_lt old (length xs)) [
    | inl l ↦ absurd (some_none (sym (ap (λ b. cond b (Some old) None) (lt-ltb old (length xs) l)) ∙ none))
    | inr l ↦
        let is : new ≡ length xs + 0 = at_end l ∙ ap (λ b. length xs + cond b 0 1) passes in
        let same : new ≡ length xs = omega (arith, is) in
        let size = longer in
        ap (λ b. cond b (Some new) None) (lt-ltb new (length (xs ++ y ∷ [])) (omega (arith, is, size))) ∙ ap (λ (n : ℕ). Some n) same
  ] where
    some_none : Some old ≡ None → ⊥
    some_none e = cc

  pub push_again : (n : ℕ) → position p xs ≡ Some n → position p (xs ++ y ∷ []) ≡ Some n
  push_again n is = elim (cases_lt old (length xs)) [
    | inl l ↦ found_before l ∙ is
    | inr l ↦ absurd (none_some (sym (none_before l) ∙ is))
  ] where
    none_some : None ≡ Some n → ⊥
    none_some e = cc

pub bytes_same : (xs ys : List ℕ) → bytes_eq xs ys ≡ true → xs ≡ ys
bytes_same xs ys h = (bytes_eq-Decides xs ys).0 (is_true h) where
  is_true : bytes_eq xs ys ≡ true → IsTrue (bytes_eq xs ys)
  is_true e = e

pub bytes_self : (xs : List ℕ) → bytes_eq xs xs ≡ true
bytes_self xs = is_true (bytes_eq xs xs) ((bytes_eq-Decides xs xs).1 refl) where
  is_true : (b : Bool) → IsTrue b → b ≡ true
  is_true b h = h

-- what is found behind a text that was put
abbrev inserted : Entries → Bor (List ℕ) → ℕ → Entries
inserted entries key place = insert_entry (λ (one other : Bor (List ℕ)). bytes_eq one.now other.now) entries key place

found_inserted : (entries : Entries) (key : Bor (List ℕ)) (place : ℕ) (text : List ℕ) → found (inserted entries key place) text ≡ cond (bytes_eq text key.now) (Some place) (found entries text)
found_inserted [] key place text = refl
found_inserted (e ∷ es) key place text = by_key (bytes_eq key.now e.0.now) refl (found_inserted es key place text) where
  by_text : (a b : Bool) → bytes_eq text e.0.now ≡ a → bytes_eq text key.now ≡ b → bytes_eq key.now e.0.now ≡ false
      → cond a (Some e.1) (cond b (Some place) (found es text)) ≡ cond b (Some place) (cond a (Some e.1) (found es text))
  by_text true true h k apart = absurd (false≢true (sym apart ∙ ap₂ bytes_eq (sym (bytes_same text key.now k)) (sym (bytes_same text e.0.now h)) ∙ bytes_self text))
  by_text true false h k apart = refl
  by_text false true h k apart = refl
  by_text false false h k apart = refl

  over : (b : Bool) → cond b (Some place) (found es text) ≡ cond b (Some place) (cond b (Some e.1) (found es text))
  over true = refl
  over false = refl

  by_key : (b : Bool) → bytes_eq key.now e.0.now ≡ b → found (inserted es key place) text ≡ cond (bytes_eq text key.now) (Some place) (found es text)
      → found (cond b ((e.0, place) ∷ es) (e ∷ inserted es key place)) text ≡ cond (bytes_eq text key.now) (Some place) (cond (bytes_eq text e.0.now) (Some e.1) (found es text))
  by_key true h go =
      over (bytes_eq text e.0.now) ∙ ap (λ one. cond (bytes_eq text one) (Some place) (cond (bytes_eq text e.0.now) (Some e.1) (found es text))) (sym (bytes_same key.now e.0.now h))
  by_key false h go = ap (λ one. cond (bytes_eq text e.0.now) (Some e.1) one) go ∙ by_text (bytes_eq text e.0.now) (bytes_eq text key.now) refl refl h

pub family_self : (of : Family) → is_same_family of of ≡ true
family_self family.Paragraph = refl
family_self family.Text = refl
family_self family.Section = refl

pub family_same : (of other : Family) → is_same_family of other ≡ true → of ≡ other
family_same family.Paragraph family.Paragraph e = refl
family_same family.Paragraph family.Text e = absurd (false≢true e)
family_same family.Paragraph family.Section e = absurd (false≢true e)
family_same family.Text family.Paragraph e = absurd (false≢true e)
family_same family.Text family.Text e = refl
family_same family.Text family.Section e = absurd (false≢true e)
family_same family.Section family.Paragraph e = absurd (false≢true e)
family_same family.Section family.Text e = absurd (false≢true e)
family_same family.Section family.Section e = refl

-- the places of the styles of one family
abbrev pub HasOf : Family → Entries → List Style → Type 0
HasOf of entries styles = (text : List ℕ) → IsUtf8 text → found entries text ≡ position (is_named of (chars text)) styles

pub has_other : (of : Family) (entries : Entries) (before : List Style) (style : Style) → is_same_family style.family of ≡ false → HasOf of entries before → HasOf of entries (before ++ style ∷ [])
has_other of entries before style apart has = λ text u. has text u ∙ sym (push_other (is_named of (chars text)) before style (ap (λ b. b && bytes_eq style.name (chars text)) apart))

pub has_own : (of : Family) (entries : Entries) (before : List Style) (style : Style) (key : Bor (List ℕ)) (place : ℕ) → length before ≡ place → style.family ≡ of → IsUtf8 key.now → chars key.now ≡ style.name → HasOf of entries before
    → HasOf of (put entries key place) (before ++ style ∷ [])
has_own of entries before style key place count own u is has = λ text v. by_found text v (found entries key.now) refl where
  same_family : is_same_family style.family of ≡ true
  same_family = ap (λ (one : Family). is_same_family one of) own ∙ family_self of

  passes : (text : List ℕ) → is_named of (chars text) style ≡ bytes_eq style.name (chars text)
  passes text = ap (λ b. b && bytes_eq style.name (chars text)) same_family

  same_name : (text : List ℕ) → IsUtf8 text → bytes_eq style.name (chars text) ≡ bytes_eq key.now text
  same_name text v = ap (λ (name : List ℕ). bytes_eq name (chars text)) (sym is) ∙ sym (same_chars key.now text u v)

  turned : (text : List ℕ) (b : Bool) → bytes_eq text key.now ≡ b → bytes_eq key.now text ≡ b
  turned text true e = ap (λ (one : List ℕ). bytes_eq key.now one) (bytes_same text key.now e) ∙ bytes_self key.now
  turned text false e = by_test (bytes_eq key.now text) refl where
    by_test : (b : Bool) → bytes_eq key.now text ≡ b → b ≡ false
    by_test true k = absurd (false≢true (sym e ∙ ap (λ (one : List ℕ). bytes_eq one key.now) (sym (bytes_same key.now text k)) ∙ bytes_self key.now))
    by_test false k = refl

  by_text : (text : List ℕ) → IsUtf8 text → found entries key.now ≡ None → (b : Bool) → bytes_eq text key.now ≡ b
      → cond b (Some place) (found entries text) ≡ position (is_named of (chars text)) (before ++ style ∷ [])
  by_text text v none true e =
      ap (λ (n : ℕ). Some n) (sym count)
      ∙ sym (push_first (is_named of (chars text)) before style (passes text ∙ same_name text v ∙ turned text true e)
      (sym (has text v) ∙ ap (found entries) (bytes_same text key.now e) ∙ none))
  by_text text v none false e = has text v ∙ sym (push_other (is_named of (chars text)) before style (passes text ∙ same_name text v ∙ turned text false e))

  by_again : (text : List ℕ) → IsUtf8 text → (n : ℕ) → found entries key.now ≡ Some n → (b : Bool) → bytes_eq text key.now ≡ b
      → found entries text ≡ position (is_named of (chars text)) (before ++ style ∷ [])
  by_again text v n there true e =
      let was : found entries text ≡ Some n = ap (found entries) (bytes_same text key.now e) ∙ there in
      was ∙ sym (push_again (is_named of (chars text)) before style n (sym (has text v) ∙ was))
  by_again text v n there false e = has text v ∙ sym (push_other (is_named of (chars text)) before style (passes text ∙ same_name text v ∙ turned text false e))

  by_found : (text : List ℕ) → IsUtf8 text → (o : Option ℕ) → found entries key.now ≡ o → found (put entries key place) text ≡ position (is_named of (chars text)) (before ++ style ∷ [])
  by_found text v None none =
      ap (λ (o : Option ℕ). found (cond (is_none o) (inserted entries key place) entries) text) none ∙ found_inserted entries key place text ∙ by_text text v none (bytes_eq text key.now) refl
  by_found text v (Some n) there =
      ap (λ (o : Option ℕ). found (cond (is_none o) (inserted entries key place) entries) text) there ∙ by_again text v n there (bytes_eq text key.now) refl

-- with the place of one more style
pub has_added : (which : Family) (old later : StylePlaces) (before : List Style) (style : Style) (key : Bor (List ℕ)) (place : ℕ) → of_family later which ≡ put (of_family old which) key place
    → ((of : Family) → is_same_family which of ≡ false → of_family later of ≡ of_family old of) → length before ≡ place → style.family ≡ which → IsUtf8 key.now → chars key.now ≡ style.name → Has old before
    → Has later (before ++ style ∷ [])
has_added which old later before style key place is others count own u name has = λ of. by_test of (is_same_family which of) refl where
  by_test : (of : Family) (b : Bool) → is_same_family which of ≡ b → HasOf of (of_family later of) (before ++ style ∷ [])
  by_test of true e =
      let same : which ≡ of = family_same which of e in
      subst (λ (f : Family). HasOf f (of_family later f) (before ++ style ∷ [])) same
      (subst (λ (entries : Entries). HasOf which entries (before ++ style ∷ [])) (sym is) (has_own which (of_family old which) before style key place count own u name (has which)))
  by_test of false e =
      subst (λ (entries : Entries). HasOf of entries (before ++ style ∷ [])) (sym (others of e)) (has_other of (of_family old of) before style (ap (λ (f : Family). is_same_family f of) own ∙ e) (has of))

pub beside_paragraph : (was later : StylePlaces) → later.text ≡ was.text → later.section ≡ was.section → (of : Family) → is_same_family family.Paragraph of ≡ false → of_family later of ≡ of_family was of
beside_paragraph was later text section family.Paragraph e = absurd (true≢false e)
beside_paragraph was later text section family.Text e = ap (λ m. m.entries) text
beside_paragraph was later text section family.Section e = ap (λ m. m.entries) section

pub beside_text : (was later : StylePlaces) → later.paragraph ≡ was.paragraph → later.section ≡ was.section → (of : Family) → is_same_family family.Text of ≡ false → of_family later of ≡ of_family was of
beside_text was later paragraph section family.Paragraph e = ap (λ m. m.entries) paragraph
beside_text was later paragraph section family.Text e = absurd (true≢false e)
beside_text was later paragraph section family.Section e = ap (λ m. m.entries) section

pub beside_section : (was later : StylePlaces) → later.paragraph ≡ was.paragraph → later.text ≡ was.text → (of : Family) → is_same_family family.Section of ≡ false → of_family later of ≡ of_family was of
beside_section was later paragraph text family.Paragraph e = ap (λ m. m.entries) paragraph
beside_section was later paragraph text family.Text e = ap (λ m. m.entries) text
beside_section was later paragraph text family.Section e = absurd (true≢false e)

-- no style
pub has_none : (places : StylePlaces) → places.paragraph.entries ≡ [] → places.text.entries ≡ [] → places.section.entries ≡ [] → Has places []
has_none places p t s family.Paragraph text u = ap (λ (entries : Entries). found entries text) p
has_none places p t s family.Text text u = ap (λ (entries : Entries). found entries text) t
has_none places p t s family.Section text u = ap (λ (entries : Entries). found entries text) s
