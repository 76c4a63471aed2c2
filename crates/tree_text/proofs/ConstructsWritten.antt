-- The constructs of what is written.
use Rattle.std.proofs.Common.{◌≡◌, ◌≢◌, ◌⊎◌, ◌==◌, ◌&&◌, ◌||◌, ℕ, List, [], ◌∷◌, ◌++◌, Bool, true, false, not, codes, refl, ap, sym, ◌∙◌, subst, inl, inr, append_assoc, Some, arith}
use Rattle.std.proofs.lemmas.Bool.Decides.{eqb_tells, nat_tests}
use Rattle.std.specs.List.{flat_map, list_all, AllByRecursion as Each}
use Rattle.std.specs.Str.{bytes_eq}
use Rattle.markup_parts.specs.Chars.{is_legal, is_space, is_name_start, is_name_char}
use Rattle.markup_parts.specs.Constructs.{StartsName, IsName, IsGap, EndsBefore, IsUpTo}
use Rattle.markup_parts.proofs.LiteralLemmas.{true_false, head_is}
use Rattle.markup_tags.specs.Tags.{IsAttribute, AreAttributes, IsTagEnd, IsTag}
use Rattle.markup_tags.specs.declared.tags.Tag.{Tag}
use Rattle.markup_nodes.specs.declared.words.Attr.{Attr}
use Rattle.markup_tree.specs.declared.part.Part.{Part}
use Rattle.markup_tree.specs.declared.part.Part.TheVariants.{Start, Before, Inside, After}
use Rattle.markup_tree.specs.Escapes.{escaped_value, text_escape}
use Rattle.markup_tree.specs.Pieces.{Silent, Begins, Ends, Holds, IsConstruct}
use Rattle.markup_tree.proofs.ReadBackLemmas.{value_read, text_char, BracketEnds}
use Rattle.tree_text.specs.Writing.{attr_text, tag_text, end_text, declaration, is_name, is_writable_attr}

-- both tests hold
pub both : (a b : Bool) → a && b ≡ true → (a ≡ true) × (b ≡ true)
both true b e = (refl, e)
both false b e = absurd (true_false refl (sym e))

pub all_each : (test : ℕ → Bool) (cs : List ℕ) → list_all test cs ≡ true → Each (λ c. test c ≡ true) cs
all_each test [] e = tt
all_each test (c ∷ cs) e = let h = both (test c) (list_all test cs) e in (h.0, all_each test cs h.1)

pub bytes_same : (cs : List ℕ) → bytes_eq cs cs ≡ true
bytes_same [] = refl
bytes_same (c ∷ cs) = elim (eqb_tells c c) [ inl is ↦ ap (λ (b : Bool). b && bytes_eq cs cs) is.0 ∙ bytes_same cs | inr apart ↦ absurd (apart.1 refl) ]

-- names
either_left : (a b : Bool) → a ≡ true → a || b ≡ true
either_left true b e = refl
either_left false b e = absurd (true_false refl (sym e))

start_char : (c : ℕ) → is_name_start c ≡ true → is_name_char c ≡ true
unfolding is_name_char
start_char c e = either_left (is_name_start c) _ e

name_parts : (name : List ℕ) → is_name name ≡ true → StartsName name × Each (λ c. is_name_char c ≡ true) name
name_parts [] e = absurd (true_false refl (sym e))
name_parts (c ∷ cs) e = let h = both (is_name_start c) (list_all is_name_char cs) e in (h.0, (start_char c h.0, all_each is_name_char cs h.1))

name_stands : (name after : List ℕ) → is_name name ≡ true → EndsBefore is_name_char after → IsName (name ++ after) name after
name_stands name after e ends = let h = name_parts name e in record { run = record { parts = refl; all = h.1; ends = ends }; starts = h.0 }

apart : (c x : ℕ) → is_name_start c ≡ true → is_name_start x ≡ false → c ≢ x
apart c x e f = λ same. true_false e (ap is_name_start same ∙ f)

tab_other : is_name_start 0x9 ≡ false
unfolding is_name_start
tab_other = refl

feed_other : is_name_start 0xa ≡ false
unfolding is_name_start
feed_other = refl

return_other : is_name_start 0xd ≡ false
unfolding is_name_start
return_other = refl

space_other : is_name_start 0x20 ≡ false
unfolding is_name_start
space_other = refl

no_space : (c : ℕ) → c ≢ 0x9 → c ≢ 0xa → c ≢ 0xd → c ≢ 0x20 → is_space c ≡ false
unfolding is_space
no_space c a b d e = grind (arith, nat_tests)

name_no_space : (name after : List ℕ) → is_name name ≡ true → EndsBefore is_space (name ++ after)
name_no_space [] after e = absurd (true_false refl (sym e))
name_no_space (c ∷ cs) after e =
    let h = both (is_name_start c) (list_all is_name_char cs) e in
    no_space c (apart c 0x9 h.0 tab_other) (apart c 0xa h.0 feed_other) (apart c 0xd h.0 return_other) (apart c 0x20 h.0 space_other)

-- what is no white space and no character of a name
equals_name : is_name_char 0x3d ≡ false
unfolding is_name_char is_name_start
equals_name = refl

space_name : is_name_char 0x20 ≡ false
unfolding is_name_char is_name_start
space_name = refl

greater_name : is_name_char 0x3e ≡ false
unfolding is_name_char is_name_start
greater_name = refl

slash_name : is_name_char 0x2f ≡ false
unfolding is_name_char is_name_start
slash_name = refl

equals_space : is_space 0x3d ≡ false
unfolding is_space
equals_space = refl

quote_space : is_space 0x22 ≡ false
unfolding is_space
quote_space = refl

greater_space : is_space 0x3e ≡ false
unfolding is_space
greater_space = refl

slash_space : is_space 0x2f ≡ false
unfolding is_space
slash_space = refl

space_space : is_space 0x20 ≡ true
unfolding is_space
space_space = refl

feed_space : is_space 0xa ≡ true
unfolding is_space
feed_space = refl

no_gap : (c : ℕ) (cs : List ℕ) → is_space c ≡ false → IsGap (c ∷ cs) (c ∷ cs)
no_gap c cs e = ([], record { parts = refl; all = tt; ends = e })

-- an attribute
attr_from : Attr → List ℕ → List ℕ
attr_from attr after = attr.name ++ (0x3d ∷ 0x22 ∷ (escaped_value attr.value ++ 0x22 ∷ after))

attr_after : (attr : Attr) (after : List ℕ) → attr_text attr ++ after ≡ 0x20 ∷ attr_from attr after
unfolding attr_from
attr_after attr after =
    ap (λ (t : List ℕ). 0x20 ∷ t) (append_assoc attr.name (0x3d ∷ 0x22 ∷ (escaped_value attr.value ++ 0x22 ∷ [])) after
    ∙ ap (λ (t : List ℕ). attr.name ++ (0x3d ∷ 0x22 ∷ t)) (append_assoc (escaped_value attr.value) (0x22 ∷ []) after))

attr_stands : (attr : Attr) (after : List ℕ) → is_writable_attr attr ≡ true → IsAttribute (attr_from attr after) (Some attr) after
unfolding attr_from
attr_stands attr after e =
    let h = both (is_name attr.name) (list_all is_legal attr.value) e in
    let value = escaped_value attr.value ++ 0x22 ∷ after in (
      0x3d ∷ 0x22 ∷ value,
      name_stands attr.name (0x3d ∷ 0x22 ∷ value) h.0 equals_name,
      (0x22, value, (0x22 ∷ value, no_gap 0x3d (0x22 ∷ value) equals_space, (inl refl, no_gap 0x22 value quote_space)), value_read attr.value after (all_each is_legal attr.value h.1)),
    )

front : (attr : Attr) (rest : List ℕ) → is_name attr.name ≡ true → EndsBefore is_space (attr_from attr rest)
unfolding attr_from
front attr rest e = name_no_space attr.name _ e

attrs_stand : (attrs : List Attr) (after : List ℕ) → list_all is_writable_attr attrs ≡ true → AreAttributes (flat_map attr_text attrs ++ after) attrs after
attrs_stand [] after e = refl
attrs_stand (attr ∷ attrs) after e =
    let h = both (is_writable_attr attr) (list_all is_writable_attr attrs) e in
    let name = both (is_name attr.name) (list_all is_legal attr.value) h.0 in
    let rest = flat_map attr_text attrs ++ after in
    subst (λ (t : List ℕ). AreAttributes t (attr ∷ attrs) after) (sym (append_assoc (attr_text attr) (flat_map attr_text attrs) after ∙ attr_after attr rest)) (
      attr_from attr rest,
      rest,
      (0x20 ∷ [], (λ f. cc), record { parts = refl; all = (space_space, tt); ends = front attr rest name.0 }),
      attr_stands attr rest h.0,
      attrs_stand attrs after h.1,
    )

attrs_end : (attrs : List Attr) (end : List ℕ) → EndsBefore is_name_char end → EndsBefore is_name_char (flat_map attr_text attrs ++ end)
attrs_end [] end e = e
attrs_end (attr ∷ attrs) end e = space_name

-- a tag that begins an element
abbrev pub CanBegin : Part → Type 0
CanBegin After = ⊥
CanBegin part = Unit {0}

begins : (part : Part) → CanBegin part → (text : List ℕ) (tag : Tag) (after : List ℕ) → IsTag text (Some tag) after → IsConstruct part (0x3c ∷ text) (Some (Begins tag)) after
begins Start can text tag after h = inl (record { rest = text; value = Some (Begins tag); text_is = refl; is = inr (inr (record { rest = text; value = Some tag; text_is = refl; is = h; saying_is = refl })); saying_is = refl })
begins Before can text tag after h = inl (record { rest = text; value = Some (Begins tag); text_is = refl; is = inr (inr (record { rest = text; value = Some tag; text_is = refl; is = h; saying_is = refl })); saying_is = refl })
begins Inside can text tag after h =
    inl (record { rest = text; value = Some (Begins tag); text_is = refl; is = inr (inr (inr (record { rest = text; value = Some tag; text_is = refl; is = h; saying_is = refl }))); saying_is = refl })
begins After can text tag after h = absurd can

abbrev pub tag_is : List ℕ → List Attr → Bool → Tag
tag_is name attrs closed = record { name = name; attrs = attrs; closed = closed }

tag_stands : (part : Part) (name : List ℕ) (attrs : List Attr) (closed : Bool) (end after : List ℕ) → CanBegin part → is_name name ≡ true → list_all is_writable_attr attrs ≡ true
    → EndsBefore is_name_char end → IsGap end end → IsTagEnd end closed after → IsConstruct part (tag_text name attrs ++ end) (Some (Begins (tag_is name attrs closed))) after
tag_stands part name attrs closed end after can named attrs_ok ends gap is =
    subst (λ (t : List ℕ). IsConstruct part (0x3c ∷ t) (Some (Begins (tag_is name attrs closed))) after) (sym (append_assoc name (flat_map attr_text attrs) end))
    (begins part can (name ++ (flat_map attr_text attrs ++ end)) (tag_is name attrs closed) after (
      flat_map attr_text attrs ++ end,
      name_stands name (flat_map attr_text attrs ++ end) named (attrs_end attrs end ends),
      (end, end, attrs_stand attrs end attrs_ok, gap, is),
    ))

pub open_stands : (part : Part) (name : List ℕ) (attrs : List Attr) (after : List ℕ) → CanBegin part → is_name name ≡ true → list_all is_writable_attr attrs ≡ true
    → IsConstruct part (tag_text name attrs ++ 0x3e ∷ after) (Some (Begins (tag_is name attrs false))) after
open_stands part name attrs after can named ok = tag_stands part name attrs false (0x3e ∷ after) after can named ok greater_name (no_gap 0x3e after greater_space) refl

pub closed_stands : (part : Part) (name : List ℕ) (attrs : List Attr) (after : List ℕ) → CanBegin part → is_name name ≡ true → list_all is_writable_attr attrs ≡ true
    → IsConstruct part (tag_text name attrs ++ 0x2f ∷ 0x3e ∷ after) (Some (Begins (tag_is name attrs true))) after
closed_stands part name attrs after can named ok = tag_stands part name attrs true (0x2f ∷ 0x3e ∷ after) after can named ok slash_name (no_gap 0x2f (0x3e ∷ after) slash_space) refl

-- a tag that ends an element
pub end_stands : (name after : List ℕ) → is_name name ≡ true → IsConstruct Inside (end_text name ++ after) (Some (Ends name)) after
end_stands name after named =
    subst (λ (t : List ℕ). IsConstruct Inside (0x3c ∷ 0x2f ∷ t) (Some (Ends name)) after) (sym (append_assoc name (0x3e ∷ []) after))
    (inl (record {
      rest = 0x2f ∷ (name ++ 0x3e ∷ after);
      value = Some (Ends name);
      text_is = refl;
      is = inr (inr (inl (record {
        rest = name ++ 0x3e ∷ after;
        value = Some name;
        text_is = refl;
        is = (0x3e ∷ after, name_stands name (0x3e ∷ after) named greater_name, no_gap 0x3e after greater_space);
        saying_is = refl;
      })));
      saying_is = refl;
    }))

-- a character
pub char_stands : (c : ℕ) (rest : List ℕ) → is_legal c && not (c == 0xd) ≡ true → BracketEnds rest → IsConstruct Inside (text_escape c ++ rest) (Some (Holds (c ∷ []))) rest
char_stands c rest e ends = let h = both (is_legal c) (not (c == 0xd)) e in inr (text_char c rest h.0 (no_return c h.1) ends) where
  no_return : (c : ℕ) → not (c == 0xd) ≡ true → c ≢ 0xd
  no_return c e = λ same. true_false e (ap (λ (x : ℕ). not (x == 0xd)) same)

-- white space outside the root
pub feed_stands : (part : Part) → (part ≡ Before) ⊎ (part ≡ After) → (rest : List ℕ) → IsConstruct part (0xa ∷ rest) (Some Silent) rest
feed_stands part (inl e) rest = subst (λ (p : Part). IsConstruct p (0xa ∷ rest) (Some Silent) rest) (sym e) (inr (0xa, feed_space, refl, refl))
feed_stands part (inr e) rest = subst (λ (p : Part). IsConstruct p (0xa ∷ rest) (Some Silent) rest) (sym e) (inr (0xa, feed_space, refl, refl))

-- the declaration
no_question : (c : ℕ) → not (c == 0x3f) ≡ true → c ≢ 0x3f
no_question c e = λ same. true_false e (ap (λ (x : ℕ). not (x == 0x3f)) same)

up_to : (body after : List ℕ) → list_all (λ c. not (c == 0x3f)) body ≡ true → IsUpTo (λ c. true) (codes "?>") (body ++ codes "?>" ++ after) (Some body) after
up_to [] after e = refl
up_to (c ∷ cs) after e =
    let h = both (not (c == 0x3f)) (list_all (λ d. not (d == 0x3f)) cs) e in
    ((λ more f. no_question c h.0 (head_is f)), refl, (cs ++ codes "?>" ++ after, refl, up_to cs after h.1))

xml_name : (after : List ℕ) → IsName (codes "xml" ++ 0x20 ∷ after) (codes "xml") (0x20 ∷ after)
unfolding is_name_char is_name_start
xml_name after = record { run = record { parts = refl; all = (refl, (refl, (refl, tt))); ends = refl }; starts = refl }

pub declaration_stands : (rest : List ℕ) → IsConstruct Start (declaration ++ rest) (Some Silent) rest
unfolding declaration
declaration_stands rest =
    let body = codes "version=\"1.0\" encoding=\"UTF-8\"" in
    inl (record {
      rest = codes "?xml version=\"1.0\" encoding=\"UTF-8\"?>" ++ rest;
      value = Some Silent;
      text_is = refl;
      is = inr (inl (record {
        rest = codes "xml version=\"1.0\" encoding=\"UTF-8\"?>" ++ rest;
        value = Some tt;
        text_is = refl;
        is = inr (0x20 ∷ (body ++ codes "?>" ++ rest), xml_name (body ++ codes "?>" ++ rest), inr (0x20, body ++ codes "?>" ++ rest, body, space_space, refl, up_to body rest refl));
        saying_is = refl;
      }));
      saying_is = refl;
    })
