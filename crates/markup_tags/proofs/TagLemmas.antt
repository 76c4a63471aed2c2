-- Tags and their attributes.
use Rattle.std.proofs.Common.{◌≡◌, ℕ, List, [], ◌∷◌, ◌++◌, Bool, true, false, refl, ap, sym, ◌∙◌, subst, inl, inr, append_assoc, Option, Some, None, arith}
use Rattle.std.proofs.lemmas.List.{append-nil}
use Rattle.std.specs.List.{AllByRecursion as Each}
use Rattle.std.specs.Option.{option_map}
use Rattle.markup_parts.specs.Chars.{is_space, is_name_start, is_name_char}
use Rattle.markup_parts.specs.Constructs.{IsRun, IsName, IsGap, IsSpace, IsText}
use Rattle.markup_tags.specs.Tags.{IsQuote, IsOpening, IsEquals, IsValue, IsAttributeRest, IsAttribute, AreAttributes, IsTagEnd, IsTagRest, IsTag, IsEndTag}
use Rattle.markup_parts.specs.Outcomes.{Outcome, Found, Stopped, IsRead, IsUnfinished, IsBroken, Reads}
use Rattle.markup_parts.specs.Runs.{NotBegins, IsNamePart, ReadsName}
use Rattle.markup_parts.specs.declared.stop.Stop.{Stop}
use Rattle.markup_parts.specs.declared.stop.Stop.TheVariants.{Broken, Cut, Refused}
use Rattle.markup_tags.specs.declared.tags.Tag.{Tag}
use Rattle.markup_nodes.specs.declared.words.Attr.{Attr}
use Rattle.markup_parts.proofs.LiteralLemmas.{head_is, tail_is}
use Rattle.markup_parts.proofs.ReadsLemmas.{Continues, Agrees, mapped}
use Rattle.markup_parts.proofs.RunLemmas.{run_keeps, run_once, run_none, name_keeps, name_once, name_none, name_unfinished, completes, completed_name}
use Rattle.markup_parts.proofs.ReferenceLemmas.{starts_apart}
use Rattle.markup_parts.proofs.TextLemmas.{no_more}

-- the values, of their parts
abbrev pub pair : List Attr → Bool → List Attr × Bool
pair attrs closed = (attrs, closed)

abbrev pub attr_of : List ℕ → List ℕ → Attr
attr_of name value = record { name = name; value = value }

abbrev pub tag_of : List ℕ → List Attr × Bool → Tag
tag_of name rest = record { name = name; attrs = rest.0; closed = rest.1 }

pair_is : (attrs : List Attr) (closed other : Bool) → attrs ≡ [] → closed ≡ other → Some (pair attrs closed) ≡ Some (pair [] other)
pair_is attrs closed other a b = ap (λ (x : List Attr). Some (pair x closed)) a ∙ ap (λ (y : Bool). Some (pair [] y)) b

-- a run in front of a character that doesn't pass, or at the end of the text
pub run_before : {test : ℕ → Bool} {text run rest behind : List ℕ} {c : ℕ} → text ≡ run ++ rest → Each (λ d. test d ≡ true) run → NotBegins test rest → rest ≡ c ∷ behind
    → IsRun test text run (c ∷ behind)
run_before {test} {text} {run} {rest} {behind} {c} parts all never first = record {
  parts = parts ∙ ap (λ (t : List ℕ). run ++ t) first;
  all = all;
  ends = subst (NotBegins test) first never;
}

pub run_all : (test : ℕ → Bool) (text run rest : List ℕ) → text ≡ run ++ rest → Each (λ d. test d ≡ true) run → rest ≡ [] → Each (λ d. test d ≡ true) text
run_all test text run rest parts all ended = subst (Each (λ d. test d ≡ true)) (sym (no_more text run rest parts ended)) all

equals_no_space : is_space 0x3d ≡ false
unfolding is_space
equals_no_space = refl

equals_no_name : is_name_char 0x3d ≡ false
unfolding is_name_char is_name_start
equals_no_name = refl

quote_no_space : {quote : ℕ} → IsQuote quote → is_space quote ≡ false
unfolding is_space
quote_no_space (inl e) = ap is_space e
quote_no_space (inr e) = ap is_space e

end_no_space : is_space 0x3e ≡ false
unfolding is_space
end_no_space = refl

end_no_name : is_name_char 0x3e ≡ false
unfolding is_name_char is_name_start
end_no_name = refl

end_no_start : is_name_start 0x3e ≡ false
unfolding is_name_start
end_no_start = refl

slash_no_start : is_name_start 0x2f ≡ false
unfolding is_name_start
slash_no_start = refl

-- no gap
pub no_gap : (c : ℕ) (text : List ℕ) → is_space c ≡ false → IsGap (c ∷ text) (c ∷ text)
no_gap c text never = ([], record { parts = refl; all = tt; ends = never })

-- a quotation mark behind white space
pub opening_found : {text run behind : List ℕ} {c : ℕ} → IsQuote c → IsRun is_space text run (c ∷ behind) → IsRead IsOpening text c behind
opening_found {text} {run} {behind} {c} q r = record {
  is = λ more. (q, (run, run_keeps more r));
  only = only;
}
  where
    only : (more : List ℕ) (other : Option ℕ) (after : List ℕ) → IsOpening (text ++ more) other after → (other ≡ Some c) × (after ≡ behind ++ more)
    only more None after h = absurd h
    only more (Some d) after h = let once = run_once more r h.1.1 in (ap Some (head_is once.1), tail_is once.1)

pub opening_broken : {text run behind : List ℕ} {c : ℕ} → (IsQuote c → ⊥) → IsRun is_space text run (c ∷ behind) → IsBroken IsOpening text
opening_broken {text} {run} {behind} {c} never r = none where
  none : (more : List ℕ) (other : Option ℕ) (after : List ℕ) → IsOpening (text ++ more) other after → ⊥
  none more None after h = h
  none more (Some d) after h = let once = run_once more r h.1.1 in never (subst IsQuote (head_is once.1) h.0)

pub opening_cut : {text : List ℕ} → Each (λ d. is_space d ≡ true) text → IsUnfinished IsOpening text
opening_cut {text} all = record {
  none = none;
  more = 0x22 ∷ [];
  value = Some 0x22;
  whole = λ after. (inl refl, (text, record { parts = refl; all = all; ends = quote_no_space (inl refl) }));
}
  where
    none : (other : Option ℕ) (after : List ℕ) → IsOpening text other after → ⊥
    none None after h = h
    none (Some d) after h = run_none all h.1.1

-- `=` behind white space
pub equals_on : {text run behind : List ℕ} → IsRun is_space text run (0x3d ∷ behind) → Agrees IsOpening IsEquals behind text
equals_on {text} {run} {behind} r = record {
  sound = λ more value after h. (behind ++ more, (run, run_keeps more r), h);
  only = λ more value after h. let once = run_once more r h.1.1 in subst (λ (t : List ℕ). IsOpening t value after) (tail_is once.1) h.2;
}

pub equals_broken : {text run behind : List ℕ} {c : ℕ} → (c ≡ 0x3d → ⊥) → IsRun is_space text run (c ∷ behind) → IsBroken IsEquals text
equals_broken apart r more other after h = let once = run_once more r h.1.1 in apart (sym (head_is once.1))

pub equals_cut : {text : List ℕ} → Each (λ d. is_space d ≡ true) text → IsUnfinished IsEquals text
equals_cut {text} all = record {
  none = λ other after h. run_none all h.1.1;
  more = 0x3d ∷ 0x22 ∷ [];
  value = Some 0x22;
  whole = λ after. (0x22 ∷ after, (text, record { parts = refl; all = all; ends = equals_no_space }), (inl refl, no_gap 0x22 after (quote_no_space (inl refl))));
}

-- what an attribute has behind its name
pub rest_on : {text behind : List ℕ} {quote : ℕ} → IsRead IsEquals text quote behind → Agrees (IsValue quote) IsAttributeRest behind text
rest_on {text} {behind} {quote} r = record {
  sound = λ more value after h. (quote, behind ++ more, r.is more, h);
  only = λ more value after h.
      let q = r.only more (Some h.0) h.1 h.2 in
      let same : h.0 ≡ quote = let e = q.0 in cc in
      subst (λ (d : ℕ). IsValue d (behind ++ more) value after) same (subst (λ (t : List ℕ). IsValue h.0 t value after) q.1 h.3);
}

pub rest_stop : (text : List ℕ) (stop : Stop) → Reads IsEquals text (Stopped stop) → Reads IsAttributeRest text (Stopped stop)
rest_stop text Broken r = λ more other after h. r more (Some h.0) h.1 h.2
rest_stop text Cut r = record {
  none = λ other after h. r.none (Some h.0) h.1 h.2;
  more = r.more ++ closing r.value r.whole;
  value = Some [];
  whole = whole r.value r.whole;
}
  where
    closing : (value : Option ℕ) → ((after : List ℕ) → IsEquals (text ++ (r.more ++ after)) value after) → List ℕ
    closing None w = []
    closing (Some quote) w = quote ∷ []

    whole : (value : Option ℕ) (w : (after : List ℕ) → IsEquals (text ++ (r.more ++ after)) value after) (after : List ℕ)
        → IsAttributeRest (text ++ ((r.more ++ closing value w) ++ after)) (Some []) after
    whole None w after = absurd ((w after).2)
    whole (Some quote) w after =
        (quote, quote ∷ after, subst (λ (t : List ℕ). IsEquals (text ++ t) (Some quote) (quote ∷ after)) (sym (append_assoc r.more (quote ∷ []) after)) (w (quote ∷ after)), refl)
rest_stop text Refused r = absurd ((r.is []).2)

-- an attribute behind its name
pub attribute_on : {text name rest : List ℕ} → IsName text name rest → Continues IsAttributeRest IsAttribute (attr_of name) rest text
attribute_on {text} {name} {rest} n = record { sound = sound; only = only } where
  sound : (more : List ℕ) (value : Option (List ℕ)) (after : List ℕ) → IsAttributeRest (rest ++ more) value after
      → IsAttribute (text ++ more) (option_map (attr_of name) value) after
  sound more (Some value) after h = (rest ++ more, name_keeps more n, h)
  sound more None after h = (name, rest ++ more, name_keeps more n, h)

  only : (more : List ℕ) (other : Option Attr) (after : List ℕ) → IsAttribute (text ++ more) other after
      → (inner : Option (List ℕ)) × (other ≡ option_map (attr_of name) inner) × IsAttributeRest (rest ++ more) inner after
  only more (Some attr) after h =
      let once = name_once more n h.1 in
      (Some attr.value, ap (λ (x : List ℕ). Some (attr_of x attr.value)) once.0, subst (λ (t : List ℕ). IsAttributeRest t (Some attr.value) after) once.1 h.2)
  only more None after h = let once = name_once more n h.2 in (None, refl, subst (λ (t : List ℕ). IsAttributeRest t None after) once.1 h.3)

pub attribute_none : {text : List ℕ} → (text ≡ [] → ⊥) → NotBegins is_name_start text → IsBroken IsAttribute text
attribute_none {text} filled h = none where
  none : (more : List ℕ) (other : Option Attr) (after : List ℕ) → IsAttribute (text ++ more) other after → ⊥
  none more (Some attr) after a = name_none text more attr.name a.0 filled h a.1
  none more None after a = name_none text more a.0 a.1 filled h a.2

-- `=""` completes it
empty_value : (after : List ℕ) → IsAttributeRest (0x3d ∷ 0x22 ∷ 0x22 ∷ after) (Some []) after
empty_value after = (0x22, 0x22 ∷ after, (0x22 ∷ 0x22 ∷ after, no_gap 0x3d (0x22 ∷ 0x22 ∷ after) equals_no_space, (inl refl, no_gap 0x22 (0x22 ∷ after) (quote_no_space (inl refl)))), refl)

pub attribute_cut : {text : List ℕ} → IsNamePart text → IsUnfinished IsAttribute text
attribute_cut {text} part =
    let finish = completes text part in
    record {
      none = none;
      more = finish.more ++ (0x3d ∷ 0x22 ∷ 0x22 ∷ []);
      value = Some (attr_of finish.name []);
      whole = λ after. (
        0x3d ∷ 0x22 ∷ 0x22 ∷ after,
        subst (λ (t : List ℕ). IsName (text ++ t) finish.name (0x3d ∷ 0x22 ∷ 0x22 ∷ after)) (sym (append_assoc finish.more (0x3d ∷ 0x22 ∷ 0x22 ∷ []) after))
            (completed_name finish (0x3d ∷ 0x22 ∷ 0x22 ∷ after) equals_no_name),
        empty_value after,
      );
    }
  where
    none : (other : Option Attr) (after : List ℕ) → IsAttribute text other after → ⊥
    none (Some attr) after a = name_unfinished text attr.name a.0 part a.1
    none None after a = name_unfinished text a.0 a.1 part a.2

-- a tag that goes on with white space alone
pub tag_rest_cut : {text : List ℕ} → Each (λ d. is_space d ≡ true) text → IsUnfinished IsTagRest text
tag_rest_cut {text} all = record {
  none = none;
  more = 0x3e ∷ [];
  value = Some ([], false);
  whole = λ after. (text ++ (0x3e ∷ after), 0x3e ∷ after, refl, (text, record { parts = refl; all = all; ends = end_no_space }), refl);
}
  where
    none : (other : Option (List Attr × Bool)) (after : List ℕ) → IsTagRest text other after → ⊥
    none (Some rest) after h = go rest.0 h.2 where
      go : (attrs : List Attr) → AreAttributes text attrs h.0 → ⊥
      go [] a = run_none all (subst (λ (t : List ℕ). IsRun is_space t h.3.0 h.1) (sym a) h.3.1)
      go (attr ∷ attrs) a = run_none all a.2.2
    none None after h = go h.0 h.3 where
      go : (attrs : List Attr) → AreAttributes text attrs h.1 → ⊥
      go [] a = run_none all (subst (λ (t : List ℕ). IsRun is_space t h.4.0 h.2) (sym a) h.4.2)
      go (attr ∷ attrs) a = run_none all a.2.2

-- the end of a tag stands behind a gap: what comes is that end, and no attribute
module _ (text run : List ℕ) (c : ℕ) (behind : List ℕ) (r : IsRun is_space text run (c ∷ behind)) (never : is_name_start c ≡ false) where
  no_attribute : (more front : List ℕ) (other : Option Attr) (rest : List ℕ) → IsSpace (text ++ more) front → IsAttribute front other rest → ⊥
  no_attribute more front (Some attr) rest s a =
      let once = run_once more r s.2 in
      starts_apart c (behind ++ more) attr.name a.0 never (subst (λ (t : List ℕ). IsName t attr.name a.0) once.1 a.1)
  no_attribute more front None rest s a =
      let once = run_once more r s.2 in
      starts_apart c (behind ++ more) a.0 a.1 never (subst (λ (t : List ℕ). IsName t a.0 a.1) once.1 a.2)

  only_end : (more : List ℕ) (attrs : List Attr) (gap end : List ℕ) → AreAttributes (text ++ more) attrs gap → IsGap gap end → (attrs ≡ []) × (end ≡ c ∷ (behind ++ more))
  only_end more [] gap end a g =
      let once = run_once more r (subst (λ (t : List ℕ). IsRun is_space t g.0 end) (sym a) g.1) in
      (refl, once.1)
  only_end more (attr ∷ attrs) gap end a g = absurd (no_attribute more a.0 (Some attr) a.1 a.2 a.3)

  end_refused : (more : List ℕ) (after : List ℕ) → IsTagRest (text ++ more) None after → ⊥
  end_refused more after h = go h.0 h.3 where
    go : (attrs : List Attr) → AreAttributes (text ++ more) attrs h.1 → ⊥
    go [] a = no_attribute more h.2 None after (subst (λ (t : List ℕ). IsSpace t h.2) (sym a) h.4) h.5
    go (attr ∷ attrs) a = no_attribute more a.0 (Some attr) a.1 a.2 a.3

-- `>`
pub tag_rest_end : {text run behind : List ℕ} → IsRun is_space text run (0x3e ∷ behind) → IsRead IsTagRest text ([], false) behind
tag_rest_end {text} {run} {behind} r = record {
  is = λ more. (text ++ more, 0x3e ∷ (behind ++ more), refl, (run, run_keeps more r), refl);
  only = only;
}
  where
    ends : (more end after : List ℕ) (closed : Bool) → end ≡ 0x3e ∷ (behind ++ more) → IsTagEnd end closed after → (closed ≡ false) × (after ≡ behind ++ more)
    ends more end after false e t = (refl, tail_is (sym t ∙ e))
    ends more end after true e t = let x = head_is (sym t ∙ e) in absurd (omega arith)

    only : (more : List ℕ) (other : Option (List Attr × Bool)) (after : List ℕ) → IsTagRest (text ++ more) other after → (other ≡ Some ([], false)) × (after ≡ behind ++ more)
    only more (Some rest) after h =
        let o = only_end text run 0x3e behind r end_no_start more rest.0 h.0 h.1 h.2 h.3 in
        let e = ends more h.1 after rest.1 o.1 h.4 in
        (pair_is rest.0 rest.1 false o.0 e.0, e.1)
    only more None after h = absurd (end_refused text run 0x3e behind r end_no_start more after h)

-- `/`
pub tag_rest_slash : {text run behind : List ℕ} → IsRun is_space text run (0x2f ∷ behind) → Continues (IsText (0x3e ∷ [])) IsTagRest (λ (unit : Unit {0}). pair [] true) behind text
tag_rest_slash {text} {run} {behind} r = record { sound = sound; only = only } where
  sound : (more : List ℕ) (value : Option (Unit {0})) (after : List ℕ) → IsText (0x3e ∷ []) (behind ++ more) value after
      → IsTagRest (text ++ more) (option_map (λ (unit : Unit {0}). pair [] true) value) after
  sound more (Some unit) after h = (text ++ more, 0x2f ∷ (behind ++ more), refl, (run, run_keeps more r), ap (λ (t : List ℕ). 0x2f ∷ t) h)
  sound more None after h = absurd h

  ends : (more end after : List ℕ) (closed : Bool) → end ≡ 0x2f ∷ (behind ++ more) → IsTagEnd end closed after → (closed ≡ true) × (behind ++ more ≡ 0x3e ∷ after)
  ends more end after false e t = let x = head_is (sym t ∙ e) in absurd (omega arith)
  ends more end after true e t = (refl, sym (tail_is (sym t ∙ e)))

  only : (more : List ℕ) (other : Option (List Attr × Bool)) (after : List ℕ) → IsTagRest (text ++ more) other after
      → (inner : Option (Unit {0})) × (other ≡ option_map (λ (unit : Unit {0}). pair [] true) inner) × IsText (0x3e ∷ []) (behind ++ more) inner after
  only more (Some rest) after h =
      let o = only_end text run 0x2f behind r slash_no_start more rest.0 h.0 h.1 h.2 h.3 in
      let e = ends more h.1 after rest.1 o.1 h.4 in
      (Some tt, pair_is rest.0 rest.1 true o.0 e.0, e.1)
  only more None after h = absurd (end_refused text run 0x2f behind r slash_no_start more after h)

-- what stands at a gap that no end of a tag follows
abbrev pub NoEnd : ℕ → Type 0
NoEnd c = (c ≡ 0x3e → ⊥) × (c ≡ 0x2f → ⊥)

no_tag_end : (c : ℕ) (text after : List ℕ) (closed : Bool) → NoEnd c → IsTagEnd (c ∷ text) closed after → ⊥
no_tag_end c text after false never h = never.0 (head_is h)
no_tag_end c text after true never h = never.1 (head_is h)

-- neither white space nor an end
pub tag_rest_broken : {text run behind : List ℕ} {c : ℕ} → run ≡ [] → IsRun is_space text run (c ∷ behind) → NoEnd c → IsBroken IsTagRest text
tag_rest_broken {text} {run} {behind} {c} empty r never = none where
  no_space : (more front : List ℕ) → IsSpace (text ++ more) front → ⊥
  no_space more front s = s.1 ((run_once more r s.2).0 ∙ empty)

  at_end : (more : List ℕ) (attrs : List Attr) (gap end : List ℕ) → AreAttributes (text ++ more) attrs gap → IsGap gap end → end ≡ c ∷ (behind ++ more)
  at_end more [] gap end a g = (run_once more r (subst (λ (t : List ℕ). IsRun is_space t g.0 end) (sym a) g.1)).1
  at_end more (attr ∷ attrs) gap end a g = absurd (no_space more a.0 a.2)

  none : (more : List ℕ) (other : Option (List Attr × Bool)) (after : List ℕ) → IsTagRest (text ++ more) other after → ⊥
  none more (Some rest) after h =
      no_tag_end c (behind ++ more) after rest.1 never (subst (λ (t : List ℕ). IsTagEnd t rest.1 after) (at_end more rest.0 h.0 h.1 h.2 h.3) h.4)
  none more None after h = go h.0 h.3 where
    go : (attrs : List Attr) → AreAttributes (text ++ more) attrs h.1 → ⊥
    go [] a = no_space more h.2 (subst (λ (t : List ℕ). IsSpace t h.2) (sym a) h.4)
    go (attr ∷ attrs) a = no_space more a.0 a.2

-- an attribute stands behind white space
module _ (text run behind : List ℕ) (c : ℕ) (filled : run ≡ [] → ⊥) (r : IsRun is_space text run (c ∷ behind)) (never : NoEnd c) where
  front_is : (more front : List ℕ) → IsSpace (text ++ more) front → front ≡ (c ∷ behind) ++ more
  front_is more front s = (run_once more r s.2).1

  space_is : (more : List ℕ) → IsSpace (text ++ more) ((c ∷ behind) ++ more)
  space_is more = (run, filled, run_keeps more r)

  -- the first attribute of what a tag has behind its name
  first_attribute : (more : List ℕ) (other : Option (List Attr × Bool)) (after : List ℕ) → IsTagRest (text ++ more) other after
      → (attr : Option Attr) × (left : List ℕ) × IsAttribute ((c ∷ behind) ++ more) attr left × (attr ≡ None → other ≡ None)
  first_attribute more (Some rest) after h = go rest.0 h.2 where
    go : (attrs : List Attr) → AreAttributes (text ++ more) attrs h.0
        → (attr : Option Attr) × (left : List ℕ) × IsAttribute ((c ∷ behind) ++ more) attr left × (attr ≡ None → Some rest ≡ None)
    go [] a =
        let e = (run_once more r (subst (λ (t : List ℕ). IsRun is_space t h.3.0 h.1) (sym a) h.3.1)).1 in
        absurd (no_tag_end c (behind ++ more) after rest.1 never (subst (λ (t : List ℕ). IsTagEnd t rest.1 after) e h.4))
    go (attr ∷ attrs) a =
        (Some attr, a.1, subst (λ (t : List ℕ). IsAttribute t (Some attr) a.1) (front_is more a.0 a.2) a.3, λ e. absurd (cc))
  first_attribute more None after h = go h.0 h.3 where
    go : (attrs : List Attr) → AreAttributes (text ++ more) attrs h.1
        → (attr : Option Attr) × (left : List ℕ) × IsAttribute ((c ∷ behind) ++ more) attr left × (attr ≡ None → ◌≡◌ {A = Option (List Attr × Bool)} None None)
    go [] a =
        let s = subst (λ (t : List ℕ). IsSpace t h.2) (sym a) h.4 in
        (None, after, subst (λ (t : List ℕ). IsAttribute t None after) (front_is more h.2 s) h.5, λ e. refl)
    go (attr ∷ attrs) a =
        (Some attr, a.1, subst (λ (t : List ℕ). IsAttribute t (Some attr) a.1) (front_is more a.0 a.2) a.3, λ e. refl)

  -- it is read
  module _ (attr : Attr) (rest : List ℕ) (a : IsRead IsAttribute (c ∷ behind) attr rest) where
    more_sound : (more : List ℕ) (value : Option (List Attr × Bool)) (after : List ℕ) → IsTagRest (rest ++ more) value after
        → IsTagRest (text ++ more) (option_map (λ (found : List Attr × Bool). pair (attr ∷ found.0) found.1) value) after
    more_sound more (Some found) after h = (h.0, h.1, ((c ∷ behind) ++ more, rest ++ more, space_is more, a.is more, h.2), h.3, h.4)
    more_sound more None after h = (attr ∷ h.0, h.1, h.2, ((c ∷ behind) ++ more, rest ++ more, space_is more, a.is more, h.3), h.4, h.5)

    more_only : (more : List ℕ) (other : Option (List Attr × Bool)) (after : List ℕ) → IsTagRest (text ++ more) other after
        → (inner : Option (List Attr × Bool)) × (other ≡ option_map (λ (found : List Attr × Bool). pair (attr ∷ found.0) found.1) inner) × IsTagRest (rest ++ more) inner after
    more_only more (Some found) after h = go found.0 refl h.2 where
      go : (attrs : List Attr) → found.0 ≡ attrs → AreAttributes (text ++ more) attrs h.0
          → (inner : Option (List Attr × Bool)) × (Some found ≡ option_map (λ (found : List Attr × Bool). pair (attr ∷ found.0) found.1) inner) × IsTagRest (rest ++ more) inner after
      go [] e b =
          let x = (run_once more r (subst (λ (t : List ℕ). IsRun is_space t h.3.0 h.1) (sym b) h.3.1)).1 in
          absurd (no_tag_end c (behind ++ more) after found.1 never (subst (λ (t : List ℕ). IsTagEnd t found.1 after) x h.4))
      go (first ∷ attrs) e b =
          let q = a.only more (Some first) b.1 (subst (λ (t : List ℕ). IsAttribute t (Some first) b.1) (front_is more b.0 b.2) b.3) in
          let same : first ≡ attr = some_is q.0 in (
            Some (attrs, found.1),
            ap (λ (xs : List Attr). Some (pair xs found.1)) (e ∙ ap (λ (x : Attr). x ∷ attrs) same),
            (h.0, h.1, subst (λ (t : List ℕ). AreAttributes t attrs h.0) q.1 b.4, h.3, h.4),
          )
        where
          some_is : {x y : Attr} → Some x ≡ Some y → x ≡ y
          some_is e = cc
    more_only more None after h = go h.0 h.3 where
      go : (attrs : List Attr) → AreAttributes (text ++ more) attrs h.1
          → (inner : Option (List Attr × Bool)) × (◌≡◌ {A = Option (List Attr × Bool)} None (option_map (λ (found : List Attr × Bool). pair (attr ∷ found.0) found.1) inner)) × IsTagRest (rest ++ more) inner after
      go [] b =
          let s = subst (λ (t : List ℕ). IsSpace t h.2) (sym b) h.4 in
          let e = (a.only more None after (subst (λ (t : List ℕ). IsAttribute t None after) (front_is more h.2 s) h.5)).0 in
          absurd (cc)
      go (first ∷ attrs) b =
          let q = a.only more (Some first) b.1 (subst (λ (t : List ℕ). IsAttribute t (Some first) b.1) (front_is more b.0 b.2) b.3) in
          (None, refl, (attrs, h.1, h.2, subst (λ (t : List ℕ). AreAttributes t attrs h.1) q.1 b.4, h.4, h.5))

  -- completing it
  attribute_completed : (next : Option Attr) (more : List ℕ) → ((after : List ℕ) → IsAttribute ((c ∷ behind) ++ (more ++ after)) next after)
      → (extra : List ℕ) × (value : Option (List Attr × Bool)) × ((after : List ℕ) → IsTagRest (text ++ (extra ++ after)) value after)
  attribute_completed None more whole =
      (more, None, λ after. ([], text ++ (more ++ after), (c ∷ behind) ++ (more ++ after), refl, space_is (more ++ after), whole after))
  attribute_completed (Some attr) more whole = (
    more ++ 0x3e ∷ [],
    Some (attr ∷ [], false),
    λ after.
        subst (λ (t : List ℕ). IsTagRest (text ++ t) (Some (attr ∷ [], false)) after) (sym (append_assoc more (0x3e ∷ []) after)) (
          0x3e ∷ after,
          0x3e ∷ after,
          ((c ∷ behind) ++ (more ++ 0x3e ∷ after), 0x3e ∷ after, space_is (more ++ 0x3e ∷ after), whole (0x3e ∷ after), refl),
          no_gap 0x3e after end_no_space,
          refl,
        ),
  )

  pub tag_rest_stop : (stop : Stop) → Reads IsAttribute (c ∷ behind) (Stopped stop) → Reads IsTagRest text (Stopped stop)
  tag_rest_stop Broken s = λ more other after h. let f = first_attribute more other after h in s more f.0 f.1 f.2
  tag_rest_stop Cut s =
      let finish = attribute_completed s.value s.more s.whole in
      record {
        none = λ other after h.
            let f = first_attribute [] other after (subst (λ (t : List ℕ). IsTagRest t other after) (sym (append-nil text)) h) in
            s.none f.0 f.1 (subst (λ (t : List ℕ). IsAttribute t f.0 f.1) (append-nil (c ∷ behind)) f.2);
        more = finish.0;
        value = finish.1;
        whole = finish.2;
      }
  tag_rest_stop Refused s = record {
    after = s.after;
    is = λ more. ([], text ++ more, (c ∷ behind) ++ more, refl, space_is more, s.is more);
    only = λ more other after h. let f = first_attribute more other after h in f.3 (s.only more f.0 f.1 f.2);
  }

pub tag_rest_attribute : {text run rest behind : List ℕ} {c : ℕ} {attr : Attr} → (run ≡ [] → ⊥) → IsRun is_space text run (c ∷ behind) → NoEnd c → IsRead IsAttribute (c ∷ behind) attr rest
    → Continues IsTagRest IsTagRest (λ (found : List Attr × Bool). pair (attr ∷ found.0) found.1) rest text
tag_rest_attribute {text} {run} {rest} {behind} {c} {attr} filled r never a = record {
  sound = more_sound text run behind c filled r never attr rest a;
  only = more_only text run behind c filled r never attr rest a;
}

-- a tag behind its name
pub tag_on : {text name rest : List ℕ} → IsName text name rest
    → Continues IsTagRest IsTag (tag_of name) rest text
tag_on {text} {name} {rest} n = record { sound = sound; only = only } where
  sound : (more : List ℕ) (value : Option (List Attr × Bool)) (after : List ℕ) → IsTagRest (rest ++ more) value after
      → IsTag (text ++ more) (option_map (tag_of name) value) after
  sound more (Some found) after h = (rest ++ more, name_keeps more n, h)
  sound more None after h = (name, rest ++ more, name_keeps more n, h)

  only : (more : List ℕ) (other : Option Tag) (after : List ℕ) → IsTag (text ++ more) other after
      → (inner : Option (List Attr × Bool)) × (other ≡ option_map (tag_of name) inner) × IsTagRest (rest ++ more) inner after
  only more (Some tag) after h =
      let once = name_once more n h.1 in (
        Some (tag.attrs, tag.closed),
        ap (λ (x : List ℕ). Some (tag_of x (pair tag.attrs tag.closed))) once.0,
        subst (λ (t : List ℕ). IsTagRest t (Some (tag.attrs, tag.closed)) after) once.1 h.2,
      )
  only more None after h = let once = name_once more n h.2 in (None, refl, subst (λ (t : List ℕ). IsTagRest t None after) once.1 h.3)

pub tag_none : {text : List ℕ} → (text ≡ [] → ⊥) → NotBegins is_name_start text → IsBroken IsTag text
tag_none {text} filled h = none where
  none : (more : List ℕ) (other : Option Tag) (after : List ℕ) → IsTag (text ++ more) other after → ⊥
  none more (Some tag) after a = name_none text more tag.name a.0 filled h a.1
  none more None after a = name_none text more a.0 a.1 filled h a.2

pub tag_cut : {text : List ℕ} → IsNamePart text → IsUnfinished IsTag text
tag_cut {text} part =
    let finish = completes text part in
    record {
      none = none;
      more = finish.more ++ (0x3e ∷ []);
      value = Some (tag_of finish.name (pair [] false));
      whole = λ after. (
        0x3e ∷ after,
        subst (λ (t : List ℕ). IsName (text ++ t) finish.name (0x3e ∷ after)) (sym (append_assoc finish.more (0x3e ∷ []) after)) (completed_name finish (0x3e ∷ after) end_no_name),
        (0x3e ∷ after, 0x3e ∷ after, refl, no_gap 0x3e after end_no_space, refl),
      );
    }
  where
    none : (other : Option Tag) (after : List ℕ) → IsTag text other after → ⊥
    none (Some tag) after a = name_unfinished text tag.name a.0 part a.1
    none None after a = name_unfinished text a.0 a.1 part a.2

-- an end tag
pub end_tag_found : {text name rest run behind : List ℕ} → IsName text name rest → IsRun is_space rest run (0x3e ∷ behind) → IsRead IsEndTag text name behind
end_tag_found {text} {name} {rest} {run} {behind} n r = record { is = λ more. (rest ++ more, name_keeps more n, (run, run_keeps more r)); only = only } where
  only : (more : List ℕ) (other : Option (List ℕ)) (after : List ℕ) → IsEndTag (text ++ more) other after → (other ≡ Some name) × (after ≡ behind ++ more)
  only more (Some found) after h =
      let once = name_once more n h.1 in
      let twice = run_once more r (subst (λ (t : List ℕ). IsRun is_space t h.2.0 (0x3e ∷ after)) once.1 h.2.1) in
      (ap Some once.0, tail_is twice.1)
  only more None after h = absurd h

pub end_tag_broken : {text name rest run behind : List ℕ} {c : ℕ} → IsName text name rest → IsRun is_space rest run (c ∷ behind) → (c ≡ 0x3e → ⊥) → IsBroken IsEndTag text
end_tag_broken {text} {name} {rest} {run} {behind} {c} n r apart = none where
  none : (more : List ℕ) (other : Option (List ℕ)) (after : List ℕ) → IsEndTag (text ++ more) other after → ⊥
  none more (Some found) after h =
      let once = name_once more n h.1 in
      let twice = run_once more r (subst (λ (t : List ℕ). IsRun is_space t h.2.0 (0x3e ∷ after)) once.1 h.2.1) in
      apart (sym (head_is twice.1))
  none more None after h = h

pub end_tag_gap : {text name rest : List ℕ} → IsName text name rest → Each (λ d. is_space d ≡ true) rest → IsUnfinished IsEndTag text
end_tag_gap {text} {name} {rest} n all = record {
  none = none;
  more = 0x3e ∷ [];
  value = Some name;
  whole = λ after. (rest ++ (0x3e ∷ after), name_keeps (0x3e ∷ after) n, (rest, record { parts = refl; all = all; ends = end_no_space }));
}
  where
    none : (other : Option (List ℕ)) (after : List ℕ) → IsEndTag text other after → ⊥
    none (Some found) after h =
        let once = name_once [] n (subst (λ (t : List ℕ). IsName t found h.0) (sym (append-nil text)) h.1) in
        run_none all (subst (λ (t : List ℕ). IsRun is_space t h.2.0 (0x3e ∷ after)) (once.1 ∙ append-nil rest) h.2.1)
    none None after h = h

pub end_tag_none : {text : List ℕ} → (text ≡ [] → ⊥) → NotBegins is_name_start text → IsBroken IsEndTag text
end_tag_none {text} filled h = none where
  none : (more : List ℕ) (other : Option (List ℕ)) (after : List ℕ) → IsEndTag (text ++ more) other after → ⊥
  none more (Some name) after a = name_none text more name a.0 filled h a.1
  none more None after a = a

pub end_tag_cut : {text : List ℕ} → IsNamePart text → IsUnfinished IsEndTag text
end_tag_cut {text} part =
    let finish = completes text part in
    record {
      none = none;
      more = finish.more ++ (0x3e ∷ []);
      value = Some finish.name;
      whole = λ after. (
        0x3e ∷ after,
        subst (λ (t : List ℕ). IsName (text ++ t) finish.name (0x3e ∷ after)) (sym (append_assoc finish.more (0x3e ∷ []) after)) (completed_name finish (0x3e ∷ after) end_no_name),
        no_gap 0x3e after end_no_space,
      );
    }
  where
    none : (other : Option (List ℕ)) (after : List ℕ) → IsEndTag text other after → ⊥
    none (Some name) after a = name_unfinished text name a.0 part a.1
    none None after a = a

-- stops at the name
pub end_tag_stop : (text : List ℕ) (stop : Stop) → ReadsName text (Stopped stop) → Reads IsEndTag text (Stopped stop)
end_tag_stop text Broken h = end_tag_none h.0 h.1
end_tag_stop text Cut h = end_tag_cut h
end_tag_stop text Refused h = absurd h

pub tag_stop : (text : List ℕ) (stop : Stop) → ReadsName text (Stopped stop) → Reads IsTag text (Stopped stop)
tag_stop text Broken h = tag_none h.0 h.1
tag_stop text Cut h = tag_cut h
tag_stop text Refused h = absurd h

pub attribute_stop : (text : List ℕ) (stop : Stop) → ReadsName text (Stopped stop) → Reads IsAttribute text (Stopped stop)
attribute_stop text Broken h = attribute_none h.0 h.1
attribute_stop text Cut h = attribute_cut h
attribute_stop text Refused h = absurd h

-- nothing is in front of the attributes
pub mapped_all : (front : List Attr) → front ≡ [] → (o : Outcome (List Attr × Bool)) → mapped (λ (rest : List Attr × Bool). pair (front ++ rest.0) rest.1) o ≡ o
mapped_all front e (Found value after) = ap (λ (t : List Attr). Found (pair (t ++ value.0) value.1) after) e
mapped_all front e (Stopped stop) = refl

-- one more attribute is in front
pub mapped_next : (front next : List Attr) (attr : Attr) → next ≡ front ++ attr ∷ [] → (o : Outcome (List Attr × Bool))
    → mapped (λ (rest : List Attr × Bool). pair (front ++ rest.0) rest.1) (mapped (λ (found : List Attr × Bool). pair (attr ∷ found.0) found.1) o)
    ≡ mapped (λ (rest : List Attr × Bool). pair (next ++ rest.0) rest.1) o
mapped_next front next attr e (Found value after) =
    ap (λ (t : List Attr). Found (pair t value.1) after) (sym (append_assoc front (attr ∷ []) value.0) ∙ ap (λ (t : List Attr). t ++ value.0) (sym e))
mapped_next front next attr e (Stopped stop) = refl
