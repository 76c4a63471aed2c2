-- Constructs behind given texts, and the choice between them.
use Rattle.std.proofs.Common.{◌≡◌, ◌≢◌, ◌⊎◌, ◌==◌, ℕ, List, [], ◌∷◌, ◌++◌, true, false, refl, ap, sym, ◌∙◌, subst, inl, inr, append_assoc, codes, chars, Bor, Result, Option, Some, None, IfSome, arith}
use Rattle.std.proofs.lemmas.Bool.Decides.{eqb_tells}
use Rattle.std.proofs.lemmas.List.{append-nil, append_cancel_left}
use Rattle.std.specs.Option.{option_map}
use Rattle.markup_parts.specs.Chars.{is_legal, is_space, is_name_start}
use Rattle.markup_parts.specs.Constructs.{EndsBefore, IsText, IsLiteral, IsReference, IsUpTo, IsComment}
use Rattle.markup_tags.specs.Tags.{IsTag, IsEndTag}
use Rattle.markup_parts.specs.Outcomes.{Construct, Outcome, Found, Stopped, outcome, IsRead, IsRefused, IsUnfinished, IsBroken, Reads}
use Rattle.markup_tags.specs.Attempts.{attempt}
use Rattle.markup_tags.specs.declared.fault.Fault.{Fault}
use Rattle.markup_tree.specs.declared.construct.Says.{Says}
use Rattle.markup_tree.specs.Pieces.{said, Saying, Silent, Begins, Ends, Holds, Behind, ◌or◌, silent, IsBracket, IsOther, IsBlank, IsPlain, IsSkipped, IsSpecial, IsElementTag, IsMarkup, IsConstruct}
use Rattle.markup_parts.specs.Runs.{NotBegins}
use Rattle.markup_tree.specs.declared.part.Part.{Part}
use Rattle.markup_tree.specs.declared.part.Part.TheVariants.{Start, Before, Inside, After}
use Rattle.markup_parts.specs.declared.stop.Stop.{Stop}
use Rattle.markup_parts.specs.declared.stop.Stop.TheVariants.{Broken, Cut, Refused}
use Rattle.markup_tags.specs.declared.tags.Tag.{Tag}
use Rattle.markup_parts.proofs.LiteralLemmas.{head_is, tail_is, not_nil, true_false, no_literal, literal_head, literal_legal}
use Rattle.markup_parts.proofs.ReadsLemmas.{Continues, Agrees, reads_on, reads_same}
use Rattle.markup_parts.proofs.ReferenceLemmas.{starts_apart}
use Rattle.markup_parts.proofs.RunLemmas.{no_name}

-- a construct behind a given text
pub behind_on : {V : Type 0} {Is : Construct V} {says : V → Saying} (front : List ℕ) {text rest : List ℕ} → text ≡ front ++ rest → Continues Is (Behind front Is says) says rest text
behind_on {V} {Is} {says} front {text} {rest} e = record {
  sound = λ more value after h. record { rest = rest ++ more; value = value; text_is = whole more; is = h; saying_is = refl };
  only = λ more value after h.
      (h.value, h.saying_is, subst (λ (t : List ℕ). Is t h.value after) (append_cancel_left front h.rest (rest ++ more) (sym h.text_is ∙ whole more)) h.is);
}
  where
    whole : (more : List ℕ) → text ++ more ≡ front ++ (rest ++ more)
    whole more = ap (λ (t : List ℕ). t ++ more) e ∙ append_assoc front rest more

-- the given text doesn't stand there
pub behind_apart : {V : Type 0} {Is : Construct V} {says : V → Saying} {text behind front : List ℕ} {c d : ℕ} → text ≡ d ∷ behind → (d ≡ c → ⊥) → (more : List ℕ) (value : Option Saying) (after : List ℕ)
    → Behind (c ∷ front) Is says (text ++ more) value after → ⊥
behind_apart first apart more value after h = apart (head_is (ap (λ (t : List ℕ). t ++ more) (sym first) ∙ h.text_is))

-- a way to complete a construct, with anything after it
pub record Completed {V : Type 0} (Is : Construct V) : Type 0 where
  pub text : List ℕ
  pub value : Option V
  pub is : (after : List ℕ) → Is (text ++ after) value after

-- a stop in the given text is one of the construct behind it
pub behind_stop : {V : Type 0} {Is : Construct V} (says : V → Saying) (front text : List ℕ) → Completed Is → (stop : Stop) → Reads (IsText front) text (Stopped stop)
    → Reads (Behind front Is says) text (Stopped stop)
behind_stop says front text finish Broken r = λ more value after h. r more (Some tt) h.rest h.text_is
behind_stop {V} {Is} says front text finish Cut r = record {
  none = λ value after h. r.none (Some tt) h.rest h.text_is;
  more = r.more ++ finish.text;
  value = option_map says finish.value;
  whole = λ after. record { rest = finish.text ++ after; value = finish.value; text_is = whole after r.value (r.whole (finish.text ++ after)); is = finish.is after; saying_is = refl };
}
  where
    whole : (after : List ℕ) (value : Option (Unit {0})) → IsText front (text ++ (r.more ++ (finish.text ++ after))) value (finish.text ++ after) → text ++ ((r.more ++ finish.text) ++ after) ≡ front ++ (finish.text ++ after)
    whole after None h = absurd h
    whole after (Some unit) h = ap (λ (t : List ℕ). text ++ t) (append_assoc r.more finish.text after) ∙ h
behind_stop says front text finish Refused r = absurd (r.is [])

-- one of two constructs, where the other stands nowhere
pub or_left : {Is Other : Construct Saying} {text : List ℕ} → ((more : List ℕ) (value : Option Saying) (after : List ℕ) → Other (text ++ more) value after → ⊥) → Agrees Is (Is or Other) text text
or_left {Is} {Other} {text} never = record { sound = λ more value after h. inl h; only = only } where
  only : (more : List ℕ) (value : Option Saying) (after : List ℕ) → (Is or Other) (text ++ more) value after → Is (text ++ more) value after
  only more value after (inl h) = h
  only more value after (inr h) = absurd (never more value after h)

pub or_right : {Is Other : Construct Saying} {text : List ℕ} → ((more : List ℕ) (value : Option Saying) (after : List ℕ) → Is (text ++ more) value after → ⊥) → Agrees Other (Is or Other) text text
or_right {Is} {Other} {text} never = record { sound = λ more value after h. inr h; only = only } where
  only : (more : List ℕ) (value : Option Saying) (after : List ℕ) → (Is or Other) (text ++ more) value after → Other (text ++ more) value after
  only more value after (inl h) = absurd (never more value after h)
  only more value after (inr h) = h

less_no_space : is_space 0x3c ≡ false
unfolding is_space
less_no_space = refl

space_is_space : is_space 0x20 ≡ true
unfolding is_space
space_is_space = refl

slash_no_start : is_name_start 0x2f ≡ false
unfolding is_name_start
slash_no_start = refl

-- a comment completes what begins as one
dashes_done : (after : List ℕ) → Behind (codes "--") IsComment silent (0x2d ∷ 0x2d ∷ 0x2d ∷ 0x2d ∷ 0x3e ∷ after) (Some Silent) after
dashes_done after = record { rest = 0x2d ∷ 0x2d ∷ 0x3e ∷ after; value = Some tt; text_is = refl; is = ([], refl); saying_is = refl }

pub comment_done : Completed IsComment
comment_done = record { text = 0x2d ∷ 0x2d ∷ 0x3e ∷ []; value = Some tt; is = λ after. ([], refl) }

pub section_done : Completed (IsUpTo is_legal (codes "]]>"))
section_done = record { text = 0x5d ∷ 0x5d ∷ 0x3e ∷ []; value = Some []; is = λ after. refl }

pub nothing_done : Completed (IsText [])
nothing_done = record { text = []; value = Some tt; is = λ after. refl }

-- behind `<!`
special_dash : (part : Part) (text : List ℕ) (value : Option Saying) (after : List ℕ) → IsSpecial part (0x2d ∷ text) value after → ⊥
special_dash Start text value after h = let e = head_is h.text_is in omega arith
special_dash Before text value after h = let e = head_is h.text_is in omega arith
special_dash Inside text value after h = let e = head_is h.text_is in omega arith
special_dash After text value after h = h

special_nil : (part : Part) (value : Option Saying) (after : List ℕ) → IsSpecial part [] value after → ⊥
special_nil Start value after h = not_nil h.text_is
special_nil Before value after h = not_nil h.text_is
special_nil Inside value after h = not_nil h.text_is
special_nil After value after h = h

pub declared_dashes : (part : Part) {text rest : List ℕ} → text ≡ 0x2d ∷ rest → Agrees (Behind (codes "--") IsComment silent) (Behind (codes "--") IsComment silent or IsSpecial part) text text
declared_dashes part {text} {rest} first =
    or_left (λ more value after h. special_dash part (rest ++ more) value after (subst (λ (t : List ℕ). IsSpecial part (t ++ more) value after) first h))

pub declared_special : (part : Part) {text rest : List ℕ} {c : ℕ} → text ≡ c ∷ rest → (c ≡ 0x2d → ⊥) → Agrees (IsSpecial part) (Behind (codes "--") IsComment silent or IsSpecial part) text text
declared_special part first apart = or_right (λ more value after h. behind_apart first apart more value after h)

pub declared_cut : (part : Part) {text : List ℕ} → text ≡ [] → IsUnfinished (Behind (codes "--") IsComment silent or IsSpecial part) text
declared_cut part e = subst (IsUnfinished (Behind (codes "--") IsComment silent or IsSpecial part)) (sym e) (record {
  none = none;
  more = 0x2d ∷ 0x2d ∷ 0x2d ∷ 0x2d ∷ 0x3e ∷ [];
  value = Some Silent;
  whole = λ after. inl (dashes_done after);
})
  where
    none : (value : Option Saying) (after : List ℕ) → (Behind (codes "--") IsComment silent or IsSpecial part) [] value after → ⊥
    none value after (inl h) = not_nil h.text_is
    none value after (inr h) = special_nil part value after h

-- behind `<`
tag_apart : (c : ℕ) (text : List ℕ) (tag : Option Tag) (after : List ℕ) → is_name_start c ≡ false → IsTag (c ∷ text) tag after → ⊥
tag_apart c text (Some tag) after never h = starts_apart c text tag.name h.0 never h.1
tag_apart c text None after never h = starts_apart c text h.0 h.1 never h.2

tag_nil : (tag : Option Tag) (after : List ℕ) → IsTag [] tag after → ⊥
tag_nil (Some tag) after h = no_name tag.name h.0 h.1
tag_nil None after h = no_name h.0 h.1 h.2

begin_apart : (c : ℕ) (text : List ℕ) (value : Option Saying) (after : List ℕ) → is_name_start c ≡ false → Behind [] IsTag Begins (c ∷ text) value after → ⊥
begin_apart c text value after never h = tag_apart c text h.value after never (subst (λ (t : List ℕ). IsTag t h.value after) (sym h.text_is) h.is)

element_apart : (part : Part) (c : ℕ) (text : List ℕ) (value : Option Saying) (after : List ℕ) → is_name_start c ≡ false → (c ≡ 0x2f → ⊥) → IsElementTag part (c ∷ text) value after → ⊥
element_apart Start c text value after never apart h = begin_apart c text value after never h
element_apart Before c text value after never apart h = begin_apart c text value after never h
element_apart Inside c text value after never apart (inl h) = apart (head_is h.text_is)
element_apart Inside c text value after never apart (inr h) = begin_apart c text value after never h
element_apart After c text value after never apart h = h

element_nil : (part : Part) (value : Option Saying) (after : List ℕ) → IsElementTag part [] value after → ⊥
element_nil Start value after h = tag_nil h.value after (subst (λ (t : List ℕ). IsTag t h.value after) (sym h.text_is) h.is)
element_nil Before value after h = tag_nil h.value after (subst (λ (t : List ℕ). IsTag t h.value after) (sym h.text_is) h.is)
element_nil Inside value after (inl h) = not_nil h.text_is
element_nil Inside value after (inr h) = tag_nil h.value after (subst (λ (t : List ℕ). IsTag t h.value after) (sym h.text_is) h.is)
element_nil After value after h = h

bang_no_start : is_name_start 0x21 ≡ false
unfolding is_name_start
bang_no_start = refl

question_no_start : is_name_start 0x3f ≡ false
unfolding is_name_start
question_no_start = refl

pub markup_bang : (part : Part) {text rest : List ℕ} → text ≡ 0x21 ∷ rest
    → Agrees (Behind (codes "!") (Behind (codes "--") IsComment silent or IsSpecial part) (λ (saying : Saying). saying)) (IsMarkup part) text text
markup_bang part {text} {rest} first = or_left never where
  never : (more : List ℕ) (value : Option Saying) (after : List ℕ) → (Behind (codes "?") (IsSkipped part) silent or IsElementTag part) (text ++ more) value after → ⊥
  never more value after (inl h) = behind_apart first (λ e. omega arith) more value after h
  never more value after (inr h) =
      element_apart part 0x21 (rest ++ more) value after bang_no_start (λ e. omega arith) (subst (λ (t : List ℕ). IsElementTag part (t ++ more) value after) first h)

markup_other : (part : Part) {text rest : List ℕ} {c : ℕ} → text ≡ c ∷ rest → (c ≡ 0x21 → ⊥)
    → Agrees (Behind (codes "?") (IsSkipped part) silent or IsElementTag part) (IsMarkup part) text text
markup_other part first apart = or_right (λ more value after h. behind_apart first apart more value after h)

pub agrees_twice : {V : Type 0} {A B C : Construct V} {x y z : List ℕ} → Agrees A B x y → Agrees B C y z → Agrees A C x z
agrees_twice a b = record {
  sound = λ more value after h. b.sound more value after (a.sound more value after h);
  only = λ more value after h. a.only more value after (b.only more value after h);
}

pub markup_question : (part : Part) {text rest : List ℕ} → text ≡ 0x3f ∷ rest → Agrees (Behind (codes "?") (IsSkipped part) silent) (IsMarkup part) text text
markup_question part {text} {rest} first =
    agrees_twice (or_left (λ more value after h.
    element_apart part 0x3f (rest ++ more) value after question_no_start (λ e. omega arith) (subst (λ (t : List ℕ). IsElementTag part (t ++ more) value after) first h)))
    (markup_other part first (λ e. omega arith))

pub markup_tag : (part : Part) {text rest : List ℕ} {c : ℕ} → text ≡ c ∷ rest → (c ≡ 0x21 → ⊥) → (c ≡ 0x3f → ⊥) → Agrees (IsElementTag part) (IsMarkup part) text text
markup_tag part first a b = agrees_twice (or_right (λ more value after h. behind_apart first b more value after h)) (markup_other part first a)

comment_mark : (part : Part) (after : List ℕ) → IsMarkup part (0x21 ∷ 0x2d ∷ 0x2d ∷ 0x2d ∷ 0x2d ∷ 0x3e ∷ after) (Some Silent) after
comment_mark part after = inl (record { rest = 0x2d ∷ 0x2d ∷ 0x2d ∷ 0x2d ∷ 0x3e ∷ after; value = Some Silent; text_is = refl; is = inl (dashes_done after); saying_is = refl })

pub markup_cut : (part : Part) {text : List ℕ} → text ≡ [] → IsUnfinished (IsMarkup part) text
markup_cut part e = subst (IsUnfinished (IsMarkup part)) (sym e)
    (record { none = none; more = 0x21 ∷ 0x2d ∷ 0x2d ∷ 0x2d ∷ 0x2d ∷ 0x3e ∷ []; value = Some Silent; whole = comment_mark part })
  where
    none : (value : Option Saying) (after : List ℕ) → IsMarkup part [] value after → ⊥
    none value after (inl h) = not_nil h.text_is
    none value after (inr (inl h)) = not_nil h.text_is
    none value after (inr (inr h)) = element_nil part value after h

-- tags in the root
pub inside_end : {text rest : List ℕ} → text ≡ 0x2f ∷ rest → Agrees (Behind (codes "/") IsEndTag Ends) (IsElementTag Inside) text text
inside_end {text} {rest} first =
    or_left (λ more value after h. begin_apart 0x2f (rest ++ more) value after slash_no_start (subst (λ (t : List ℕ). Behind [] IsTag Begins (t ++ more) value after) first h))

pub inside_begin : {text rest : List ℕ} {c : ℕ} → text ≡ c ∷ rest → (c ≡ 0x2f → ⊥) → Agrees (Behind [] IsTag Begins) (IsElementTag Inside) text text
inside_begin first apart = or_right (λ more value after h. behind_apart first apart more value after h)

-- a construct
plain_less : (part : Part) (text : List ℕ) (value : Option Saying) (after : List ℕ) → IsPlain part (0x3c ∷ text) value after → ⊥
plain_less Start text value after h = true_false (ap is_space (head_is h.2) ∙ h.1) less_no_space
plain_less Before text value after h = true_false (ap is_space (head_is h.2) ∙ h.1) less_no_space
plain_less After text value after h = true_false (ap is_space (head_is h.2) ∙ h.1) less_no_space
plain_less Inside text value after (inl h) = let e = head_is h.text_is in omega arith
plain_less Inside text None after (inr (inl h)) = let e = head_is h in omega arith
plain_less Inside text (Some saying) after (inr (inl h)) = let e = head_is h.0 in omega arith
plain_less Inside text value after (inr (inr h)) = other_less h.0 h.1 h.2 where
  other_less : (c : Option ℕ) → IsLiteral (0x3c ∷ text) c after → IfSome c (λ d. (d ≢ 0x3c) × (d ≢ 0x26) × (d ≢ 0x5d)) → ⊥
  other_less None l never = l
  other_less (Some d) l never = elim (literal_head 0x3c text d after l) [ inl same ↦ never.0 (sym same) | inr is ↦ (let e = is.0 in omega arith) ]

pub construct_markup : (part : Part) {text rest : List ℕ} → text ≡ 0x3c ∷ rest → Agrees (Behind (codes "<") (IsMarkup part) (λ (saying : Saying). saying)) (IsConstruct part) text text
construct_markup part {text} {rest} first =
    or_left (λ more value after h. plain_less part (rest ++ more) value after (subst (λ (t : List ℕ). IsPlain part (t ++ more) value after) first h))

pub construct_plain : (part : Part) {text rest : List ℕ} {c : ℕ} → text ≡ c ∷ rest → (c ≡ 0x3c → ⊥) → Agrees (IsPlain part) (IsConstruct part) text text
construct_plain part first apart = or_right (λ more value after h. behind_apart first apart more value after h)

plain_nil : (part : Part) (value : Option Saying) (after : List ℕ) → IsPlain part [] value after → ⊥
plain_nil Start value after h = not_nil h.2
plain_nil Before value after h = not_nil h.2
plain_nil After value after h = not_nil h.2
plain_nil Inside value after (inl h) = not_nil h.text_is
plain_nil Inside None after (inr (inl h)) = not_nil h
plain_nil Inside (Some saying) after (inr (inl h)) = not_nil h.0
plain_nil Inside value after (inr (inr h)) = other_nil h.0 h.1 where
  other_nil : (c : Option ℕ) → IsLiteral [] c after → ⊥
  other_nil None l = l
  other_nil (Some d) l = no_literal d after l

pub construct_cut : (part : Part) {text : List ℕ} → text ≡ [] → IsUnfinished (IsConstruct part) text
construct_cut part e = subst (IsUnfinished (IsConstruct part)) (sym e) (record {
  none = none;
  more = 0x3c ∷ 0x21 ∷ 0x2d ∷ 0x2d ∷ 0x2d ∷ 0x2d ∷ 0x3e ∷ [];
  value = Some Silent;
  whole = λ after. inl (record { rest = 0x21 ∷ 0x2d ∷ 0x2d ∷ 0x2d ∷ 0x2d ∷ 0x3e ∷ after; value = Some Silent; text_is = refl; is = comment_mark part after; saying_is = refl });
})
  where
    none : (value : Option Saying) (after : List ℕ) → IsConstruct part [] value after → ⊥
    none value after (inl h) = not_nil h.text_is
    none value after (inr h) = plain_nil part value after h

-- white space outside the root
pub blank_cut : {text : List ℕ} → text ≡ [] → IsUnfinished IsBlank text
blank_cut e = subst (IsUnfinished IsBlank) (sym e) (record {
  none = λ other after h. not_nil h.2;
  more = 0x20 ∷ [];
  value = Some Silent;
  whole = λ after. (0x20, space_is_space, refl, refl);
})

-- a bracket
pub bracket_refused : {rest behind : List ℕ} → IsRead (IsText (codes "]>")) rest tt behind → IsRefused IsBracket (codes "]" ++ rest)
bracket_refused {rest} {behind} r = record { after = behind; is = λ more. ap (λ (t : List ℕ). 0x5d ∷ t) (r.is more); only = only } where
  begins : (more : List ℕ) → rest ++ more ≡ 0x5d ∷ 0x3e ∷ (behind ++ more)
  begins more = r.is more

  alone : (more after : List ℕ) → 0x5d ∷ (rest ++ more) ≡ 0x5d ∷ after
      → EndsBefore (λ c. c == 0x5d) after ⊎ ((more : List ℕ) × (after ≡ codes "]" ++ more) × EndsBefore (λ c. c == 0x3e) more) → ⊥
  alone more after e (inl h) = ends h (sym (tail_is e) ∙ begins more) where
    ends : {after : List ℕ} → EndsBefore (λ c. c == 0x5d) after → after ≡ 0x5d ∷ 0x3e ∷ (behind ++ more) → ⊥
    ends {after} h e = true_false refl (subst (EndsBefore (λ c. c == 0x5d)) e h)
  alone more after e (inr h) = ends h.2 (tail_is (sym h.1 ∙ (sym (tail_is e) ∙ begins more))) where
    ends : {after : List ℕ} → EndsBefore (λ c. c == 0x3e) after → after ≡ 0x3e ∷ (behind ++ more) → ⊥
    ends {after} h e = true_false refl (subst (EndsBefore (λ c. c == 0x3e)) e h)

  only : (more : List ℕ) (other : Option Saying) (after : List ℕ) → IsBracket (codes "]" ++ rest ++ more) other after → other ≡ None
  only more None after h = refl
  only more (Some saying) after h = absurd (alone more after h.0 h.2)

bracket_ends : (rest : List ℕ) → IsBroken (IsText (codes "]>")) rest → (more : List ℕ)
    → EndsBefore (λ c. c == 0x5d) (rest ++ more) ⊎ ((behind : List ℕ) × (rest ++ more ≡ codes "]" ++ behind) × EndsBefore (λ c. c == 0x3e) behind)
bracket_ends [] b more = absurd (b (codes "]>") (Some tt) [] refl)
bracket_ends (c ∷ []) b more = first (eqb_tells c 0x5d) where
  first : ((c == 0x5d ≡ true) × (c ≡ 0x5d)) ⊎ ((c == 0x5d ≡ false) × (c ≢ 0x5d))
      → EndsBefore (λ c. c == 0x5d) ((c ∷ []) ++ more) ⊎ ((behind : List ℕ) × ((c ∷ []) ++ more ≡ codes "]" ++ behind) × EndsBefore (λ c. c == 0x3e) behind)
  first (inl h) = absurd (b (codes ">") (Some tt) [] (ap (λ (d : ℕ). d ∷ codes ">") h.1))
  first (inr h) = inl h.0
bracket_ends (c ∷ d ∷ ds) b more = first (eqb_tells c 0x5d) (eqb_tells d 0x3e) where
  first : ((c == 0x5d ≡ true) × (c ≡ 0x5d)) ⊎ ((c == 0x5d ≡ false) × (c ≢ 0x5d)) → ((d == 0x3e ≡ true) × (d ≡ 0x3e)) ⊎ ((d == 0x3e ≡ false) × (d ≢ 0x3e))
      → EndsBefore (λ c. c == 0x5d) ((c ∷ d ∷ ds) ++ more) ⊎ ((behind : List ℕ) × ((c ∷ d ∷ ds) ++ more ≡ codes "]" ++ behind) × EndsBefore (λ c. c == 0x3e) behind)
  first (inr h) other = inl h.0
  first (inl h) (inr k) = inr (d ∷ (ds ++ more), ap (λ (x : ℕ). x ∷ d ∷ (ds ++ more)) h.1, k.0)
  first (inl h) (inl k) = absurd (b [] (Some tt) ds (append-nil (c ∷ d ∷ ds) ∙ (ap (λ (x : ℕ). x ∷ d ∷ ds) h.1 ∙ ap (λ (x : ℕ). 0x5d ∷ x ∷ ds) k.1)))

pub bracket_found : {rest : List ℕ} → IsBroken (IsText (codes "]>")) rest → IsRead IsBracket (codes "]" ++ rest) (Holds (codes "]")) rest
bracket_found {rest} b = record { is = λ more. (refl, refl, bracket_ends rest b more); only = only } where
  only : (more : List ℕ) (other : Option Saying) (after : List ℕ) → IsBracket (0x5d ∷ (rest ++ more)) other after → (other ≡ Some (Holds (codes "]"))) × (after ≡ rest ++ more)
  only more None after h = absurd (b more (Some tt) after (tail_is h))
  only more (Some saying) after h = (ap Some h.1, sym (tail_is h.0))

bracket_part : (rest : List ℕ) → ((after : List ℕ) → rest ≡ 0x5d ∷ 0x3e ∷ after → ⊥) → (more : List ℕ) → rest ++ more ≡ 0x5d ∷ 0x3e ∷ [] → (after : List ℕ) → rest ≡ after
    → EndsBefore (λ c. c == 0x5d) after ⊎ ((behind : List ℕ) × (after ≡ codes "]" ++ behind) × EndsBefore (λ c. c == 0x3e) behind) → ⊥
bracket_part [] never more e [] same (inl h) = h
bracket_part [] never more e (c ∷ cs) same h = not_nil same
bracket_part [] never more e [] same (inr h) = not_nil h.1
bracket_part (c ∷ cs) never more e [] same h = not_nil (sym same)
bracket_part (c ∷ []) never more e (d ∷ ds) same (inl h) = true_false (ap (λ (x : ℕ). x == 0x5d) (sym (head_is same) ∙ head_is e)) h
bracket_part (c ∷ []) never more e (d ∷ ds) same (inr h) = ends h.0 (tail_is (same ∙ h.1)) h.2 where
  ends : (behind : List ℕ) → [] ≡ behind → EndsBefore (λ c. c == 0x3e) behind → ⊥
  ends [] x y = y
  ends (a ∷ others) x y = not_nil x
bracket_part (c ∷ b ∷ bs) never more e after same h =
    never bs (ap (λ (x : ℕ). x ∷ b ∷ bs) (head_is e) ∙ ap (λ (x : ℕ). 0x5d ∷ x ∷ bs) (head_is (tail_is e)))

pub bracket_cut : {rest : List ℕ} → IsUnfinished (IsText (codes "]>")) rest → IsUnfinished IsBracket (codes "]" ++ rest)
bracket_cut {rest} r = record { none = none; more = r.more; value = None; whole = λ after. ap (λ (t : List ℕ). 0x5d ∷ t) (text_is r.value (r.whole after)) } where
  text_is : {after : List ℕ} (value : Option (Unit {0})) → IsText (codes "]>") (rest ++ (r.more ++ after)) value after → rest ++ (r.more ++ after) ≡ 0x5d ∷ 0x3e ∷ after
  text_is None h = absurd h
  text_is (Some unit) h = h

  none : (other : Option Saying) (after : List ℕ) → IsBracket (codes "]" ++ rest) other after → ⊥
  none None after h = r.none (Some tt) after (tail_is h)
  none (Some saying) after h =
      bracket_part rest (λ behind e. r.none (Some tt) behind e) (r.more ++ []) (text_is r.value (r.whole [])) after (tail_is h.0) h.2

-- plain characters of the root
other_apart : (c : ℕ) (text : List ℕ) (value : Option Saying) (after : List ℕ) → (c ≡ 0xd → ⊥) → ((d : ℕ) → (d ≢ 0x3c) × (d ≢ 0x26) × (d ≢ 0x5d) → c ≡ d → ⊥) → IsOther (c ∷ text) value after → ⊥
other_apart c text value after return never h = go h.0 h.1 h.2 where
  go : (o : Option ℕ) → IsLiteral (c ∷ text) o after → IfSome o (λ d. (d ≢ 0x3c) × (d ≢ 0x26) × (d ≢ 0x5d)) → ⊥
  go None l x = l
  go (Some d) l x = elim (literal_head c text d after l) [ inl same ↦ never d x same | inr is ↦ return is.0 ]

pub inside_reference : {text rest : List ℕ} → text ≡ 0x26 ∷ rest → Agrees (Behind (codes "&") IsReference (λ (c : ℕ). Holds (c ∷ []))) (IsPlain Inside) text text
inside_reference {text} {rest} first = or_left never where
  never : (more : List ℕ) (value : Option Saying) (after : List ℕ) → (IsBracket or IsOther) (text ++ more) value after → ⊥
  never more None after (inl h) = let e = head_is (ap (λ (t : List ℕ). t ++ more) (sym first) ∙ h) in omega arith
  never more (Some saying) after (inl h) = let e = head_is (ap (λ (t : List ℕ). t ++ more) (sym first) ∙ h.0) in omega arith
  never more value after (inr h) =
      other_apart 0x26 (rest ++ more) value after (λ e. omega arith) (λ d x e. x.1 (sym e)) (subst (λ (t : List ℕ). IsOther (t ++ more) value after) first h)

pub inside_bracket : {text rest : List ℕ} → text ≡ 0x5d ∷ rest → Agrees IsBracket (IsPlain Inside) text text
inside_bracket {text} {rest} first =
    agrees_twice
    (or_left (λ more value after h. other_apart 0x5d (rest ++ more) value after (λ e. omega arith) (λ d x e. x.2 (sym e)) (subst (λ (t : List ℕ). IsOther (t ++ more) value after) first h)))
    (or_right (λ more value after h. behind_apart first (λ e. omega arith) more value after h))

pub inside_other : {text rest : List ℕ} {c : ℕ} → text ≡ c ∷ rest → (c ≡ 0x26 → ⊥) → (c ≡ 0x5d → ⊥) → Agrees IsOther (IsPlain Inside) text text
inside_other {text} {rest} {c} first a b = agrees_twice (or_right never) (or_right (λ more value after h. behind_apart first a more value after h)) where
  never : (more : List ℕ) (value : Option Saying) (after : List ℕ) → IsBracket (text ++ more) value after → ⊥
  never more None after h = b (head_is (ap (λ (t : List ℕ). t ++ more) (sym first) ∙ h))
  never more (Some saying) after h = b (head_is (ap (λ (t : List ℕ). t ++ more) (sym first) ∙ h.0))

pub other_literal : {text rest : List ℕ} {c : ℕ} → text ≡ c ∷ rest → (c ≡ 0x3c → ⊥) → (c ≡ 0x26 → ⊥) → (c ≡ 0x5d → ⊥)
    → Continues IsLiteral IsOther (λ (d : ℕ). Holds (d ∷ [])) text text
other_literal {text} {rest} {c} first l a b = record { sound = λ more value after h. (value, h, free more value after h, refl); only = λ more value after h. (h.0, h.3, h.1) } where
  free : (more : List ℕ) (value : Option ℕ) (after : List ℕ) → IsLiteral (text ++ more) value after → IfSome value (λ d. (d ≢ 0x3c) × (d ≢ 0x26) × (d ≢ 0x5d))
  free more None after h = tt
  free more (Some d) after h =
      elim (literal_head c (rest ++ more) d after (subst (λ (t : List ℕ). IsLiteral (t ++ more) (Some d) after) first h)) [
        | inl same ↦ ((λ e. l (same ∙ e)), (λ e. a (same ∙ e)), (λ e. b (same ∙ e)))
        | inr is ↦ ((λ e. let f = sym is.1 ∙ e in omega arith), (λ e. let f = sym is.1 ∙ e in omega arith), (λ e. let f = sym is.1 ∙ e in omega arith))
      ]

-- what stands behind a given text says the same
map_same : (value : Option Saying) → value ≡ option_map (λ (saying : Saying). saying) value
map_same None = refl
map_same (Some saying) = refl

pub behind_same : {Is : Construct Saying} (front : List ℕ) {text rest : List ℕ} → text ≡ front ++ rest → Agrees Is (Behind front Is (λ (saying : Saying). saying)) rest text
behind_same {Is} front {text} {rest} e = record {
  sound = λ more value after h. record { rest = rest ++ more; value = value; text_is = whole more; is = h; saying_is = map_same value };
  only = λ more value after h.
      subst (λ (v : Option Saying). Is (rest ++ more) v after) (map_same h.value ∙ sym h.saying_is)
      (subst (λ (t : List ℕ). Is t h.value after) (append_cancel_left front h.rest (rest ++ more) (sym h.text_is ∙ whole more)) h.is);
}
  where
    whole : (more : List ℕ) → text ++ more ≡ front ++ (rest ++ more)
    whole more = ap (λ (t : List ℕ). t ++ more) e ∙ append_assoc front rest more

-- the text of which something is read begins with what was wanted
pub text_is : (front : List ℕ) {text rest : List ℕ} → IsRead (IsText front) text tt rest → text ≡ front ++ rest
text_is front {text} {rest} r =
    sym (append-nil text) ∙ (r.is [] ∙ ap (λ (t : List ℕ). front ++ t) (append-nil rest))

-- a reference, of what may stand in the root
pub plain_cut : {text : List ℕ} → text ≡ [] → IsUnfinished (IsPlain Inside) text
plain_cut e = subst (IsUnfinished (IsPlain Inside)) (sym e) (record {
  none = plain_nil Inside;
  more = 0xd ∷ 0xa ∷ [];
  value = Some (Holds (0xa ∷ []));
  whole = λ after. inr (inr (Some 0xa, inr (inl (refl, refl)), ((λ e. omega arith), (λ e. omega arith), (λ e. omega arith)), refl));
})

-- the outcomes of the functions that answer what a construct says and the text behind it
abbrev pub said_outcome : Result (Says × Bor (List ℕ)) Stop → Outcome Saying
said_outcome = outcome (λ found. said found.0) (λ found. chars found.1.now)

abbrev pub said_attempt : Result (Says × Bor (List ℕ)) Fault → Option (Outcome Saying)
said_attempt = attempt (λ found. said found.0) (λ found. chars found.1.now)

-- what holds in each of some parts
pub prolog_part : (P : Part → Type 0) {part : Part} → (part ≡ Start) ⊎ (part ≡ Before) → P Start → P Before → P part
prolog_part P (inl e) a b = subst P (sym e) a
prolog_part P (inr e) a b = subst P (sym e) b

pub outer_part : (P : Part → Type 0) {part : Part} → (part ≡ Start) ⊎ ((part ≡ Before) ⊎ (part ≡ After)) → P Start → P Before → P After → P part
outer_part P (inl e) a b c = subst P (sym e) a
outer_part P (inr (inl e)) a b c = subst P (sym e) b
outer_part P (inr (inr e)) a b c = subst P (sym e) c

pub later_part : (P : Part → Type 0) {part : Part} → (part ≡ Before) ⊎ ((part ≡ Inside) ⊎ (part ≡ After)) → P Before → P Inside → P After → P part
later_part P (inl e) a b c = subst P (sym e) a
later_part P (inr (inl e)) a b c = subst P (sym e) b
later_part P (inr (inr e)) a b c = subst P (sym e) c

-- markup behind its `<` is the construct
pub construct_on : (part : Part) {text rest : List ℕ} → text ≡ 0x3c ∷ rest → Agrees (IsMarkup part) (IsConstruct part) rest text
construct_on part first = agrees_twice (behind_same (codes "<") first) (construct_markup part first)

-- what stands behind `<!` is the markup
pub markup_on : (part : Part) {text rest : List ℕ} → text ≡ 0x21 ∷ rest → Agrees (Behind (codes "--") IsComment silent or IsSpecial part) (IsMarkup part) rest text
markup_on part first = agrees_twice (behind_same (codes "!") first) (markup_bang part first)

-- what doesn't begin with `<`
pub no_less : {text rest : List ℕ} {c : ℕ} → NotBegins (λ c. c == 0x3c) text → text ≡ c ∷ rest → c ≡ 0x3c → ⊥
no_less {text} {rest} {c} never first e =
    let starts : NotBegins (λ c. c == 0x3c) (0x3c ∷ rest) = subst (NotBegins (λ c. c == 0x3c)) (first ∙ ap (λ (x : ℕ). x ∷ rest) e) never in
    true_false refl starts

-- a character that stands for itself whatever follows
pub lone_read : {text rest : List ℕ} {c : ℕ} → text ≡ c ∷ rest → (c ≡ 0xd → ⊥) → (c ≡ 0x3c → ⊥) → (c ≡ 0x26 → ⊥) → (c ≡ 0x5d → ⊥) → is_legal c ≡ true
    → IsRead (IsConstruct Inside) text (Holds (c ∷ [])) rest
lone_read {text} {rest} {c} first apart less ampersand bracket legal =
    reads_same (construct_plain Inside first less) (Found (Holds (c ∷ [])) rest)
    (reads_same (inside_other first ampersand bracket) (Found (Holds (c ∷ [])) rest)
    (reads_on (other_literal first less ampersand bracket) (Found c rest) (subst (λ (t : List ℕ). IsRead IsLiteral t c rest) (sym first) (literal_legal c rest apart legal))))
