-- References.
use Rattle.std.proofs.Common.{◌≡◌, ℕ, List, [], ◌∷◌, ◌++◌, Bool, true, false, refl, ap, sym, ◌∙◌, subst, inl, inr, append_assoc, codes, bytes_eq, cond, Option, Some, None}
use Rattle.std.specs.List.{AllByRecursion as Each}
use Rattle.markup_parts.specs.Chars.{is_legal, is_name_start, is_name_char, is_digit_of, entity_of}
use Rattle.markup_parts.specs.Constructs.{IsName, IsNumber, IsNumeric, IsEntity, IsReference}
use Rattle.markup_parts.specs.Outcomes.{Stopped, IsRead, IsRefused, IsUnfinished, IsBroken, Reads}
use Rattle.markup_parts.specs.Runs.{NotBegins, IsNamePart, ReadsName}
use Rattle.markup_parts.specs.declared.stop.Stop.{Stop}
use Rattle.markup_parts.specs.declared.stop.Stop.TheVariants.{Broken, Cut, Refused}
use Rattle.markup_parts.proofs.LiteralLemmas.{head_is, tail_is, not_nil, true_false}
use Rattle.markup_parts.proofs.ReadsLemmas.{Agrees}
use Rattle.markup_parts.proofs.RunLemmas.{name_keeps, name_once, name_none, name_unfinished, completes, completed_name}

-- what no name begins with
pub starts_apart : (c : ℕ) (text name after : List ℕ) → is_name_start c ≡ false → IsName (c ∷ text) name after → ⊥
starts_apart c text [] after never n = n.starts
starts_apart c text (d ∷ ds) after never n = true_false (ap is_name_start (head_is n.run.parts) ∙ n.starts) never

no_start_hash : is_name_start 0x23 ≡ false
unfolding is_name_start
no_start_hash = refl

semicolon_ends : is_name_char 0x3b ≡ false
unfolding is_name_char is_name_start
semicolon_ends = refl

pub entity_only : {text name rest behind : List ℕ} → IsName text name rest → rest ≡ 0x3b ∷ behind → (more : List ℕ) (other : Option ℕ) (after : List ℕ)
    → IsEntity (text ++ more) other after → (other ≡ entity_of name) × (after ≡ behind ++ more)
entity_only {rest = rest} n first more other after e =
    let once = name_once more n e.is_name in
    (e.value ∙ ap entity_of once.0, tail_is (once.1 ∙ ap (λ (t : List ℕ). t ++ more) first))

entity_is : {text name rest behind : List ℕ} → IsName text name rest → rest ≡ 0x3b ∷ behind → (c : Option ℕ) → entity_of name ≡ c → (more : List ℕ) → IsEntity (text ++ more) c (behind ++ more)
entity_is {text} {name} {rest} {behind} n first c e more = record {
  name = name;
  is_name = subst (λ (t : List ℕ). IsName (text ++ more) name (t ++ more)) first (name_keeps more n);
  value = sym e;
}

pub entity_found : {text name rest behind : List ℕ} → IsName text name rest → rest ≡ 0x3b ∷ behind → (c : ℕ) → entity_of name ≡ Some c → IsRead IsEntity text c behind
entity_found n first c e = record {
  is = λ more. entity_is n first (Some c) e more;
  only = λ more other after h. let q = entity_only n first more other after h in (q.0 ∙ e, q.1);
}

pub entity_refused : {text name rest behind : List ℕ} → IsName text name rest → rest ≡ 0x3b ∷ behind → entity_of name ≡ None → IsRefused IsEntity text
entity_refused {behind = behind} n first e = record {
  after = behind;
  is = λ more. entity_is n first None e more;
  only = λ more other after h. let q = entity_only n first more other after h in q.0 ∙ e;
}

pub entity_broken : {text name rest behind : List ℕ} {c : ℕ} → IsName text name rest → rest ≡ c ∷ behind → (c ≡ 0x3b → ⊥) → IsBroken IsEntity text
entity_broken n first apart more other after e =
    let once = name_once more n e.is_name in
    apart (sym (head_is (once.1 ∙ ap (λ (t : List ℕ). t ++ more) first)))

-- where no name begins
pub entity_none : {text : List ℕ} → (text ≡ [] → ⊥) → NotBegins is_name_start text → IsBroken IsEntity text
entity_none {text} filled h more other after e = name_none text more e.name (0x3b ∷ after) filled h e.is_name

-- where the name may go on
pub entity_cut : {text : List ℕ} → IsNamePart text → IsUnfinished IsEntity text
entity_cut {text} part =
    let finish = completes text part in
    record {
      none = λ value after e. name_unfinished text e.name (0x3b ∷ after) part e.is_name;
      more = finish.more ++ (0x3b ∷ []);
      value = entity_of finish.name;
      whole = λ after. record {
        name = finish.name;
        is_name = subst (λ (t : List ℕ). IsName (text ++ t) finish.name (0x3b ∷ after)) (sym (append_assoc finish.more (0x3b ∷ []) after)) (completed_name finish (0x3b ∷ after) semicolon_ends);
        value = refl;
      };
    }

-- the reference by a name
pub entity_agrees : {text behind : List ℕ} {c : ℕ} → text ≡ c ∷ behind → (c ≡ 0x23 → ⊥) → Agrees IsEntity IsReference text text
entity_agrees {text} {behind} {c} first apart = record { sound = λ more value after h. inl h; only = only } where
  only : (more : List ℕ) (value : Option ℕ) (after : List ℕ) → IsReference (text ++ more) value after → IsEntity (text ++ more) value after
  only more value after (inl h) = h
  only more value after (inr h) = absurd (apart (head_is (ap (λ (t : List ℕ). t ++ more) (sym first) ∙ h.1)))

-- the reference by a number
pub numeric_agrees : {text digits : List ℕ} → text ≡ 0x23 ∷ digits → Agrees IsNumeric IsReference digits text
numeric_agrees {text} {digits} first = record {
  sound = λ more value after h. inr (digits ++ more, ap (λ (t : List ℕ). t ++ more) first, h);
  only = only;
}
  where
    only : (more : List ℕ) (value : Option ℕ) (after : List ℕ) → IsReference (text ++ more) value after → IsNumeric (digits ++ more) value after
    only more value after (inl h) =
        absurd (starts_apart 0x23 (digits ++ more) h.name (0x3b ∷ after) no_start_hash
        (subst (λ (t : List ℕ). IsName (t ++ more) h.name (0x3b ∷ after)) first h.is_name))
    only more value after (inr h) =
        subst (λ (t : List ℕ). IsNumeric t value after) (sym (tail_is (ap (λ (t : List ℕ). t ++ more) (sym first) ∙ h.1))) h.2

-- the text ends behind the `&`, or behind its `#`
number_zero : (after : List ℕ) → IsNumber 10 (0x30 ∷ 0x3b ∷ after) None after
unfolding is_legal
number_zero after = record {
  digits = 0x30 ∷ [];
  run = record { parts = refl; all = (refl, tt); ends = refl };
  filled = λ e. cc;
  value = refl;
}

number_nil : (base : ℕ) (value : Option ℕ) (after : List ℕ) → IsNumber base [] value after → ⊥
number_nil base value after n = nil_parts n.digits n.filled n.run.parts where
  nil_parts : (digits : List ℕ) → (digits ≡ [] → ⊥) → [] ≡ digits ++ (0x3b ∷ after) → ⊥
  nil_parts [] filled e = filled refl
  nil_parts (c ∷ cs) filled e = not_nil e

numeric_nil : (value : Option ℕ) (after : List ℕ) → IsNumeric [] value after → ⊥
numeric_nil value after (inl h) = number_nil 10 value after h
numeric_nil value after (inr h) = not_nil h.1

pub numeric_cut : {text : List ℕ} → text ≡ [] → IsUnfinished IsNumeric text
numeric_cut e = subst (IsUnfinished IsNumeric) (sym e) (record { none = numeric_nil; more = 0x30 ∷ 0x3b ∷ []; value = None; whole = λ after. inl (number_zero after) })

reference_nil : (value : Option ℕ) (after : List ℕ) → IsReference [] value after → ⊥
reference_nil value after (inl h) = no_nil h.name h.is_name where
  no_nil : (name : List ℕ) → IsName [] name (0x3b ∷ after) → ⊥
  no_nil [] n = n.starts
  no_nil (c ∷ cs) n = not_nil n.run.parts
reference_nil value after (inr h) = not_nil h.1

pub reference_cut : {text : List ℕ} → text ≡ [] → IsUnfinished IsReference text
reference_cut e = subst (IsUnfinished IsReference) (sym e)
    (record { none = reference_nil; more = 0x23 ∷ 0x30 ∷ 0x3b ∷ []; value = None; whole = λ after. inr (0x30 ∷ 0x3b ∷ after, refl, inl (number_zero after)) })

-- decimal and hexadecimal numbers
x_no_digit : (text : List ℕ) (value : Option ℕ) (after : List ℕ) → IsNumber 10 (0x78 ∷ text) value after → ⊥
x_no_digit text value after n = go n.digits n.filled n.run.all n.run.parts where
  go : (digits : List ℕ) → (digits ≡ [] → ⊥) → Each (λ c. is_digit_of 10 c ≡ true) digits → 0x78 ∷ text ≡ digits ++ (0x3b ∷ after) → ⊥
  go [] filled all e = filled refl
  go (c ∷ cs) filled all e = true_false (ap (is_digit_of 10) (head_is e) ∙ all.0) refl

pub decimal_agrees : {text behind : List ℕ} {c : ℕ} → text ≡ c ∷ behind → (c ≡ 0x78 → ⊥) → Agrees (IsNumber 10) IsNumeric text text
decimal_agrees {text} {behind} {c} first apart = record { sound = λ more value after h. inl h; only = only } where
  only : (more : List ℕ) (value : Option ℕ) (after : List ℕ) → IsNumeric (text ++ more) value after → IsNumber 10 (text ++ more) value after
  only more value after (inl h) = h
  only more value after (inr h) = absurd (apart (head_is (ap (λ (t : List ℕ). t ++ more) (sym first) ∙ h.1)))

pub hexadecimal_agrees : {text digits : List ℕ} → text ≡ 0x78 ∷ digits → Agrees (IsNumber 16) IsNumeric digits text
hexadecimal_agrees {text} {digits} first = record {
  sound = λ more value after h. inr (digits ++ more, ap (λ (t : List ℕ). t ++ more) first, h);
  only = only;
}
  where
    only : (more : List ℕ) (value : Option ℕ) (after : List ℕ) → IsNumeric (text ++ more) value after → IsNumber 16 (digits ++ more) value after
    only more value after (inl h) = absurd (x_no_digit (digits ++ more) value after (subst (λ (t : List ℕ). IsNumber 10 (t ++ more) value after) first h))
    only more value after (inr h) =
        subst (λ (t : List ℕ). IsNumber 16 t value after) (sym (tail_is (ap (λ (t : List ℕ). t ++ more) (sym first) ∙ h.1))) h.2

-- the entity of a name, by five tests
abbrev by_tests : Bool → Bool → Bool → Bool → Bool → Option ℕ
by_tests lt gt amp apos quot =
    cond lt (Some 0x3c) (cond gt (Some 0x3e) (cond amp (Some 0x26) (cond apos (Some 0x27) (cond quot (Some 0x22) None))))

pub entity_told : (name : List ℕ) (lt gt amp apos quot : Bool) → bytes_eq name (codes "lt") ≡ lt → bytes_eq name (codes "gt") ≡ gt → bytes_eq name (codes "amp") ≡ amp
    → bytes_eq name (codes "apos") ≡ apos → bytes_eq name (codes "quot") ≡ quot → by_tests lt gt amp apos quot ≡ entity_of name
unfolding entity_of
entity_told name lt gt amp apos quot a b c d e =
    sym (ap (λ (x : Bool). by_tests x (bytes_eq name (codes "gt")) (bytes_eq name (codes "amp")) (bytes_eq name (codes "apos")) (bytes_eq name (codes "quot"))) a
    ∙ (ap (λ (x : Bool). by_tests lt x (bytes_eq name (codes "amp")) (bytes_eq name (codes "apos")) (bytes_eq name (codes "quot"))) b
    ∙ (ap (λ (x : Bool). by_tests lt gt x (bytes_eq name (codes "apos")) (bytes_eq name (codes "quot"))) c
    ∙ (ap (λ (x : Bool). by_tests lt gt amp x (bytes_eq name (codes "quot"))) d ∙ ap (λ (x : Bool). by_tests lt gt amp apos x) e))))

-- a stop at the name is one of the reference
pub entity_stop : (text : List ℕ) (stop : Stop) → ReadsName text (Stopped stop) → Reads IsEntity text (Stopped stop)
entity_stop text Broken h = entity_none h.0 h.1
entity_stop text Cut h = entity_cut h
entity_stop text Refused h = absurd h
