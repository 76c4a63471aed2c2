-- Attribute values.
use Rattle.std.proofs.Common.{◌≡◌, ℕ, List, [], ◌∷◌, ◌++◌, cond, refl, ap, sym, ◌∙◌, subst, inl, inr, append_assoc, Option, Some, None, arith}
use Rattle.std.specs.Option.{option_map}
use Rattle.markup_parts.specs.Chars.{is_space}
use Rattle.markup_parts.specs.Constructs.{IsLiteral, IsReference}
use Rattle.markup_tags.specs.Tags.{IsQuote, IsValuePart, IsNextOfValue, IsValue}
use Rattle.markup_parts.specs.Outcomes.{Stopped, IsRead, IsUnfinished, Reads}
use Rattle.markup_parts.specs.declared.stop.Stop.{Stop}
use Rattle.markup_parts.specs.declared.stop.Stop.TheVariants.{Broken, Cut, Refused}
use Rattle.markup_parts.proofs.LiteralLemmas.{head_is, tail_is, not_nil, literal_head, no_literal}
use Rattle.markup_parts.proofs.ReadsLemmas.{Continues}

-- white space that stands in a value
abbrev pub as_space : ℕ → ℕ
as_space d = cond (is_space d) 0x20 d

-- a quotation mark is none of these
quote_apart : (quote c : ℕ) → IsQuote quote → (c ≡ 0x22 → ⊥) → (c ≡ 0x27 → ⊥) → quote ≡ c → ⊥
quote_apart quote c (inl q) a b e = a (sym e ∙ q)
quote_apart quote c (inr q) a b e = b (sym e ∙ q)

ampersand_apart : {quote : ℕ} → IsQuote quote → quote ≡ 0x26 → ⊥
ampersand_apart {quote} q = quote_apart quote 0x26 q (λ e. omega arith) (λ e. omega arith)

return_apart : {quote : ℕ} → IsQuote quote → quote ≡ 0xd → ⊥
return_apart {quote} q = quote_apart quote 0xd q (λ e. omega arith) (λ e. omega arith)

feed_apart : {quote : ℕ} → IsQuote quote → quote ≡ 0xa → ⊥
feed_apart {quote} q = quote_apart quote 0xa q (λ e. omega arith) (λ e. omega arith)

-- a literal character at this head has a value that isn't this one
literal_apart : (c : ℕ) (cs : List ℕ) (d : ℕ) (after : List ℕ) → IsLiteral (c ∷ cs) (Some d) after → (d ≡ c → ⊥) → (c ≡ 0xd → ⊥) → ⊥
literal_apart c cs d after h apart never = elim (literal_head c cs d after h) [ inl same ↦ apart (sym same) | inr is ↦ never is.0 ]

-- the end of the text
next_nil : (quote : ℕ) (value : Option (Option ℕ)) (after : List ℕ) → IsNextOfValue quote [] value after → ⊥
next_nil quote None after h = not_nil h.1
next_nil quote (Some None) after h = not_nil h
next_nil quote (Some (Some c)) after (inl h) = no_literal h.0 after h.1
next_nil quote (Some (Some c)) after (inr h) = not_nil h.1

pub next_cut : (quote : ℕ) {text : List ℕ} → text ≡ [] → IsUnfinished (IsNextOfValue quote) text
next_cut quote e = subst (IsUnfinished (IsNextOfValue quote)) (sym e) (record { none = next_nil quote; more = quote ∷ []; value = Some None; whole = λ after. refl })

-- the last quote
quote_only : (quote : ℕ) → IsQuote quote → (text : List ℕ) (other : Option (Option ℕ)) (after : List ℕ) → IsNextOfValue quote (quote ∷ text) other after → (other ≡ Some None) × (after ≡ text)
quote_only quote q text None after h = absurd (ampersand_apart q (head_is h.1))
quote_only quote q text (Some None) after h = (refl, sym (tail_is h))
quote_only quote q text (Some (Some c)) after (inl h) = absurd (literal_apart quote text h.0 after h.1 h.2 (return_apart q))
quote_only quote q text (Some (Some c)) after (inr h) = absurd (ampersand_apart q (head_is h.1))

pub next_quote : {quote : ℕ} → IsQuote quote → {text behind : List ℕ} {c : ℕ} → text ≡ c ∷ behind → c ≡ quote → IsRead (IsNextOfValue quote) text None behind
next_quote {quote} q {text} {behind} first is =
    let e : text ≡ quote ∷ behind = first ∙ ap (λ (d : ℕ). d ∷ behind) is in
    record {
      is = λ more. ap (λ (t : List ℕ). t ++ more) e;
      only = λ more other after h. quote_only quote q (behind ++ more) other after (subst (λ (t : List ℕ). IsNextOfValue quote (t ++ more) other after) e h);
    }

-- a reference
ampersand_only : (quote : ℕ) → IsQuote quote → (text : List ℕ) (other : Option (Option ℕ)) (after : List ℕ) → IsNextOfValue quote (0x26 ∷ text) other after
    → (inner : Option ℕ) × (other ≡ option_map Some inner) × IsReference text inner after
ampersand_only quote q text None after h = (None, refl, subst (λ (t : List ℕ). IsReference t None after) (sym (tail_is h.1)) h.2)
ampersand_only quote q text (Some None) after h = absurd (ampersand_apart q (sym (head_is h)))
ampersand_only quote q text (Some (Some c)) after (inl h) = absurd (literal_apart 0x26 text h.0 after h.1 h.4 (λ e. omega arith))
ampersand_only quote q text (Some (Some c)) after (inr h) = (Some c, refl, subst (λ (t : List ℕ). IsReference t (Some c) after) (sym (tail_is h.1)) h.2)

ampersand_sound : (quote : ℕ) (text : List ℕ) (value : Option ℕ) (after : List ℕ) → IsReference text value after → IsNextOfValue quote (0x26 ∷ text) (option_map Some value) after
ampersand_sound quote text None after h = (text, refl, h)
ampersand_sound quote text (Some c) after h = inr (text, refl, h)

pub next_reference : {quote : ℕ} → IsQuote quote → {text behind : List ℕ} → text ≡ 0x26 ∷ behind → Continues IsReference (IsNextOfValue quote) Some behind text
next_reference {quote} q {text} {behind} first = record {
  sound = λ more value after h.
      subst (λ (t : List ℕ). IsNextOfValue quote (t ++ more) (option_map Some value) after) (sym first) (ampersand_sound quote (behind ++ more) value after h);
  only = λ more other after h.
      ampersand_only quote q (behind ++ more) other after (subst (λ (t : List ℕ). IsNextOfValue quote (t ++ more) other after) first h);
}

-- any other character
module _ (quote c : ℕ) (cs : List ℕ) (q : IsQuote quote) (no_quote : c ≡ quote → ⊥) (no_less : c ≡ 0x3c → ⊥) (no_ampersand : c ≡ 0x26 → ⊥) where
  plain_only : (other : Option (Option ℕ)) (after : List ℕ) → IsNextOfValue quote (c ∷ cs) other after
      → (inner : Option ℕ) × (other ≡ option_map (λ (d : ℕ). Some (as_space d)) inner) × IsLiteral (c ∷ cs) inner after
  plain_only None after h = absurd (no_ampersand (head_is h.1))
  plain_only (Some None) after h = absurd (no_quote (head_is h))
  plain_only (Some (Some d)) after (inl h) = (Some h.0, ap (λ (x : ℕ). Some (Some x)) h.5, h.1)
  plain_only (Some (Some d)) after (inr h) = absurd (no_ampersand (head_is h.1))

  other_apart : (d : ℕ) (after : List ℕ) → IsLiteral (c ∷ cs) (Some d) after → (x : ℕ) → (c ≡ x → ⊥) → (0xa ≡ x → ⊥) → d ≡ x → ⊥
  other_apart d after h x one two e = elim (literal_head c cs d after h) [ inl same ↦ one (same ∙ e) | inr is ↦ two (sym is.1 ∙ e) ]

  plain_sound : (value : Option ℕ) (after : List ℕ) → IsLiteral (c ∷ cs) value after → IsNextOfValue quote (c ∷ cs) (option_map (λ (d : ℕ). Some (as_space d)) value) after
  plain_sound None after h = absurd h
  plain_sound (Some d) after h = inl (
    d,
    h,
    other_apart d after h quote no_quote (λ e. feed_apart q (sym e)),
    other_apart d after h 0x3c no_less (λ e. omega arith),
    other_apart d after h 0x26 no_ampersand (λ e. omega arith),
    refl,
  )

pub next_plain : {quote : ℕ} → IsQuote quote → {text behind : List ℕ} {c : ℕ} → text ≡ c ∷ behind → (c ≡ quote → ⊥) → (c ≡ 0x3c → ⊥) → (c ≡ 0x26 → ⊥)
    → Continues IsLiteral (IsNextOfValue quote) (λ (d : ℕ). Some (as_space d)) text text
next_plain {quote} q {text} {behind} {c} first a b d = record {
  sound = λ more value after h.
      subst (λ (t : List ℕ). IsNextOfValue quote (t ++ more) (option_map (λ (d : ℕ). Some (as_space d)) value) after) (sym first)
      (plain_sound quote c (behind ++ more) q a b d value after (subst (λ (t : List ℕ). IsLiteral (t ++ more) value after) first h));
  only = λ more other after h.
      let found = plain_only quote c (behind ++ more) q a b d other after (subst (λ (t : List ℕ). IsNextOfValue quote (t ++ more) other after) first h) in
      (found.0, found.1, subst (λ (t : List ℕ). IsLiteral (t ++ more) found.0 after) (sym first) found.2);
}

-- the value's last quote is next
module _ (quote : ℕ) (text behind : List ℕ) (r : IsRead (IsNextOfValue quote) text None behind) where
  last_only : (more : List ℕ) (other : Option (List ℕ)) (after : List ℕ) → IsValue quote (text ++ more) other after → (other ≡ Some []) × (after ≡ behind ++ more)
  last_only more (Some []) after h = (refl, (r.only more (Some None) after h).1)
  last_only more (Some (c ∷ cs)) after h = let e = (r.only more (Some (Some c)) h.0 h.1).0 in absurd (cc)
  last_only more None after h = absurd (go h.0 h.2) where
    go : (part : List ℕ) → IsValuePart quote (text ++ more) part (0x26 ∷ h.1) → ⊥
    go [] p = let e = (r.only more None after (h.1, p, h.3)).0 in cc
    go (c ∷ cs) p = let e = (r.only more (Some (Some c)) p.0 p.1).0 in cc

pub value_last : {quote : ℕ} {text behind : List ℕ} → IsRead (IsNextOfValue quote) text None behind → IsRead (IsValue quote) text [] behind
value_last {quote} {text} {behind} r = record { is = r.is; only = last_only quote text behind r }

-- a character of the value is next
module _ (quote : ℕ) (text behind : List ℕ) (c : ℕ) (r : IsRead (IsNextOfValue quote) text (Some c) behind) where
  char_sound : (more : List ℕ) (value : Option (List ℕ)) (after : List ℕ) → IsValue quote (behind ++ more) value after
      → IsValue quote (text ++ more) (option_map (λ (cs : List ℕ). c ∷ cs) value) after
  char_sound more (Some cs) after h = (behind ++ more, r.is more, h)
  char_sound more None after h = (c ∷ h.0, h.1, (behind ++ more, r.is more, h.2), h.3)

  char_only : (more : List ℕ) (other : Option (List ℕ)) (after : List ℕ) → IsValue quote (text ++ more) other after
      → (inner : Option (List ℕ)) × (other ≡ option_map (λ (cs : List ℕ). c ∷ cs) inner) × IsValue quote (behind ++ more) inner after
  char_only more (Some []) after h = let e = (r.only more (Some None) after h).0 in absurd (cc)
  char_only more (Some (d ∷ ds)) after h =
      let q = r.only more (Some (Some d)) h.0 h.1 in
      let same : d ≡ c = let e = q.0 in cc in
      (Some ds, ap (λ (x : ℕ). Some (x ∷ ds)) same, subst (λ (t : List ℕ). IsValuePart quote t ds (quote ∷ after)) q.1 h.2)
  char_only more None after h = go h.0 h.2 where
    go : (part : List ℕ) → IsValuePart quote (text ++ more) part (0x26 ∷ h.1)
        → (inner : Option (List ℕ)) × (◌≡◌ {A = Option (List ℕ)} None (option_map (λ (cs : List ℕ). c ∷ cs) inner)) × IsValue quote (behind ++ more) inner after
    go [] p = let e = (r.only more None after (h.1, p, h.3)).0 in absurd (cc)
    go (d ∷ ds) p =
        let q = r.only more (Some (Some d)) p.0 p.1 in
        (None, refl, (ds, h.1, subst (λ (t : List ℕ). IsValuePart quote t ds (0x26 ∷ h.1)) q.1 p.2, h.3))

pub value_char : {quote : ℕ} {text behind : List ℕ} {c : ℕ} → IsRead (IsNextOfValue quote) text (Some c) behind
    → Continues (IsValue quote) (IsValue quote) (λ (cs : List ℕ). c ∷ cs) behind text
value_char {quote} {text} {behind} {c} r = record { sound = char_sound quote text behind c r; only = char_only quote text behind c r }

-- the first step of a value
pub record FirstStep (quote : ℕ) (text : List ℕ) (other : Option (List ℕ)) : Type 0 where
  pub value : Option (Option ℕ)
  pub after : List ℕ
  pub is : IsNextOfValue quote text value after
  pub none : value ≡ None → other ≡ None

first_step : (quote : ℕ) (text : List ℕ) (other : Option (List ℕ)) (after : List ℕ) → IsValue quote text other after → FirstStep quote text other
first_step quote text (Some []) after h = record { value = Some None; after = after; is = h; none = λ e. cc }
first_step quote text (Some (c ∷ cs)) after h = record { value = Some (Some c); after = h.0; is = h.1; none = λ e. cc }
first_step quote text None after h = go h.0 h.2 where
  go : (part : List ℕ) → IsValuePart quote text part (0x26 ∷ h.1) → FirstStep quote text None
  go [] p = record { value = None; after = after; is = (h.1, p, h.3); none = λ e. refl }
  go (c ∷ cs) p = record { value = Some (Some c); after = p.0; is = p.1; none = λ e. refl }

completed : (quote : ℕ) (text : List ℕ) (next : Option (Option ℕ)) (more : List ℕ) → ((after : List ℕ) → IsNextOfValue quote (text ++ (more ++ after)) next after)
    → (extra : List ℕ) × (value : Option (List ℕ)) × ((after : List ℕ) → IsValue quote (text ++ (extra ++ after)) value after)
completed quote text (Some None) more whole = (more, Some [], whole)
completed quote text None more whole = (more, None, λ after. let h = whole after in ([], h.0, h.1, h.2))
completed quote text (Some (Some c)) more whole = (
  more ++ quote ∷ [],
  Some (c ∷ []),
  λ after.
      subst (λ (t : List ℕ). IsValue quote (text ++ t) (Some (c ∷ [])) after) (sym (append_assoc more (quote ∷ []) after)) (quote ∷ after, whole (quote ∷ after), refl),
)

-- a stop at the next character is one of the value
pub value_stop : (quote : ℕ) (text : List ℕ) (stop : Stop) → Reads (IsNextOfValue quote) text (Stopped stop) → Reads (IsValue quote) text (Stopped stop)
value_stop quote text Broken r = λ more other after h. let f = first_step quote (text ++ more) other after h in r more f.value f.after f.is
value_stop quote text Cut r =
    let finish = completed quote text r.value r.more r.whole in
    record {
      none = λ other after h. let f = first_step quote text other after h in r.none f.value f.after f.is;
      more = finish.0;
      value = finish.1;
      whole = finish.2;
    }
value_stop quote text Refused r = record {
  after = r.after;
  is = λ more. let h = r.is more in ([], h.0, h.1, h.2);
  only = λ more other after h. let f = first_step quote (text ++ more) other after h in f.none (r.only more f.value f.after f.is);
}
