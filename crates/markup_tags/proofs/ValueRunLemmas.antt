-- Characters of a value that stand for themselves, a run of them at once.
use Rattle.std.proofs.Common.{◌≡◌, ◌≢◌, ◌&&◌, ℕ, List, [], ◌∷◌, ◌++◌, Bool, true, false, cond, refl, ap, sym, ◌∙◌, subst, inl, inr, append_assoc, Some, arith}
use Rattle.std.proofs.lemmas.Bool.Decides.{eqb_tells, nat_tests}
use Rattle.std.specs.List.{AllByRecursion as Each}
use Rattle.markup_parts.specs.Chars.{is_legal, is_space, is_value_char}
use Rattle.markup_parts.specs.Outcomes.{Outcome, Found, Stopped, IsRead, Reads}
use Rattle.markup_parts.proofs.LiteralLemmas.{true_false, literal_legal}
use Rattle.markup_parts.proofs.ReadsLemmas.{mapped, reads_on}
use Rattle.markup_tags.specs.Tags.{IsQuote, IsNextOfValue, IsValue}
use Rattle.markup_tags.proofs.AttemptLemmas.{mapped_none}
use Rattle.markup_tags.proofs.ValueLemmas.{as_space, next_plain, value_char}

both_left : (a b : Bool) → a && b ≡ true → a ≡ true
both_left true b e = refl
both_left false b e = e

legal_value : (c : ℕ) → is_value_char c ≡ true → is_legal c ≡ true
unfolding is_value_char
legal_value c e = both_left (is_legal c) _ e

-- a character that doesn't stand for itself
apart : (c x : ℕ) → is_value_char c ≡ true → is_value_char x ≡ false → c ≢ x
apart c x e f = λ same. true_false e (ap is_value_char same ∙ f)

tab_other : is_value_char 0x9 ≡ false
unfolding is_value_char is_legal
tab_other = refl

feed_other : is_value_char 0xa ≡ false
unfolding is_value_char is_legal
feed_other = refl

return_other : is_value_char 0xd ≡ false
unfolding is_value_char is_legal
return_other = refl

double_other : is_value_char 0x22 ≡ false
unfolding is_value_char is_legal
double_other = refl

ampersand_other : is_value_char 0x26 ≡ false
unfolding is_value_char is_legal
ampersand_other = refl

single_other : is_value_char 0x27 ≡ false
unfolding is_value_char is_legal
single_other = refl

less_other : is_value_char 0x3c ≡ false
unfolding is_value_char is_legal
less_other = refl

no_space : (c : ℕ) → c ≢ 0x9 → c ≢ 0xa → c ≢ 0xd → c ≢ 0x20 → is_space c ≡ false
unfolding is_space
no_space c a b d e = grind (arith, nat_tests)

space_space : is_space 0x20 ≡ true
unfolding is_space
space_space = refl

kept : (c : ℕ) → is_value_char c ≡ true → as_space c ≡ c
kept c e = elim (eqb_tells c 0x20) [
  | inl is ↦ ap (λ (x : ℕ). cond (is_space x) 0x20 x) is.1 ∙ (ap (λ (b : Bool). cond b 0x20 0x20) space_space ∙ sym is.1)
  | inr other ↦ ap (λ (b : Bool). cond b 0x20 c) (no_space c (apart c 0x9 e tab_other) (apart c 0xa e feed_other) (apart c 0xd e return_other) other.1)
]

no_quote : {quote : ℕ} (c : ℕ) → IsQuote quote → is_value_char c ≡ true → c ≢ quote
no_quote c (inl q) e = λ same. apart c 0x22 e double_other (same ∙ q)
no_quote c (inr q) e = λ same. apart c 0x27 e single_other (same ∙ q)

plain_next : {quote : ℕ} (c : ℕ) (rest : List ℕ) → IsQuote quote → is_value_char c ≡ true → IsRead (IsNextOfValue quote) (c ∷ rest) (Some c) rest
plain_next {quote} c rest q e =
    subst (λ (d : ℕ). IsRead (IsNextOfValue quote) (c ∷ rest) (Some d) rest) (kept c e)
    (reads_on (next_plain {quote = quote} q {text = c ∷ rest} {behind = rest} {c = c} refl (no_quote c q e) (apart c 0x3c e less_other) (apart c 0x26 e ampersand_other)) (Found c rest)
    (literal_legal c rest (apart c 0xd e return_other) (legal_value c e)))

-- a run of them is read in front of what is read behind it
mapped_on : (c : ℕ) (cs : List ℕ) (o : Outcome (List ℕ)) → mapped (λ (value : List ℕ). c ∷ value) (mapped (λ (value : List ℕ). cs ++ value) o) ≡ mapped (λ (value : List ℕ). (c ∷ cs) ++ value) o
mapped_on c cs (Found value after) = refl
mapped_on c cs (Stopped stop) = refl

run_read : {quote : ℕ} (cs behind : List ℕ) → IsQuote quote → Each (λ c. is_value_char c ≡ true) cs → (o : Outcome (List ℕ)) → Reads (IsValue quote) behind o
    → Reads (IsValue quote) (cs ++ behind) (mapped (λ (value : List ℕ). cs ++ value) o)
run_read {quote} [] behind q all o r = subst (Reads (IsValue quote) behind) (sym (mapped_none [] refl o)) r
run_read {quote} (c ∷ cs) behind q all o r =
    subst (Reads (IsValue quote) (c ∷ (cs ++ behind))) (mapped_on c cs o)
    (reads_on (value_char (plain_next {quote = quote} c (cs ++ behind) q all.0)) (mapped (λ (value : List ℕ). cs ++ value) o) (run_read {quote = quote} cs behind q all.1 o r))

mapped_twice : (front cs : List ℕ) (o : Outcome (List ℕ)) → mapped (λ (value : List ℕ). front ++ value) (mapped (λ (value : List ℕ). cs ++ value) o) ≡ mapped (λ (value : List ℕ). (front ++ cs) ++ value) o
mapped_twice front cs (Found value after) = ap (λ (v : List ℕ). Found v after) (sym (append_assoc front cs value))
mapped_twice front cs (Stopped stop) = refl

-- a value so far with a run behind it
pub run_on : {quote : ℕ} {text rest : List ℕ} (front cs behind new : List ℕ) → IsQuote quote → rest ≡ cs ++ behind → Each (λ c. is_value_char c ≡ true) cs → new ≡ front ++ cs
    → ((o : Outcome (List ℕ)) → Reads (IsValue quote) rest o → Reads (IsValue quote) text (mapped (λ (value : List ℕ). front ++ value) o))
    → (o : Outcome (List ℕ)) → Reads (IsValue quote) behind o → Reads (IsValue quote) text (mapped (λ (value : List ℕ). new ++ value) o)
run_on {quote} {text} {rest} front cs behind new q e all is on o r =
    subst (λ (t : List ℕ). Reads (IsValue quote) text (mapped (λ (value : List ℕ). t ++ value) o)) (sym is)
    (subst (Reads (IsValue quote) text) (mapped_twice front cs o)
    (on (mapped (λ (value : List ℕ). cs ++ value) o) (subst (λ (t : List ℕ). Reads (IsValue quote) t (mapped (λ (value : List ℕ). cs ++ value) o)) (sym e) (run_read {quote = quote} cs behind q all o r))))
