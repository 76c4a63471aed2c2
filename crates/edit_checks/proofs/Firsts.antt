-- The first of some paragraphs or places by which an edit is refused, one after another.
use Rattle.std.proofs.Common.{◌≡◌, ℕ, ◌<◌, ◌≤◌, Bool, true, false, cond, ltb, List, ◌∷◌, ap, sym, ◌∙◌, Option, Some, None}
use Rattle.std.specs.Prelude.{find, option_map, is_some, is_none}
use Rattle.std.proofs.lemmas.Bool.{lt-ltb, le-ltb}
use Rattle.doc_model.specs.declared.document.Document.{Document}
use Rattle.doc_model.specs.declared.paragraph.Par.{Par}
use Rattle.doc_model.specs.declared.paragraph.ParId.{ParId}
use Rattle.doc_model.specs.declared.refusal.Refusal.{Refusal}
use Rattle.doc_model.specs.declared.refusal.Refusal.TheVariants.{NoPar, PastEnd}
use Rattle.edit_rules.specs.Places.{live_paragraph, item_count}
use Rattle.edit_checks.specs.Firsts.{first_absent, first_past_end}

-- the first one passes
taken : {X : Type 0} (test : X → Bool) (why : X → Refusal) (x : X) (xs : List X) → test x ≡ true → Some (why x) ≡ option_map why (find test (x ∷ xs))
taken test why x xs passes = ap (λ (b : Bool). option_map why (cond b (Some x) (find test xs))) (sym passes)

-- the first one doesn't pass
left_out : {X : Type 0} (test : X → Bool) (why : X → Refusal) (x : X) (xs : List X) → test x ≡ false → option_map why (find test xs) ≡ option_map why (find test (x ∷ xs))
left_out test why x xs fails = ap (λ (b : Bool). option_map why (cond b (Some x) (find test xs))) (sym fails)

turned : (live : Option Par) (test : Bool) → test ≡ is_some live → (λ (b : Bool). cond b false true) test ≡ is_none live
turned None test is = ap (λ (b : Bool). cond b false true) is
turned (Some par) test is = ap (λ (b : Bool). cond b false true) is

-- a paragraph that isn't live is the first one
pub absent_first : (doc : Document) (par : ParId) (pars : List ParId) (test : Bool) → test ≡ is_some (live_paragraph doc par) → test ≡ false → Some (NoPar par) ≡ first_absent doc (par ∷ pars)
absent_first doc par pars test is fails =
    taken (λ (one : ParId). is_none (live_paragraph doc one)) NoPar par pars (sym (turned (live_paragraph doc par) test is) ∙ ap (λ (b : Bool). cond b false true) fails)

-- one that is live is left out
pub live_left_out : (doc : Document) (par : ParId) (pars : List ParId) (test : Bool) → test ≡ is_some (live_paragraph doc par) → test ≡ true → first_absent doc pars ≡ first_absent doc (par ∷ pars)
live_left_out doc par pars test is passes =
    left_out (λ (one : ParId). is_none (live_paragraph doc one)) NoPar par pars (sym (turned (live_paragraph doc par) test is) ∙ ap (λ (b : Bool). cond b false true) passes)

-- a place above the item count is the first one
pub past_first : (doc : Document) (par : ParId) (at count : ℕ) (places : List (ParId × ℕ)) → count ≡ item_count doc par → count < at
    → Some (PastEnd par count) ≡ first_past_end doc ((par, at) ∷ places)
past_first doc par at count places is past =
    ap (λ (n : ℕ). Some (PastEnd par n)) is
    ∙ taken (λ (place : ParId × ℕ). ltb (item_count doc place.0) place.1) (λ (place : ParId × ℕ). PastEnd place.0 (item_count doc place.0)) (par, at) places
    (ap (λ (n : ℕ). ltb n at) (sym is) ∙ lt-ltb count at past)

-- one within its paragraph is left out
pub within_left_out : (doc : Document) (par : ParId) (at count : ℕ) (places : List (ParId × ℕ)) → count ≡ item_count doc par → at ≤ count
    → first_past_end doc places ≡ first_past_end doc ((par, at) ∷ places)
within_left_out doc par at count places is within =
    left_out (λ (place : ParId × ℕ). ltb (item_count doc place.0) place.1) (λ (place : ParId × ℕ). PastEnd place.0 (item_count doc place.0)) (par, at) places
    (ap (λ (n : ℕ). ltb n at) (sym is) ∙ le-ltb count at within)
