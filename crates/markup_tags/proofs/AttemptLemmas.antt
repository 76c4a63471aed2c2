-- Reading one construct as a part of another, where memory may be refused.
use Rattle.std.proofs.Common.{◌≡◌, ℕ, List, [], ◌∷◌, ◌++◌, refl, ap, sym, ◌∙◌, chars, Option, Some, None, IsUtf8, encode_utf8_all}
use Rattle.std.proofs.lemmas.List.{append-nil}
use Rattle.std.proofs.lemmas.Str.{encodes-chars, encodes-append, chars_from_encodes}
use Rattle.std.specs.Char.{encode_utf8}
use Rattle.markup_parts.specs.declared.stop.Stop.{Stop}
use Rattle.markup_parts.specs.Outcomes.{Construct, Outcome, Found, Stopped, Reads}
use Rattle.markup_parts.proofs.ReadsLemmas.{Continues, mapped, reads_on, Agrees, reads_same}
use Rattle.markup_tags.specs.declared.fault.Fault.{Fault}
use Rattle.markup_tags.specs.declared.fault.Fault.TheVariants as fault
use Rattle.markup_tags.specs.Attempts.{ReadsUnlessMemory, fault_outcome}

-- what reading the one comes to, reading the other comes to
pub attempt_same : {V : Type 0} {Inner Outer : Construct V} {rest text : List ℕ} → Agrees Inner Outer rest text → (o : Option (Outcome V))
    → ReadsUnlessMemory Inner rest o → ReadsUnlessMemory Outer text o
attempt_same k (Some o) r = reads_same k o r
attempt_same k None r = tt

-- the same at a fault
pub fault_on : {V W : Type 0} {Inner : Construct V} {Outer : Construct W} {f : V → W} {rest text : List ℕ}
    → Continues Inner Outer f rest text → (e : Fault) → ReadsUnlessMemory Inner rest (fault_outcome e) → ReadsUnlessMemory Outer text (fault_outcome e)
fault_on k (fault.Stopped stop) r = reads_on k (Stopped stop) r
fault_on k fault.NoMemory r = tt

-- what a stop of the inner construct comes to, a fault at it does
pub fault_stop : {V W : Type 0} {Inner : Construct V} {Outer : Construct W} {rest text : List ℕ}
    → ((stop : Stop) → Reads Inner rest (Stopped stop) → Reads Outer text (Stopped stop)) → (e : Fault)
    → ReadsUnlessMemory Inner rest (fault_outcome e) → ReadsUnlessMemory Outer text (fault_outcome e)
fault_stop k (fault.Stopped stop) r = k stop r
fault_stop k fault.NoMemory r = tt

-- a text with one more character
pub pushed_chars : (old new : List ℕ) (c : ℕ) → IsUtf8 old → IsUtf8 new → new ≡ old ++ encode_utf8 c → chars new ≡ chars old ++ c ∷ []
pushed_chars old new c u v e =
    sym (chars_from_encodes (chars old ++ c ∷ []) new v (encodes-append (chars old) (c ∷ [])
    ∙ (ap (λ (t : List ℕ). t ++ encode_utf8_all (c ∷ [])) (encodes-chars old u) ∙ (ap (λ (t : List ℕ). old ++ t) (append-nil (encode_utf8 c)) ∙ sym e))))

-- nothing is in front of what is read
pub mapped_none : (front : List ℕ) → front ≡ [] → (o : Outcome (List ℕ)) → mapped (λ (value : List ℕ). front ++ value) o ≡ o
mapped_none front e (Found value after) = ap (λ (t : List ℕ). Found (t ++ value) after) e
mapped_none front e (Stopped stop) = refl
