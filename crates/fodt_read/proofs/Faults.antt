-- Faults that are handed on.
use Rattle.std.proofs.Common.{◌≡◌, ◌≢◌, ℕ, List, refl, sym, ◌∙◌}
use Rattle.std.specs.Prelude.{Result, Ok, Err, MatchResult, IfErr, IsErrAnd}
use Rattle.doc_model.specs.declared.document.Document.{Document}
use Rattle.doc_model.specs.Plain.{IsPlain}
use Rattle.spelling_model.specs.Spelling.{canonical}
use Rattle.fodt_read.specs.declared.fault.LoadFault.{LoadFault}
use Rattle.fodt_read.specs.declared.fault.LoadFault.TheVariants.{NotPlain, NoMemory}

-- the only fault where the other can't be
pub other_fault : (fault : LoadFault) → (fault ≡ NotPlain → ⊥) → fault ≡ NoMemory
other_fault NotPlain never = absurd (never refl)
other_fault NoMemory never = refl

-- a fault that is handed on is want of memory, where it isn't the other one
pub only_memory : {X : Type 0} (result : Result X LoadFault) (P : X → Type 0) (fault : LoadFault) → IsErrAnd result (λ e. e ≡ fault) → (fault ≡ NotPlain → ⊥) → MatchResult result P (λ e. e ≡ NoMemory)
only_memory (Ok x) P fault handed never = absurd handed
only_memory (Err e) P fault handed never = handed ∙ other_fault fault never

-- a fault that is handed on, and is want of memory
pub handed_on : {X : Type 0} (result : Result X LoadFault) (P : X → Type 0) (fault : LoadFault) → IsErrAnd result (λ e. e ≡ fault) → fault ≡ NoMemory → MatchResult result P (λ e. e ≡ NoMemory)
handed_on (Ok x) P fault handed is = absurd handed
handed_on (Err e) P fault handed is = handed ∙ is

-- the faults differ
apart : NotPlain ≡ NoMemory → ⊥
apart e = cc

-- a fault that is want of memory wherever a plain document is spelled tells truly that none is
pub not_plain : {X : Type 0} (result : Result X LoadFault) (fault : LoadFault) (bytes : List ℕ) → IsErrAnd result (λ e. e ≡ fault) → ((doc : Document) → IsPlain doc → canonical doc ≡ bytes → fault ≡ NoMemory)
    → IfErr result (λ e. e ≡ NotPlain → (doc : Document) → IsPlain doc → canonical doc ≢ bytes)
not_plain (Ok x) fault bytes handed memory = tt
not_plain (Err e) fault bytes handed memory = λ is doc plain spells. apart (sym is ∙ handed ∙ memory doc plain spells)
