-- What bytes are saved as is one thing.
use Rattle.std.proofs.Common.{◌≡◌, ℕ, ◌⊎◌, List, Option, Ok, Err, refl, sym, ap, ap₂, ◌∙◌, inl, inr}
use Rattle.doc_model.specs.declared.report.Report.{Report}
use Rattle.doc_load.specs.declared.offence.LoadFault.{LoadFault}
use Rattle.doc_load.specs.declared.offence.LoadFault.TheVariants as fault
use Rattle.doc_load.specs.declared.offence.Offence.{Offence}
use Rattle.doc_load.specs.Loads.{HasOffence, IsFaultIn}
use Rattle.file_save.specs.Lines.{report_line}
use Rattle.file_save.specs.Saves.{IsOffenceUnlessMemory, Saves}
use Rattle.quill_top.specs.Answer.{Only}
use Rattle.quill_top.specs.Ending.{fault_stop}
use Rattle.quill_top.specs.Outcome.{Done, Outcome, IsSaved}
use Rattle.quill_top.specs.Stop.{Stop, no_memory, refused}

-- bytes that are saved have one text and one report, and no offence
pub saved : (bytes text : List ℕ) (report : Report) (line : Option (List ℕ)) → Saves bytes text report → line ≡ report_line report
    → ((other : List ℕ) (another : Report) → Saves bytes other another → (text ≡ other) × (report ≡ another)) → ((offence : Offence) → HasOffence bytes offence → ⊥)
    → Only (IsSaved bytes) (Ok (record { text = text; report = line }))
saved bytes text report line saves is one none = ((report, saves, is), only) where
  only : (other : Outcome) → IsSaved bytes other → other ≡ Ok (record { text = text; report = line })
  only (Ok done) (another, found, told) =
      let same = one done.text another found in
      ap Ok (ap₂ (λ (t : List ℕ) (l : Option (List ℕ)). record { text = t; report = l }) (sym same.0) (told ∙ ap report_line (sym same.1) ∙ sym is))
  only (Err stop) (offence, has, told) = absurd (none offence has)

-- bytes with an offence have one, and aren't saved
pub offended : (bytes : List ℕ) (offence : Offence) → HasOffence bytes offence → ((other : Offence) → HasOffence bytes other → offence ≡ other)
    → ((text : List ℕ) (report : Report) → Saves bytes text report → ⊥) → Only (IsSaved bytes) (Err (refused offence))
offended bytes offence has one none = ((offence, has, refl), only) where
  only : (other : Outcome) → IsSaved bytes other → other ≡ Err (refused offence)
  only (Ok done) (report, saves, told) = absurd (none done.text report saves)
  only (Err stop) (other, found, told) = ap Err (told ∙ ap refused (sym (one other found)))

-- a fault is want of memory, or the one offence
pub faulted : (bytes : List ℕ) (why : LoadFault) → IsFaultIn bytes why → ((text : List ℕ) (report : Report) → Saves bytes text report → why ≡ fault.NoMemory)
    → ((offence : Offence) → HasOffence bytes offence → IsOffenceUnlessMemory offence (Err why))
    → (fault_stop why ≡ no_memory) ⊎ (((offence : Offence) × (fault_stop why ≡ refused offence)) × Only (IsSaved bytes) (Err (fault_stop why)))
faulted bytes (fault.Offence offence) has only told = inr ((offence, refl), offended bytes offence has told (λ text report saves. let e = only text report saves in cc))
faulted bytes fault.NoMemory has only told = inl refl
