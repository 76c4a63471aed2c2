-- A change of a plain past leaves it plain.
use Rattle.std.proofs.Common.{ℕ, Bool, List, [], ◌∷◌, take, zero, suc}
use Rattle.std.specs.List.{AllByRecursion as Each}
use Rattle.doc_model.specs.declared.document.Document.{Document}
use Rattle.edit_model.specs.Past.{Past, Entry, after_group}
use Rattle.doc_model.specs.Plain.{IsPlain}
use Rattle.desk.specs.PlainPast.{IsPlainPast}

pub Each-take : {X : Type 0} (P : X → Type 0) (n : ℕ) (xs : List X) → Each P xs → Each P (take n xs)
Each-take P zero xs each = tt
Each-take P (suc n) [] each = tt
Each-take P (suc n) (x ∷ xs) each = (each.0, Each-take P n xs each.1)

pub IsPlainPast-after_group : (past : Past) (doc : Document) (touched : List ℕ) (restyling : Bool) → IsPlain doc → IsPlainPast past → IsPlainPast (after_group past doc touched restyling)
IsPlainPast-after_group past doc touched restyling plain held = record {
  present = plain;
  earlier = Each-take (λ (entry : Entry). IsPlain entry.document) 256 (record { document = past.present; touched = touched; restyling = restyling } ∷ past.earlier) (held.present, held.earlier);
  undone = tt;
}
