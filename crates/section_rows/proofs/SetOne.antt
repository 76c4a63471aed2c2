-- The Start row of a section that is set.
use Rattle.std.proofs.Common.{◌≡◌, ◌≢◌, ℕ, Bool, cond, List, [], ◌∷◌, ◌++◌, map, refl, ap, ap₂, ◌∙◌, arith}
use Rattle.std.specs.Prelude.{if◌then◌else◌}
use Rattle.std.specs.Str.{bytes_eq}
use Rattle.std.proofs.lemmas.List.{map-append}
use Rattle.std.proofs.lemmas.Slice.Eq.{bytes_eq-Decides}
use Rattle.doc_model.specs.declared.edit.EditOp.TheVariants.{SetSection}
use Rattle.doc_model.specs.declared.document.Document.{Document}
use Rattle.doc_model.specs.Parts.{sections}
use Rattle.doc_model.specs.Valid.{AreNamesOrNone}
use Rattle.edit_rules.specs.Edited.{edited_document}
use Rattle.node_array.specs.declared.row.Row.{Row}
use Rattle.node_array.specs.declared.row.SectionHead.{SectionHead}
use Rattle.node_array.specs.declared.row.Row.TheVariants as row
use Rattle.node_array.specs.Rows.{rows_of}
use Rattle.container_rows.proofs.Firsts.{by_test}
use Rattle.section_rows.specs.Starts.{with_head_set}
use Rattle.section_rows.proofs.Names.{starts, starts_both}
use Rattle.section_rows.proofs.Set.{set_among}
use Rattle.section_rows.proofs.Unwrapped.{named_once, one_start}

module _ (name : List ℕ) (protected hidden : Bool) where
  -- rows that don't begin the section stay
  others_stay : (rows : List Row) → starts name rows ≡ 0 → map (with_head_set name protected hidden) rows ≡ rows
  others_stay [] none = refl
  others_stay (row.Start head ∷ rows) none =
      by_test (bytes_eq head.name name)
      (λ is_so. absurd (omega (arith, none, ap {B = ℕ} (λ (b : Bool). cond b 1 0) is_so)))
      (λ other.
      ap₂ (λ (h : SectionHead) (rs : List Row). row.Start h ∷ rs)
      (ap (λ (b : Bool). if b then record head { protected = protected; hidden = hidden } else head) other)
      (others_stay rows (omega (arith, none))))
  others_stay (row.End ∷ rows) none = ap (λ (rs : List Row). row.End ∷ rs) (others_stay rows (omega (arith, none)))
  others_stay (row.Par head items ∷ rows) none = ap (λ (rs : List Row). row.Par head items ∷ rs) (others_stay rows (omega (arith, none)))
  others_stay (row.NoteText ∷ rows) none = ap (λ (rs : List Row). row.NoteText ∷ rs) (others_stay rows (omega (arith, none)))

pub set_at : (next : ℕ) (protected hidden : Bool) (doc : Document) (before : List Row) (head : SectionHead) (rest : List Row) → AreNamesOrNone (map (λ section. section.name) (sections doc)) → head.name ≢ []
    → rows_of doc.body ≡ before ++ row.Start head ∷ rest
    → rows_of (edited_document next (SetSection head.name protected hidden) doc).body ≡ before ++ row.Start (record head { protected = protected; hidden = hidden }) ∷ rest
set_at next protected hidden doc before head rest names given is =
    let name : List ℕ = head.name in
    let set : Row → Row = with_head_set name protected hidden in
    let one = one_start doc before head rest names given is in
    let sum = starts_both name before (row.Start head ∷ rest) in
    let all = ap (starts name) is in
    let here = named_once head in
    set_among name protected hidden doc.body ∙ ap (map set) is ∙ map-append set before (row.Start head ∷ rest)
    ∙ ap₂ (λ (a b : List Row). a ++ set (row.Start head) ∷ b) (others_stay name protected hidden before (omega (arith, one, sum, all, here))) (others_stay name protected hidden rest (omega (arith, one, sum, all, here)))
    ∙ ap (λ (b : Bool). before ++ row.Start (if b then record head { protected = protected; hidden = hidden } else head) ∷ rest) ((bytes_eq-Decides head.name head.name).1 refl)
