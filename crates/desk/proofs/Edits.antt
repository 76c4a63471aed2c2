-- Plain edits keep the paragraphs' count.
use Rattle.std.proofs.Common.{◌≡◌, ◌+◌, ℕ, Bool, true, false, List, [], ◌∷◌, length, refl, ap, sym, ◌∙◌, Option, Some, None, suc}
use Rattle.std.specs.Prelude.{nat_lt, if◌then◌else◌, Result, Ok, Err}
use Rattle.std.specs.List.{AllByRecursion as Each, splice, remove_range}
use Rattle.std.specs.Option.{option_map_or}
use Rattle.doc_model.specs.declared.document.Document.{Document}
use Rattle.doc_model.specs.declared.edit.EditOp.{EditOp}
use Rattle.doc_model.specs.declared.edit.EditOp.TheVariants.{InsertText, DeleteRange}
use Rattle.doc_model.specs.declared.refusal.Refusal.{Refusal}
use Rattle.doc_model.specs.declared.refusal.Refusal.TheVariants as refusal
use Rattle.doc_model.specs.declared.refusal.Limit.TheVariants.{Operations}
use Rattle.edit_model.specs.Edit.{Edited, edited, edited_by, edited_by_group, first_refusal, with_text, without_range}
use Rattle.doc_model.specs.Limits.{limit_number}
use Rattle.doc_model.specs.Plain.{IsPlain, plain_document}
use Rattle.plain_doc.specs.PlainParts.{with_changed}
use Rattle.plain_doc.proofs.Edited.{with_items-plain, with_text-plain, without_range-plain}
use Rattle.plain_doc.proofs.Valid.{measure-paragraphs}
use Rattle.round_model.specs.Stops.{paragraph_count}
use Rattle.edit_ops.specs.PlainOps.{IsPlainOp}

length-with_changed : (number : ℕ) (new : List ℕ → List ℕ) (here : ℕ) (texts : List (List ℕ)) → length (with_changed number new here texts) ≡ length texts
length-with_changed number new here [] = refl
length-with_changed number new here (text ∷ texts) = ap suc (length-with_changed number new (here + 1) texts)

-- the plain document of these texts, under edit
abbrev pub plain_edited : List (List ℕ) → ℕ → Edited
plain_edited texts next = record { document = plain_document texts; next = next }

-- what a plain operation makes of a plain document
record Rewrites (texts : List (List ℕ)) (next : ℕ) (op : EditOp) : Type 0 where
  pub texts' : List (List ℕ)
  pub edited : edited (plain_edited texts next) op ≡ plain_edited texts' next
  pub count : length texts' ≡ length texts

rewrites : (texts : List (List ℕ)) (next : ℕ) (op : EditOp) → IsPlainOp op → Rewrites texts next op
rewrites texts next (InsertText par at text) plain =
    let new : List ℕ → List ℕ = λ old. splice old at at text in
    record {
      texts' = with_changed par.0 new 1 texts;
      edited = ap (λ (d : Document). record { document = d; next = next }) (with_items-plain par.0 (with_text at text) new (λ old. with_text-plain at text old plain) texts);
      count = length-with_changed par.0 new 1 texts;
    }
rewrites texts next (DeleteRange par from to) plain =
    let new : List ℕ → List ℕ = λ old. remove_range old from to in
    record {
      texts' = with_changed par.0 new 1 texts;
      edited = ap (λ (d : Document). record { document = d; next = next }) (with_items-plain par.0 (without_range from to) new (λ old. without_range-plain from to old) texts);
      count = length-with_changed par.0 new 1 texts;
    }
rewrites texts next op plain = absurd plain

not_refused : (index : ℕ) (why : Option Refusal) (rest : Result Edited (ℕ × Refusal)) (new : Edited) → option_map_or (λ (found : Refusal). Err (index, found)) why rest ≡ Ok new → rest ≡ Ok new
not_refused index None rest new e = e
not_refused index (Some why) rest new e = absurd (cc)

edited_by-count : (texts : List (List ℕ)) (next index : ℕ) (ops : List EditOp) (new : Edited) → Each IsPlainOp ops → edited_by (plain_edited texts next) index ops ≡ Ok new → paragraph_count new.document ≡ length texts
edited_by-count texts next index [] new plain e =
    let same : plain_edited texts next ≡ new = cc in
    ap (λ (edited : Edited). paragraph_count edited.document) (sym same) ∙ measure-paragraphs texts
edited_by-count texts next index (op ∷ ops) new plain e =
    let one = rewrites texts next op plain.0 in
    let rest = not_refused index (first_refusal (plain_edited texts next) op) (edited_by (edited (plain_edited texts next) op) (index + 1) ops) new e in
    edited_by-count one.texts' next (index + 1) ops new plain.1 (ap (λ (old : Edited). edited_by old (index + 1) ops) (sym one.edited) ∙ rest) ∙ one.count

not_many : (many : Bool) (refused : ℕ × Refusal) (rest : Result Edited (ℕ × Refusal)) (new : Edited) → (if many then Err refused else rest) ≡ Ok new → rest ≡ Ok new
not_many false refused rest new e = e
not_many true refused rest new e = absurd (cc)

-- the document that a plain group makes has as many paragraphs
pub edited_by_group-count : (doc new : Document) → IsPlain doc → (ops : List EditOp) → Each IsPlainOp ops
    → ((next : ℕ) → edited_by_group (record { document = doc; next = next }) ops ≡ Ok (record { document = new; next = next })) → paragraph_count new ≡ paragraph_count doc
edited_by_group-count doc new plain ops plain_ops done =
    let made = ap (λ (d : Document). edited_by_group (record { document = d; next = 0 }) ops) (sym plain.1.alone) ∙ done 0 in
    let run = not_many (nat_lt (limit_number Operations) (length ops)) (1024, refusal.Limit Operations 1024) (edited_by (plain_edited plain.0 0) 0 ops) (record { document = new; next = 0 }) made in
    edited_by-count plain.0 0 0 ops (record { document = new; next = 0 }) plain_ops run
    ∙ sym (ap paragraph_count plain.1.alone ∙ measure-paragraphs plain.0)
