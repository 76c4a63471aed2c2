-- The edits of heads pass no limit.
use Rattle.std.proofs.Common.{◌≡◌, ℕ, ◌≤◌, List, length, refl, Option, Some, None}
use Rattle.std.specs.Prelude.{◌==◌, if◌then◌else◌, option_to_list}
use Rattle.std.specs.List.{AllByRecursion as Each}
use Rattle.doc_model.specs.declared.document.Document.{Document}
use Rattle.doc_model.specs.declared.paragraph.ListPos.{ListPos}
use Rattle.doc_model.specs.declared.paragraph.Par.{out-Par, roll-Par}
use Rattle.doc_model.specs.declared.paragraph.ParId.{ParId}
use Rattle.doc_model.specs.declared.edit.EditOp.TheVariants.{SetParStyle, SetHeading, SetList}
use Rattle.doc_model.specs.Limits.{IsWithinLimits, first_passed}
use Rattle.doc_model.specs.Reading.{number_of}
use Rattle.edit_rules.specs.Edited.{edited_document}
use Rattle.node_array.specs.Rows.{rows_of}
use Rattle.paragraph_rows.specs.Flat.{AreFlat}
use Rattle.paragraph_rows.proofs.Instances.{flat_head, style_set, level_set, list_set}
use Rattle.row_measures.specs.RowNames.{list_names}
use Rattle.edit_limits.proofs.Fits.{Fits}
use Rattle.edit_limits.proofs.Heads.{none_passed}

pub style_passes : (next : ℕ) (doc : Document) (par : ParId) (style : List ℕ) → IsWithinLimits doc → AreFlat (rows_of doc.body) → length style ≤ 1024
    → first_passed (edited_document next (SetParStyle par style) doc) ≡ None
style_passes next doc par style within flat short =
    none_passed (λ head. record head { style = style }) (λ old. refl) (λ old each. (short, each.1)) doc
    (λ old. if number_of old == par.0 then roll-Par (record (out-Par old) { style = style }) else old) par within flat
    (flat_head par (λ head. record head { style = style }) (rows_of doc.body) flat) (style_set next doc par style flat)

pub level_passes : (next : ℕ) (doc : Document) (par : ParId) (level : ℕ) → IsWithinLimits doc → AreFlat (rows_of doc.body)
    → first_passed (edited_document next (SetHeading par level) doc) ≡ None
level_passes next doc par level within flat =
    none_passed (λ head. record head { level = level }) (λ old. refl) (λ old each. each) doc
    (λ old. if number_of old == par.0 then roll-Par (record (out-Par old) { level = level }) else old) par within flat
    (flat_head par (λ head. record head { level = level }) (rows_of doc.body) flat) (level_set next doc par level flat)

list_fits : (list : Option ListPos) → Each (λ place. length place.style ≤ 1024) (option_to_list list) → Each Fits (list_names list)
list_fits None each = tt
list_fits (Some place) each = each

pub list_passes : (next : ℕ) (doc : Document) (par : ParId) (list : Option ListPos) → IsWithinLimits doc → AreFlat (rows_of doc.body)
    → Each (λ place. length place.style ≤ 1024) (option_to_list list) → first_passed (edited_document next (SetList par list) doc) ≡ None
list_passes next doc par list within flat short =
    none_passed (λ head. record head { list = list }) (λ old. refl) (λ old each. (each.0, list_fits list short)) doc
    (λ old. if number_of old == par.0 then roll-Par (record (out-Par old) { list = list }) else old) par within flat
    (flat_head par (λ head. record head { list = list }) (rows_of doc.body) flat) (list_set next doc par list flat)
