-- What the checks of an edit that isn't refused have found.
use Rattle.std.proofs.Common.{◌≡◌, ◌≢◌, ◌≤◌, ℕ, Bool, true, false, not, ◌||◌, List, [], ◌∷◌, None}
use Rattle.std.specs.Prelude.{nat_lt, is_none, find}
use Rattle.std.specs.List.{AllByRecursion as Each}
use Rattle.doc_model.specs.declared.edit.EditOp.{EditOp}
use Rattle.doc_model.specs.declared.field.NoteClass.{NoteClass}
use Rattle.doc_model.specs.declared.paragraph.ParId.{ParId}
use Rattle.doc_model.specs.declared.refusal.Refusal.TheVariants.{NoPar, PastEnd, BadRange, NoName, NameTaken, StyleLoop, InUse, NotTogether}
use Rattle.doc_model.specs.declared.style.Family.{Family}
use Rattle.edit_rules.specs.Edited.{Edited}
use Rattle.edit_rules.specs.Names.{Need, Brought, needs, brought, is_there}
use Rattle.edit_rules.specs.Places.{live_paragraph, item_count, held_from, is_in_note, are_in_order}
use Rattle.edit_rules.specs.Refusals.{first_refusal, checks, named_paragraphs, places, begins_with_two, are_paragraphs_in_order, is_bad_target, refused_if}
use Rattle.edit_rules.specs.Styles.{first_user}
use Rattle.style_model.specs.Lineage.{would_loop}
use Rattle.allowed_edits.proofs.Passed.{all_pass, none_mapped, none_found, not_refused, not_above, some_there, not_not, neither, each_so}

module _ (old : Edited) (op : EditOp) (allowed : first_refusal old op ≡ None) where
  passed : Each (λ check. check ≡ None) (checks old op)
  passed = all_pass (checks old op) allowed

  pub all_live : Each (λ par. live_paragraph old.document par ≢ None) (named_paragraphs op)
  all_live =
      let test : ParId → Bool = λ par. is_none (live_paragraph old.document par) in
      each_so test (λ par. live_paragraph old.document par ≢ None) (λ par absent. some_there (live_paragraph old.document par) absent) (named_paragraphs op)
      (none_found test (named_paragraphs op) (none_mapped NoPar (find test (named_paragraphs op)) passed.0))

  pub all_within : Each (λ place. place.1 ≤ item_count old.document place.0) (places op)
  all_within =
      let test : ParId × ℕ → Bool = λ place. nat_lt (item_count old.document place.0) place.1 in
      each_so test (λ place. place.1 ≤ item_count old.document place.0) (λ place past. not_above (item_count old.document place.0) place.1 past) (places op)
      (none_found test (places op) (none_mapped (λ place. PastEnd place.0 (item_count old.document place.0)) (find test (places op)) passed.1.0))

  pub all_met : Each (λ need. need.is_met ≡ true) (needs old.document op)
  all_met =
      let test : Need → Bool = λ need. not need.is_met in
      each_so test (λ need. need.is_met ≡ true) (λ need unmet. not_not need.is_met unmet) (needs old.document op)
      (none_found test (needs old.document op) (none_mapped (λ need. NoName need.sort need.name) (find test (needs old.document op)) passed.1.1.1.0))

  pub all_new : Each (λ new. is_there new.given new.name ≡ false) (brought old.document op)
  all_new =
      let test : Brought → Bool = λ new. is_there new.given new.name in
      none_found test (brought old.document op) (none_mapped (λ new. NameTaken new.sort new.name) (find test (brought old.document op)) passed.1.1.1.1.0)

pub delete_order : (old : Edited) (par : ParId) (from to : ℕ) → first_refusal old (EditOp.DeleteRange par from to) ≡ None → from ≤ to
delete_order old par from to allowed = not_above to from (not_refused (nat_lt to from) (BadRange from to) (passed old (EditOp.DeleteRange par from to) allowed).1.1.0)

pub span_order : (old : Edited) (par : ParId) (from to : ℕ) (style : List ℕ) → first_refusal old (EditOp.SetSpan par from to style) ≡ None → from ≤ to
span_order old par from to style allowed = not_above to from (not_refused (nat_lt to from) (BadRange from to) (passed old (EditOp.SetSpan par from to style) allowed).1.1.0)

pub joined_two : (old : Edited) (par : ParId) → first_refusal old (EditOp.Join par) ≡ None → begins_with_two (held_from old.document par) ≡ true
joined_two old par allowed =
    not_not (begins_with_two (held_from old.document par))
    (not_refused (not (begins_with_two (held_from old.document par))) (NotTogether par (record { 0 = 0 })) (passed old (EditOp.Join par) allowed).1.1.1.1.1.1.1.1.0)

moved_checks : (old : Edited) (first last after : ParId) → first_refusal old (EditOp.MovePars first last after) ≡ None
    → Each (λ check. check ≡ None) (refused_if (not (are_paragraphs_in_order old.document first last)) (NotTogether first last) ∷ refused_if (is_bad_target old.document first last after) (NotTogether first after) ∷ [])
moved_checks old first last after allowed =
    all_pass (refused_if (not (are_paragraphs_in_order old.document first last)) (NotTogether first last) ∷ refused_if (is_bad_target old.document first last after) (NotTogether first after) ∷ [])
    (passed old (EditOp.MovePars first last after) allowed).1.1.1.1.1.1.1.1.0

pub moved_order : (old : Edited) (first last after : ParId) → first_refusal old (EditOp.MovePars first last after) ≡ None → are_paragraphs_in_order old.document first last ≡ true
moved_order old first last after allowed =
    not_not (are_paragraphs_in_order old.document first last)
    (not_refused (not (are_paragraphs_in_order old.document first last)) (NotTogether first last) (moved_checks old first last after allowed).0)

pub moved_target : (old : Edited) (first last after : ParId) → first_refusal old (EditOp.MovePars first last after) ≡ None → is_bad_target old.document first last after ≡ false
moved_target old first last after allowed =
    not_refused (is_bad_target old.document first last after) (NotTogether first after) (moved_checks old first last after allowed).1.0

pub note_outside : (old : Edited) (par : ParId) (at : ℕ) (class : NoteClass) (id : List ℕ) → first_refusal old (EditOp.InsertNote par at class id) ≡ None → is_in_note old.document par ≡ false
note_outside old par at class id allowed =
    not_refused (is_in_note old.document par) (NotTogether par par) (passed old (EditOp.InsertNote par at class id) allowed).1.1.1.1.1.1.1.1.0

wrapped_both : (old : Edited) (first last : ParId) (name style : List ℕ) → first_refusal old (EditOp.WrapSection first last name style) ≡ None
    → (not (are_in_order old.document first last) ≡ false) × (is_in_note old.document first ≡ false)
wrapped_both old first last name style allowed =
    let order : Bool = not (are_in_order old.document first last) in
    let inside : Bool = is_in_note old.document first in
    neither order inside (not_refused (order || inside) (NotTogether first last) (passed old (EditOp.WrapSection first last name style) allowed).1.1.1.1.1.1.1.1.0)

pub wrapped_order : (old : Edited) (first last : ParId) (name style : List ℕ) → first_refusal old (EditOp.WrapSection first last name style) ≡ None → are_in_order old.document first last ≡ true
wrapped_order old first last name style allowed = not_not (are_in_order old.document first last) (wrapped_both old first last name style allowed).0

pub wrapped_outside : (old : Edited) (first last : ParId) (name style : List ℕ) → first_refusal old (EditOp.WrapSection first last name style) ≡ None → is_in_note old.document first ≡ false
wrapped_outside old first last name style allowed = (wrapped_both old first last name style allowed).1

pub parent_apart : (old : Edited) (of : Family) (name parent : List ℕ) → first_refusal old (EditOp.SetParent of name parent) ≡ None → would_loop old.document.styles of name parent ≡ false
parent_apart old of name parent allowed =
    not_refused (would_loop old.document.styles of name parent) (StyleLoop name) (passed old (EditOp.SetParent of name parent) allowed).1.1.1.1.1.1.0

pub style_unused : (old : Edited) (of : Family) (name : List ℕ) → first_refusal old (EditOp.RemoveStyle of name) ≡ None → first_user old.document of name ≡ None
style_unused old of name allowed =
    none_mapped (λ number. InUse name (record { 0 = number })) (first_user old.document of name) (passed old (EditOp.RemoveStyle of name) allowed).1.1.1.1.1.1.1.0
