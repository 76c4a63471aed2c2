-- The first refusal of an insert or a delete on a plain document, by the texts of its paragraphs.
use Rattle.std.proofs.Common.{◌≡◌, ℕ, ◌≤◌, ◌<◌, Bool, true, false, List, [], ◌∷◌, length, refl, ap, sym, ◌∙◌, arith, inl, inr, Option, Some, None, max}
use Rattle.std.specs.Prelude.{map, if◌then◌else◌, nat_lt, ◌⊎◌}
use Rattle.std.specs.List.{AllByRecursion as Each, splice}
use Rattle.std.specs.Option.{option_map, option_map_or}
use Rattle.std.proofs.lemmas.Bool.{le-leb, le-ltb, lt-ltb, ne_eqb, cases_lt}
use Rattle.std.proofs.lemmas.List.{length-map}
use Rattle.doc_model.specs.declared.paragraph.Item.{Item}
use Rattle.doc_model.specs.declared.paragraph.Par.{Par}
use Rattle.doc_model.specs.declared.paragraph.ParId.{ParId}
use Rattle.doc_model.specs.declared.document.Document.{Document}
use Rattle.doc_model.specs.declared.edit.EditOp.{EditOp}
use Rattle.doc_model.specs.declared.edit.EditOp.TheVariants.{InsertText, DeleteRange}
use Rattle.doc_model.specs.declared.refusal.Limit.{Limit}
use Rattle.doc_model.specs.declared.refusal.Refusal.{Refusal}
use Rattle.doc_model.specs.declared.refusal.Refusal.TheVariants.{NoPar, PastEnd, BadRange, BadChar}
use Rattle.doc_model.specs.declared.refusal.Refusal.TheVariants as refusal
use Rattle.doc_model.specs.Chars.{IsPlainChar, can_be_typed, first_untypable}
use Rattle.edit_model.specs.Edit.{Edited, edited, first_refusal, first_refusal_of, live_paragraph, item_count, with_items, with_text, without_range}
use Rattle.doc_model.specs.Limits.{first_passed, limit_number}
use Rattle.doc_model.specs.Parts.{items_of}
use Rattle.doc_model.specs.Plain.{plain_document, plain_item, plain_paragraph}
use Rattle.plain_doc.specs.PlainParts.{with_changed, text_numbered, plain_passed}
use Rattle.plain_doc.proofs.Parts.{items_of-plain_paragraph}
use Rattle.plain_doc.proofs.Edited.{with_items-plain, live_paragraph-plain, with_text-plain, without_range-plain}
use Rattle.plain_doc.proofs.Passed.{first_passed-plain}
use Rattle.edit_ops.proofs.Texts.{cut, cut-plain}

-- a document under edit
abbrev pub at_next : List (List ℕ) → ℕ → Edited
at_next texts next = record { document = plain_document texts; next = next }

-- the texts with one of them cut
abbrev pub cut_texts : ParId → ℕ → ℕ → List ℕ → List (List ℕ) → List (List ℕ)
cut_texts par from to new texts = with_changed par.0 (cut from to new) 1 texts

-- the refusal that comes of a passed limit
abbrev pub of_limit : Option Limit → Option Refusal
of_limit passed = option_map (λ limit. refusal.Limit limit (limit_number limit)) passed

-- the first refusal at a live paragraph of so many items, where the changed document passes a limit or not
abbrev pub refusal_at : ParId → ℕ → ℕ → ℕ → Option Limit → Option Refusal
refusal_at par from to count passed = first_refusal_of (
    None
    ∷ (if nat_lt count from then Some (PastEnd par count) else if nat_lt count to then Some (PastEnd par count) else None)
    ∷ (if nat_lt to from then Some (BadRange from to) else None)
    ∷ of_limit passed ∷ [])

count-plain : (number : ℕ) (text : List ℕ) → length (items_of (plain_paragraph number text)) ≡ length text
count-plain number text = ap (length {A = Item}) (items_of-plain_paragraph number text) ∙ length-map text plain_item

live_at : (texts : List (List ℕ)) (par : ParId) (text : List ℕ) → text_numbered par.0 1 texts ≡ Some text → live_paragraph (plain_document texts) par ≡ Some (plain_paragraph par.0 text)
live_at texts par text found = live_paragraph-plain texts par ∙ ap (option_map (plain_paragraph par.0)) found

not_live : (texts : List (List ℕ)) (par : ParId) → text_numbered par.0 1 texts ≡ None → live_paragraph (plain_document texts) par ≡ None
not_live texts par none = live_paragraph-plain texts par ∙ ap (option_map (plain_paragraph par.0)) none

-- how many items the paragraph of a number has
pub live_count : (texts : List (List ℕ)) (par : ParId) → option_map (λ (live : Par). length (items_of live)) (live_paragraph (plain_document texts) par) ≡ option_map (length {A = ℕ}) (text_numbered par.0 1 texts)
live_count texts par = ap (option_map (λ (live : Par). length (items_of live))) (live_paragraph-plain texts par) ∙ of_text par.0 (text_numbered par.0 1 texts) where
  of_text : (number : ℕ) (found : Option (List ℕ)) → option_map (λ (live : Par). length (items_of live)) (option_map (plain_paragraph number) found) ≡ option_map (length {A = ℕ}) found
  of_text number None = refl
  of_text number (Some text) = ap (λ (n : ℕ). Some n) (count-plain number text)

pub item_count-plain : (texts : List (List ℕ)) (par : ParId) (text : List ℕ) → text_numbered par.0 1 texts ≡ Some text → item_count (plain_document texts) par ≡ length text
item_count-plain texts par text found = ap (λ (live : Option Par). option_map_or (λ (par : Par). length (items_of par)) live 0) (live_at texts par text found) ∙ count-plain par.0 text

-- what an insert and a delete make of the document
pub edited-insert : (texts : List (List ℕ)) (next : ℕ) (par : ParId) (at : ℕ) (new : List ℕ) → Each IsPlainChar new
    → edited (at_next texts next) (InsertText par at new) ≡ at_next (cut_texts par at at new texts) next
edited-insert texts next par at new plain = ap (λ (doc : Document). record (at_next texts next) { document = doc })
    (with_items-plain par.0 (with_text at new) (cut at at new) (λ text. with_text-plain at new text plain) texts)

pub edited-delete : (texts : List (List ℕ)) (next : ℕ) (par : ParId) (from to : ℕ) → edited (at_next texts next) (DeleteRange par from to) ≡ at_next (cut_texts par from to [] texts) next
edited-delete texts next par from to = ap (λ (doc : Document). record (at_next texts next) { document = doc })
    (with_items-plain par.0 (without_range from to) (cut from to []) (λ text. without_range-plain from to text) texts)

pub with_items-cut : (texts : List (List ℕ)) (par : ParId) (from to : ℕ) (new : List ℕ)
    → with_items par.0 (λ items. splice items from to (map plain_item new)) (plain_document texts) ≡ plain_document (cut_texts par from to new texts)
with_items-cut texts par from to new = with_items-plain par.0 (λ items. splice items from to (map plain_item new)) (cut from to new) (λ text. cut-plain from to new text) texts

-- the limit that an edited document passes
passed_by : (texts texts' : List (List ℕ)) (next : ℕ) (op : EditOp) → edited (at_next texts next) op ≡ at_next texts' next → first_passed (edited (at_next texts next) op).document ≡ plain_passed texts'
passed_by texts texts' next op e = ap (λ (new : Edited). first_passed new.document) e ∙ first_passed-plain texts'

-- each character of a plain text can be typed
typed-plain : (c : ℕ) → IsPlainChar c → can_be_typed c ≡ true
typed-plain c (low, high) = rw (ne_eqb c 0x9 (λ e. omega (arith, low, e)), ne_eqb c 0xa (λ e. omega (arith, low, e)), le-leb 0x20 c low, le-leb c 0xd7ff (omega (arith, high))) refl

all_typed-plain : (text : List ℕ) → Each IsPlainChar text → first_untypable text ≡ None
all_typed-plain [] plain = refl
all_typed-plain (c ∷ cs) plain = rw (typed-plain c plain.0, all_typed-plain cs plain.1) refl

-- a refusal that isn't there, before the last, changes nothing
fourth_absent : (a b c last : Option Refusal) → first_refusal_of (a ∷ b ∷ c ∷ None ∷ last ∷ []) ≡ first_refusal_of (a ∷ b ∷ c ∷ last ∷ [])
fourth_absent (Some why) b c last = refl
fourth_absent None (Some why) c last = refl
fourth_absent None None (Some why) last = refl
fourth_absent None None None last = refl

fourth_none : (a b c d last : Option Refusal) → d ≡ None → first_refusal_of (a ∷ b ∷ c ∷ d ∷ last ∷ []) ≡ first_refusal_of (a ∷ b ∷ c ∷ last ∷ [])
fourth_none a b c d last none = ap (λ (d : Option Refusal). first_refusal_of (a ∷ b ∷ c ∷ d ∷ last ∷ [])) none ∙ fourth_absent a b c last

twice : (b : Bool) (why : Option Refusal) → (if b then why else None) ≡ (if b then why else if b then why else None)
twice true why = refl
twice false why = refl

-- the first refusal of an insert and of a delete
pub insert-refused : (texts : List (List ℕ)) (next : ℕ) (par : ParId) (at : ℕ) (new text : List ℕ) → Each IsPlainChar new → text_numbered par.0 1 texts ≡ Some text
    → first_refusal (at_next texts next) (InsertText par at new) ≡ refusal_at par at at (length text) (plain_passed (cut_texts par at at new texts))
insert-refused texts next par at new text plain found =
    let passed : Option Limit = first_passed (edited (at_next texts next) (InsertText par at new)).document in
    let count : Option Par → ℕ = λ live. option_map_or (λ (par : Par). length (items_of par)) live 0 in
    let live : Option Par = live_paragraph (plain_document texts) par in
    fourth_none (option_map_or {T = Par} {U = Option Refusal} (λ par. None) live (Some (NoPar par))) (if nat_lt (count live) at then Some (PastEnd par (count live)) else None) None
    (option_map BadChar (first_untypable new)) (of_limit passed) (ap (option_map BadChar) (all_typed-plain new plain))
    ∙ ap (λ (live : Option Par). first_refusal_of (option_map_or {T = Par} {U = Option Refusal} (λ par. None) live (Some (NoPar par)) ∷ (if nat_lt (count live) at then Some (PastEnd par (count live)) else None) ∷ None ∷ of_limit passed ∷ [])) (live_at texts par text found)
    ∙ ap (λ (n : ℕ). first_refusal_of (None ∷ (if nat_lt n at then Some (PastEnd par n) else None) ∷ None ∷ of_limit passed ∷ [])) (count-plain par.0 text)
    ∙ ap (λ (limit : Option Limit). first_refusal_of (None ∷ (if nat_lt (length text) at then Some (PastEnd par (length text)) else None) ∷ None ∷ of_limit limit ∷ []))
    (passed_by texts (cut_texts par at at new texts) next (InsertText par at new) (edited-insert texts next par at new plain))
    ∙ ap (λ (why : Option Refusal). first_refusal_of (None ∷ why ∷ None ∷ of_limit (plain_passed (cut_texts par at at new texts)) ∷ [])) (twice (nat_lt (length text) at) (Some (PastEnd par (length text))))
    ∙ ap (λ (b : Bool). first_refusal_of (None ∷ (if nat_lt (length text) at then Some (PastEnd par (length text)) else if nat_lt (length text) at then Some (PastEnd par (length text)) else None)
    ∷ (if b then Some (BadRange at at) else None) ∷ of_limit (plain_passed (cut_texts par at at new texts)) ∷ [])) (sym (le-ltb at at (omega arith)))

pub delete-refused : (texts : List (List ℕ)) (next : ℕ) (par : ParId) (from to : ℕ) (text : List ℕ) → text_numbered par.0 1 texts ≡ Some text
    → first_refusal (at_next texts next) (DeleteRange par from to) ≡ refusal_at par from to (length text) (plain_passed (cut_texts par from to [] texts))
delete-refused texts next par from to text found =
    let passed : Option Limit = first_passed (edited (at_next texts next) (DeleteRange par from to)).document in
    let count : Option Par → ℕ = λ live. option_map_or (λ (par : Par). length (items_of par)) live 0 in
    let live : Option Par = live_paragraph (plain_document texts) par in
    fourth_absent (option_map_or {T = Par} {U = Option Refusal} (λ par. None) live (Some (NoPar par)))
    (if nat_lt (count live) from then Some (PastEnd par (count live)) else if nat_lt (count live) to then Some (PastEnd par (count live)) else None)
    (if nat_lt to from then Some (BadRange from to) else None) (of_limit passed)
    ∙ ap (λ (live : Option Par). first_refusal_of (option_map_or {T = Par} {U = Option Refusal} (λ par. None) live (Some (NoPar par))
    ∷ (if nat_lt (count live) from then Some (PastEnd par (count live)) else if nat_lt (count live) to then Some (PastEnd par (count live)) else None)
    ∷ (if nat_lt to from then Some (BadRange from to) else None) ∷ of_limit passed ∷ [])) (live_at texts par text found)
    ∙ ap (λ (n : ℕ). refusal_at par from to n passed) (count-plain par.0 text)
    ∙ ap (refusal_at par from to (length text)) (passed_by texts (cut_texts par from to [] texts) next (DeleteRange par from to) (edited-delete texts next par from to))

pub insert-no_paragraph : (texts : List (List ℕ)) (next : ℕ) (par : ParId) (at : ℕ) (new : List ℕ) → text_numbered par.0 1 texts ≡ None
    → first_refusal (at_next texts next) (InsertText par at new) ≡ Some (NoPar par)
insert-no_paragraph texts next par at new none =
    let passed : Option Limit = first_passed (edited (at_next texts next) (InsertText par at new)).document in
    let count : Option Par → ℕ = λ live. option_map_or (λ (par : Par). length (items_of par)) live 0 in
    ap (λ (live : Option Par). first_refusal_of (option_map_or {T = Par} {U = Option Refusal} (λ par. None) live (Some (NoPar par)) ∷ (if nat_lt (count live) at then Some (PastEnd par (count live)) else None) ∷ None ∷ option_map BadChar (first_untypable new) ∷ of_limit passed ∷ [])) (not_live texts par none)

pub delete-no_paragraph : (texts : List (List ℕ)) (next : ℕ) (par : ParId) (from to : ℕ) → text_numbered par.0 1 texts ≡ None
    → first_refusal (at_next texts next) (DeleteRange par from to) ≡ Some (NoPar par)
delete-no_paragraph texts next par from to none =
    let passed : Option Limit = first_passed (edited (at_next texts next) (DeleteRange par from to)).document in
    let count : Option Par → ℕ = λ live. option_map_or (λ (par : Par). length (items_of par)) live 0 in
    ap (λ (live : Option Par). first_refusal_of (option_map_or {T = Par} {U = Option Refusal} (λ par. None) live (Some (NoPar par))
    ∷ (if nat_lt (count live) from then Some (PastEnd par (count live)) else if nat_lt (count live) to then Some (PastEnd par (count live)) else None)
    ∷ (if nat_lt to from then Some (BadRange from to) else None) ∷ None ∷ of_limit passed ∷ [])) (not_live texts par none)

-- the refusals of a live paragraph in their order
past_end_by : (a b c : Bool) (why bad limit : Option Refusal) → (a ≡ true) ⊎ (b ≡ true) → (why ≡ None → ⊥)
    → first_refusal_of (None ∷ (if a then why else if b then why else None) ∷ (if c then bad else None) ∷ limit ∷ []) ≡ why
past_end_by true b c (Some why) bad limit either some = refl
past_end_by false true c (Some why) bad limit either some = refl
past_end_by false false c why bad limit (inl e) some = absurd (cc)
past_end_by false false c why bad limit (inr e) some = absurd (cc)
past_end_by a b c None bad limit either some = absurd (some refl)

pub refusal_at-past : (par : ParId) (from to count : ℕ) (passed : Option Limit) → count < max from to → refusal_at par from to count passed ≡ Some (PastEnd par count)
refusal_at-past par from to count passed h =
    past_end_by (nat_lt count from) (nat_lt count to) (nat_lt to from) (Some (PastEnd par count)) (Some (BadRange from to)) (of_limit passed)
    (elim (cases_lt count from) [ inl k ↦ inl (lt-ltb count from k) | inr k ↦ inr (lt-ltb count to (omega (arith, h, k))) ]) (λ e. absurd (cc))

pub refusal_at-bad : (par : ParId) (from to count : ℕ) (passed : Option Limit) → max from to ≤ count → to < from → refusal_at par from to count passed ≡ Some (BadRange from to)
refusal_at-bad par from to count passed h k =
    let first : nat_lt count from ≡ false = le-ltb count from (omega (arith, h)) in
    let second : nat_lt count to ≡ false = le-ltb count to (omega (arith, h)) in
    let bad : nat_lt to from ≡ true = lt-ltb to from k in
    rw (first, second, bad) refl

pub refusal_at-limit : (par : ParId) (from to count : ℕ) (passed : Option Limit) → max from to ≤ count → from ≤ to → refusal_at par from to count passed ≡ of_limit passed
refusal_at-limit par from to count passed h k =
    let first : nat_lt count from ≡ false = le-ltb count from (omega (arith, h)) in
    let second : nat_lt count to ≡ false = le-ltb count to (omega (arith, h)) in
    let bad : nat_lt to from ≡ false = le-ltb to from k in
    rw (first, second, bad) (of_limit_alone passed) where
      of_limit_alone : (passed : Option Limit) → first_refusal_of (None ∷ None ∷ None ∷ of_limit passed ∷ []) ≡ of_limit passed
      of_limit_alone None = refl
      of_limit_alone (Some limit) = refl

of_limit-none : (passed : Option Limit) → of_limit passed ≡ None → passed ≡ None
of_limit-none None e = refl
of_limit-none (Some limit) e = absurd (cc)

-- where nothing is refused, the range lies in the paragraph and no limit is passed
pub not_refused : (par : ParId) (from to count : ℕ) (passed : Option Limit) → refusal_at par from to count passed ≡ None → (from ≤ to) × (to ≤ count) × (passed ≡ None)
not_refused par from to count passed e = elim (cases_lt count (max from to)) [
  | inl past ↦ absurd (some_none (sym (refusal_at-past par from to count passed past) ∙ e))
  | inr within ↦ elim (cases_lt to from) [
    | inl bad ↦ absurd (some_none (sym (refusal_at-bad par from to count passed within bad) ∙ e))
    | inr order ↦ (order, omega (arith, within, order), of_limit-none passed (sym (refusal_at-limit par from to count passed within order) ∙ e))
  ]
] where
  some_none : {why : Refusal} → Some why ≡ None → ⊥
  some_none e = absurd (cc)
