-- What a change of one paragraph needs and makes, told of whole plain documents.
use Rattle.std.proofs.Common.{◌≡◌, ℕ, ◌+◌, ◌-◌, ◌≤◌, ◌<◌, List, [], length, refl, ap, sym, ◌∙◌, subst, arith, Option, Some, None, max, IsSome}
use Rattle.std.specs.Prelude.{map, sum_by, Result, Ok, Err, OnOk}
use Rattle.std.specs.List.{AllByRecursion as Each, splice}
use Rattle.std.specs.Option.{option_map}
use Rattle.doc_model.specs.declared.paragraph.Par.{Par}
use Rattle.doc_model.specs.declared.paragraph.ParId.{ParId}
use Rattle.doc_model.specs.declared.document.Document.{Document}
use Rattle.doc_model.specs.declared.edit.EditOp.{EditOp}
use Rattle.doc_model.specs.declared.edit.EditOp.TheVariants.{InsertText, DeleteRange}
use Rattle.doc_model.specs.declared.refusal.Limit.{Limit}
use Rattle.doc_model.specs.declared.refusal.Limit.TheVariants as limit
use Rattle.doc_model.specs.declared.refusal.Refusal.{Refusal}
use Rattle.doc_model.specs.declared.refusal.Refusal.TheVariants as refusal
use Rattle.doc_model.specs.Chars.{IsPlainChar}
use Rattle.edit_model.specs.Edit.{edited, first_refusal, live_paragraph, item_count, with_items}
use Rattle.doc_model.specs.Limits.{measure}
use Rattle.doc_model.specs.Parts.{items_of}
use Rattle.doc_model.specs.Plain.{IsPlain, plain_document, plain_item, plain_paragraph}
use Rattle.doc_model.specs.Valid.{IsValid}
use Rattle.plain_doc.specs.PlainParts.{text_numbered, plain_passed, ArePlainTexts}
use Rattle.plain_doc.proofs.Valid.{ArePlainTexts-valid, IsValid-plain, measure-items}
use Rattle.plain_doc.proofs.Passed.{ArePlainTexts-not_passed, some-with_changed}
use Rattle.plain_doc.proofs.Edited.{live_paragraph-plain}
use Rattle.edit_ops.specs.PlainOps.{IsPlainOp, RefusesChange}
use Rattle.edit_ops.proofs.Texts.{cut, length-cut, sum-changed, text-within, Each-changed, passed-paragraph, passed-items, passed-none}
use Rattle.edit_ops.proofs.Refusals.{at_next, cut_texts, of_limit, refusal_at, live_count, item_count-plain, edited-insert, edited-delete, with_items-cut, insert-refused, delete-refused, insert-no_paragraph, delete-no_paragraph, refusal_at-past, refusal_at-bad, refusal_at-limit, not_refused}

-- how many items the paragraph has that an edit names
abbrev pub live_items : Document → ParId → Option ℕ
live_items doc par = option_map (λ (live : Par). length (items_of live)) (live_paragraph doc par)

pub within_limits : (doc : Document) (plain : IsPlain doc) → ArePlainTexts plain.0
within_limits doc plain = ArePlainTexts-valid plain.0 (subst IsValid plain.1.alone plain.1.valid)

pub measure-plain : (doc : Document) (plain : IsPlain doc) → measure doc limit.Items ≡ sum_by (length {A = ℕ}) plain.0
measure-plain doc plain = ap (λ (d : Document). measure d limit.Items) plain.1.alone ∙ measure-items plain.0

pub few_items : (doc : Document) → IsPlain doc → measure doc limit.Items ≤ 4194304
few_items doc plain = omega (arith, measure-plain doc plain, (within_limits doc plain).items)

-- the text of a paragraph with so many items
pub record HasText (texts : List (List ℕ)) (par : ParId) (count : ℕ) : Type 0 where
  pub text : List ℕ
  pub found : text_numbered par.0 1 texts ≡ Some text
  pub size : length text ≡ count

of_found : (texts : List (List ℕ)) (par : ParId) (count : ℕ) (found : Option (List ℕ)) → text_numbered par.0 1 texts ≡ found → Some count ≡ option_map (length {A = ℕ}) found → HasText texts par count
of_found texts par count None is e = absurd (cc)
of_found texts par count (Some text) is e = record { text = text; found = is; size = cc e }

pub has_text : (doc : Document) (plain : IsPlain doc) (par : ParId) (count : ℕ) → Some count ≡ live_items doc par → HasText plain.0 par count
has_text doc plain par count e =
    of_found plain.0 par count (text_numbered par.0 1 plain.0) refl (e ∙ ap (λ (d : Document). live_items d par) plain.1.alone ∙ live_count plain.0 par)

pub count_within : (doc : Document) → IsPlain doc → (par : ParId) (count : ℕ) → Some count ≡ live_items doc par → (count ≤ 32768) × (count ≤ measure doc limit.Items)
count_within doc plain par count e =
    let t = has_text doc plain par count e in
    let inside = text-within par.0 plain.0 t.text t.found (within_limits doc plain) in
    (omega (arith, t.size, inside.2), omega (arith, t.size, inside.3, measure-plain doc plain))

none_found : (found : Option (List ℕ)) → None ≡ option_map (length {A = ℕ}) found → found ≡ None
none_found None e = refl
none_found (Some text) e = absurd (cc)

pub has_no_text : (doc : Document) (plain : IsPlain doc) (par : ParId) → None ≡ live_items doc par → text_numbered par.0 1 plain.0 ≡ None
has_no_text doc plain par e = none_found (text_numbered par.0 1 plain.0) (e ∙ ap (λ (d : Document). live_items d par) plain.1.alone ∙ live_count plain.0 par)

-- a refusal on the document of its texts is one on the document
on_document : (doc : Document) (texts : List (List ℕ)) → doc ≡ plain_document texts → (par : ParId) (from to added : ℕ) (why : Option Refusal)
    → RefusesChange (plain_document texts) par from to added why → RefusesChange doc par from to added why
on_document doc texts e par from to added why there = subst (λ (d : Document). RefusesChange d par from to added why) (sym e) there

refuses_at : (texts : List (List ℕ)) (par : ParId) (from to added : ℕ) (why : Option Refusal) (text : List ℕ) → text_numbered par.0 1 texts ≡ Some text
    → ((new : List ℕ) → length new ≡ added → refusal_at par from to (length text) (plain_passed (cut_texts par from to new texts)) ≡ why)
    → RefusesChange (plain_document texts) par from to added why
refuses_at texts par from to added why text found by = record {
  insert = λ new next plain size same.
      sym (insert-refused texts next par from new text plain found
      ∙ ap (λ (n : ℕ). refusal_at par from n (length text) (plain_passed (cut_texts par from n new texts))) same
      ∙ by new size);
  delete = λ next none. sym (delete-refused texts next par from to text found ∙ by [] (sym none));
}

pub refuses-no_paragraph : (doc : Document) (plain : IsPlain doc) (par : ParId) (from to added : ℕ) → None ≡ live_items doc par → RefusesChange doc par from to added (Some (refusal.NoPar par))
refuses-no_paragraph doc plain par from to added e =
    let none = has_no_text doc plain par e in
    on_document doc plain.0 plain.1.alone par from to added (Some (refusal.NoPar par)) (record {
      insert = λ new next chars size same. sym (insert-no_paragraph plain.0 next par from new none);
      delete = λ next zero. sym (delete-no_paragraph plain.0 next par from to none);
    })

pub refuses-past : (doc : Document) (plain : IsPlain doc) (par : ParId) (from to added count : ℕ) → Some count ≡ live_items doc par → count < max from to
    → RefusesChange doc par from to added (Some (refusal.PastEnd par count))
refuses-past doc plain par from to added count e past =
    let t = has_text doc plain par count e in
    on_document doc plain.0 plain.1.alone par from to added (Some (refusal.PastEnd par count))
    (refuses_at plain.0 par from to added (Some (refusal.PastEnd par count)) t.text t.found (λ new size.
    ap (λ (n : ℕ). refusal_at par from to n (plain_passed (cut_texts par from to new plain.0))) t.size
    ∙ refusal_at-past par from to count (plain_passed (cut_texts par from to new plain.0)) past))

pub refuses-bad : (doc : Document) (plain : IsPlain doc) (par : ParId) (from to added count : ℕ) → Some count ≡ live_items doc par → max from to ≤ count → to < from
    → RefusesChange doc par from to added (Some (refusal.BadRange from to))
refuses-bad doc plain par from to added count e within bad =
    let t = has_text doc plain par count e in
    on_document doc plain.0 plain.1.alone par from to added (Some (refusal.BadRange from to))
    (refuses_at plain.0 par from to added (Some (refusal.BadRange from to)) t.text t.found (λ new size.
    refusal_at-bad par from to (length t.text) (plain_passed (cut_texts par from to new plain.0)) (omega (arith, t.size, within)) bad))

-- past the refusals of places, a limit is what refuses
refuses_limit : (doc : Document) (plain : IsPlain doc) (par : ParId) (from to added count : ℕ) (t : HasText plain.0 par count) → max from to ≤ count → from ≤ to → (passed : Option Limit)
    → ((new : List ℕ) → length new ≡ added → plain_passed (cut_texts par from to new plain.0) ≡ passed) → RefusesChange doc par from to added (of_limit passed)
refuses_limit doc plain par from to added count t within order passed by =
    on_document doc plain.0 plain.1.alone par from to added (of_limit passed)
    (refuses_at plain.0 par from to added (of_limit passed) t.text t.found (λ new size.
    refusal_at-limit par from to (length t.text) (plain_passed (cut_texts par from to new plain.0)) (omega (arith, t.size, within)) order
    ∙ ap of_limit (by new size)))

pub refuses-paragraph : (doc : Document) (plain : IsPlain doc) (par : ParId) (from to added count : ℕ) → Some count ≡ live_items doc par → max from to ≤ count → from ≤ to
    → 32768 - (count - (to - from)) < added → RefusesChange doc par from to added (Some (refusal.Limit limit.ItemsOfParagraph 32768))
refuses-paragraph doc plain par from to added count e within order many =
    let t = has_text doc plain par count e in
    refuses_limit doc plain par from to added count t within order (Some limit.ItemsOfParagraph) (λ new size.
    passed-paragraph par.0 from to new plain.0 t.text (within_limits doc plain) t.found order (omega (arith, t.size, within)) (omega (arith, t.size, size, many, within, order)))

pub refuses-items : (doc : Document) (plain : IsPlain doc) (par : ParId) (from to added count items : ℕ) → Some count ≡ live_items doc par → items ≡ measure doc limit.Items → max from to ≤ count → from ≤ to
    → added ≤ 32768 - (count - (to - from)) → 4194304 - (items - (to - from)) < added → RefusesChange doc par from to added (Some (refusal.Limit limit.Items 4194304))
refuses-items doc plain par from to added count items e counted within order few many =
    let t = has_text doc plain par count e in
    let inside = text-within par.0 plain.0 t.text t.found (within_limits doc plain) in
    let total : items ≡ sum_by (length {A = ℕ}) plain.0 = counted ∙ measure-plain doc plain in
    refuses_limit doc plain par from to added count t within order (Some limit.Items) (λ new size.
    passed-items par.0 from to new plain.0 t.text (within_limits doc plain) t.found order (omega (arith, t.size, within))
    (omega (arith, t.size, size, few, within, order, inside.2)) (omega (arith, t.size, size, many, within, order, total, inside.3)))

pub refuses-nothing : (doc : Document) (plain : IsPlain doc) (par : ParId) (from to added count items : ℕ) → Some count ≡ live_items doc par → items ≡ measure doc limit.Items → max from to ≤ count → from ≤ to
    → added ≤ 32768 - (count - (to - from)) → added ≤ 4194304 - (items - (to - from)) → RefusesChange doc par from to added None
refuses-nothing doc plain par from to added count items e counted within order few less =
    let t = has_text doc plain par count e in
    let inside = text-within par.0 plain.0 t.text t.found (within_limits doc plain) in
    let total : items ≡ sum_by (length {A = ℕ}) plain.0 = counted ∙ measure-plain doc plain in
    refuses_limit doc plain par from to added count t within order None (λ new size.
    passed-none par.0 from to new plain.0 t.text (within_limits doc plain) t.found order (omega (arith, t.size, within))
    (omega (arith, t.size, size, few, within, order, inside.2)) (omega (arith, t.size, size, less, within, order, total, inside.3, (within_limits doc plain).items)))

-- a change that nothing refuses, and what it makes
pub record IsAllowed (doc : Document) (par : ParId) (from to : ℕ) (new : List ℕ) : Type 0 where
  pub live : IsSome (live_paragraph doc par)
  pub order : from ≤ to
  pub within : to ≤ item_count doc par
  pub few : length new ≤ 4194304
  pub plain : (doc' : Document) → doc' ≡ with_items par.0 (λ items. splice items from to (map plain_item new)) doc → IsPlain doc'
  pub counted : (doc' : Document) (items items' : ℕ) → doc' ≡ with_items par.0 (λ items. splice items from to (map plain_item new)) doc
      → items ≡ measure doc limit.Items → items' + (to - from) ≡ items + length new → items' ≡ measure doc' limit.Items

some_live : (live : Option Par) (text : List ℕ) (par : Par) → live ≡ Some par → IsSome live
some_live (Some found) text par e = refl
some_live None text par e = absurd (cc)

allowed_at : (texts : List (List ℕ)) → ArePlainTexts texts → Each (Each IsPlainChar) texts → (par : ParId) (from to : ℕ) (new : List ℕ) → Each IsPlainChar new
    → (text : List ℕ) → text_numbered par.0 1 texts ≡ Some text → from ≤ to → to ≤ length text → plain_passed (cut_texts par from to new texts) ≡ None
    → IsAllowed (plain_document texts) par from to new
allowed_at texts limits chars par from to new plain text found order within passed =
    let texts' : List (List ℕ) = cut_texts par from to new texts in
    let limits' : ArePlainTexts texts' = ArePlainTexts-not_passed texts' (some-with_changed par.0 1 (cut from to new) texts limits.some) passed in
    let chars' : Each (Each IsPlainChar) texts' = Each-changed par.0 1 from to new texts plain chars in
    let sum = sum-changed par.0 (cut from to new) texts text found in
    let size = length-cut from to new text order within in
    let inside = text-within par.0 texts text found limits in
    record {
      live = some_live (live_paragraph (plain_document texts) par) text (plain_paragraph par.0 text) (live_paragraph-plain texts par ∙ ap (option_map (plain_paragraph par.0)) found);
      order = order;
      within = omega (arith, within, item_count-plain texts par text found);
      few = omega (arith, sum, size, limits'.items, inside.3);
      plain = λ doc' e.
          let alone : doc' ≡ plain_document texts' = e ∙ with_items-cut texts par from to new in
          (texts', record { alone = alone; characters = chars'; valid = subst IsValid (sym alone) (IsValid-plain texts' limits' chars') });
      counted = λ doc' items items' e count change.
          let alone : doc' ≡ plain_document texts' = e ∙ with_items-cut texts par from to new in
          omega (arith, count ∙ measure-items texts, change, sum, size, inside.3, within, order, ap (λ (d : Document). measure d limit.Items) alone ∙ measure-items texts');
    }

allowed_by : (texts : List (List ℕ)) → ArePlainTexts texts → Each (Each IsPlainChar) texts → (par : ParId) (from to : ℕ) (new : List ℕ) → Each IsPlainChar new
    → (found : Option (List ℕ)) → text_numbered par.0 1 texts ≡ found → (why : Option Refusal) → why ≡ None
    → (found ≡ None → why ≡ Some (refusal.NoPar par)) → ((text : List ℕ) → found ≡ Some text → why ≡ refusal_at par from to (length text) (plain_passed (cut_texts par from to new texts)))
    → IsAllowed (plain_document texts) par from to new
allowed_by texts limits chars par from to new plain None is why none absent present = absurd (some_none (sym (absent refl) ∙ none)) where
  some_none : {why : Refusal} → Some why ≡ None → ⊥
  some_none e = absurd (cc)
allowed_by texts limits chars par from to new plain (Some text) is why none absent present =
    let fine = not_refused par from to (length text) (plain_passed (cut_texts par from to new texts)) (sym (present text refl) ∙ none) in
    allowed_at texts limits chars par from to new plain text is fine.0 fine.1 fine.2

pub insert-allowed : (doc : Document) → IsPlain doc → (par : ParId) (at : ℕ) (new : List ℕ) → Each IsPlainChar new
    → ((next : ℕ) → first_refusal (record { document = doc; next = next }) (InsertText par at new) ≡ None) → IsAllowed doc par at at new
insert-allowed doc plain par at new chars none =
    subst (λ (d : Document). IsAllowed d par at at new) (sym plain.1.alone)
    (allowed_by plain.0 (within_limits doc plain) plain.1.characters par at at new chars (text_numbered par.0 1 plain.0) refl
    (first_refusal (at_next plain.0 0) (InsertText par at new)) (ap (λ (d : Document). first_refusal (record { document = d; next = 0 }) (InsertText par at new)) (sym plain.1.alone) ∙ none 0)
    (λ absent. insert-no_paragraph plain.0 0 par at new absent) (λ text found. insert-refused plain.0 0 par at new text chars found))

pub delete-allowed : (doc : Document) → IsPlain doc → (par : ParId) (from to : ℕ)
    → ((next : ℕ) → first_refusal (record { document = doc; next = next }) (DeleteRange par from to) ≡ None) → IsAllowed doc par from to []
delete-allowed doc plain par from to none =
    subst (λ (d : Document). IsAllowed d par from to []) (sym plain.1.alone)
    (allowed_by plain.0 (within_limits doc plain) plain.1.characters par from to [] tt (text_numbered par.0 1 plain.0) refl
    (first_refusal (at_next plain.0 0) (DeleteRange par from to)) (ap (λ (d : Document). first_refusal (record { document = d; next = 0 }) (DeleteRange par from to)) (sym plain.1.alone) ∙ none 0)
    (λ absent. delete-no_paragraph plain.0 0 par from to absent) (λ text found. delete-refused plain.0 0 par from to text found))

pub insert-made : (doc doc' : Document) → IsPlain doc → (next : ℕ) (par : ParId) (at : ℕ) (new : List ℕ) → Each IsPlainChar new
    → doc' ≡ with_items par.0 (λ items. splice items at at (map plain_item new)) doc
    → edited (record { document = doc; next = next }) (InsertText par at new) ≡ record { document = doc'; next = next }
insert-made doc doc' plain next par at new chars e =
    ap (λ (d : Document). edited (record { document = d; next = next }) (InsertText par at new)) plain.1.alone
    ∙ edited-insert plain.0 next par at new chars
    ∙ ap (λ (d : Document). record { document = d; next = next }) (sym (e ∙ ap (with_items par.0 (λ items. splice items at at (map plain_item new))) plain.1.alone ∙ with_items-cut plain.0 par at at new))

pub delete-made : (doc doc' : Document) → IsPlain doc → (next : ℕ) (par : ParId) (from to : ℕ)
    → doc' ≡ with_items par.0 (λ items. splice items from to []) doc
    → edited (record { document = doc; next = next }) (DeleteRange par from to) ≡ record { document = doc'; next = next }
delete-made doc doc' plain next par from to e =
    ap (λ (d : Document). edited (record { document = d; next = next }) (DeleteRange par from to)) plain.1.alone
    ∙ edited-delete plain.0 next par from to
    ∙ ap (λ (d : Document). record { document = d; next = next }) (sym (e ∙ ap (with_items par.0 (λ items. splice items from to [])) plain.1.alone ∙ with_items-cut plain.0 par from to []))

-- the same of an operation that is one of the two
pub insert_op-allowed : (doc : Document) → IsPlain doc → (op : EditOp) → IsPlainOp op → ((next : ℕ) → first_refusal (record { document = doc; next = next }) op ≡ None)
    → (par : ParId) (at : ℕ) (text new : List ℕ) → op ≡ InsertText par at text → new ≡ text → IsAllowed doc par at at new
insert_op-allowed doc plain op plain_op none par at text new is same =
    subst (λ (t : List ℕ). IsAllowed doc par at at t) (sym same)
    (insert-allowed doc plain par at text (subst IsPlainOp is plain_op) (λ next. ap (first_refusal (record { document = doc; next = next })) (sym is) ∙ none next))

pub delete_op-allowed : (doc : Document) → IsPlain doc → (op : EditOp) → ((next : ℕ) → first_refusal (record { document = doc; next = next }) op ≡ None)
    → (par : ParId) (from to : ℕ) (new : List ℕ) → op ≡ DeleteRange par from to → new ≡ [] → IsAllowed doc par from to new
delete_op-allowed doc plain op none par from to new is same =
    subst (λ (t : List ℕ). IsAllowed doc par from to t) (sym same)
    (delete-allowed doc plain par from to (λ next. ap (first_refusal (record { document = doc; next = next })) (sym is) ∙ none next))

pub insert_op-made : (doc doc' : Document) → IsPlain doc → (op : EditOp) → IsPlainOp op → (par : ParId) (at : ℕ) (text new : List ℕ) → op ≡ InsertText par at text → new ≡ text
    → doc' ≡ with_items par.0 (λ items. splice items at at (map plain_item new)) doc
    → (next : ℕ) → edited (record { document = doc; next = next }) op ≡ record { document = doc'; next = next }
insert_op-made doc doc' plain op plain_op par at text new is same e next =
    ap (edited (record { document = doc; next = next })) is
    ∙ insert-made doc doc' plain next par at text (subst IsPlainOp is plain_op) (e ∙ ap (λ (t : List ℕ). with_items par.0 (λ items. splice items at at (map plain_item t)) doc) same)

pub delete_op-made : (doc doc' : Document) → IsPlain doc → (op : EditOp) → (par : ParId) (from to : ℕ) (new : List ℕ) → op ≡ DeleteRange par from to → new ≡ []
    → doc' ≡ with_items par.0 (λ items. splice items from to (map plain_item new)) doc
    → (next : ℕ) → edited (record { document = doc; next = next }) op ≡ record { document = doc'; next = next }
delete_op-made doc doc' plain op par from to new is same e next =
    ap (edited (record { document = doc; next = next })) is
    ∙ delete-made doc doc' plain next par from to (e ∙ ap (λ (t : List ℕ). with_items par.0 (λ items. splice items from to (map plain_item t)) doc) same)

pub on_ok_both : {T E P Q R : Type 0} (r : Result T E) → (P → Q → R) → OnOk r P → OnOk r Q → OnOk r R
on_ok_both (Ok value) f p q = f p q
on_ok_both (Err fault) f p q = tt
