-- A plain document is valid exactly where its texts keep the limits of plain documents.
use Rattle.std.proofs.Common.{◌≡◌, ◌≢◌, ℕ, ◌+◌, ◌≤◌, ◌<◌, List, [], ◌∷◌, ◌++◌, length, refl, ap, sym, ◌∙◌, subst, arith, get_or, inl, inr, zero, suc}
use Rattle.std.proofs.lemmas.List.{length-map, append-nil}
use Rattle.std.proofs.lemmas.List.Sums.{sum_by-cons}
use Rattle.std.specs.Prelude.{map, fold, sum_by, AllPairs, max}
use Rattle.std.specs.List.{AllByRecursion as Each, flat_map}
use Rattle.doc_model.specs.declared.paragraph.What.TheViews.{out-roll-Item, out-roll-What, out-roll-Par}
use Rattle.doc_model.specs.declared.paragraph.What.TheOpen.{Par-F}
use Rattle.doc_model.specs.declared.paragraph.What.{What}
use Rattle.doc_model.specs.declared.paragraph.Item.{Item}
use Rattle.doc_model.specs.declared.paragraph.Note.{Note}
use Rattle.doc_model.specs.declared.paragraph.Par.{Par, out-Par}
use Rattle.doc_model.specs.declared.block.Block.{Block}
use Rattle.doc_model.specs.declared.block.Block.TheFolds.{fold-roll-Block}
use Rattle.doc_model.specs.declared.refusal.Limit.{Limit}
use Rattle.doc_model.specs.declared.refusal.Limit.TheVariants as limit
use Rattle.doc_model.specs.declared.document.Document.{Document}
use Rattle.doc_model.specs.Chars.{IsPlainChar, IsLegal, IsLegalText}
use Rattle.doc_model.specs.Reading.{paragraphs, number_of, upwards}
use Rattle.doc_model.specs.Parts.{items_of, what_of, depth_of, names_of_paragraph, names}
use Rattle.doc_model.specs.Limits.{measure, limit_number, IsWithinLimits, greatest}
use Rattle.doc_model.specs.Plain.{plain_document, plain_blocks, plain_item, plain_paragraph}
use Rattle.doc_model.specs.Empty.{unstated}
use Rattle.doc_model.specs.Valid.{IsValid, IsParagraph, IsItem}
use Rattle.plain_doc.specs.PlainParts.{plain_pars, ArePlainTexts}
use Rattle.plain_doc.proofs.Lists.{fold_max_le, le_fold_max, length-upwards, get_or-upwards, Each-flat_map, Each-map, Each-of, Each-unmap}
use Rattle.plain_doc.proofs.Parts.{paragraphs-plain, body_paragraphs-plain, items-plain, items_of-plain_paragraph, number_of-plain_paragraph, notes-plain, fields_of-plain, marks-plain, span_names-plain, sections-plain}

depths-plain : (number : ℕ) (texts : List (List ℕ)) → Each (λ depth. depth ≤ 32) (map depth_of (plain_blocks number texts))
depths-plain number [] = tt
depths-plain number (text ∷ texts) = (simp fold-roll-Block (omega arith), depths-plain (number + 1) texts)

pub numbers-plain : (number : ℕ) (texts : List (List ℕ)) → map number_of (plain_pars number texts) ≡ upwards number (length texts)
numbers-plain number [] = refl
numbers-plain number (text ∷ texts) = rw (number_of-plain_paragraph number text, numbers-plain (number + 1) texts) refl

apart-upwards : (first count : ℕ) → AllPairs (λ left right. left ≢ right) (upwards first count)
apart-upwards first count i j d before within e =
    let within' : j < count = omega (arith, length-upwards first count) in
    let left = get_or-upwards first count i d (omega arith) in
    let right = get_or-upwards first count j d within' in
    absurd (omega (arith, sym left ∙ e ∙ right))

positive-plain : (number : ℕ) (texts : List (List ℕ)) → 1 ≤ number → Each (λ par. 1 ≤ number_of par) (plain_pars number texts)
positive-plain number [] h = tt
positive-plain number (text ∷ texts) h = (rw (number_of-plain_paragraph number text) h, positive-plain (number + 1) texts (omega arith))

paragraphs-valid : (doc : Document) (number : ℕ) (texts : List (List ℕ)) → Each (IsParagraph doc) (plain_pars number texts)
paragraphs-valid doc number [] = tt
paragraphs-valid doc number (text ∷ texts) = (simp out-roll-Par (inl refl, omega arith, tt), paragraphs-valid doc (number + 1) texts)

legal-plain : (c : ℕ) → IsPlainChar c → IsLegalText c
legal-plain c h = (inr (inr (inr (inl (h.0, omega arith)))), h.0)

item-valid : (text : List ℕ) → Each IsPlainChar text → Each IsItem (map plain_item text)
item-valid [] each = tt
item-valid (c ∷ cs) each = ((simp out-roll-What (legal-plain c each.0), omega arith), item-valid cs each.1)

items-valid : (texts : List (List ℕ)) → Each (Each IsPlainChar) texts → Each IsItem (flat_map (λ text. map plain_item text) texts)
items-valid texts each = Each-flat_map IsItem (λ text. map plain_item text) texts (Each-of (Each IsPlainChar) (λ text. Each IsItem (map plain_item text)) item-valid texts each)

lengths-plain : (number : ℕ) (texts : List (List ℕ)) → map (λ par. length (items_of par)) (plain_pars number texts) ≡ map (length {A = ℕ}) texts
lengths-plain number [] = refl
lengths-plain number (text ∷ texts) = rw (items_of-plain_paragraph number text, length-map, lengths-plain (number + 1) texts) refl

sum-plain : (number : ℕ) (texts : List (List ℕ)) → sum_by (λ par. length (items_of par)) (plain_pars number texts) ≡ sum_by (length {A = ℕ}) texts
sum-plain number [] = refl
sum-plain number (text ∷ texts) =
    let count : length (items_of (plain_paragraph number text)) ≡ length text = ap (length {A = Item}) (items_of-plain_paragraph number text) ∙ length-map text plain_item in
    sum_by-cons (λ par. length (items_of par)) (plain_paragraph number text) (plain_pars (number + 1) texts)
    ∙ ap (λ (n : ℕ). n + sum_by (λ par. length (items_of par)) (plain_pars (number + 1) texts)) count
    ∙ ap (λ (n : ℕ). length text + n) (sum-plain (number + 1) texts)
    ∙ sym (sum_by-cons (length {A = ℕ}) text texts)

length-plain : (number : ℕ) (texts : List (List ℕ)) → length (plain_pars number texts) ≡ length texts
length-plain number [] = refl
length-plain number (text ∷ texts) = ap suc (length-plain (number + 1) texts)

-- the three measures that a plain document may have too great
pub measure-paragraphs : (texts : List (List ℕ)) → measure (plain_document texts) limit.Paragraphs ≡ length texts
measure-paragraphs texts = ap (length {A = Par}) (paragraphs-plain texts) ∙ length-plain 1 texts

pub measure-items : (texts : List (List ℕ)) → measure (plain_document texts) limit.Items ≡ sum_by (length {A = ℕ}) texts
measure-items texts = ap (λ (pars : List Par). sum_by (λ par. length (items_of par)) pars) (paragraphs-plain texts) ∙ sum-plain 1 texts

pub measure-items_of_paragraph : (texts : List (List ℕ)) → measure (plain_document texts) limit.ItemsOfParagraph ≡ greatest (map (length {A = ℕ}) texts)
unfolding plain_document
measure-items_of_paragraph texts =
    ap (λ (counts : List ℕ). greatest (counts ++ [])) (ap (λ (pars : List Par). map (λ par. length (items_of par)) pars) (paragraphs-plain texts) ∙ lengths-plain 1 texts)
    ∙ ap greatest (append-nil (map (length {A = ℕ}) texts))

names_of-plain : (number : ℕ) (texts : List (List ℕ)) → Each (λ (name : List ℕ). name ≡ []) (flat_map names_of_paragraph (plain_pars number texts))
names_of-plain number [] = tt
names_of-plain number (text ∷ texts) = simp out-roll-Par (refl, names_of-plain (number + 1) texts)

and_nothing : (found : List (List ℕ)) → found ++ [] ++ [] ++ [] ++ [] ≡ found
and_nothing found = simp append-nil

pub names-plain : (texts : List (List ℕ)) → Each (λ (name : List ℕ). name ≡ []) (names (plain_document texts))
unfolding plain_document
names-plain texts = (refl, rw (sections-plain texts, span_names-plain texts, fields_of-plain texts, marks-plain texts, notes-plain texts, paragraphs-plain texts) (subst (λ (found : List (List ℕ)). Each (λ (name : List ℕ). name ≡ []) found) (sym (and_nothing (flat_map names_of_paragraph (plain_pars 1 texts)))) (names_of-plain 1 texts)))

pub depth-plain : (texts : List (List ℕ)) → measure (plain_document texts) limit.SectionDepth ≤ 32
unfolding plain_document
depth-plain texts = fold_max_le 0 32 (map depth_of (plain_blocks 1 texts)) (omega arith) (depths-plain 1 texts)

pub name_length-plain : (texts : List (List ℕ)) → measure (plain_document texts) limit.NameLength ≤ 1024
name_length-plain texts = fold_max_le 0 1024 (map (length {A = ℕ}) (names (plain_document texts))) (omega arith)
    (Each-map (λ count. count ≤ 1024) (length {A = ℕ}) (names (plain_document texts))
    (Each-of (λ (name : List ℕ). name ≡ []) (λ name. length name ≤ 1024) (λ name e. rw e (omega arith)) (names (plain_document texts)) (names-plain texts)))

pub sections_measure-plain : (texts : List (List ℕ)) → measure (plain_document texts) limit.Sections ≤ 8192
sections_measure-plain texts = rw (sections-plain texts) (omega arith)

pub IsWithinLimits-plain : (texts : List (List ℕ)) → ArePlainTexts texts → IsWithinLimits (plain_document texts)
unfolding plain_document
IsWithinLimits-plain texts within = (
  omega (arith, measure-paragraphs texts, within.paragraphs),
  (
    omega (arith, measure-items_of_paragraph texts, fold_max_le 0 32768 (map (length {A = ℕ}) texts) (omega arith) (Each-map (λ count. count ≤ 32768) (length {A = ℕ}) texts within.items_of_paragraph)),
    (
      omega (arith, measure-items texts, within.items),
      (
        sections_measure-plain texts,
        (
          depth-plain texts,
          (
            omega arith,
            (
              omega arith,
              (
                omega arith,
                (
                  omega arith,
                  (
                    omega arith,
                    (name_length-plain texts, tt),
                  ),
                ),
              ),
            ),
          ),
        ),
      ),
    ),
  ),
)

some_blocks : (number : ℕ) (texts : List (List ℕ)) → plain_blocks number texts ≡ [] → texts ≡ []
some_blocks number [] e = refl
some_blocks number (text ∷ texts) e = absurd (omega (arith, ap (length {A = Block}) e))

pub IsValid-plain : (texts : List (List ℕ)) → ArePlainTexts texts → Each (Each IsPlainChar) texts → IsValid (plain_document texts)
unfolding plain_document unstated
IsValid-plain texts within chars = record {
  body = λ e. within.some (some_blocks 1 texts e);
  counting = refl;
  numbers = subst (λ (numbers : List ℕ). AllPairs (λ left right. left ≢ right) numbers) (sym (ap (λ (pars : List Par). map number_of pars) (paragraphs-plain texts) ∙ numbers-plain 1 texts)) (apart-upwards 1 (length texts));
  numbers_given = subst (λ (pars : List Par). Each (λ par. 1 ≤ number_of par) pars) (sym (paragraphs-plain texts)) (positive-plain 1 texts (omega arith));
  each_paragraph = subst (λ (pars : List Par). Each (IsParagraph (plain_document texts)) pars) (sym (paragraphs-plain texts)) (paragraphs-valid (plain_document texts) 1 texts);
  each_item = subst (λ (found : List Item). Each IsItem found) (sym (items-plain texts)) (items-valid texts chars);
  each_note = rw (notes-plain texts) tt;
  each_field = rw (fields_of-plain texts) tt;
  bookmarks = rw (marks-plain texts) tt;
  each_section = rw (sections-plain texts) tt;
  default_tabs = refl;
  styles = tt;
  styles_in_order = λ i j d before within. absurd (omega arith);
  style_names = λ i j d before within. absurd (omega arith);
  style_names_given = tt;
  style_loops = λ style chain found each leads. absurd (omega (arith, found.2));
  lists = tt;
  outline = (refl, (tt, λ i j d before within. absurd (omega arith)), tt);
  layout_names_used = tt;
  next_masters = tt;
  headers = tt;
  header_items = tt;
  list_names = (tt, λ i j d before within. absurd (omega arith));
  layout_names = (tt, λ i j d before within. absurd (omega arith));
  master_names = (tt, λ i j d before within. absurd (omega arith));
  variables = (tt, λ i j d before within. absurd (omega arith));
  sequences = (tt, λ i j d before within. absurd (omega arith));
  section_names = rw (sections-plain texts) (λ i j d before within. absurd (omega arith));
  note_ids = rw (notes-plain texts) (λ i j d before within. absurd (omega arith));
  reference_names = rw (fields_of-plain texts) (λ i j d before within. absurd (omega arith));
  span_styles = rw (span_names-plain texts) tt;
  legal_names = Each-of (λ (name : List ℕ). name ≡ []) (λ name. Each IsLegal name) (λ name e. rw e tt) (names (plain_document texts)) (names-plain texts);
  limits = IsWithinLimits-plain texts within;
}

some_texts : (texts : List (List ℕ)) → (plain_document texts).body ≢ [] → texts ≢ []
unfolding plain_document
some_texts texts some e = some (ap (λ (texts' : List (List ℕ)). plain_blocks 1 texts') e)

pub ArePlainTexts-valid : (texts : List (List ℕ)) → IsValid (plain_document texts) → ArePlainTexts texts
ArePlainTexts-valid texts valid = record {
  some = some_texts texts valid.body;
  paragraphs = omega (arith, measure-paragraphs texts, valid.limits.0);
  items_of_paragraph = Each-unmap (λ count. count ≤ 32768) (length {A = ℕ}) texts
      ((le_fold_max 0 32768 (map (length {A = ℕ}) texts) (omega (arith, measure-items_of_paragraph texts, valid.limits.1.0))).1);
  items = omega (arith, measure-items texts, valid.limits.1.1.0);
}
