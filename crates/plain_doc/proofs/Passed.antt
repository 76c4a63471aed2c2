-- Which limit an edited plain document passes.
use Rattle.std.proofs.Common.{◌≡◌, ◌≢◌, ℕ, ◌+◌, ◌-◌, ◌≤◌, ◌<◌, Bool, true, false, cond, List, [], ◌∷◌, ◌++◌, length, refl, ap, sym, ◌∙◌, subst, arith, get_or, set, inl, inr, zero, suc, Option, Some, None, ltb}
use Rattle.std.specs.Prelude.{map, find, if◌then◌else◌, ◌==◌, fold, max, nat_lt, sum_by}
use Rattle.std.specs.List.{AllByRecursion as Each}
use Rattle.std.proofs.lemmas.Bool.{le-ltb, ltb-false, lt-ltb, cases_lt}
use Rattle.std.proofs.lemmas.List.{nil_from_length}
use Rattle.std.proofs.Common.{add-zero}
use Rattle.plain_doc.proofs.Lists.{fold_max_le, le_fold_max, Each-map, Each-unmap}
use Rattle.std.proofs.lemmas.Bool.Decides.{eqb_tells}
use Rattle.std.proofs.lemmas.List.Sums.{sum_by-cons, sum_by-append}
use Rattle.doc_model.specs.declared.block.Block.{Block, roll-Block}
use Rattle.doc_model.specs.declared.block.Block.TheOpen.{Block-F}
use Rattle.doc_model.specs.declared.refusal.Limit.{Limit}
use Rattle.doc_model.specs.declared.refusal.Limit.TheVariants as limit
use Rattle.doc_model.specs.Limits.{measure, limit_number, first_passed, document_limits, greatest}
use Rattle.doc_model.specs.Plain.{plain_document, plain_blocks, plain_paragraph}
use Rattle.plain_doc.specs.PlainParts.{with_changed, text_numbered, plain_passed, ArePlainTexts}
use Rattle.plain_doc.proofs.Valid.{measure-paragraphs, measure-items, measure-items_of_paragraph, depth-plain, name_length-plain, sections_measure-plain}

-- a test against a number that isn't passed
not_passed : (most n : ℕ) → n ≤ most → nat_lt most n ≡ false
not_passed most n h = le-ltb most n h

-- the limits of styles, pages and declarations, which plain documents have none of
abbrev pub IsOther : Limit → Type 0
IsOther limit.Styles = Unit {0}
IsOther limit.ListStyles = Unit {0}
IsOther limit.Layouts = Unit {0}
IsOther limit.Masters = Unit {0}
IsOther limit.Declarations = Unit {0}
IsOther _ = ⊥

abbrev pub passes : (texts : List (List ℕ)) → Limit → Bool
passes texts which = nat_lt (limit_number which) (measure (plain_document texts) which)

-- three limits come first, and none of the others is passed
first_of_three : (a b c d e f g h i j k : Bool) → d ≡ false → e ≡ false → f ≡ false → g ≡ false → h ≡ false → i ≡ false → j ≡ false → k ≡ false
    → cond a (Some limit.Paragraphs) (cond b (Some limit.ItemsOfParagraph) (cond c (Some limit.Items) (cond d (Some limit.Sections) (cond e (Some limit.SectionDepth)
    (cond f (Some limit.Styles) (cond g (Some limit.ListStyles) (cond h (Some limit.Layouts) (cond i (Some limit.Masters) (cond j (Some limit.Declarations) (cond k (Some limit.NameLength) None))))))))))
    ≡ cond a (Some limit.Paragraphs) (cond b (Some limit.ItemsOfParagraph) (cond c (Some limit.Items) None))
first_of_three a b c d e f g h i j k p q r s t u v w = rw (p, q, r, s, t, u, v, w) refl

no_styles : (texts : List (List ℕ)) (which : Limit) → IsOther which → passes texts which ≡ false
unfolding plain_document
no_styles texts limit.Styles other = refl
no_styles texts limit.ListStyles other = refl
no_styles texts limit.Layouts other = refl
no_styles texts limit.Masters other = refl
no_styles texts limit.Declarations other = refl
no_styles texts _ other = absurd other

pub first_passed-plain : (texts : List (List ℕ)) → first_passed (plain_document texts) ≡ plain_passed texts
first_passed-plain texts =
    first_of_three (passes texts limit.Paragraphs) (passes texts limit.ItemsOfParagraph) (passes texts limit.Items) (passes texts limit.Sections) (passes texts limit.SectionDepth)
    (passes texts limit.Styles) (passes texts limit.ListStyles) (passes texts limit.Layouts) (passes texts limit.Masters) (passes texts limit.Declarations) (passes texts limit.NameLength)
    (not_passed 8192 (measure (plain_document texts) limit.Sections) (sections_measure-plain texts))
    (not_passed 32 (measure (plain_document texts) limit.SectionDepth) (depth-plain texts))
    (no_styles texts limit.Styles tt) (no_styles texts limit.ListStyles tt) (no_styles texts limit.Layouts tt) (no_styles texts limit.Masters tt) (no_styles texts limit.Declarations tt)
    (not_passed 1024 (measure (plain_document texts) limit.NameLength) (name_length-plain texts))
    ∙ ap (λ (n : ℕ). cond (nat_lt 65536 n) (Some limit.Paragraphs) (cond (passes texts limit.ItemsOfParagraph) (Some limit.ItemsOfParagraph) (cond (passes texts limit.Items) (Some limit.Items) None))) (measure-paragraphs texts)
    ∙ ap (λ (n : ℕ). cond (nat_lt 65536 (length texts)) (Some limit.Paragraphs) (cond (nat_lt 32768 n) (Some limit.ItemsOfParagraph) (cond (passes texts limit.Items) (Some limit.Items) None))) (measure-items_of_paragraph texts)
    ∙ ap (λ (n : ℕ). cond (nat_lt 65536 (length texts)) (Some limit.Paragraphs) (cond (nat_lt 32768 (greatest (map (length {A = ℕ}) texts))) (Some limit.ItemsOfParagraph) (cond (nat_lt 4194304 n) (Some limit.Items) None))) (measure-items texts)

neq-eqb : (a b : ℕ) → (a ≡ b → ⊥) → (a == b) ≡ false
neq-eqb a b apart = elim (eqb_tells a b) [ inl e ↦ absurd (apart e.1) | inr e ↦ e.0 ]

-- the changed texts
unchanged : (number here : ℕ) (new : List ℕ → List ℕ) (texts : List (List ℕ)) → number < here → with_changed number new here texts ≡ texts
unchanged number here new [] h = refl
unchanged number here new (text ∷ texts) h =
    ap (λ (b : Bool). (if b then new text else text) ∷ with_changed number new (here + 1) texts) (neq-eqb here number (λ e. omega arith))
    ∙ ap (λ (more : List (List ℕ)). text ∷ more) (unchanged number (here + 1) new texts (omega arith))

pub length-with_changed : (number here : ℕ) (new : List ℕ → List ℕ) (texts : List (List ℕ)) → length (with_changed number new here texts) ≡ length texts
length-with_changed number here new [] = refl
length-with_changed number here new (text ∷ texts) = ap suc (length-with_changed number (here + 1) new texts)

-- where the text of a number stands, and what is left when it is changed
pub record StandsAt (number here : ℕ) (new : List ℕ → List ℕ) (texts : List (List ℕ)) (text : List ℕ) : Type 0 where
  pub before : List (List ℕ)
  pub after : List (List ℕ)
  pub whole : texts ≡ before ++ (text ∷ after)
  pub changed : with_changed number new here texts ≡ before ++ (new text ∷ after)
  pub place : here + length before ≡ number

pub stands_at : (number here : ℕ) (new : List ℕ → List ℕ) (texts : List (List ℕ)) (text : List ℕ) → text_numbered number here texts ≡ Some text → StandsAt number here new texts text
stands_at number here new [] text found = absurd (cc)
stands_at number here new (first ∷ texts) text found = elim (eqb_tells here number) [
  | inl e ↦
      let same : first ≡ text = cc (ap (λ (b : Bool). if b then Some first else text_numbered number (here + 1) texts) (sym e.0) ∙ found) in
      record {
        before = [];
        after = texts;
        whole = ap (λ (t : List ℕ). t ∷ texts) same;
        changed = ap (λ (b : Bool). (if b then new first else first) ∷ with_changed number new (here + 1) texts) e.0
            ∙ ap (λ (more : List (List ℕ)). new first ∷ more) (unchanged number (here + 1) new texts (omega arith)) ∙ ap (λ (t : List ℕ). new t ∷ texts) same;
        place = omega (arith, e.1);
      }
  | inr e ↦
      let more = stands_at number (here + 1) new texts text (ap (λ (b : Bool). if b then Some first else text_numbered number (here + 1) texts) (sym e.0) ∙ found) in
      record {
        before = first ∷ more.before;
        after = more.after;
        whole = ap (λ (ts : List (List ℕ)). first ∷ ts) more.whole;
        changed = ap (λ (b : Bool). (if b then new first else first) ∷ with_changed number new (here + 1) texts) e.0 ∙ ap (λ (ts : List (List ℕ)). first ∷ ts) more.changed;
        place = omega (arith, more.place);
      }
]

-- what a list with one text more in its midst comes to
pub Each-middle : (P : List ℕ → Type 0) (before : List (List ℕ)) (old new : List ℕ) (after : List (List ℕ)) → P new → Each P (before ++ (old ∷ after)) → Each P (before ++ (new ∷ after))
Each-middle P [] old new after holds each = (holds, each.1)
Each-middle P (first ∷ before) old new after holds each = (each.0, Each-middle P before old new after holds each.1)

pub Each-at : (P : List ℕ → Type 0) (before : List (List ℕ)) (text : List ℕ) (after : List (List ℕ)) → Each P (before ++ (text ∷ after)) → P text
Each-at P [] text after each = each.0
Each-at P (first ∷ before) text after each = Each-at P before text after each.1

pub sum_by-middle : (before : List (List ℕ)) (text : List ℕ) (after : List (List ℕ)) → sum_by (length {A = ℕ}) (before ++ (text ∷ after)) ≡ sum_by (length {A = ℕ}) before + length text + sum_by (length {A = ℕ}) after
sum_by-middle before text after = omega (arith, sum_by-append (length {A = ℕ}) before (text ∷ after), sum_by-cons (length {A = ℕ}) text after)

pub plain_blocks-middle : (here : ℕ) (before : List (List ℕ)) (text : List ℕ) (after : List (List ℕ))
    → plain_blocks here (before ++ (text ∷ after)) ≡ plain_blocks here before ++ (roll-Block (Block-F.Par (plain_paragraph (here + length before) text)) ∷ plain_blocks (here + length before + 1) after)
plain_blocks-middle here [] text after = ap (λ (n : ℕ). roll-Block (Block-F.Par (plain_paragraph n text)) ∷ plain_blocks (n + 1) after) (sym (add-zero here))
plain_blocks-middle here (first ∷ before) text after =
    let place : here + 1 + length before ≡ here + length (first ∷ before) = omega arith in
    ap (λ (blocks : List Block). roll-Block (Block-F.Par (plain_paragraph here first)) ∷ blocks) (plain_blocks-middle (here + 1) before text after)
    ∙ ap (λ (n : ℕ). roll-Block (Block-F.Par (plain_paragraph here first)) ∷ (plain_blocks (here + 1) before ++ (roll-Block (Block-F.Par (plain_paragraph n text)) ∷ plain_blocks (n + 1) after))) place

pub length-plain_blocks : (here : ℕ) (texts : List (List ℕ)) → length (plain_blocks here texts) ≡ length texts
length-plain_blocks here [] = refl
length-plain_blocks here (text ∷ texts) = ap suc (length-plain_blocks (here + 1) texts)

-- tests of which each says what the other says
same_test : (a b c d : ℕ) → (a < b → c < d) → (c < d → a < b) → nat_lt a b ≡ nat_lt c d
same_test a b c d forth back = elim (cases_lt a b) [
  | inl h ↦ lt-ltb a b h ∙ sym (lt-ltb c d (forth h))
  | inr h ↦ le-ltb a b h ∙ sym (le-ltb c d (elim (cases_lt c d) [ inl k ↦ absurd (omega (arith, back k, h)) | inr k ↦ k ]))
]

-- the greatest item count of a document of which one paragraph has another text passes the limit exactly where that one does
greatest-test : (before : List (List ℕ)) (old new : List ℕ) (after : List (List ℕ)) → Each (λ text. length text ≤ 32768) (before ++ (old ∷ after))
    → nat_lt 32768 (greatest (map (length {A = ℕ}) (before ++ (new ∷ after)))) ≡ nat_lt 32768 (length new)
greatest-test before old new after each =
    let texts : List (List ℕ) = before ++ (new ∷ after) in
    same_test 32768 (greatest (map (length {A = ℕ}) texts)) 32768 (length new)
    (λ h. elim (cases_lt 32768 (length new)) [
      | inl k ↦ k
      | inr k ↦ absurd (omega (
        arith,
        h,
        fold_max_le 0 32768 (map (length {A = ℕ}) texts) (omega arith)
            (Each-map (λ count. count ≤ 32768) (length {A = ℕ}) texts (Each-middle (λ text. length text ≤ 32768) before old new after k each)),
      ))
    ])
    (λ h. elim (cases_lt 32768 (greatest (map (length {A = ℕ}) texts))) [
      | inl k ↦ k
      | inr k ↦ absurd (omega (arith, h, Each-at (λ text. length text ≤ 32768) before new after (Each-unmap (λ count. count ≤ 32768) (length {A = ℕ}) texts (le_fold_max 0 32768 (map (length {A = ℕ}) texts) k).1)))
    ])

-- the limit that an edited document passes: that of its changed paragraph, or that of all its items
pub plain_passed-changed : (number : ℕ) (new : List ℕ → List ℕ) (texts : List (List ℕ)) (text : List ℕ) → ArePlainTexts texts → text_numbered number 1 texts ≡ Some text
    → plain_passed (with_changed number new 1 texts)
    ≡ (if nat_lt 32768 (length (new text)) then Some limit.ItemsOfParagraph else if nat_lt (4194304 + length text) (sum_by (length {A = ℕ}) texts + length (new text)) then Some limit.Items else None)
plain_passed-changed number new texts text within found =
    let at = stands_at number 1 new texts text found in
    let few : nat_lt 65536 (length (with_changed number new 1 texts)) ≡ false = le-ltb 65536 (length (with_changed number new 1 texts)) (omega (arith, length-with_changed number 1 new texts, within.paragraphs)) in
    let total : sum_by (length {A = ℕ}) (with_changed number new 1 texts) + length text ≡ sum_by (length {A = ℕ}) texts + length (new text) =
    omega (arith, ap (sum_by (length {A = ℕ})) at.changed, ap (sum_by (length {A = ℕ})) at.whole, sum_by-middle at.before text at.after, sum_by-middle at.before (new text) at.after) in
    let one : nat_lt 32768 (greatest (map (length {A = ℕ}) (with_changed number new 1 texts))) ≡ nat_lt 32768 (length (new text)) =
    ap (λ (ts : List (List ℕ)). nat_lt 32768 (greatest (map (length {A = ℕ}) ts))) at.changed
    ∙ greatest-test at.before text (new text) at.after (subst (Each (λ t. length t ≤ 32768)) at.whole within.items_of_paragraph) in
    let all : nat_lt 4194304 (sum_by (length {A = ℕ}) (with_changed number new 1 texts)) ≡ nat_lt (4194304 + length text) (sum_by (length {A = ℕ}) texts + length (new text)) =
    same_test 4194304 (sum_by (length {A = ℕ}) (with_changed number new 1 texts)) (4194304 + length text) (sum_by (length {A = ℕ}) texts + length (new text)) (λ h. omega (arith, h, total)) (λ h. omega (arith, h, total)) in
    ap (λ (b : Bool). if b then Some limit.Paragraphs else if nat_lt 32768 (greatest (map (length {A = ℕ}) (with_changed number new 1 texts))) then Some limit.ItemsOfParagraph else if nat_lt 4194304 (sum_by (length {A = ℕ}) (with_changed number new 1 texts)) then Some limit.Items else None) few
    ∙ ap (λ (b : Bool). if b then Some limit.ItemsOfParagraph else if nat_lt 4194304 (sum_by (length {A = ℕ}) (with_changed number new 1 texts)) then Some limit.Items else None) one
    ∙ ap (λ (b : Bool). if nat_lt 32768 (length (new text)) then Some limit.ItemsOfParagraph else if b then Some limit.Items else None) all

none_of_three : (a b c : Bool) → cond a (Some limit.Paragraphs) (cond b (Some limit.ItemsOfParagraph) (cond c (Some limit.Items) None)) ≡ None → (a ≡ false) × (b ≡ false) × (c ≡ false)
none_of_three true b c e = absurd (cc)
none_of_three false true c e = absurd (cc)
none_of_three false false true e = absurd (cc)
none_of_three false false false e = (refl, refl, refl)

-- texts of which a document passes no limit
pub ArePlainTexts-not_passed : (texts : List (List ℕ)) → texts ≢ [] → plain_passed texts ≡ None → ArePlainTexts texts
ArePlainTexts-not_passed texts some e =
    let tests = none_of_three (nat_lt 65536 (length texts)) (nat_lt 32768 (greatest (map (length {A = ℕ}) texts))) (nat_lt 4194304 (sum_by (length {A = ℕ}) texts)) e in
    record {
      some = some;
      paragraphs = ltb-false 65536 (length texts) tests.0;
      items_of_paragraph = Each-unmap (λ count. count ≤ 32768) (length {A = ℕ}) texts (le_fold_max 0 32768 (map (length {A = ℕ}) texts) (ltb-false 32768 (greatest (map (length {A = ℕ}) texts)) tests.1)).1;
      items = ltb-false 4194304 (sum_by (length {A = ℕ}) texts) tests.2;
    }

pub some-with_changed : (number here : ℕ) (new : List ℕ → List ℕ) (texts : List (List ℕ)) → texts ≢ [] → with_changed number new here texts ≢ []
some-with_changed number here new texts some e = some (nil_from_length texts (sym (length-with_changed number here new texts) ∙ ap (length {A = List ℕ}) e))
