-- The counters behind one more place.
use Rattle.std.proofs.Common.{◌≡◌, ◌≢◌, ℕ, zero, suc, ◌+◌, ◌-◌, ◌<◌, ◌≤◌, ◌==◌, ◌&&◌, ◌||◌, not, Bool, true, false, List, [], ◌∷◌, ◌++◌, length, get_or, refl, ap, sym, ◌∙◌, ◌⊎◌, inl, inr, arith}
use Rattle.std.specs.Prelude.{if◌then◌else◌, slice_index}
use Rattle.std.specs.List.{list_any}
use Rattle.std.proofs.lemmas.Bool.{cases_lt}
use Rattle.std.proofs.lemmas.Bool.Decides.{nat_tests}
use Rattle.std.proofs.lemmas.List.{get_or_past}
use Rattle.std.proofs.lemmas.List.Folds.{list_any-append}
use Rattle.doc_model.specs.declared.paragraph.ListPos.{ListPos}
use Rattle.field_model.specs.Labels.{is_item_of, clears, counted_items, item_count}
use Rattle.list_num.specs.Counters.{count_in, count_behind}

-- ---- the definition's count

count_step : (a b c : Bool) (m : ℕ) (place : ListPos) (old new : List ListPos) → length new ≡ (if c then 0 else length old) + m
    → length (if a && not (b || (c || false)) then place ∷ new else new) ≡ (if c then 0 else length (if a && not b then place ∷ old else old)) + m
count_step false b c m place old new e = e
count_step true true c m place old new e = e
count_step true false true m place old new e = e
count_step true false false m place old new e = omega arith

count_one : (a c : Bool) (place : ListPos) → length (if a && not false then place ∷ [] else []) ≡ (if c then 0 else 0) + (if a then 1 else 0)
count_one true true place = refl
count_one true false place = refl
count_one false true place = refl
count_one false false place = refl

pub item_count-push : (places : List ListPos) (place : ListPos) (level : ℕ) → item_count (places ++ place ∷ []) level ≡ count_behind level place (item_count places level)
item_count-push [] place level = count_one (is_item_of level place) (clears level place) place
item_count-push (first ∷ places) place level =
    ap (λ (any : Bool). length (if is_item_of level first && not any then first ∷ counted_items level (places ++ place ∷ []) else counted_items level (places ++ place ∷ []))) (list_any-append (clears level) places (place ∷ []))
    ∙ count_step (is_item_of level first) (list_any (clears level) places) (clears level place) (if is_item_of level place then 1 else 0) first
    (counted_items level places) (counted_items level (places ++ place ∷ [])) (item_count-push places place level)

-- ---- that of the counters

pub count_in-index : (counters : List ℕ) (level : ℕ) → 1 ≤ level → count_in counters level ≡ slice_index counters (level - 1)
count_in-index counters zero h = absurd (omega arith)
count_in-index counters (suc index) h = let less : index ≡ suc index - 1 = omega arith in ap (λ (i : ℕ). slice_index counters i) less

no_sum : (a b c : Bool) → c ≡ false → 0 ≡ (if a then 0 else 0) + (if b && c then 1 else 0)
no_sum true true true e = cc
no_sum true true false e = refl
no_sum true false c e = refl
no_sum false true true e = cc
no_sum false true false e = refl
no_sum false false c e = refl

none_left : (level : ℕ) (place : ListPos) → place.level ≢ level → 0 ≡ count_behind level place 0
none_left level place other =
    let test : place.level == level ≡ false = grind (arith, nat_tests) in
    no_sum (clears level place) place.item (place.level == level) test

-- each counter is that behind the place, so all are
pub counted_all : (old next : List ℕ) (place : ListPos) → 1 ≤ place.level → place.level ≤ 10 → length old ≡ 10 → length next ≡ 10
    → ((index : ℕ) → index < 10 → get_or next index 0 ≡ count_behind (index + 1) place (get_or old index 0))
    → (level : ℕ) → count_in next level ≡ count_behind level place (count_in old level)
counted_all old next place least most ten ten' h zero = none_left zero place (λ e. omega arith)
counted_all old next place least most ten ten' h (suc index) = by_cases (cases_lt index 10) where
  by_cases : (index < 10) ⊎ (10 ≤ index) → get_or next index 0 ≡ count_behind (suc index) place (get_or old index 0)
  by_cases (inl below) = h index below ∙ ap (λ (level : ℕ). count_behind level place (get_or old index 0)) (let next_one : index + 1 ≡ suc index = omega arith in next_one)
  by_cases (inr past) =
      get_or_past next index 0 (omega arith)
      ∙ none_left (suc index) place (λ e. omega arith)
      ∙ ap (count_behind (suc index) place) (sym (get_or_past old index 0 (omega arith)))
