-- A note of the one place at which an item of a list passes a test, and what becomes of it as items come and go.
use Rattle.std.proofs.Common.{◌≡◌, ◌≢◌, ◌↔◌, ◌⊎◌, ℕ, ◌+◌, ◌-◌, ◌<◌, ◌≤◌, Bool, true, false, if◌then◌else◌, List, length, Option, Some, None, zero, suc, refl, ap, sym, ◌∙◌, subst, slice_get, insert, remove, true≢false, unwrap_or, inl, inr, arith}
use Rattle.std.specs.Option.{option_map}
use Rattle.std.proofs.lemmas.Option.{none-some, slice_get_within}
use Rattle.std.proofs.lemmas.Bool.{cases_lt, cases_order}
use Rattle.style_tree.specs.declared.places.Shift.TheVariants.{Open, Close}
use Rattle.style_tree.specs.Index.{shifted}
use Rattle.style_tree.proofs.Moves.{get-insert_before, get-insert_at, get-insert_behind, get-remove_before, get-remove_behind}

-- the note has exactly the places at which an item passes the test
abbrev pub Marks : {X : Type 0} → (X → Bool) → List X → Option ℕ → Type 0
Marks test xs note = (place : ℕ) → (note ≡ Some place) ↔ (option_map test (slice_get xs place) ≡ Some true)

pub some_same : {X : Type 0} (x y : X) → Some x ≡ Some y → x ≡ y
some_same x y e = ap (λ given. unwrap_or given x) e

-- a marked place lies in the list
pub mark_within : {X : Type 0} (test : X → Bool) (xs : List X) (place : ℕ) → option_map test (slice_get xs place) ≡ Some true → place < length xs
mark_within {X} test xs place e = by (slice_get xs place) refl
  where
    by : (given : Option X) → slice_get xs place ≡ given → place < length xs
    by None none = absurd (none-some true (sym (ap (option_map test) none) ∙ e))
    by (Some x) some = slice_get_within xs place x some

pub open_before : (at count place : ℕ) → place < at → shifted (Open at count) place ≡ place
open_before at count place before = grind (arith, before)

pub open_behind : (at count place : ℕ) → at ≤ place → place < count → shifted (Open at count) place ≡ place + 1
open_behind at count place behind within = grind (arith, behind, within)

pub open_last : (at count : ℕ) → at ≤ count → shifted (Open at count) count ≡ at
open_last at count within = grind (arith, within)

pub close_before : (at place : ℕ) → place ≤ at → shifted (Close at) place ≡ place
close_before at place before = grind (arith, before)

pub close_behind : (at place : ℕ) → at < place → shifted (Close at) place ≡ place - 1
close_behind at place behind = grind (arith, behind)

-- an item comes in at a place. It is noted at the end of the list as it was, and then the places are shifted
module _ {X : Type 0} (test : X → Bool) (xs : List X) (at : ℕ) (x : X) (note : Option ℕ) (within : at ≤ length xs) (marks : Marks test xs note) (new : test x ≡ true → note ≡ None) where
  abbrev opened : Bool → Option ℕ → Option ℕ
  opened here given = option_map (shifted (Open at (length xs))) (if here then Some (length xs) else given)

  open_told : (place : ℕ) → opened (test x) note ≡ Some place → option_map test (slice_get (insert xs at x) place) ≡ Some true
  open_told place e = by_test (test x) refl
    where
      there : (kept : ℕ) → kept < length xs → option_map test (slice_get xs kept) ≡ Some true → (kept < at) ⊎ (at ≤ kept) → option_map test (slice_get (insert xs at x) (shifted (Open at (length xs)) kept)) ≡ Some true
      there kept inside mark (inl before) = ap (λ k. option_map test (slice_get (insert xs at x) k)) (open_before at (length xs) kept before) ∙ ap (option_map test) (get-insert_before xs at kept x within before) ∙ mark
      there kept inside mark (inr behind) =
          let after : kept + 1 ≡ suc kept = omega arith in
          ap (λ k. option_map test (slice_get (insert xs at x) k)) (open_behind at (length xs) kept behind inside ∙ after) ∙ ap (option_map test) (get-insert_behind xs at kept x within behind) ∙ mark

      by_note : (given : Option ℕ) → note ≡ given → opened false given ≡ Some place → option_map test (slice_get (insert xs at x) place) ≡ Some true
      by_note None n f = absurd (none-some place f)
      by_note (Some kept) n f =
          let mark = (marks kept).0 n in
          subst (λ k. option_map test (slice_get (insert xs at x) k) ≡ Some true) (some_same (shifted (Open at (length xs)) kept) place f) (there kept (mark_within test xs kept mark) mark (cases_lt kept at))

      by_test : (here : Bool) → test x ≡ here → option_map test (slice_get (insert xs at x) place) ≡ Some true
      by_test true h =
          let moved = some_same (shifted (Open at (length xs)) (length xs)) place (sym (ap (λ here. opened here note) h) ∙ e) in
          let p : place ≡ at = sym moved ∙ open_last at (length xs) within in
          ap (λ k. option_map test (slice_get (insert xs at x) k)) p ∙ ap (option_map test) (get-insert_at xs at x within) ∙ ap Some h
      by_test false h = by_note note refl (sym (ap (λ here. opened here note) h) ∙ e)

  open_found : (place : ℕ) → option_map test (slice_get (insert xs at x) place) ≡ Some true → opened (test x) note ≡ Some place
  open_found place e = by_order (cases_order place at)
    where
      old : (kept : ℕ) → option_map test (slice_get xs kept) ≡ Some true → (here : Bool) → test x ≡ here → opened (test x) note ≡ Some (shifted (Open at (length xs)) kept)
      old kept mark true h = absurd (none-some kept (sym (new h) ∙ (marks kept).1 mark))
      old kept mark false h = ap (λ here. opened here note) h ∙ ap (opened false) ((marks kept).1 mark)

      behind : (place : ℕ) → at < place → option_map test (slice_get (insert xs at x) place) ≡ Some true → opened (test x) note ≡ Some place
      behind zero after f = absurd (omega (arith, after))
      behind (suc kept) after f =
          let from : at ≤ kept = omega (arith, after) in
          let mark = sym (ap (option_map test) (get-insert_behind xs at kept x within from)) ∙ f in
          let next : kept + 1 ≡ suc kept = omega arith in
          old kept mark (test x) refl ∙ ap Some (open_behind at (length xs) kept from (mark_within test xs kept mark) ∙ next)

      by_order : (place ≡ at) ⊎ ((place < at) ⊎ (at < place)) → opened (test x) note ≡ Some place
      by_order (inl same) =
          let h : test x ≡ true = some_same (test x) true (sym (ap (option_map test) (ap (slice_get (insert xs at x)) same ∙ get-insert_at xs at x within)) ∙ e) in
          ap (λ here. opened here note) h ∙ ap Some (open_last at (length xs) within ∙ sym same)
      by_order (inr (inl before)) =
          let mark = sym (ap (option_map test) (get-insert_before xs at place x within before)) ∙ e in
          old place mark (test x) refl ∙ ap Some (open_before at (length xs) place before)
      by_order (inr (inr after)) = behind place after e

  pub open_marks : Marks test (insert xs at x) (opened (test x) note)
  open_marks place = (open_told place, open_found place)

-- the item at a place goes: its note goes, and then the places are shifted
module _ {X : Type 0} (test : X → Bool) (xs : List X) (at : ℕ) (x : X) (note : Option ℕ) (here : slice_get xs at ≡ Some x) (marks : Marks test xs note) where
  abbrev closed : Bool → Option ℕ → Option ℕ
  closed own given = option_map (shifted (Close at)) (if own then None else given)

  -- at the place itself the test holds of the item
  at_place : (kept : ℕ) → note ≡ Some kept → kept ≡ at → test x ≡ true
  at_place kept n same = some_same (test x) true (sym (ap (option_map test) (ap (slice_get xs) same ∙ here)) ∙ (marks kept).0 n)

  close_told : (place : ℕ) → closed (test x) note ≡ Some place → option_map test (slice_get (remove xs at) place) ≡ Some true
  close_told place e = by_test (test x) refl
    where
      behind : (kept : ℕ) → note ≡ Some kept → at < kept → option_map test (slice_get (remove xs at) (kept - 1)) ≡ Some true
      behind zero n after = absurd (omega (arith, after))
      behind (suc kept) n after =
          let from : at ≤ kept = omega (arith, after) in
          let back : suc kept - 1 ≡ kept = omega arith in
          ap (λ k. option_map test (slice_get (remove xs at) k)) back ∙ ap (option_map test) (get-remove_behind xs at kept from) ∙ (marks (suc kept)).0 n

      there : (kept : ℕ) → note ≡ Some kept → test x ≡ false → (kept ≡ at) ⊎ ((kept < at) ⊎ (at < kept)) → option_map test (slice_get (remove xs at) (shifted (Close at) kept)) ≡ Some true
      there kept n h (inl same) = absurd (true≢false (sym (at_place kept n same) ∙ h))
      there kept n h (inr (inl before)) =
          let upto : kept ≤ at = omega (arith, before) in
          ap (λ k. option_map test (slice_get (remove xs at) k)) (close_before at kept upto) ∙ ap (option_map test) (get-remove_before xs at kept before) ∙ (marks kept).0 n
      there kept n h (inr (inr after)) = ap (λ k. option_map test (slice_get (remove xs at) k)) (close_behind at kept after) ∙ behind kept n after

      by_note : (given : Option ℕ) → note ≡ given → test x ≡ false → closed false given ≡ Some place → option_map test (slice_get (remove xs at) place) ≡ Some true
      by_note None n h f = absurd (none-some place f)
      by_note (Some kept) n h f = subst (λ k. option_map test (slice_get (remove xs at) k) ≡ Some true) (some_same (shifted (Close at) kept) place f) (there kept n h (cases_order kept at))

      by_test : (own : Bool) → test x ≡ own → option_map test (slice_get (remove xs at) place) ≡ Some true
      by_test true h = absurd (none-some place (sym (ap (λ own. closed own note) h) ∙ e))
      by_test false h = by_note note refl h (sym (ap (λ own. closed own note) h) ∙ e)

  close_found : (place : ℕ) → option_map test (slice_get (remove xs at) place) ≡ Some true → closed (test x) note ≡ Some place
  close_found place e = by_order (cases_lt place at)
    where
      old : (kept : ℕ) → option_map test (slice_get xs kept) ≡ Some true → (kept ≢ at) → (own : Bool) → test x ≡ own → closed (test x) note ≡ Some (shifted (Close at) kept)
      old kept mark apart true h =
          let n = (marks at).1 (ap (option_map test) here ∙ ap Some h) in
          absurd (apart (some_same kept at (sym ((marks kept).1 mark) ∙ n)))
      old kept mark apart false h = ap (λ own. closed own note) h ∙ ap (closed false) ((marks kept).1 mark)

      by_order : (place < at) ⊎ (at ≤ place) → closed (test x) note ≡ Some place
      by_order (inl before) =
          let upto : place ≤ at = omega (arith, before) in
          old place (sym (ap (option_map test) (get-remove_before xs at place before)) ∙ e) (λ same. omega (arith, same, before)) (test x) refl ∙ ap Some (close_before at place upto)
      by_order (inr from) =
          let after : at < suc place = omega (arith, from) in
          let back : suc place - 1 ≡ place = omega arith in
          old (suc place) (sym (ap (option_map test) (get-remove_behind xs at place from)) ∙ e) (λ same. omega (arith, same, from)) (test x) refl ∙ ap Some (close_behind at (suc place) after ∙ back)

  pub close_marks : Marks test (remove xs at) (closed (test x) note)
  close_marks place = (close_told place, close_found place)
