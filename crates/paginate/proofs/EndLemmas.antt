-- Where pages end: what one more row adds, and the greatest places.
use Rattle.std.proofs.Common.{◌≡◌, ℕ, ◌+◌, ◌-◌, ◌<◌, ◌≤◌, List, [], ◌∷◌, ◌++◌, Bool, true, false, ◌&&◌, ◌||◌, ◌==◌, nat_le, Option, Some, None, MatchOption, if◌then◌else◌, refl, length, drop, take, zero, suc, arith, cond, ap, ◌⊎◌, inl, inr, sym, ◌∙◌, add-one, get_or, max, leb}
use Rattle.std.proofs.lemmas.Bool.{cases_lt}
use Rattle.std.proofs.lemmas.Bool.Decides.{nat_tests}
use Rattle.std.proofs.lemmas.List.{take_rest}
use Rattle.std.proofs.Common.{length-take-le, min, ◌^◌}
use Rattle.page_model.specs.declared.row.Row.{Row}
use Rattle.page_model.specs.declared.row.NoteRow.{NoteRow}
use Rattle.page_model.specs.Breaking.{must_end_between, may_end_at, first_forced, blanks_of, notes_of, with_separator, cost_of, is_reached, greatest_to, end_at_level, first_there, page_end}
use Rattle.paginate.specs.Neighbours.{must_end_first, blanks_first}

-- the rows from a place on, as a slice of code has them
pub from_on : (i : ℕ) (rows : List Row) → take (length rows - i) (drop i rows) ≡ drop i rows
from_on i rows = take_rest rows i

pub may_end-drop : (level : ℕ) (rows : List Row) (place : ℕ) → 0 < place → may_end_at level (drop (place - 1) rows) 1 ≡ may_end_at level rows place
may_end-drop level rows place h = refl

pub greatest-here : (test : ℕ → Bool) (n : ℕ) → 0 < n → test n ≡ true → greatest_to n test ≡ Some n
greatest-here test zero h e = absurd (omega arith)
greatest-here test (suc n) h e = rw e refl

pub greatest-less : (test : ℕ → Bool) (n : ℕ) → 0 < n → test n ≡ false → greatest_to (n - 1) test ≡ greatest_to n test
greatest-less test zero h e = absurd (omega arith)
greatest-less test (suc n) h e = let less : suc n - 1 ≡ n = omega arith in rw (e, less) refl

-- no number above one passes a test
pub greatest-past : (test : ℕ → Bool) (i n : ℕ) → i ≤ n → ((m : ℕ) → i < m → test m ≡ false) → greatest_to n test ≡ greatest_to i test
greatest-past test i zero h none = let e : i ≡ 0 = omega arith in rw e refl
greatest-past test i (suc n) h none =
    elim (cases_lt n i) [
      | inl over ↦ (let e : i ≡ suc n = omega arith in rw e refl)
      | inr under ↦ rw (none (suc n) (omega arith)) (greatest-past test i n under none)
    ]

-- tests that agree up to a number have the same greatest one
pub greatest-same : (f g : ℕ → Bool) (n : ℕ) → ((m : ℕ) → 1 ≤ m → m ≤ n → f m ≡ g m) → greatest_to n f ≡ greatest_to n g
greatest-same f g zero same = refl
greatest-same f g (suc n) same =
    ap (λ (b : Bool). if b then Some (suc n) else greatest_to n f) (same (suc n) (omega arith) (omega arith))
    ∙ ap (λ (o : Option ℕ). if g (suc n) then Some (suc n) else o) (greatest-same f g n (λ m a b. same m a (omega arith)))

-- a greatest number stands from 1 up to the bound
abbrev pub IsWithin : ℕ → Option ℕ → Type 0
IsWithin n found = MatchOption found (Unit {0}) (λ m. (1 ≤ m) × (m ≤ n))

one_more : (n : ℕ) (found : Option ℕ) → IsWithin n found → IsWithin (suc n) found
one_more n None h = tt
one_more n (Some m) h = (h.0, omega (arith, h.1))

by_test : (n : ℕ) (found : Option ℕ) (b : Bool) → IsWithin (suc n) found → IsWithin (suc n) (if b then Some (suc n) else found)
by_test n found true h = (omega arith, omega arith)
by_test n found false h = h

pub greatest-within : (n : ℕ) (test : ℕ → Bool) → IsWithin n (greatest_to n test)
greatest-within zero test = tt
greatest-within (suc n) test = by_test n (greatest_to n test) (test (suc n)) (one_more n (greatest_to n test) (greatest-within n test))

-- the blank rows of one more row
pub blanks-more : (rows : List Row) (i : ℕ) → i + 1 < length rows → blanks_of (take (i + 1 + 1) rows) ≡ blanks_of (take (i + 1) rows) + blanks_first (drop i rows)
blanks-more [] i h = absurd (omega arith)
blanks-more (row ∷ []) i h = absurd (omega arith)
blanks-more (row ∷ (next ∷ more)) zero h = omega arith
blanks-more (row ∷ (next ∷ more)) (suc i) h =
    let e : suc i + 1 + 1 ≡ suc (suc (suc i)) = omega arith in
    let f : suc i + 1 ≡ suc (suc i) = omega arith in
    let g : i + 1 + 1 ≡ suc (suc i) = omega arith in
    let k : i + 1 ≡ suc i = omega arith in
    let before = blanks-more (next ∷ more) i (omega arith) in
    let before' : blanks_of (take (suc (suc i)) (next ∷ more)) ≡ blanks_of (take (suc i) (next ∷ more)) + blanks_first (drop i (next ∷ more)) = rw (g, k) at before in
    rw (e, f) (omega (arith, before'))

pub blanks-first : (rows : List Row) → blanks_of (take 1 rows) ≡ 0
blanks-first [] = refl
blanks-first (row ∷ rows) = refl

-- one row more has no fewer blank rows and note rows
blanks-up : (rows : List Row) (i : ℕ) → blanks_of (take i rows) ≤ blanks_of (take (suc i) rows)
blanks-up [] zero = omega arith
blanks-up [] (suc i) = omega arith
blanks-up (row ∷ rows) zero = omega arith
blanks-up (row ∷ []) (suc zero) = omega arith
blanks-up (row ∷ []) (suc (suc i)) = omega arith
blanks-up (row ∷ (next ∷ more)) (suc zero) = omega arith
blanks-up (row ∷ (next ∷ more)) (suc (suc i)) = let more_before = blanks-up (next ∷ more) (suc i) in omega arith

pub length-notes_of : (rows : List Row) (row : Row) → length (notes_of (row ∷ rows)) ≡ length row.notes + length (notes_of rows)
length-notes_of rows row = grind (arith, Rattle.std.proofs.Common.length-append {A = NoteRow})

notes-up : (rows : List Row) (i : ℕ) → length (notes_of (take i rows)) ≤ length (notes_of (take (suc i) rows))
notes-up [] zero = omega arith
notes-up [] (suc i) = omega arith
notes-up (row ∷ rows) zero = omega arith
notes-up (row ∷ rows) (suc i) = omega (arith, notes-up rows i, length-notes_of (take i rows) row, length-notes_of (take (suc i) rows) row)

length-up : (rows : List Row) (i : ℕ) → length (take i rows) ≤ length (take (suc i) rows)
length-up [] zero = omega arith
length-up [] (suc i) = omega arith
length-up (row ∷ rows) zero = omega arith
length-up (row ∷ rows) (suc i) = omega (arith, length-up rows i)

eq-zero : (m : ℕ) → (suc m == 0) ≡ false
eq-zero m = grind (arith, nat_tests)

separator-some : (m : ℕ) → with_separator (suc m) ≡ suc (suc m)
separator-some m = rw (eq-zero m) (omega arith)

pub separator-least : (m : ℕ) → m ≤ with_separator m
separator-least zero = omega arith
separator-least (suc m) = rw (separator-some m) (omega arith)

pub separator-up : (m n : ℕ) → m ≤ n → with_separator m ≤ with_separator n
separator-up zero n h = omega arith
separator-up (suc m) zero h = absurd (omega arith)
separator-up (suc m) (suc n) h = rw (separator-some m, separator-some n) (omega arith)

cost-step : (carried : List NoteRow) (rows : List Row) (i : ℕ) → cost_of carried (take i rows) ≤ cost_of carried (take (suc i) rows)
cost-step carried rows i =
    omega (
      arith,
      length-up rows i,
      blanks-up rows i,
      separator-up (length carried + length (notes_of (take i rows))) (length carried + length (notes_of (take (suc i) rows))) (omega (arith, notes-up rows i)),
    )

pub cost-up : (carried : List NoteRow) (rows : List Row) (i j : ℕ) → i ≤ j → cost_of carried (take i rows) ≤ cost_of carried (take j rows)
cost-up carried rows i zero h = let e : i ≡ 0 = omega arith in rw e (omega arith)
cost-up carried rows i (suc j) h =
    elim (cases_lt j i) [
      | inl over ↦ (let e : i ≡ suc j = omega arith in rw e (omega arith))
      | inr under ↦ omega (arith, cost-up carried rows i j under, cost-step carried rows j)
    ]

-- the note rows of one more row
pub notes-more : (rows : List Row) (i : ℕ) (d : Row) → i < length rows → length (notes_of (take (i + 1) rows)) ≡ length (notes_of (take i rows)) + length (get_or rows i d).notes
notes-more [] i d h = absurd (omega arith)
notes-more (row ∷ rows) zero d h = omega (arith, length-notes_of [] row)
notes-more (row ∷ rows) (suc i) d h =
    let e : suc i + 1 ≡ suc (i + 1) = omega arith in
    rw e (omega (arith, notes-more rows i d (omega arith), length-notes_of (take i rows) row, length-notes_of (take (i + 1) rows) row))

-- whether the place behind a row is the first at which a page must end
pub forced-here : (rows : List Row) (i : ℕ) → i < first_forced rows → must_end_first (drop i rows) ≡ true → first_forced rows ≡ i + 1
forced-here [] i h e = absurd (omega arith)
forced-here (row ∷ []) zero h e = refl
forced-here (row ∷ []) (suc i) h e = absurd (omega arith)
forced-here (row ∷ (next ∷ more)) zero h e = rw e refl
forced-here (row ∷ (next ∷ more)) (suc i) h e = inside (must_end_between row next) h (λ under. forced-here (next ∷ more) i under e)
  where
    inside : (b : Bool) → suc i < (if b then 1 else suc (first_forced (next ∷ more))) → (i < first_forced (next ∷ more) → first_forced (next ∷ more) ≡ i + 1)
        → (if b then 1 else suc (first_forced (next ∷ more))) ≡ suc i + 1
    inside true under more_on = absurd (omega arith)
    inside false under more_on = omega (arith, more_on (omega arith))

pub unforced-here : (rows : List Row) (i : ℕ) → i < first_forced rows → must_end_first (drop i rows) ≡ false → i + 1 < first_forced rows
unforced-here [] i h e = absurd (omega arith)
unforced-here (row ∷ []) zero h e = cc
unforced-here (row ∷ []) (suc i) h e = absurd (omega arith)
unforced-here (row ∷ (next ∷ [])) zero h e = rw e (omega arith)
unforced-here (row ∷ (next ∷ (third ∷ more))) zero h e = rw e (some (must_end_between next third))
  where
    some : (b : Bool) → 0 + 1 < suc (if b then 1 else suc (first_forced (third ∷ more)))
    some true = omega arith
    some false = omega arith
unforced-here (row ∷ (next ∷ more)) (suc i) h e = inside (must_end_between row next) h (λ under. unforced-here (next ∷ more) i under e)
  where
    inside : (b : Bool) → suc i < (if b then 1 else suc (first_forced (next ∷ more))) → (i < first_forced (next ∷ more) → i + 1 < first_forced (next ∷ more))
        → suc i + 1 < (if b then 1 else suc (first_forced (next ∷ more)))
    inside true under more_on = absurd (omega arith)
    inside false under more_on = omega (arith, more_on (omega arith))

pub forced-within : (rows : List Row) → first_forced rows ≤ length rows
forced-within [] = omega arith
forced-within (row ∷ []) = omega arith
forced-within (row ∷ (next ∷ more)) = inside (must_end_between row next) (forced-within (next ∷ more))
  where
    inside : (b : Bool) → first_forced (next ∷ more) ≤ length (next ∷ more) → (if b then 1 else suc (first_forced (next ∷ more))) ≤ length (row ∷ (next ∷ more))
    inside true h = omega arith
    inside false h = omega arith

pub forced-some : (rows : List Row) → 0 < length rows → 0 < first_forced rows
forced-some [] h = absurd (omega arith)
forced-some (row ∷ []) h = omega arith
forced-some (row ∷ (next ∷ more)) h = inside (must_end_between row next)
  where
    inside : (b : Bool) → 0 < (if b then 1 else suc (first_forced (next ∷ more)))
    inside true = omega arith
    inside false = omega arith

le-false : (m n : ℕ) → n < m → nat_le m n ≡ false
le-false m n h = grind (arith, nat_tests)

le-true : (m n : ℕ) → m ≤ n → nat_le m n ≡ true
le-true m n h = grind (arith, nat_tests)

le-not : (m n : ℕ) → nat_le m n ≡ false → n < m
le-not m n h = grind (arith, nat_tests)

le-is : (m n : ℕ) → nat_le m n ≡ true → m ≤ n
le-is m n h = grind (arith, nat_tests)

and-false : (a b : Bool) → b ≡ false → (a && b) ≡ false
and-false true b e = e
and-false false b e = refl

-- a place is reached where its rows fit and no end is forced before it
pub reached-here : (room : ℕ) (carried : List NoteRow) (rows : List Row) (place : ℕ) → cost_of carried (take place rows) ≤ room → place ≤ first_forced rows → is_reached room carried rows place ≡ true
reached-here room carried rows place fits before = rw (le-true (cost_of carried (take place rows)) room fits, le-true place (first_forced rows) before) refl

-- none is behind one up to which the rows don't fit
pub past-room : (room : ℕ) (carried : List NoteRow) (rows : List Row) (i place : ℕ) → room < cost_of carried (take i rows) → i ≤ place → is_reached room carried rows place ≡ false
past-room room carried rows i place over h =
    rw (le-false (cost_of carried (take place rows)) room (omega (arith, cost-up carried rows i place h))) refl

-- none is behind one at which a page must end
pub past-forced : (room : ℕ) (carried : List NoteRow) (rows : List Row) (place : ℕ) → first_forced rows < place → is_reached room carried rows place ≡ false
past-forced room carried rows place h = and-false (nat_le (cost_of carried (take place rows)) room) (nat_le place (first_forced rows)) (le-false place (first_forced rows) h)

-- what one more row costs, as it is counted row by row
pub cost-more : (carried : List NoteRow) (rows : List Row) (i lines blanks notes more : ℕ) (d : Row) → i < length rows → lines ≡ i + blanks_of (take i rows)
    → notes ≡ length carried + length (notes_of (take i rows)) → blanks_of (take (i + 1) rows) ≡ blanks_of (take i rows) + blanks → more ≡ length (get_or rows i d).notes
    → cost_of carried (take (i + 1) rows) ≡ lines + (blanks + 1) + with_separator (notes + more)
cost-more carried rows i lines blanks notes more d h is_lines is_notes is_gap is_more =
    let long : length (take (i + 1) rows) ≡ i + 1 = length-take-le (i + 1) rows (omega arith) in
    let last : length carried + length (notes_of (take (i + 1) rows)) ≡ notes + more = omega (arith, notes-more rows i d h) in
    let same : with_separator (length carried + length (notes_of (take (i + 1) rows))) ≡ with_separator (notes + more) = ap with_separator last in
    omega arith

-- a count that stops at the greatest number of its type tells the same of a room
pub over-room : (lines sum counted room : ℕ) → counted ≡ min sum 18446744073709551615 → nat_le (lines + with_separator counted) room ≡ false → room < lines + with_separator sum
over-room lines sum counted room e f =
    let less : counted ≤ sum = omega arith in
    omega (arith, le-not (lines + with_separator counted) room f, separator-up counted sum less)

pub within-room : (lines sum counted room : ℕ) → counted ≡ min sum 18446744073709551615 → room < 2 ^ 32 → nat_le (lines + with_separator counted) room ≡ true
    → (counted ≡ sum) × (lines + with_separator sum ≤ room)
within-room lines sum counted room e small f =
    let fits = le-is (lines + with_separator counted) room f in
    let least = separator-least counted in
    let same : counted ≡ sum = omega arith in
    (same, rw (← same) fits)

pub or_last : (rows : List Row) (i place : ℕ) → place ≤ i + 1 → (place ≤ i) ⊎ (place ≡ i + 1)
or_last rows i place h = elim (cases_lt i place) [ inl over ↦ inr (omega arith) | inr under ↦ inl under ]

-- the places up to one more are reached
pub reached-more : (room : ℕ) (carried : List NoteRow) (rows : List Row) (i : ℕ) → ((place : ℕ) → 1 ≤ place → place ≤ i → is_reached room carried rows place ≡ true)
    → cost_of carried (take (i + 1) rows) ≤ room → i < first_forced rows → (place : ℕ) → 1 ≤ place → place ≤ i + 1 → is_reached room carried rows place ≡ true
reached-more room carried rows i before fits under place least most =
    elim (or_last rows i place most) [
      | inl within ↦ before place least within
      | inr last ↦ rw last (reached-here room carried rows (i + 1) fits (omega arith))
    ]

-- the end of a page, by the places that are reached
abbrev pub end_up_to : List Row → ℕ → ℕ
end_up_to rows reach = first_there (greatest_to reach (may_end_at 0 rows)) (greatest_to reach (may_end_at 1 rows)) (greatest_to reach (may_end_at 2 rows)) 1

end_at_level-reach : (room reach level : ℕ) (carried : List NoteRow) (rows : List Row) → reach ≤ room
    → ((place : ℕ) → 1 ≤ place → place ≤ reach → is_reached room carried rows place ≡ true) → ((place : ℕ) → reach < place → is_reached room carried rows place ≡ false)
    → end_at_level room carried rows level ≡ greatest_to reach (may_end_at level rows)
end_at_level-reach room reach level carried rows within reached past =
    greatest-past (λ place. is_reached room carried rows place && may_end_at level rows place) reach room within (λ place over. ap (λ (b : Bool). b && may_end_at level rows place) (past place over))
    ∙ greatest-same (λ place. is_reached room carried rows place && may_end_at level rows place) (may_end_at level rows) reach
    (λ place least most. ap (λ (b : Bool). b && may_end_at level rows place) (reached place least most))

and-first : (a b : Bool) → (a && b) ≡ true → a ≡ true
and-first true b e = refl
and-first false b e = e

-- what is reached costs no more than the room
reach-within : (room reach : ℕ) (carried : List NoteRow) (rows : List Row) → reach ≤ length rows → ((place : ℕ) → 1 ≤ place → place ≤ reach → is_reached room carried rows place ≡ true) → reach ≤ room
reach-within room zero carried rows short reached = omega arith
reach-within room (suc reach) carried rows short reached =
    let long : length (take (suc reach) rows) ≡ suc reach = length-take-le (suc reach) rows short in
    let fits = le-is (cost_of carried (take (suc reach) rows)) room (and-first (nat_le (cost_of carried (take (suc reach) rows)) room) (nat_le (suc reach) (first_forced rows)) (reached (suc reach) (omega arith) (omega arith))) in
    omega arith

pub page_end-reach : (room reach : ℕ) (carried : List NoteRow) (rows : List Row) → 0 < length rows → reach ≤ length rows
    → ((place : ℕ) → 1 ≤ place → place ≤ reach → is_reached room carried rows place ≡ true) → ((place : ℕ) → reach < place → is_reached room carried rows place ≡ false)
    → page_end room carried rows ≡ end_up_to rows reach
page_end-reach room reach carried [] some short reached past = absurd (omega arith)
page_end-reach room reach carried (row ∷ rows) some short reached past =
    let within = reach-within room reach carried (row ∷ rows) short reached in
    ap (λ (o : Option ℕ). first_there o (end_at_level room carried (row ∷ rows) 1) (end_at_level room carried (row ∷ rows) 2) 1) (end_at_level-reach room reach 0 carried (row ∷ rows) within reached past)
    ∙ ap (λ (o : Option ℕ). first_there (greatest_to reach (may_end_at 0 (row ∷ rows))) o (end_at_level room carried (row ∷ rows) 2) 1) (end_at_level-reach room reach 1 carried (row ∷ rows) within reached past)
    ∙ ap (λ (o : Option ℕ). first_there (greatest_to reach (may_end_at 0 (row ∷ rows))) (greatest_to reach (may_end_at 1 (row ∷ rows))) o 1) (end_at_level-reach room reach 2 carried (row ∷ rows) within reached past)

pub within-some : (n m : ℕ) (found : Option ℕ) → IsWithin n found → found ≡ Some m → (1 ≤ m) × (m ≤ n)
within-some n m None h e = absurd (cc)
within-some n m (Some k) h e = let same : k ≡ m = cc in (omega (arith, h.0), omega (arith, h.1))

-- what `is_empty` says of rows that there are
pub filled : (n : ℕ) (said : Bool) → said ≡ (n == 0) → said ≡ false → 0 < n
filled zero said e f = let t : said ≡ true = e in absurd (cc)
filled (suc n) said e f = omega arith

abbrev IsEnd : ℕ → Option ℕ → Type 0
IsEnd bound found = MatchOption found (Unit {0}) (λ m. (1 ≤ m) × (m ≤ bound))

end_test : (bound n : ℕ) (b : Bool) (found : Option ℕ) → (b ≡ true → suc n ≤ bound) → IsEnd bound found → IsEnd bound (if b then Some (suc n) else found)
end_test bound n true found h k = (omega arith, h refl)
end_test bound n false found h k = k

greatest-end : (test : ℕ → Bool) (bound n : ℕ) → ((m : ℕ) → test m ≡ true → m ≤ bound) → IsEnd bound (greatest_to n test)
greatest-end test bound zero h = tt
greatest-end test bound (suc n) h = end_test bound n (test (suc n)) (greatest_to n test) (h (suc n)) (greatest-end test bound n h)

and-second : (a b : Bool) → (a && b) ≡ true → b ≡ true
and-second true b e = e
and-second false b e = cc

end_at_level-end : (room level : ℕ) (carried : List NoteRow) (rows : List Row) → IsEnd (length rows) (end_at_level room carried rows level)
end_at_level-end room level carried rows =
    greatest-end (λ place. is_reached room carried rows place && may_end_at level rows place) (length rows) room
    (λ place e. omega (
      arith,
      forced-within rows,
      le-is place (first_forced rows) (and-second (nat_le (cost_of carried (take place rows)) room) (nat_le place (first_forced rows))
          (and-first (is_reached room carried rows place) (may_end_at level rows place) e)),
    ))

first_there-end : (bound : ℕ) (a b c : Option ℕ) → 1 ≤ bound → IsEnd bound a → IsEnd bound b → IsEnd bound c → (1 ≤ first_there a b c 1) × (first_there a b c 1 ≤ bound)
first_there-end bound (Some n) b c some h k m = h
first_there-end bound None (Some n) c some h k m = k
first_there-end bound None None (Some n) some h k m = m
first_there-end bound None None None some h k m = (omega arith, some)

-- a page has no more rows than there are
pub page_end-within : (room : ℕ) (carried : List NoteRow) (rows : List Row) → page_end room carried rows ≤ length rows
page_end-within room carried [] = omega arith
page_end-within room carried (row ∷ rows) =
    (first_there-end (length (row ∷ rows)) (end_at_level room carried (row ∷ rows) 0) (end_at_level room carried (row ∷ rows) 1) (end_at_level room carried (row ∷ rows) 2) (omega arith)
    (end_at_level-end room 0 carried (row ∷ rows)) (end_at_level-end room 1 carried (row ∷ rows)) (end_at_level-end room 2 carried (row ∷ rows))).1

-- and one at least, where there is one
pub page_end-some : (room : ℕ) (carried : List NoteRow) (rows : List Row) → 0 < length rows → 1 ≤ page_end room carried rows
page_end-some room carried [] h = absurd (omega arith)
page_end-some room carried (row ∷ rows) h =
    (first_there-end (length (row ∷ rows)) (end_at_level room carried (row ∷ rows) 0) (end_at_level room carried (row ∷ rows) 1) (end_at_level room carried (row ∷ rows) 2) (omega arith)
    (end_at_level-end room 0 carried (row ∷ rows)) (end_at_level-end room 1 carried (row ∷ rows)) (end_at_level-end room 2 carried (row ∷ rows))).0

wider : (n bound : ℕ) (found : Option ℕ) → n ≤ bound → IsWithin n found → IsEnd bound found
wider n bound None h k = tt
wider n bound (Some m) h k = (k.0, omega (arith, k.1))

-- a page has no more rows than its room, and one where it has no room
pub page_end-room : (room : ℕ) (carried : List NoteRow) (rows : List Row) → page_end room carried rows ≤ max 1 room
page_end-room room carried [] = omega arith
page_end-room room carried (row ∷ rows) =
    let at = λ (level : ℕ). wider room (max 1 room) (end_at_level room carried (row ∷ rows) level) (omega arith)
    (greatest-within room (λ place. is_reached room carried (row ∷ rows) place && may_end_at level (row ∷ rows) place)) in
    (first_there-end (max 1 room) (end_at_level room carried (row ∷ rows) 0) (end_at_level room carried (row ∷ rows) 1) (end_at_level room carried (row ∷ rows) 2) (omega arith) (at 0) (at 1) (at 2)).1
