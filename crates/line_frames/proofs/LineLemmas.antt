-- The beginnings of units: which of them fit, and behind which a line may end.
use Rattle.std.proofs.Common.{◌≡◌, ℕ, ◌+◌, ◌-◌, ◌<◌, ◌≤◌, List, [], ◌∷◌, ◌++◌, Bool, true, false, ◌&&◌, Option, Some, None, MatchOption, if◌then◌else◌, refl, length, drop, take, zero, suc, reverse, arith, cond, ap, ◌⊎◌, inl, inr, is_none, not, unwrap_or, get_or, sym, ◌∙◌, add-one, leb}
use Rattle.std.specs.Option.{SomeIff, is_some, option_or}
use Rattle.std.proofs.lemmas.Bool.{cases_lt}
use Rattle.std.proofs.lemmas.Bool.Decides.{nat_tests}
use Rattle.std.proofs.lemmas.List.{reverse-append, reverse-reverse, take_all, take_more, take_rest}
use Rattle.line_model.specs.declared.unit.TextUnit.{TextUnit}
use Rattle.line_model.specs.Units.{is_space}
use Rattle.line_frames.specs.Rooms.{IsLeft}
use Rattle.line_model.specs.Lines.{columns_of, without_last_spaces, fits, may_end_behind, greatest_to, or_else, line_length}

-- whether so many of the units fit
abbrev pub fits_to : ℕ → List TextUnit → ℕ → Bool
fits_to width units count = fits width (take count units)

-- whether so many of the units fit, and a line may end behind them
abbrev pub ends_at : ℕ → List TextUnit → ℕ → Bool
ends_at width units count = may_end_behind count units && fits width (take count units)

-- one more unit at the end
columns_of-push : (xs : List TextUnit) (x : TextUnit) → columns_of (xs ++ x ∷ []) ≡ columns_of xs + x.columns
columns_of-push [] x = omega arith
columns_of-push (y ∷ ys) x = omega (arith, columns_of-push ys x)

without-space : (xs : List TextUnit) (x : TextUnit) → is_space x ≡ true → without_last_spaces (xs ++ x ∷ []) ≡ without_last_spaces xs
without-space xs x e = rw reverse-append (rw e refl)

without-other : (xs : List TextUnit) (x : TextUnit) → is_space x ≡ false → without_last_spaces (xs ++ x ∷ []) ≡ xs ++ x ∷ []
without-other xs x e = rw reverse-append (rw e (reverse-append (x ∷ []) (reverse xs) ∙ ap (λ (l : List TextUnit). l ++ x ∷ []) (reverse-reverse xs)))

seen-push : (front : List TextUnit) (x : TextUnit) (b : Bool) → is_space x ≡ b
    → columns_of (without_last_spaces (front ++ x ∷ [])) ≡ cond b (columns_of (without_last_spaces front)) (columns_of (front ++ x ∷ []))
seen-push front x true e = ap columns_of (without-space front x e)
seen-push front x false e = ap columns_of (without-other front x e)

-- the columns of so many of some units, with and without the spaces at their end
abbrev all_to : List TextUnit → ℕ → ℕ
all_to units count = columns_of (take count units)

abbrev seen_to : List TextUnit → ℕ → ℕ
seen_to units count = columns_of (without_last_spaces (take count units))

-- one more unit of some, where there is one
taken : (i : ℕ) (xs : List TextUnit) → i < length xs → (x : TextUnit) × (take (suc i) xs ≡ take i xs ++ x ∷ [])
taken zero [] h = absurd (omega arith)
taken zero (x ∷ xs) h = (x, refl)
taken (suc i) [] h = absurd (omega arith)
taken (suc i) (x ∷ xs) h = let t = taken i xs (omega arith) in (t.0, ap (λ (l : List TextUnit). x ∷ l) t.1)

-- what its columns add
one_more : (units : List TextUnit) (i : ℕ) → i < length units → (x : TextUnit) × (all_to units (suc i) ≡ all_to units i + x.columns)
    × (seen_to units (suc i) ≡ cond (is_space x) (seen_to units i) (all_to units (suc i)))
one_more units i h =
    let t = taken i units h in
    (t.0, ap columns_of t.1 ∙ columns_of-push (take i units) t.0, rw t.1 (seen-push (take i units) t.0 (is_space t.0) refl))

cond_least : (b : Bool) (m n k : ℕ) → k ≤ m → k ≤ n → k ≤ cond b m n
cond_least true m n k p q = p
cond_least false m n k p q = q

cond_most : (b : Bool) (m n k : ℕ) → m ≤ k → n ≤ k → cond b m n ≤ k
cond_most true m n k p q = p
cond_most false m n k p q = q

-- there is none past the end
same_past : (units : List TextUnit) (i : ℕ) → length units ≤ i → take (suc i) units ≡ take i units
same_past units i h = take_all (suc i) units (omega arith) ∙ sym (take_all i units h)

-- the spaces at the end may take columns of their own
seen-le-more : (units : List TextUnit) (i : ℕ) → seen_to units i ≤ all_to units i → (i < length units) ⊎ (length units ≤ i) → seen_to units (suc i) ≤ all_to units (suc i)
seen-le-more units i le (inl h) =
    let t = one_more units i h in
    rw t.2 (cond_most (is_space t.0) (seen_to units i) (all_to units (suc i)) (all_to units (suc i)) (omega (arith, t.1)) (omega arith))
seen-le-more units i le (inr h) = rw (same_past units i h) le

seen-le : (units : List TextUnit) (i : ℕ) → seen_to units i ≤ all_to units i
seen-le units zero = omega arith
seen-le units (suc i) = seen-le-more units i (seen-le units i) (cases_lt i (length units))

seen-grows : (units : List TextUnit) (i : ℕ) → seen_to units i ≤ seen_to units (suc i)
seen-grows units i = by_place (cases_lt i (length units))
  where
    by_place : (i < length units) ⊎ (length units ≤ i) → seen_to units i ≤ seen_to units (suc i)
    by_place (inl h) =
        let t = one_more units i h in
        rw t.2 (cond_least (is_space t.0) (seen_to units i) (all_to units (suc i)) (seen_to units i) (omega arith) (omega (arith, seen-le units i, t.1)))
    by_place (inr h) = rw (same_past units i h) (omega arith)

-- a unit leaves a room less by its columns
pub left_none : (width : ℕ) (before : List TextUnit) (unit : TextUnit) → IsLeft width before None → IsLeft width (before ++ unit ∷ []) None
left_none width before unit h = omega (arith, columns_of-push before unit)

pub left_more : (width left : ℕ) (before : List TextUnit) (unit : TextUnit) (room : Option ℕ) → IsLeft width before (Some left)
    → SomeIff room (unit.columns ≤ left) (left - unit.columns) → IsLeft width (before ++ unit ∷ []) room
left_more width left before unit None h s =
    elim (cases_lt left unit.columns) [ inl over ↦ omega (arith, columns_of-push before unit) | inr under ↦ absurd (s under) ]
left_more width left before unit (Some more) h s = omega (arith, columns_of-push before unit, s.0, s.1)

-- more units take no fewer columns
seen-up : (units : List TextUnit) (i j : ℕ) → i ≤ j → seen_to units i ≤ seen_to units j
seen-up units i zero h = let e : i ≡ 0 = omega arith in rw e (omega arith)
seen-up units i (suc j) h =
    elim (cases_lt j i) [
      | inl over ↦ (let e : i ≡ suc j = omega arith in rw e (omega arith))
      | inr under ↦ omega (arith, seen-up units i j under, seen-grows units j)
    ]

leb-false : (m n : ℕ) → n < m → leb m n ≡ false
leb-false m n h = grind (arith, nat_tests)

leb-true : (m n : ℕ) → m ≤ n → leb m n ≡ true
leb-true m n h = grind (arith, nat_tests)

leb-not : (m n : ℕ) → leb m n ≡ false → n < m
leb-not m n h = grind (arith, nat_tests)

-- where so many units don't fit, no more do
pub fits-up : (width : ℕ) (units : List TextUnit) (i j : ℕ) → i ≤ j → fits_to width units i ≡ false → fits_to width units j ≡ false
fits-up width units i j h e = leb-false (seen_to units j) width (omega (arith, leb-not (seen_to units i) width e, seen-up units i j h))

-- no number above one passes a test
pub greatest_to-past : (test : ℕ → Bool) (i n : ℕ) → i ≤ n → ((m : ℕ) → i < m → m ≤ n → test m ≡ false) → greatest_to n test ≡ greatest_to i test
greatest_to-past test i zero h none = let e : i ≡ 0 = omega arith in rw e refl
greatest_to-past test i (suc n) h none =
    elim (cases_lt n i) [
      | inl over ↦ (let e : i ≡ suc n = omega arith in rw e refl)
      | inr under ↦ rw (none (suc n) (omega arith) (omega arith)) (greatest_to-past test i n under (λ m a b. none m a (omega arith)))
    ]

-- units with one more that leaves room, or is a space
fits-push : (width : ℕ) (front : List TextUnit) (x : TextUnit) (room : Option ℕ) (b : Bool) → is_space x ≡ b → fits width front ≡ true → IsLeft width (front ++ x ∷ []) room
    → (is_none room ≡ true → b ≡ true) → fits width (front ++ x ∷ []) ≡ true
fits-push width front x room true e f left k = rw (seen-push front x true e) f
fits-push width front x None false e f left k = let absurdity = k refl in absurd (cc)
fits-push width front x (Some more) false e f left k = rw (seen-push front x false e) (leb-true (columns_of (front ++ x ∷ [])) width (omega arith))

pub fits-more : (width : ℕ) (units : List TextUnit) (i : ℕ) (d : TextUnit) (room : Option ℕ) → i < length units → fits_to width units i ≡ true
    → IsLeft width (take i units ++ get_or units i d ∷ []) room → (is_none room ≡ true → is_space (get_or units i d) ≡ true) → fits_to width units (i + 1) ≡ true
fits-more width units i d room h f left k =
    rw (take_more units i d h) (fits-push width (take i units) (get_or units i d) room (is_space (get_or units i d)) refl f left k)

-- one that leaves no room, and is no space, does not fit
pub fits-none : (width : ℕ) (units : List TextUnit) (i : ℕ) (d : TextUnit) → i < length units → IsLeft width (take i units ++ get_or units i d ∷ []) None
    → is_space (get_or units i d) ≡ false → fits_to width units (i + 1) ≡ false
fits-none width units i d h left k =
    rw (take_more units i d h) (rw (seen-push (take i units) (get_or units i d) false k) (leb-false (columns_of (take i units ++ get_or units i d ∷ [])) width left))

pub greatest_to-pass : (test : ℕ → Bool) (i : ℕ) → test (i + 1) ≡ true → greatest_to (i + 1) test ≡ Some (i + 1)
greatest_to-pass test i e = let h : test (suc i) ≡ true = rw add-one at e in rw add-one (rw h refl)

pub greatest_to-fail : (test : ℕ → Bool) (i : ℕ) → test (i + 1) ≡ false → greatest_to (i + 1) test ≡ greatest_to i test
greatest_to-fail test i e = let h : test (suc i) ≡ false = rw add-one at e in rw add-one (rw h refl)

and-true : (a b : Bool) → b ≡ true → (a && b) ≡ a
and-true true b e = e
and-true false b e = refl

and-false : (a b : Bool) → b ≡ false → (a && b) ≡ false
and-false true b e = e
and-false false b e = refl

pub ends_at-is : (width : ℕ) (units : List TextUnit) (i : ℕ) → fits_to width units (i + 1) ≡ true → ends_at width units (i + 1) ≡ may_end_behind 1 (take (length units - i) (drop i units))
ends_at-is width units i f =
    let e : i + 1 - 1 ≡ i = omega arith in
    and-true (may_end_behind (i + 1) units) (fits_to width units (i + 1)) f
    ∙ ap (λ (n : ℕ). may_end_behind 1 (drop n units)) e ∙ ap (may_end_behind 1) (sym (take_rest units i))

-- where one more unit doesn't fit, or there is none, what was found so far is the most
pub line_length-stopped : (width : ℕ) (units : List TextUnit) (i : ℕ) → i ≤ length units → fits_to width units (i + 1) ≡ false
    → line_length width units ≡ or_else (greatest_to i (ends_at width units)) (greatest_to i (fits_to width units)) 1
line_length-stopped width units i h none =
    let never : (m : ℕ) → i < m → fits_to width units m ≡ false = λ m above. fits-up width units (i + 1) m (omega arith) none in
    let ends : greatest_to (length units) (ends_at width units) ≡ greatest_to i (ends_at width units)
    = greatest_to-past (ends_at width units) i (length units) h (λ m above within. and-false (may_end_behind m units) (fits_to width units m) (never m above)) in
    let fit : greatest_to (length units) (fits_to width units) ≡ greatest_to i (fits_to width units)
    = greatest_to-past (fits_to width units) i (length units) h (λ m above within. never m above) in
    ap (λ (o : Option ℕ). or_else o (greatest_to (length units) (fits_to width units)) 1) ends ∙ ap (λ (o : Option ℕ). or_else (greatest_to i (ends_at width units)) o 1) fit

-- what `is_none` says
pub never_none : (room : Option ℕ) (said : Bool) → is_some room ≡ not said → said ≡ false → is_none room ≡ true → ⊥
never_none None true e f n = cc
never_none None false e f n = cc
never_none (Some left) said e f n = cc

pub is_nothing : (room : Option ℕ) (said : Bool) → is_some room ≡ not said → said ≡ true → room ≡ None
is_nothing None said e f = refl
is_nothing (Some left) true e f = absurd (cc)
is_nothing (Some left) false e f = absurd (cc)

pub or_else-is : (a b : Option ℕ) → unwrap_or (option_or a b) 1 ≡ or_else a b 1
or_else-is (Some n) b = refl
or_else-is None (Some n) = refl
or_else-is None None = refl

-- a number that is there stands from 1 up to a bound
abbrev IsWithin : ℕ → Option ℕ → Type 0
IsWithin n found = MatchOption found (Unit {0}) (λ m. (1 ≤ m) × (m ≤ n))

is_within_one_more : (n : ℕ) (found : Option ℕ) → IsWithin n found → IsWithin (suc n) found
is_within_one_more n None h = tt
is_within_one_more n (Some m) h = (h.0, omega (arith, h.1))

is_within_test : (n : ℕ) (found : Option ℕ) (b : Bool) → IsWithin (suc n) found → IsWithin (suc n) (if b then Some (suc n) else found)
is_within_test n found true h = (omega arith, omega arith)
is_within_test n found false h = h

greatest_to-within : (n : ℕ) (test : ℕ → Bool) → IsWithin n (greatest_to n test)
greatest_to-within zero test = tt
greatest_to-within (suc n) test = is_within_test n (greatest_to n test) (test (suc n)) (is_within_one_more n (greatest_to n test) (greatest_to-within n test))

or_else-within : (n : ℕ) (a b : Option ℕ) → IsWithin n a → IsWithin n b → (1 ≤ or_else a b 1) × (0 < n → or_else a b 1 ≤ n)
or_else-within n (Some m) b h k = (h.0, λ _. h.1)
or_else-within n None (Some m) h k = (k.0, λ _. k.1)
or_else-within n None None h k = (omega arith, λ filled. filled)

-- a line has one unit at least, and no more than there are
pub line_length-within : (width : ℕ) (units : List TextUnit) → (1 ≤ line_length width units) × (0 < length units → line_length width units ≤ length units)
line_length-within width units =
    or_else-within (length units) (greatest_to (length units) (ends_at width units)) (greatest_to (length units) (fits_to width units))
    (greatest_to-within (length units) (ends_at width units)) (greatest_to-within (length units) (fits_to width units))
