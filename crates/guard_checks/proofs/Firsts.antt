-- The first of several paragraphs in reading order.
use Rattle.std.proofs.Common.{◌≡◌, ℕ, ◌+◌, ◌≤◌, Bool, true, false, cond, eqb, ◌||◌, List, [], ◌∷◌, ◌++◌, map, filter, take, drop, length, zero, suc, refl, ap, ap₂, sym, ◌∙◌, subst, arith, Option, Some, None}
use Rattle.std.specs.Prelude.{position, slice_get}
use Rattle.std.specs.List.{flat_map, list_any}
use Rattle.std.specs.Option.{option_or}
use Rattle.std.proofs.lemmas.Bool.{false≢true, eq-eqb, eqb-true}
use Rattle.std.proofs.lemmas.List.Concat.{flat_map-append}
use Rattle.doc_model.specs.declared.document.Document.{Document}
use Rattle.doc_model.specs.declared.paragraph.ParId.{ParId}
use Rattle.doc_model.specs.declared.refusal.Refusal.{Refusal}
use Rattle.doc_model.specs.Reading.{number_of}
use Rattle.container_rows.proofs.Firsts.{by_test}
use Rattle.edit_rules.specs.Places.{Placed, is_one_of, placed_paragraphs}
use Rattle.edit_rules.specs.Refusals.{first_refusal_of, protected_by}
use Rattle.node_array.specs.declared.row.Row.{Row}
use Rattle.node_array.specs.declared.row.Row.TheVariants as row
use Rattle.node_array.specs.Places.{is_par}
use Rattle.node_array.specs.Rows.{rows_of}
use Rattle.paragraph_rows.specs.Flat.{AreFlat}
use Rattle.paragraph_rows.specs.Standing.{AreApart, Stands, number_in}
use Rattle.paragraph_rows.proofs.Standing.{row_found}
use Rattle.row_checks.proofs.Placed.{placed_rows, within_opened}
use Rattle.row_facts.specs.Around.{Opened, PlacedRow, open_behind, paragraphs_placed}
use Rattle.level_walks.proofs.Ordered.{some_is}
use Rattle.level_walks.proofs.Rows.{HasRow, has_row}
use Rattle.guard_checks.specs.Among.{protected_among, protected_of}

abbrev kept : List ℕ → List Placed → List Placed
kept numbers placed = filter (λ one. is_one_of numbers (number_of one.par)) placed

abbrev numbers_of : List Placed → List ℕ
numbers_of placed = map (λ one. number_of one.par) placed

-- those that have one of the numbers
kept_here : (numbers : List ℕ) (one : Placed) (placed : List Placed) → is_one_of numbers (number_of one.par) ≡ true → kept numbers (one ∷ placed) ≡ one ∷ kept numbers placed
kept_here numbers one placed is = ap (λ (b : Bool). cond b (one ∷ kept numbers placed) (kept numbers placed)) is

kept_later : (numbers : List ℕ) (one : Placed) (placed : List Placed) → is_one_of numbers (number_of one.par) ≡ false → kept numbers (one ∷ placed) ≡ kept numbers placed
kept_later numbers one placed other = ap (λ (b : Bool). cond b (one ∷ kept numbers placed) (kept numbers placed)) other

none_first : {X : Type 0} (p : X → Bool) (x : X) (xs : List X) → list_any p (x ∷ xs) ≡ false → p x ≡ false
none_first p x xs none = by_test (p x) (λ is. absurd (false≢true (sym none ∙ ap (λ (b : Bool). b || list_any p xs) is))) (λ other. other)

none_rest : {X : Type 0} (p : X → Bool) (x : X) (xs : List X) → list_any p (x ∷ xs) ≡ false → list_any p xs ≡ false
none_rest p x xs none = ap (λ (b : Bool). b || list_any p xs) (sym (none_first p x xs none)) ∙ none

-- numbers that are kept alike
kept_alike : (some others : List ℕ) → ((n : ℕ) → is_one_of some n ≡ is_one_of others n) → (placed : List Placed) → kept some placed ≡ kept others placed
kept_alike some others same [] = refl
kept_alike some others same (one ∷ placed) =
    ap₂ (λ (b : Bool) (more : List Placed). cond b (one ∷ more) more) (same (number_of one.par)) (kept_alike some others same placed)

pub alike : (some others : List ℕ) → ((n : ℕ) → is_one_of some n ≡ is_one_of others n) → (placed : List Placed) → protected_among some placed ≡ protected_among others placed
alike some others same placed = ap (λ (these : List Placed). first_refusal_of (map (λ one. protected_by one.around) these)) (kept_alike some others same placed)

first_one : (why : Option Refusal) (more : List (Option Refusal)) → first_refusal_of (why ∷ more) ≡ option_or why (first_refusal_of more)
first_one None more = refl
first_one (Some why) more = refl

first_again : (why : Option Refusal) (more : Option Refusal) → option_or why more ≡ option_or why (option_or why more)
first_again None more = refl
first_again (Some why) more = refl

first_alone : (why : Option Refusal) (more : Option Refusal) → option_or why more ≡ option_or (option_or why None) more
first_alone None more = refl
first_alone (Some why) more = refl

own : (a : ℕ) (others : List ℕ) (n : ℕ) → eqb a n ≡ true → is_one_of (a ∷ others) n ≡ true
own a others n is = ap (λ (b : Bool). b || is_one_of others n) is

not_own : (a : ℕ) (others : List ℕ) (n : ℕ) → eqb a n ≡ false → is_one_of (a ∷ others) n ≡ is_one_of others n
not_own a others n other = ap (λ (b : Bool). b || is_one_of others n) other

-- where it isn't, the others are kept alone
without : (a : ℕ) (others : List ℕ) (placed : List Placed) → list_any (eqb a) (numbers_of placed) ≡ false → kept (a ∷ others) placed ≡ kept others placed
without a others [] none = refl
without a others (one ∷ placed) none =
    ap₂ (λ (b : Bool) (more : List Placed). cond b (one ∷ more) more) (not_own a others (number_of one.par) (none_first (eqb a) (number_of one.par) (numbers_of placed) none))
    (without a others placed (none_rest (eqb a) (number_of one.par) (numbers_of placed) none))

nothing_kept : (placed : List Placed) → kept [] placed ≡ []
nothing_kept [] = refl
nothing_kept (one ∷ placed) = nothing_kept placed

abbrev refusals : List Placed → List (Option Refusal)
refusals placed = map (λ one. protected_by one.around) placed

abbrev first_of : List ℕ → ℕ
first_of [] = 0
first_of (n ∷ ns) = n

-- nothing is named, so nothing refuses
pub nothing_refuses : (doc : Document) → None ≡ protected_of doc []
nothing_refuses doc = ap (λ (these : List Placed). first_refusal_of (refusals these)) (sym (nothing_kept (placed_paragraphs doc)))

-- the first of them, and then the others
first_then : (a : ℕ) (others : List ℕ) (placed : List Placed) (before behind : List ℕ) → numbers_of placed ≡ before ++ a ∷ behind → list_any (eqb a) before ≡ false → list_any (is_one_of others) before ≡ false
    → list_any (eqb a) behind ≡ false → protected_among (a ∷ others) placed ≡ option_or (protected_among (a ∷ []) placed) (protected_among others placed)
first_then a others [] [] behind is front early later = absurd (omega (arith, ap (length {A = ℕ}) is))
first_then a others [] (b ∷ before) behind is front early later = absurd (omega (arith, ap (length {A = ℕ}) is))
first_then a others (one ∷ placed) [] behind is front early later =
    let n : ℕ = number_of one.par in
    let same : eqb a n ≡ true = eq-eqb a n (sym (ap first_of is)) in
    let none : list_any (eqb a) (numbers_of placed) ≡ false = ap (list_any (eqb a)) (ap (drop 1) is) ∙ later in
    let why : Option Refusal = protected_by one.around in
    let more : Option Refusal = first_refusal_of (refusals (kept others placed)) in
    let all : protected_among (a ∷ others) (one ∷ placed) ≡ option_or why more =
    ap (λ (these : List Placed). first_refusal_of (refusals these)) (kept_here (a ∷ others) one placed (own a others n same))
    ∙ ap (λ (these : List Placed). first_refusal_of (why ∷ refusals these)) (without a others placed none) ∙ first_one why (refusals (kept others placed))
    in
    let alone : protected_among (a ∷ []) (one ∷ placed) ≡ option_or why None =
    ap (λ (these : List Placed). first_refusal_of (refusals these)) (kept_here (a ∷ []) one placed (own a [] n same))
    ∙ ap (λ (these : List Placed). first_refusal_of (why ∷ refusals these)) (without a [] placed none ∙ nothing_kept placed) ∙ first_one why []
    in
    by_test (is_one_of others n)
    (λ too.
    let rest : protected_among others (one ∷ placed) ≡ option_or why more =
    ap (λ (these : List Placed). first_refusal_of (refusals these)) (kept_here others one placed too) ∙ first_one why (refusals (kept others placed))
    in
    all ∙ first_again why more ∙ first_alone why (option_or why more) ∙ sym (ap₂ (λ (x y : Option Refusal). option_or x y) alone rest))
    (λ not_too.
    let rest : protected_among others (one ∷ placed) ≡ more = ap (λ (these : List Placed). first_refusal_of (refusals these)) (kept_later others one placed not_too) in
    all ∙ first_alone why more ∙ sym (ap₂ (λ (x y : Option Refusal). option_or x y) alone rest))
first_then a others (one ∷ placed) (b ∷ before) behind is front early later =
    let n : ℕ = number_of one.par in
    let same : b ≡ n = sym (ap first_of is) in
    let not_a : eqb a n ≡ false = ap (eqb a) (sym same) ∙ none_first (eqb a) b before front in
    let not_others : is_one_of others n ≡ false = ap (is_one_of others) (sym same) ∙ none_first (is_one_of others) b before early in
    let skip : (numbers : List ℕ) → is_one_of numbers n ≡ false → protected_among numbers (one ∷ placed) ≡ protected_among numbers placed =
    λ numbers no_one. ap (λ (these : List Placed). first_refusal_of (refusals these)) (kept_later numbers one placed no_one)
    in
    skip (a ∷ others) (not_own a others n not_a ∙ not_others)
    ∙ first_then a others placed before behind (ap (drop 1) is) (none_rest (eqb a) b before front) (none_rest (is_one_of others) b before early) later
    ∙ sym (ap₂ (λ (x y : Option Refusal). option_or x y) (skip (a ∷ []) (not_own a [] n not_a)) (skip others not_others))

-- the numbers of the paragraphs of a document, told by its rows
row_numbers : (opened : Opened) (rows : List Row) → map (λ one. one.par.head.id.0) (paragraphs_placed opened rows) ≡ flat_map number_in rows
row_numbers opened [] = refl
row_numbers opened (row.Start head ∷ rows) = row_numbers (Some head ∷ opened) rows
row_numbers opened (row.End ∷ rows) = row_numbers (open_behind opened row.End) rows
row_numbers opened (row.Par head items ∷ rows) = ap (λ (more : List ℕ). head.id.0 ∷ more) (row_numbers opened rows)
row_numbers opened (row.NoteText ∷ rows) = row_numbers (None ∷ opened) rows

opened_numbers : (placed : List Placed) → map (λ (one : PlacedRow). one.par.head.id.0) (map (within_opened []) placed) ≡ numbers_of placed
opened_numbers [] = refl
opened_numbers (one ∷ placed) = ap (λ (more : List ℕ). number_of one.par ∷ more) (opened_numbers placed)

numbers_told : (doc : Document) → AreFlat (rows_of doc.body) → numbers_of (placed_paragraphs doc) ≡ flat_map number_in (rows_of doc.body)
numbers_told doc flat =
    sym (opened_numbers (placed_paragraphs doc)) ∙ ap (map (λ (one : PlacedRow). one.par.head.id.0)) (sym (placed_rows doc flat)) ∙ row_numbers [] (rows_of doc.body)

tells : (par : ParId) (rows : List Row) → list_any (eqb par.0) (flat_map number_in rows) ≡ list_any (is_par par) rows
tells par [] = refl
tells par (row.Start head ∷ rows) = tells par rows
tells par (row.End ∷ rows) = tells par rows
tells par (row.Par head items ∷ rows) = ap (λ (b : Bool). eqb par.0 head.id.0 || b) (tells par rows)
tells par (row.NoteText ∷ rows) = tells par rows

own_number : (par : ParId) (one : Row) → is_par par one ≡ true → number_in one ≡ par.0 ∷ []
own_number par (row.Start head) is = absurd (false≢true is)
own_number par row.End is = absurd (false≢true is)
own_number par (row.Par head items) is = ap (λ (n : ℕ). n ∷ []) (sym (eqb-true par.0 head.id.0 is))
own_number par row.NoteText is = absurd (false≢true is)

-- none of several numbers
pub none_of_none : (ns : List ℕ) → list_any (is_one_of []) ns ≡ false
none_of_none [] = refl
none_of_none (n ∷ ns) = none_of_none ns

pub none_of_more : (a : ℕ) (others ns : List ℕ) → list_any (eqb a) ns ≡ false → list_any (is_one_of others) ns ≡ false → list_any (is_one_of (a ∷ others)) ns ≡ false
none_of_more a others [] one rest = refl
none_of_more a others (n ∷ ns) one rest =
    ap₂ (λ (b c : Bool). b || c) (not_own a others n (none_first (eqb a) n ns one) ∙ none_first (is_one_of others) n ns rest)
    (none_of_more a others ns (none_rest (eqb a) n ns one) (none_rest (is_one_of others) n ns rest))

none_earlier : {X : Type 0} (p : X → Bool) (i j : ℕ) (xs : List X) → i ≤ j → list_any p (take j xs) ≡ false → list_any p (take i xs) ≡ false
none_earlier p zero j xs h none = refl
none_earlier p (suc i) zero xs h none = absurd (omega (arith, h))
none_earlier p (suc i) (suc j) [] h none = refl
none_earlier p (suc i) (suc j) (x ∷ xs) h none =
    ap₂ (λ (b c : Bool). b || c) (none_first p x (take j xs) none) (none_earlier p i j xs (omega (arith, h)) (none_rest p x (take j xs) none))

-- where a paragraph has its row
abbrev pub At : Document → ParId → ℕ → Type 0
At doc par at = position (is_par par) (rows_of doc.body) ≡ Some at

module _ (doc : Document) (flat : AreFlat (rows_of doc.body)) (apart : AreApart (rows_of doc.body)) where
  stands : (par : ParId) (at : ℕ) → At doc par at → (it : HasRow par (rows_of doc.body)) → Stands par (rows_of doc.body) (take at (rows_of doc.body)) (row.Par it.head it.items) (drop (at + 1) (rows_of doc.body))
  stands par at found it =
      let same : it.at ≡ at = some_is it.at at (sym it.found ∙ found) in
      row_found par (rows_of doc.body) at (row.Par it.head it.items) found (subst (λ (n : ℕ). slice_get (rows_of doc.body) n ≡ Some (row.Par it.head it.items)) same it.there) apart

  -- a paragraph behind a place has no number before it
  pub not_early : (at : ℕ) (other : ParId) (place : ℕ) → At doc other place → at ≤ place → list_any (eqb other.0) (flat_map number_in (take at (rows_of doc.body))) ≡ false
  not_early at other place found behind =
      tells other (take at (rows_of doc.body))
      ∙ none_earlier (is_par other) at place (rows_of doc.body) behind (stands other place found (has_row other (rows_of doc.body) place apart found)).none_before

  -- the first of several paragraphs
  pub first_stands : (par : ParId) (at : ℕ) (others : List ℕ) → At doc par at → list_any (is_one_of others) (flat_map number_in (take at (rows_of doc.body))) ≡ false
      → protected_of doc (par.0 ∷ others) ≡ option_or (protected_of doc (par.0 ∷ [])) (protected_of doc others)
  first_stands par at others found early =
      let rows : List Row = rows_of doc.body in
      let it : HasRow par rows = has_row par rows at apart found in
      let here : Stands par rows (take at rows) (row.Par it.head it.items) (drop (at + 1) rows) = stands par at found it in
      first_then par.0 others (placed_paragraphs doc) (flat_map number_in (take at rows)) (flat_map number_in (drop (at + 1) rows))
      (numbers_told doc flat ∙ ap (flat_map number_in) here.rows_are ∙ flat_map-append number_in (take at rows) (row.Par it.head it.items ∷ drop (at + 1) rows)
      ∙ ap (λ (ns : List ℕ). flat_map number_in (take at rows) ++ (ns ++ flat_map number_in (drop (at + 1) rows))) (own_number par (row.Par it.head it.items) here.own))
      (tells par (take at rows) ∙ here.none_before) early
      (tells par (drop (at + 1) rows) ∙ here.none_behind)

  pub two : (one other : ParId) (at behind : ℕ) → At doc one at → At doc other behind → at ≤ behind
      → protected_of doc (one.0 ∷ other.0 ∷ []) ≡ option_or (protected_of doc (one.0 ∷ [])) (protected_of doc (other.0 ∷ []))
  two one other at behind here there h =
      let early : List ℕ = flat_map number_in (take at (rows_of doc.body)) in
      first_stands one at (other.0 ∷ []) here (none_of_more other.0 [] early (not_early at other behind there h) (none_of_none early))

  pub three : (one other third : ParId) (at behind last : ℕ) → At doc one at → At doc other behind → At doc third last → at ≤ behind → at ≤ last
      → protected_of doc (one.0 ∷ other.0 ∷ third.0 ∷ []) ≡ option_or (protected_of doc (one.0 ∷ [])) (protected_of doc (other.0 ∷ third.0 ∷ []))
  three one other third at behind last here there later h k =
      let early : List ℕ = flat_map number_in (take at (rows_of doc.body)) in
      first_stands one at (other.0 ∷ third.0 ∷ []) here
      (none_of_more other.0 (third.0 ∷ []) early (not_early at other behind there h) (none_of_more third.0 [] early (not_early at third last later k) (none_of_none early)))
