-- Which page was found for a paragraph.
use Rattle.std.proofs.Common.{◌≡◌, ℕ, ◌+◌, ◌<◌, ◌≤◌, List, [], ◌∷◌, ◌++◌, Bool, true, false, ◌&&◌, ◌||◌, ◌==◌, Option, Some, None, if◌then◌else◌, is_none, refl, length, zero, suc, arith, ap, ap₂, sym, ◌∙◌, get_or, set, replicate}
use Rattle.std.specs.Option.{option_map_or, is_some}
use Rattle.std.proofs.lemmas.Bool.Decides.{nat_tests}
use Rattle.doc_model.specs.declared.page.ParPage.{ParPage}
use Rattle.doc_model.specs.declared.paragraph.ParId.{ParId}
use Rattle.paginate.specs.declared.breaker.Closed.{Closed}
use Rattle.paginate.specs.Marks.{has_place, closed_with, marked, all_marked, found_pars, looked_up}

-- a page that was found, after one more page
abbrev mark_of : List ℕ → ℕ → ℕ → Option ℕ → Option ℕ
mark_of firsts page place found = if is_none found && has_place firsts place then Some page else found

has_place-snoc : (firsts : List ℕ) (first place : ℕ) → has_place (firsts ++ first ∷ []) place ≡ (has_place firsts place || (first == place))
has_place-snoc [] first place = or_none (first == place) where
  or_none : (b : Bool) → (b || false) ≡ b
  or_none true = refl
  or_none false = refl
has_place-snoc (one ∷ firsts) first place = by_test (one == place) (has_place-snoc firsts first place) where
  by_test : (b : Bool) → has_place (firsts ++ first ∷ []) place ≡ (has_place firsts place || (first == place)) → (b || has_place (firsts ++ first ∷ []) place) ≡ ((b || has_place firsts place) || (first == place))
  by_test true e = refl
  by_test false e = e

-- two tests one after another
both_marks : (page : ℕ) (found : Option ℕ) (a b : Bool)
    → (if is_none found && (a || b) then Some page else found)
    ≡ (if is_none (if is_none found && a then Some page else found) && (b || false) then Some page else (if is_none found && a then Some page else found))
both_marks page (Some index) a b = refl
both_marks page None true b = refl
both_marks page None false true = refl
both_marks page None false false = refl

pub marked-snoc : (firsts : List ℕ) (first page place : ℕ) (found : List (Option ℕ)) → marked (firsts ++ first ∷ []) page place found ≡ marked (first ∷ []) page place (marked firsts page place found)
marked-snoc firsts first page place [] = refl
marked-snoc firsts first page place (one ∷ found) =
    ap₂ (λ (f : Option ℕ) (fs : List (Option ℕ)). f ∷ fs)
    (ap (λ (b : Bool). if is_none one && b then Some page else one) (has_place-snoc firsts first place) ∙ both_marks page one (has_place firsts place) (first == place))
    (marked-snoc firsts first page (place + 1) found)

no_mark : (page : ℕ) (found : Option ℕ) → (if is_none found && false then Some page else found) ≡ found
no_mark page (Some index) = refl
no_mark page None = refl

pub marked-none : (page place : ℕ) (found : List (Option ℕ)) → marked [] page place found ≡ found
marked-none page place [] = refl
marked-none page place (one ∷ found) = ap₂ (λ (f : Option ℕ) (fs : List (Option ℕ)). f ∷ fs) (no_mark page one) (marked-none page (place + 1) found)

other_place : (first place page : ℕ) (found : Option ℕ) → (first == place) ≡ false → mark_of (first ∷ []) page place found ≡ found
other_place first place page found e = rw e (no_mark page found)

-- a place before these, or behind them, changes nothing
marked-before : (first page place : ℕ) (found : List (Option ℕ)) → first < place → marked (first ∷ []) page place found ≡ found
marked-before first page place [] h = refl
marked-before first page place (one ∷ found) h =
    let other : (first == place) ≡ false = grind (arith, nat_tests) in
    ap₂ (λ (f : Option ℕ) (fs : List (Option ℕ)). f ∷ fs) (other_place first place page one other) (marked-before first page (place + 1) found (omega arith))

marked-past : (first page place : ℕ) (found : List (Option ℕ)) → place + length found ≤ first → marked (first ∷ []) page place found ≡ found
marked-past first page place [] h = refl
marked-past first page place (one ∷ found) h =
    let other : (first == place) ≡ false = grind (arith, nat_tests) in
    ap₂ (λ (f : Option ℕ) (fs : List (Option ℕ)). f ∷ fs) (other_place first place page one other) (marked-past first page (place + 1) found (omega arith))

pub marked-out : (first page : ℕ) (found : List (Option ℕ)) → length found ≤ first → found ≡ marked (first ∷ []) page 0 found
marked-out first page found h = sym (marked-past first page 0 found (omega arith))

had_mark : (page : ℕ) (found : Option ℕ) (b : Bool) → is_some found ≡ true → (if is_none found && b then Some page else found) ≡ found
had_mark page (Some index) b e = refl
had_mark page None b e = absurd (cc)

new_mark : (page first place : ℕ) (found : Option ℕ) → first ≡ place → is_some found ≡ false → mark_of (first ∷ []) page place found ≡ Some page
new_mark page first place (Some index) e f = absurd (cc)
new_mark page first place None e f = let same : (first == place) ≡ true = grind (arith, nat_tests) in rw same refl

marked-had : (i page place first : ℕ) (found : List (Option ℕ)) (d : Option ℕ) → first ≡ place + i → i < length found → is_some (get_or found i d) ≡ true → marked (first ∷ []) page place found ≡ found
marked-had i page place first [] d e h some = absurd (omega arith)
marked-had zero page place first (one ∷ found) d e h some =
    ap₂ (λ (f : Option ℕ) (fs : List (Option ℕ)). f ∷ fs) (had_mark page one (has_place (first ∷ []) place) some) (marked-before first page (place + 1) found (omega arith))
marked-had (suc i) page place first (one ∷ found) d e h some =
    let other : (first == place) ≡ false = grind (arith, nat_tests) in
    ap₂ (λ (f : Option ℕ) (fs : List (Option ℕ)). f ∷ fs) (other_place first place page one other) (marked-had i page (place + 1) first found d (omega arith) (omega arith) some)

marked-new : (i page place first : ℕ) (found : List (Option ℕ)) (d : Option ℕ) → first ≡ place + i → i < length found → is_some (get_or found i d) ≡ false → marked (first ∷ []) page place found ≡ set found i (Some page)
marked-new i page place first [] d e h none = absurd (omega arith)
marked-new zero page place first (one ∷ found) d e h none =
    ap₂ (λ (f : Option ℕ) (fs : List (Option ℕ)). f ∷ fs) (new_mark page first place one (omega arith) none) (marked-before first page (place + 1) found (omega arith))
marked-new (suc i) page place first (one ∷ found) d e h none =
    let other : (first == place) ≡ false = grind (arith, nat_tests) in
    ap₂ (λ (f : Option ℕ) (fs : List (Option ℕ)). f ∷ fs) (other_place first place page one other) (marked-new i page (place + 1) first found d (omega arith) (omega arith) none)

pub marked-same : (first page : ℕ) (found : List (Option ℕ)) (d : Option ℕ) → first < length found → is_some (get_or found first d) ≡ true → found ≡ marked (first ∷ []) page 0 found
marked-same first page found d h some = sym (marked-had first page 0 first found d (omega arith) h some)

pub marked-set : (first page : ℕ) (found : List (Option ℕ)) (d : Option ℕ) → first < length found → is_some (get_or found first d) ≡ false → set found first (Some page) ≡ marked (first ∷ []) page 0 found
marked-set first page found d h none = sym (marked-new first page 0 first found d (omega arith) h none)

-- what several pages make of each paragraph
abbrev mark_all : List Closed → ℕ → ℕ → Option ℕ → Option ℕ
mark_all [] page place found = found
mark_all (closed ∷ pages) page place found = mark_all pages (page + 1) place (mark_of closed.firsts page place found)

abbrev each_marked : List Closed → ℕ → ℕ → List (Option ℕ) → List (Option ℕ)
each_marked pages page place [] = []
each_marked pages page place (found ∷ more) = mark_all pages page place found ∷ each_marked pages page (place + 1) more

each_marked-cons : (closed : Closed) (pages : List Closed) (page place : ℕ) (found : List (Option ℕ)) → each_marked pages (page + 1) place (marked closed.firsts page place found) ≡ each_marked (closed ∷ pages) page place found
each_marked-cons closed pages page place [] = refl
each_marked-cons closed pages page place (one ∷ found) = ap (λ (fs : List (Option ℕ)). mark_all (closed ∷ pages) page place one ∷ fs) (each_marked-cons closed pages page (place + 1) found)

each_marked-none : (page place : ℕ) (found : List (Option ℕ)) → each_marked [] page place found ≡ found
each_marked-none page place [] = refl
each_marked-none page place (one ∷ found) = ap (λ (fs : List (Option ℕ)). one ∷ fs) (each_marked-none page (place + 1) found)

all_marked-each : (pages : List Closed) (page : ℕ) (found : List (Option ℕ)) → all_marked pages page found ≡ each_marked pages page 0 found
all_marked-each [] page found = sym (each_marked-none page 0 found)
all_marked-each (closed ∷ pages) page found = all_marked-each pages (page + 1) (marked closed.firsts page 0 found) ∙ each_marked-cons closed pages page 0 found

mark_all-some : (pages : List Closed) (page place index : ℕ) → mark_all pages page place (Some index) ≡ Some index
mark_all-some [] page place index = refl
mark_all-some (closed ∷ pages) page place index = mark_all-some pages (page + 1) place index

mark_all-with : (pages : List Closed) (page place : ℕ) → mark_all pages page place None ≡ closed_with page pages place
mark_all-with [] page place = refl
mark_all-with (closed ∷ pages) page place = by_test (has_place closed.firsts place) (mark_all-with pages (page + 1) place) where
  by_test : (b : Bool) → mark_all pages (page + 1) place None ≡ closed_with (page + 1) pages place
      → mark_all pages (page + 1) place (if b then Some page else None) ≡ (if b then Some page else closed_with (page + 1) pages place)
  by_test true e = mark_all-some pages (page + 1) place page
  by_test false e = e

found-looked_up : (pages : List Closed) (place : ℕ) (set : List ParId) → found_pars set (each_marked pages 1 place (replicate (length set) None)) ≡ looked_up pages place set
found-looked_up pages place [] = refl
found-looked_up pages place (par ∷ pars) =
    ap₂ (λ (o : Option ℕ) (l : List ParPage). option_map_or (λ index. record { par = par; page = index } ∷ []) o [] ++ l) (mark_all-with pages 1 place) (found-looked_up pages (place + 1) pars)

all_marked-append : (pages last : List Closed) (page : ℕ) (found : List (Option ℕ)) → all_marked (pages ++ last) page found ≡ all_marked last (page + length pages) (all_marked pages page found)
all_marked-append [] last page found = let e : page ≡ page + 0 = omega arith in ap (λ (n : ℕ). all_marked last n found) e
all_marked-append (closed ∷ pages) last page found =
    let e : page + 1 + length pages ≡ page + suc (length pages) = omega arith in
    all_marked-append pages last (page + 1) (marked closed.firsts page 0 found) ∙ ap (λ (n : ℕ). all_marked last n (all_marked pages (page + 1) (marked closed.firsts page 0 found))) e

-- the paragraphs of the table, by the pages together
pub table_pars : (pages last : List Closed) (set : List ParId) → found_pars set (all_marked last (1 + length pages) (all_marked pages 1 (replicate (length set) None))) ≡ looked_up (pages ++ last) 0 set
table_pars pages last set =
    ap (found_pars set) (sym (all_marked-append pages last 1 (replicate (length set) None)) ∙ all_marked-each (pages ++ last) 1 (replicate (length set) None))
    ∙ found-looked_up (pages ++ last) 0 set
